use Rattle.std.proofs.Common.{inr, refl}
use Rattle.halo_top.specs.Refusal.{line_of, status_of}
use Rattle.halo_top.specs.declared.refusal.Refusal.TheVariants as refusal
use Rattle.halo_top.specs.declared.status.TheConstants.{FINE, USAGE}
use Rattle.halo_top.proofs.Calls.{asks_for_memory, calls_for_line, calls_for_text}
use Rattle.halo_top.proofs.Runs.{run_without_memory, run_writes}
use Rattle.halo_top.proofs.program.run.Goals as goal

pub returns-in-Ok-clause-run : goal.returns-in-Ok-clause-run
returns-in-Ok-clause-run g c =
    let written = rw c.deref.ensures.value at c.write.ensures in
    run_writes _ _ _ FINE c.in-Ok.text.items c.write.result
    (calls_for_text _ _ c.in-Some.command c.in-Some.ensures c.in-Ok.text c.in-Ok.ensures.answer)
    (record { written = written.written; failed = written.failed })

pub returns-in-Err-Refused-clause-run : goal.returns-in-Err-Refused-clause-run
returns-in-Err-Refused-clause-run g c =
    let r = c.in-Err-Refused.refusal in
    let written = c.refuse-in-Err-Refused.ensures in
    run_writes _ _ _ (status_of r) (line_of r) c.refuse-in-Err-Refused.result
    (calls_for_line _ _ c.in-Some.command c.in-Some.ensures r
    (rw c.in-Err-Refused.field-0-is at c.in-Err-Refused.ensures.answer))
    (record { written = written.written; failed = written.failed })

pub returns-in-Err-Memory-clause-run : goal.returns-in-Err-Memory-clause-run
returns-in-Err-Memory-clause-run g c =
    run_without_memory _ _ _ (asks_for_memory _ c.in-Some.command c.in-Some.ensures
    (rw c.in-Err-Memory.field-0-is at c.in-Err-Memory.ensures.answer))

pub returns-in_default-clause-run : goal.returns-in_default-clause-run
returns-in_default-clause-run g c =
    let written = c.refuse.ensures in
    run_writes _ _ _ USAGE (line_of refusal.Usage) c.refuse.result
    (inr (refusal.Usage, c.in_default.ensures, refl, refl))
    (record { written = written.written; failed = written.failed })
