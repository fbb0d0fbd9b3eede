-- How a run ends: a text that is called for was written, or a write failed, or there was no memory.
use Rattle.std.proofs.Common.{◌≡◌, ◌≢◌, ℕ, List, arith, refl, sym, inl, inr, ◌∙◌}
use Rattle.std.proofs.Math.Decide.{ℕ_discrete}
use Rattle.halo_io.specs.Told.{AppendsTold, TookPrefix}
use Rattle.halo_top.specs.Command.{IsCommand}
use Rattle.halo_top.specs.Run.{AskForMemory, HasFailed, IsRun, Sunk}
use Rattle.halo_top.specs.Verdict.{CallsFor, Shelved}
use Rattle.halo_top.specs.declared.refusal.Refusal.TheVariants as refusal
use Rattle.halo_top.specs.declared.status.TheConstants.{NO_MEMORY, USAGE, WRITE_FAILED}
use Rattle.halo_top.proofs.OneAnswer.{answer-is-one, refusal-status}

module _ (words : List (List ℕ)) (shelf : Shelved) where
  -- what is called for never tells want of memory
  no-want : (called : ℕ) (text : List ℕ) → CallsFor words shelf called text → called ≢ NO_MEMORY
  no-want called text (inl (e, answered)) is = omega (arith, e, is)
  no-want called text (inr (r, refused, e, f)) is = omega (arith, e, is, (refusal-status r).1)

  -- and the words are a command, or it is the usage
  of-usage : (called : ℕ) (text : List ℕ) → CallsFor words shelf called text → (IsCommand words → ⊥) → called ≡ USAGE
  of-usage called text (inl (e, (request, asks, _))) none = absurd (none (request, asks))
  of-usage called text (inr (refusal.Usage, refused, e, f)) none = e
  of-usage called text (inr (refusal.Read x, (request, asks, _), e, f)) none = absurd (none (request, asks))
  of-usage called text (inr (refusal.TooLong x, (request, asks, _), e, f)) none = absurd (none (request, asks))
  of-usage called text (inr (refusal.Table x, (request, asks, _), e, f)) none = absurd (none (request, asks))
  of-usage called text (inr (refusal.Contract x, (request, asks, _), e, f)) none = absurd (none (request, asks))
  of-usage called text (inr (refusal.Argument x, (request, asks, _), e, f)) none = absurd (none (request, asks))

-- what a write of a text with its status comes to
pub record Writes (sink : Sunk) (called : ℕ) (text : List ℕ) (status : ℕ) : Type 0 where
  pub written : status ≢ WRITE_FAILED → (status ≡ called) × AppendsTold sink.taken_before sink.taken_now text
  pub failed : status ≡ WRITE_FAILED → HasFailed sink × TookPrefix sink.taken_before sink.taken_now text

module _ (words : List (List ℕ)) (shelf : Shelved) (sink : Sunk) where
  pub run_writes : (called : ℕ) (text : List ℕ) (status : ℕ)
      → CallsFor words shelf called text → Writes sink called text status → IsRun words shelf sink status
  run_writes called text status calls writes = record {
    answer = λ fine memory.
        let written = writes.written fine in
        record { text = text; called = rw written.0 calls; written = written.1 };
    write_fault = λ one.
        let failed = writes.failed one in
        record { failed = failed.0; status = called; text = text; called = calls; taken = failed.1 };
    memory = λ memory.
        let written = writes.written (λ one. absurd (omega (arith, memory, one))) in
        absurd (no-want words shelf called text calls (sym written.0 ∙ memory));
    complete = λ other other_text reads sure also.
        let written = writes.written (λ one. sure (writes.failed one).0) in
        let one = answer-is-one words shelf reads called text other other_text calls also in
        inl (written.0 ∙ one.one_status);
    usage = λ none. elim (ℕ_discrete status WRITE_FAILED) [
      | yes one ↦ inr one
      | no other ↦ inl ((writes.written other).0 ∙ of-usage words shelf called text calls none)
    ];
  }

  pub run_without_memory : AskForMemory words → IsRun words shelf sink NO_MEMORY
  run_without_memory (request, asks, takes) = record {
    answer = λ fine memory. absurd (memory refl);
    write_fault = λ one. absurd (omega (arith, one));
    memory = λ memory. (request, asks, takes);
    complete = λ other text reads sure calls. inr refl;
    usage = λ none. absurd (none (request, asks));
  }
