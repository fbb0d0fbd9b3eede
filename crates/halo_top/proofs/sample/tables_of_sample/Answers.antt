use Rattle.std.proofs.Common.{◌∙◌}
use Rattle.halo_table.proofs.FirstFault.{fine_or_fault}
use Rattle.halo_top.proofs.Loads.{stops-with, tables-want-memory}
use Rattle.halo_top.proofs.sample.tables_of_sample.Goals as goal

pub returns-in_err-read-clause-memory : goal.returns-in_err-read-clause-memory
returns-in_err-read-clause-memory c =
    stops-with c.from_residual.result _ _ c.from_residual.ensures.1 (tables-want-memory c.in_err-read.field-0.0
    (λ fault is. fine_or_fault _ fault.row fault.kind (c.tables_have_no_fault.ensures c.args.number).0
    (rw (is, c.requires.file) at c.in_err-read.ensures)))

pub returns-clause-told : goal.returns-clause-told
returns-clause-told c =
    (rw c.requires.file at c.in_ok-read.ensures.1) ∙ (c.tables_have_no_fault.ensures c.args.number).1
