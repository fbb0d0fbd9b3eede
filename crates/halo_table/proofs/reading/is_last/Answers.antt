use Rattle.std.proofs.Common.{◌-◌, ◌∙◌, arith, length, sym}
use Rattle.std.proofs.lemmas.Slice.Eq.{bytes_eq-Decides}
use Rattle.halo_table.proofs.LookUps.{last_is}
use Rattle.halo_table.proofs.reading.is_last.Goals as goal

pub returns-in-Some : goal.returns-in-Some
returns-in-Some c =
    let h = c.in-Some.ensures.item in
    let some = h.3.0 in
    let is =
    last_is c.args.tables.now (length c.args.tables.now - 1) c.in-Some.table.now
    c.in-Some.table.now c.args.name.now (omega arith) h.1 in
    let same = bytes_eq-Decides c.bytes.result.now c.args.name.now in (
      (λ t. is.1 (sym c.bytes.ensures.same ∙ same.0 (sym c.eq.ensures ∙ t))),
      (λ l. c.eq.ensures ∙ same.1 (c.bytes.ensures.same ∙ is.0 l)),
    )
