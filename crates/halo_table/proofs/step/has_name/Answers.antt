use Rattle.std.proofs.Common.{◌≡◌, ◌∙◌, get_or, map, refl, sym}
use Rattle.std.proofs.lemmas.List.{length-map}
use Rattle.std.proofs.lemmas.Slice.Eq.{bytes_eq-Decides}
use borrow.Author.Count.{below_more}
use Rattle.halo_table.specs.DecrementTable.{DecrementTable}
use Rattle.halo_table.specs.Seen.{seen_table}
use Rattle.halo_table.proofs.LookUps.{name_at}
use Rattle.halo_table.proofs.step.has_name.Goals as goal

pub returns-then-eq : goal.returns-then-eq
returns-then-eq c =
    let at =
    name_at c.args.tables.now c.loop-table.table-index c.table-item.result c.args.name.now
    c.loop-table-test.true c.table-item.is in
    let same = (bytes_eq-Decides c.bytes.result.now c.args.name.now).0 (sym c.if-eq.ensures) in (
      (λ _. (
        c.loop-table.table-index,
        rw (
          length-map (map seen_table c.args.tables.now) (λ (t : DecrementTable). t.name),
          length-map c.args.tables.now seen_table,
        ) c.loop-table-test.true,
        at ∙ sym c.bytes.ensures.same ∙ same,
      )),
      (λ _. refl),
    )

pub loop-table-preserved : goal.loop-table-preserved
loop-table-preserved c =
    let at =
    name_at c.args.tables.now c.loop-table.table-index c.table-item.result c.args.name.now
    c.loop-table-test.true c.table-item.is in
    below_more (λ k. get_or (map (λ (t : DecrementTable). t.name)
    (map seen_table c.args.tables.now)) k c.args.name.now ≡ c.args.name.now → ⊥)
    c.loop-table.table-index c.loop-table.invariant
    (λ h. cc (c.if-eq.ensures ∙ (bytes_eq-Decides c.bytes.result.now c.args.name.now).1
    (c.bytes.ensures.same ∙ sym at ∙ h)))
