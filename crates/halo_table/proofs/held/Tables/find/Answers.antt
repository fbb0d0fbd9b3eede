use Rattle.std.proofs.Common.{◌≡◌, ◌<◌, ◌∙◌, length, map, sym}
use Rattle.std.proofs.lemmas.List.{length-map}
use Rattle.std.proofs.lemmas.Slice.Eq.{bytes_eq-Decides}
use borrow.Author.Count.{below_more}
use Rattle.halo_table.specs.DecrementTable.{name_of}
use Rattle.halo_table.specs.Seen.{seen_table}
use Rattle.halo_table.proofs.LookUps.{same_place, seen_name}
use Rattle.halo_table.proofs.held.Tables.find.Goals as goal

pub returns-then-eq-clause-found : goal.returns-then-eq-clause-found
returns-then-eq-clause-found c =
    let items = c.deref-table-items.ensures.value in
    let lt : c.loop-place.place < length c.self.inside.tables.items =
    rw items at c.loop-place-test.true in
    let at =
    seen_name c.self.inside.tables.items c.loop-place.place c.table-item.result lt
    (rw items at c.table-item.is) in
    let same = (bytes_eq-Decides c.bytes.result.now c.args.name.now).0 (sym c.if-eq.ensures) in
    rw (← c.self.view_is) (
      rw (length-map c.self.inside.tables.items seen_table) lt,
      at
          ∙ sym c.bytes.ensures.same ∙ same,
    )

pub returns-then-eq-clause-only : goal.returns-then-eq-clause-only
returns-then-eq-clause-only c =
    let items = c.deref-table-items.ensures.value in
    let lt : c.loop-place.place < length c.self.inside.tables.items =
    rw items at c.loop-place-test.true in
    let at =
    seen_name c.self.inside.tables.items c.loop-place.place c.table-item.result lt
    (rw items at c.table-item.is) in
    let same = (bytes_eq-Decides c.bytes.result.now c.args.name.now).0 (sym c.if-eq.ensures) in
    let room : c.loop-place.place < length (map seen_table c.self.inside.tables.items) =
    rw (length-map c.self.inside.tables.items seen_table) lt in
    rw (← c.self.view_is) (λ k kt e. same_place (map seen_table c.self.inside.tables.items)
    c.loop-place.place k c.self.invariant.tables_apart room kt
    (at ∙ sym c.bytes.ensures.same ∙ same ∙ sym e))

pub loop-place-preserved : goal.loop-place-preserved
loop-place-preserved c =
    let items = c.deref-table-items.ensures.value in
    let lt : c.loop-place.place < length c.self.inside.tables.items =
    rw items at c.loop-place-test.true in
    let at : name_of c.args.self.now c.loop-place.place ≡ c.table-item.result.name =
    rw (← c.self.view_is) (seen_name c.self.inside.tables.items c.loop-place.place
    c.table-item.result lt (rw items at c.table-item.is)) in
    below_more (λ k. name_of c.args.self.now k ≡ c.args.name.now → ⊥) c.loop-place.place
    c.loop-place.invariant
    (λ h. cc (c.if-eq.ensures ∙ (bytes_eq-Decides c.bytes.result.now c.args.name.now).1
    (c.bytes.ensures.same ∙ sym at ∙ h)))
