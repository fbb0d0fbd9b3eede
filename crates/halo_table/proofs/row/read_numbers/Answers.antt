use Rattle.std.proofs.Common.{◌≤◌, ◌<◌, ◌+◌, ℕ, arith, sym, ◌∙◌}
use Rattle.std.proofs.lemmas.List.{length-set}
use borrow.Author.Count.{below_more}
use Rattle.csv.specs.Records.{fields_of}
use Rattle.halo_text.specs.Number.{IsNumber}
use Rattle.halo_table.specs.Record.{field}
use Rattle.halo_table.proofs.Cells.{numbers_more}
use Rattle.halo_table.proofs.row.read_numbers.Goals as goal
use Rattle.halo_table.proofs.row.read_numbers.Goals.{in-Err-Above, in-Ok}

pub loop-place-preserved : goal.loop-place-preserved
loop-place-preserved c =
    let row = fields_of c.args.row.now in
    let was = c.loop-place.invariant in
    let more : IsNumber (field (fields_of c.args.row.now) c.loop-place.place) → (j : ℕ) → 1 ≤ j
    → j < c.loop-place.place + 1 → IsNumber (field (fields_of c.args.row.now) j) =
    (λ is j low lt. below_more (λ k. 1 ≤ k → IsNumber (field (fields_of c.args.row.now) k))
    c.loop-place.place (λ k less one. was.0 k one less) (λ _. is) j lt low) in
    elim c.match-number_at.branch [
      | in-Err-Above w ↦
          let h = rw w.in-Err-Above.field-0-is at w.in-Err-Above.ensures in (
            more h.0,
            (λ e. (c.loop-place.place, omega arith, omega arith, h.1)),
            (λ e. cc),
            rw
                w.numbers-is was.3,
          )
      | in-Ok w ↦
          let h = w.in-Ok.ensures in (
            more h.0,
            (λ e. let old = was.1 (sym w.large-is ∙ e) in
                (old.0, old.1, omega (arith, old.2), old.3)),
            (λ e. rw w.numbers-is (numbers_more (fields_of c.args.row.now) c.loop-place.numbers
                c.loop-place.place _ (omega (arith, was.3)) h.0 h.1 h.2
                (was.2 (sym w.large-is ∙ e)))),
            rw (w.numbers-is, length-set) was.3,
          )
    ]

pub returns-then-large : goal.returns-then-large
returns-then-large c =
    let was = c.loop-place.invariant in
    let h = was.1 c.if-large.true in
    ((h.0, h.1, omega (arith, h.2), h.3), (λ o. o.3 (was.0 o.0 o.1 (omega (arith, o.2)))))
