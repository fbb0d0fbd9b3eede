use Rattle.std.proofs.Common.{◌≡◌, ℕ, ◌<◌, ◌≤◌, List, [], length, slice_index_or, sym, ◌∙◌}
use Rattle.std.proofs.lemmas.List.{get_or_default}
use Rattle.halo_compile.specs.declared.form.Segment.{Segment}
use Rattle.halo_compile.specs.Form.{HasTime, segment_at}
use Rattle.halo_compile.proofs.Times.{segment-is-right}
use Rattle.halo_compile.proofs.form.Form.at.Goals as goal

-- a segment that has a time, found in its place
found : {m : ℕ} (all items segments : List (Segment m)) (t place : ℕ) (s : Segment m) → all ≡ items → segments ≡ items
    → place < length all → s ≡ slice_index_or all place s → s.from ≤ t → t ≤ s.to
    → (s ≡ segment_at segments place) × HasTime segments t place
found all items segments t place s e view below is from to =
    (same, record { within = rw (view, ← e) below; from = rw (← same) from; to = rw (← same) to })
  where
    same : s ≡ segment_at segments place
    same =
        is
        ∙ rw (e, ← view)
        (get_or_default segments place s (record { from = 0; to = 0; poly = [] }) (rw (view, ← e) below))

pub returns-then-t-segment : goal.returns-then-t-segment
returns-then-t-segment g c = λ pay n horizon is.
    let s =
    found c.as_slice-segment-items.result.now c.self.inside.segments.items c.args.self.now c.args.t
    c.loop-segment.segment-index c.segment-item.result c.as_slice-segment-items.ensures.value (sym c.self.view_is)
    c.loop-segment-test.true c.segment-item.is c.if-segment-t.true c.if-t-segment.true in
    rw s.0 (segment-is-right pay n horizon c.args.t c.loop-segment.segment-index c.args.self.now is s.1)
