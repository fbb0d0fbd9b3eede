-- The weight of a form, from its segments.
use Rattle.std.specs.Prelude.{ℕ, List, map, unsigned_abs}
use Rattle.halo_sums.specs.Sums.{sum_over}
use Rattle.halo_model.specs.Counts.{greatest}
use Rattle.halo_compile.specs.declared.form.Segment.{Segment}

-- the sum of the sizes of a segment's coefficients
abbrev pub segment_weight : {m : ℕ} → Segment m → ℕ
segment_weight s = sum_over s.poly unsigned_abs

-- the greatest of these, at least 1
abbrev pub greatest_weight : {m : ℕ} → List (Segment m) → ℕ
greatest_weight segments = greatest 1 (map segment_weight segments)
