-- Lines, one after another.
use Rattle.std.proofs.Common.{◌≡◌, ℕ, suc, ◌+◌, ◌-◌, ◌<◌, ◌≤◌, ◌++◌, List, append_assoc, append-nil, arith, sym, ◌∙◌}
use Rattle.halo_report.specs.ColumnsText.{lines_from}

module _ (line : ℕ → List ℕ) (i end : ℕ) (before all : List ℕ) (so_far : before ++ lines_from line i (end - i) ≡ all)
  where
    pub next-line : i < end → (before ++ line i) ++ lines_from line (i + 1) (end - (i + 1)) ≡ all
    next-line more =
        let left : end - i ≡ suc (end - suc i) = omega arith in
        let next : i + 1 ≡ suc i = omega arith in
        rw (next, append_assoc before (line i) (lines_from line (suc i) (end - suc i))) (rw left at so_far)

    pub last-line : end ≤ i → before ≡ all
    last-line past =
        let none : end - i ≡ 0 = omega arith in
        sym (append-nil before) ∙ (rw none at so_far)
