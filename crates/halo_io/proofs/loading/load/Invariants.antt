use Rattle.std.proofs.Common.{◌-◌, ◌+◌, ◌≤◌, ◌≡◌, ℕ, List, vec_len}
use Rattle.halo_io.proofs.Front.{IsFront}
use Rattle.halo_io.proofs.loading.load.Given as goal

abbrev pub invariant-reads : goal.invariant-reads
invariant-reads g l = ((n : List ℕ) → g.S.Shelf.file l.shelf n ≡ g.S.Shelf.file l.initial.shelf n)
    × ((n : List ℕ) → g.S.Shelf.faults l.initial.shelf n ≤ g.S.Shelf.faults l.shelf n)
    × IsFront (g.S.Shelf.file l.initial.shelf l.name) l.bytes.items

abbrev pub decreases-reads : goal.decreases-reads
decreases-reads g l = l.limit + 1 - vec_len l.bytes
