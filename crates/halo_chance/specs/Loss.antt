-- What a status loses with a life: its chance with that life surely there, less its chance with
-- that life surely not there.
use Rattle.std.specs.Prelude.{ℕ, ◌+◌, ◌-◌, ◌*◌, ◌≤◌, Bool, List}
use Rattle.halo_num.specs.Ends.{Ends}
use Rattle.halo_num.specs.Chance.{EnclosesChance}
use Rattle.halo_status.specs.Tree.{Tree}
use Rattle.halo_status.specs.Naming.{names_life}
use Rattle.halo_status.specs.Nodes.{nodes}
use Rattle.halo_model.specs.ByTree.{weight_of, whole_of}
use Rattle.halo_model.specs.PartsByTree.{put_for}
use Rattle.halo_chance.specs.Enclosed.{AreEnclosed, life_widths}

-- the loss with life a, in the parts in which a status is told whose life a is sure
abbrev pub loss_of : (ℕ → ℕ) → (ℕ → ℕ) → (ℕ → Bool) → ℕ → Tree → ℕ
loss_of n d on a s =
    weight_of (put_for a 1 n) (put_for a 1 d) on s - weight_of (put_for a 0 n) (put_for a 1 d) on s

-- i encloses the loss, for all chances of the lives that the entries enclose, where a status does
-- not exist the less with the life
unfoldable pub EnclosesLoss : List Ends → (ℕ → Bool) → ℕ → Tree → Ends → Type 0
EnclosesLoss entries on a s i =
    (n d w : ℕ → ℕ) → AreEnclosed n d w entries (λ j. names_life j s)
    → weight_of (put_for a 0 n) (put_for a 1 d) on s
    ≤ weight_of (put_for a 1 n) (put_for a 1 d) on s
    → EnclosesChance (loss_of n d on a s) (whole_of (put_for a 1 d) s)
    (2 * (life_widths (put_for a 0 w) s + nodes s)) i
