-- The chances of a life, as the laws along the tree tell them.
use Rattle.std.proofs.Common.{◌≡◌, ℕ, zero, suc, ◌+◌, ◌<◌, List, [], ◌∷◌, length, Bool, cond, arith, refl}
use Rattle.halo_table.specs.DecrementTable.{TableFile, survivors_at}
use Rattle.halo_table.specs.declared.lives.Life.{Life}
use Rattle.halo_model.specs.FromTables.{life_of, lives_of}
use Rattle.halo_model.specs.Horizon.{life_at}
use Rattle.halo_model.specs.Independent.{started_of, survivors_of}
use Rattle.halo_model.specs.Life.{after_first, leavers_by}
use Rattle.halo_model.specs.PartsByTree.{leavers_of}

module _ (file : TableFile) where
  abbrev at : List Life → ℕ → ℕ → ℕ
  at lives t i = survivors_at file (life_at lives i).table ((life_at lives i).age + t)

  pub survivors-is : (t : ℕ) (S : ℕ → Bool) (lives : List Life) (i : ℕ)
      → i < length lives → survivors_of (λ j. t) S (lives_of file lives) i ≡ cond (S i) (at lives t i) 0
  survivors-is t S [] i low = absurd (omega arith)
  survivors-is t S (x ∷ lives) zero low = refl
  survivors-is t S (x ∷ lives) (suc i) low = survivors-is t (after_first S) lives i (omega arith)

  pub started-is : (T : ℕ) (S : ℕ → Bool) (lives : List Life) (i : ℕ)
      → i < length lives → started_of T S (lives_of file lives) i ≡ cond (S i) (at lives T i) 1
  started-is T S [] i low = absurd (omega arith)
  started-is T S (x ∷ lives) zero low = refl
  started-is T S (x ∷ lives) (suc i) low = started-is T (after_first S) lives i (omega arith)

  pub leavers-is : (causes : ℕ → Bool) (k : ℕ) (lives : List Life) (i : ℕ) → i < length lives
      → leavers_of causes k (lives_of file lives) i
      ≡ leavers_by causes (life_of file (life_at lives i).table (life_at lives i).age) k
  leavers-is causes k [] i low = absurd (omega arith)
  leavers-is causes k (x ∷ lives) zero low = refl
  leavers-is causes k (x ∷ lives) (suc i) low = leavers-is causes k lives i (omega arith)
