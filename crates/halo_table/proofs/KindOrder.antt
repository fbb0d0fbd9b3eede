-- The kinds of faults in the order in which they are told.
use Rattle.std.proofs.Common.{◌≡◌, ℕ, ◌≤◌, ◌⊎◌, [], ◌∷◌, arith, get_or, ap, inl, inr, refl, sym, ◌∙◌}
use Rattle.std.proofs.Math.Decide.{ℕ_discrete}
use Rattle.std.proofs.Math.Logic.Dec
use Rattle.halo_table.specs.Faults.{IsFirst, rank}
use Rattle.halo_table.specs.declared.fault.TableKind.{TableKind}
use Rattle.halo_table.specs.declared.fault.TableKind.TheVariants as kind
use Rattle.halo_table.proofs.Deciding.{first_place}

-- the kind at a place of the order
kind_at : ℕ → TableKind
kind_at n =
    get_or (kind.Header ∷ kind.Header ∷ kind.Fields ∷ kind.Name ∷ kind.Number ∷ kind.Large ∷
    kind.Again ∷ kind.TooMany ∷ kind.Age ∷ kind.Decrements ∷ kind.Closed ∷ []) n kind.Header

-- it is that kind
kind_at_rank : (k : TableKind) → kind_at (rank k) ≡ k
unfolding kind_at
kind_at_rank kind.Header = refl
kind_at_rank kind.Fields = refl
kind_at_rank kind.Name = refl
kind_at_rank kind.Number = refl
kind_at_rank kind.Large = refl
kind_at_rank kind.Again = refl
kind_at_rank kind.TooMany = refl
kind_at_rank kind.Age = refl
kind_at_rank kind.Decrements = refl
kind_at_rank kind.Closed = refl

-- no two kinds stand at one place
pub rank_one : (j k : TableKind) → rank j ≡ rank k → j ≡ k
rank_one j k e = sym (kind_at_rank j) ∙ ap kind_at e ∙ kind_at_rank k

-- `Closed` comes last
pub rank_most : (k : TableKind) → rank k ≤ 10
rank_most kind.Header = omega arith
rank_most kind.Fields = omega arith
rank_most kind.Name = omega arith
rank_most kind.Number = omega arith
rank_most kind.Large = omega arith
rank_most kind.Again = omega arith
rank_most kind.TooMany = omega arith
rank_most kind.Age = omega arith
rank_most kind.Decrements = omega arith
rank_most kind.Closed = omega arith

-- of the kinds that may hold there is a first one, or none holds
pub first_kind : (holds : TableKind → Type 0) → ((k : TableKind) → Dec (holds k))
    → ((k : TableKind) × IsFirst holds k) ⊎ ((k : TableKind) → holds k → ⊥)
first_kind holds d =
    elim (first_place Stands (λ n. Dec.and (d (kind_at n)) (ℕ_discrete (rank (kind_at n)) n)) 11) [
      | inl (n, lt, here, before) ↦
          inl (
            kind_at n,
            record {
              here = here.0;
              none_before =
                  (λ j less h. before (rank j) (let e = here.1 in omega arith) (stands j h));
            },
          )
      | inr none ↦ inr (λ k h. none (rank k) (omega (arith, rank_most k)) (stands k h))
    ]
  where
    Stands : ℕ → Type 0
    Stands n = holds (kind_at n) × (rank (kind_at n) ≡ n)

    stands : (k : TableKind) → holds k → Stands (rank k)
    stands k h = rw (kind_at_rank k) (h, refl)
