-- The checks in their order.
use Rattle.std.proofs.Common.{◌≡◌, ◌<◌, ◌⊎◌, ℕ, [], ◌∷◌, arith, get_or, ap, inl, inr, refl, sym, ◌∙◌}
use Rattle.std.proofs.Math.Decide.{ℕ_discrete}
use Rattle.std.proofs.Math.Logic.Dec
use Rattle.std.proofs.lemmas.Bool.{cases_order}
use Rattle.halo_table.specs.DecrementTable.{TableFile}
use Rattle.halo_table.proofs.Deciding.{first_place, stable}
use Rattle.halo_check.specs.Checks.{FailsFirst, Passes, PassesAll, place_of_check}
use Rattle.halo_check.specs.Draft.{Draft}
use Rattle.halo_syntax.specs.Line.{Line}
use Rattle.halo_check.specs.declared.fault.ContractKind.{ContractKind}
use Rattle.halo_check.specs.declared.fault.ContractKind.TheVariants as kind

-- the kind at a place of the order
kind_at : ℕ → ContractKind
kind_at place = get_or
    (kind.Syntax ∷ kind.Magnitude ∷ kind.Zero ∷ kind.Years ∷ kind.Order ∷ kind.Twice ∷ kind.NoTable ∷ kind.NoAge ∷
    kind.NoLife ∷ kind.NoCause ∷ kind.Rank
    ∷ kind.NotLasting ∷ kind.Shared ∷ kind.NotAtStart ∷ kind.NotAlive ∷ kind.Missing ∷ [])
    place kind.Syntax

kind_at-place : (k : ContractKind) → kind_at (place_of_check k) ≡ k
unfolding kind_at
kind_at-place kind.Syntax = refl
kind_at-place _ = refl

-- no two kinds stand at one place
one_kind : (j k : ContractKind) → place_of_check j ≡ place_of_check k → j ≡ k
one_kind j k e = sym (kind_at-place j) ∙ ap kind_at e ∙ kind_at-place k

-- of the checks that a line does not pass one is the first
pub first_is_one : (tables : TableFile) (d : Draft) (l : Line) (j k : ContractKind) → FailsFirst tables d l j
    → FailsFirst tables d l k → j ≡ k
first_is_one tables d l j k first other = elim (cases_order (place_of_check j) (place_of_check k)) [
  | inl same ↦ one_kind j k same
  | inr (inl before) ↦ absurd (first.fails (other.passes_before j before))
  | inr (inr behind) ↦ absurd (other.fails (first.passes_before k behind))
]

-- `Missing` stands last
place_below : (k : ContractKind) → place_of_check k < 16
place_below kind.Syntax = omega arith
place_below _ = omega arith

-- a line passes all checks, or there is a first one that it does not pass
module _ (tables : TableFile) (d : Draft) (l : Line) (passes : (k : ContractKind) → Dec (Passes tables d l k)) where
  -- the check at a place is not passed
  FailsAt : ℕ → Type 0
  FailsAt place = (Passes tables d l (kind_at place) → ⊥) × (place_of_check (kind_at place) ≡ place)

  fails_at : (k : ContractKind) → (Passes tables d l k → ⊥) → FailsAt (place_of_check k)
  unfolding FailsAt
  fails_at k fails = rw (kind_at-place k) (fails, refl)

  pub first_failed : PassesAll tables d l ⊎ ((k : ContractKind) × FailsFirst tables d l k)
  unfolding FailsAt
  first_failed =
      elim (first_place FailsAt (λ place. Dec.and (Dec.not (passes (kind_at place)))
      (ℕ_discrete (place_of_check (kind_at place)) place)) 16) [
        | inr none ↦ inl (λ k. stable (passes k) (λ fails. none (place_of_check k) (place_below k) (fails_at k fails)))
        | inl (place, below, (fails, at), before) ↦ inr (
          kind_at place,
          record {
            fails = fails;
            passes_before =
                (λ j earlier. stable (passes j) (λ other. before (place_of_check j) (omega arith) (fails_at j other)));
          },
        )
      ]
