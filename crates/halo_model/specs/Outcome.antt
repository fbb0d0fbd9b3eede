-- Outcomes of independent lives: for each life alive at a time, the year and the cause in which it
-- leaves.
use Rattle.std.specs.Prelude.{ℕ, ◌-◌, ◌*◌, Bool, true, false, cond, List, [], ◌∷◌, flat_map, map, Option, Some, None}
use Rattle.halo_sums.specs.Sums.{numbers_from}
use Rattle.halo_model.specs.Life.{PlainLife, after_first}

-- a life's exit: its year, counted from 0, and the place of its cause
pub record Exit : Type 0 where
  pub year : ℕ
  pub cause : ℕ

-- an outcome: for each life, in the declared order, its exit, or nothing where it was gone before
abbrev pub Outcome : Type 0
Outcome = List (Option Exit)

-- the exits of a life from time T on: each year that its table still has, by each cause
abbrev pub exits : ℕ → PlainLife → List Exit
exits T x =
    flat_map (λ k. map (λ j. record { year = k; cause = j }) (numbers_from 0 x.causes))
    (numbers_from T (x.years_left - T))

-- what can become of a life from time T on, where it is alive then and where it is not
abbrev pub ways : ℕ → Bool → PlainLife → List (Option Exit)
ways T true x = map (λ e. Some e) (exits T x)
ways T false x = None ∷ []

-- the outcomes from time T, where of the lives exactly those of the set S are alive then
abbrev pub outcomes : ℕ → (ℕ → Bool) → List PlainLife → List Outcome
outcomes T S [] = [] ∷ []
outcomes T S (x ∷ lives) =
    flat_map (λ way. map (λ o. way ∷ o) (outcomes T (after_first S) lives)) (ways T (S 0) x)

-- how many leave as a life does
abbrev pub exit_weight : PlainLife → Option Exit → ℕ
exit_weight x None = 1
exit_weight x (Some e) = x.leavers e.year e.cause

-- the weight of an outcome: the product over its lives, since they are independent
abbrev pub weight : List PlainLife → Outcome → ℕ
weight (x ∷ lives) (way ∷ o) = exit_weight x way * weight lives o
weight _ _ = 1

-- the survivors of a joint life at time T: the product of the survivors of its lives, those of the
-- set S. l_(x+T:y+T) = l_(x+T) · l_(y+T)
abbrev pub joint_survivors : ℕ → (ℕ → Bool) → List PlainLife → ℕ
joint_survivors T S [] = 1
joint_survivors T S (x ∷ lives) =
    cond (S 0) (x.survivors T) 1 * joint_survivors T (after_first S) lives
