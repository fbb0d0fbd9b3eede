-- The sets of named lives are carried back by a year.
use Rattle.std.proofs.Common.{◌≡◌, ℕ, suc, ◌+◌, ◌*◌, ◌^◌, ◌<◌, ◌≤◌, List, length, Bool, true, arith, refl, ap}
use Rattle.halo_num.specs.Ends.{Ends}
use Rattle.halo_sums.specs.Sets.{in_set, sets, size_of}
use Rattle.halo_sums.specs.Masks.{bits, has_bit}
use Rattle.halo_status.specs.Naming.{names_life}
use Rattle.halo_status.specs.Pay.{PlainPay}
use Rattle.halo_model.specs.Life.{AreLives}
use Rattle.halo_num.specs.Chance.{EnclosesChance}
use Rattle.halo_model.specs.Basis.{Basis}
use Rattle.halo_model.specs.Outcome.{joint_survivors}
use Rattle.halo_model.specs.Backward.{gain, loss}
use Rattle.halo_life.specs.Lists.{Lists, entry}
use Rattle.halo_sums.specs.Within.{is_within}
use Rattle.halo_life.specs.YearOfSets.{EncloseSurvivals}
use Rattle.halo_annuity.specs.RunWorth.{EnclosesDiscountedSurvival}
use Rattle.halo_annuity.specs.SetSteps.{CarriesBy}
use Rattle.halo_annuity.specs.Worth.{Carries, EnclosesCarried, EnclosesSet, HoldCarried, HoldValues}
use Rattle.halo_annuity.proofs.Carried.{carried-set}
use Rattle.halo_annuity.proofs.OneSet.{one-year}
use Rattle.halo_sums.proofs.SetMasks.{length-bits}
use Rattle.halo_compile.proofs.NamedSets.{named-within}

-- a value of a set is carried back by a year
record CarriesYear (b : Basis) (n t : ℕ) (s : List Bool) (later result : Ends) : Type 0 where
  chance : Ends
  year : EnclosesDiscountedSurvival b n s t chance
  carries : Carries later chance result

carries-year : (b : Basis) (n t : ℕ) (s : List Bool) (discount survival later result : Ends) → length s ≡ n
    → EnclosesChance (b.q t) (b.p t + b.q t) 1 discount
    → EnclosesChance
    (joint_survivors (suc t) (in_set s) b.lives) (joint_survivors t (in_set s) b.lives) (2 * size_of s) survival
    → CarriesBy discount survival later result → CarriesYear b n t s later result
carries-year b n t s discount survival later result long year survive by =
    let now : ℕ = joint_survivors t (in_set s) b.lives in
    let next : ℕ = joint_survivors (suc t) (in_set s) b.lives in
    record {
      chance = by.chance;
      year = one-year b n t s next now by.chance long
          (by.product (b.q t) next (b.p t + b.q t) now 1 (2 * size_of s) year survive) (λ some. (refl, refl));
      carries = by.carries;
    }

-- the sets of named lives are carried back
module _ (b : Basis) (rule : AreLives b.lives) (pay : PlainPay) (n named T t years : ℕ)
    (before : t < b.last_time) (are : (i : ℕ) → has_bit named i ≡ names_life i pay.body) where
  carried-here : (mask : ℕ) (paid : ℕ → ℕ) (later result : Ends)
      → EnclosesSet b n paid (bits n mask) (suc t) years later
      → CarriesYear b n t (bits n mask) later result → EnclosesCarried b n paid (bits n mask) t years result
  carried-here mask paid later result held c =
      carried-set b rule n (bits n mask) paid years t (2 * n + 2) later c.chance result before held
      c.year.encloses c.year.narrow (omega arith) c.carries

  pub sets-carried : (old new : Lists) (survivals : List Ends) (discount : Ends)
      → EnclosesChance (b.q t) (b.p t + b.q t) 1 discount
      → EncloseSurvivals n b.lives t named survivals
      → ((mask : ℕ) → is_within mask named ≡ true
      → CarriesBy discount (entry survivals mask) (entry old.plus mask) (entry new.plus mask))
      → ((mask : ℕ) → is_within mask named ≡ true
      → CarriesBy discount (entry survivals mask) (entry old.minus mask) (entry new.minus mask))
      → HoldValues b pay T n (suc t) years old → HoldCarried b pay T n t years new
  sets-carried old new survivals discount year survive plus minus held mask below each =
      let within = named-within named pay.body are mask each in
      let now = held mask below each in
      let back = λ (later result : Ends). carries-year b n t (bits n mask) discount (entry survivals mask) later result
      (length-bits n mask) year (survive mask below within) in (
        carried-here mask (gain pay T (bits n mask)) _ _ now.0 (back _ _ (plus mask within)),
        carried-here mask (loss pay T (bits n mask)) _ _ now.1 (back _ _ (minus mask within)),
      )

-- lists with the same values hold the same
pub held-same : (b : Basis) (pay : PlainPay) (T n t years : ℕ) (new old : Lists)
    → new.plus ≡ old.plus → new.minus ≡ old.minus
    → HoldValues b pay T n t years old → HoldValues b pay T n t years new
held-same b pay T n t years new old plus minus held mask below named = rw (plus, minus) (held mask below named)

-- the products of a year for all sets of named lives
pub year-cost : (start after end lives named sets : ℕ) → lives ≡ named → after + 1 ≡ start + 2 ^ lives
    → sets ≡ 2 ^ named → end ≤ after + 3 * sets → end ≤ start + 4 * 2 ^ named
year-cost start after end lives named sets e a s h = let f : 2 ^ lives ≡ 2 ^ named = ap (λ (k : ℕ). 2 ^ k) e in
    omega (arith, f, a, s, h)
