-- The payments of all years enclose the value of an annuity, within its count and its bounds.
use Rattle.std.proofs.Common.{◌≡◌, ◌≢◌, ◌⊎◌, ℕ, ◌+◌, ◌*◌, ◌-◌, ◌<◌, ◌≤◌, length, Bool, None, pos, ◌*ℤ◌, arith, refl, ap, sym, ◌∙◌, ⊎_elim}
use Rattle.std.proofs.Math.Nat.{mul-pos}
use Rattle.halo_sums.specs.Masks.{has_bit}
use Rattle.halo_sums.proofs.Integers.{mul_comm}
use Rattle.halo_num.specs.Ends.{Ends, HasWidth}
use Rattle.halo_num.specs.Enclosure.{Encloses}
use Rattle.halo_num.proofs.Enclosures.{encloses_at}
use Rattle.halo_interest.specs.Rates.{IsInterest}
use Rattle.halo_interest.proofs.InForce.{in_force_is}
use Rattle.halo_status.specs.Pay.{PlainPay, pay_of}
use Rattle.halo_status.specs.declared.pay.Kind.{Kind}
use Rattle.halo_status.specs.declared.pay.Kind.TheVariants.{Insurance, Due, Immediate}
use Rattle.halo_contract.specs.declared.ties.Ties.{Ties}
use Rattle.halo_contract.specs.declared.ties.Ties.TheVariants.{Declared}
use Rattle.halo_model.specs.Basis.{Basis, accumulated, taken}
use Rattle.halo_model.specs.Counts.{Measures, greatest_factor, measures_of, most_worth, width_count}
use Rattle.halo_model.specs.Enclosed.{of_one}
use Rattle.halo_model.specs.Horizon.{horizon}
use Rattle.halo_model.specs.Life.{AreLives}
use Rattle.halo_model.specs.Outcome.{joint_survivors}
use Rattle.halo_model.specs.Value.{denominator, numerator}
use Rattle.halo_model.proofs.AnnuityBounds.{annuity-is-bounded, due-is-worth-one}
use Rattle.halo_model.proofs.Positive.{some-interest}
use Rattle.halo_model.proofs.RanksAsk.{ranks-ask}
use Rattle.halo_life.specs.PlainGroup.{IsGroup}
use Rattle.halo_compile.proofs.Living.{living-survive}
use Rattle.halo_compile.proofs.Sums.{wider}
use Rattle.halo_compile.proofs.Tasks.{count-lives, group-lives, some-survive}
use Rattle.halo_along.specs.Along.{IsTreeTask, basis_of_tree_task}
use Rattle.halo_along.specs.AtOnce.{PaysAtOnce}
use Rattle.halo_along.specs.Years.{EnclosesYears, present_value_of_years, present_whole}
use Rattle.halo_along.specs.declared.tree_task.TreeTask.{TreeTask}
use Rattle.halo_along.proofs.Counting.{count-has-room, greatest-some, no-mark, share-of-annuity, some-nodes}
use Rattle.halo_along.proofs.Value.{value-by-years}

pub most-is : (kind : Kind) → kind ≢ Insurance → (m : Measures) → most_worth kind m ≡ m.factor * (m.horizon + 1)
unfolding most_worth
most-is Insurance annual m = absurd (annual refl)
most-is Due annual m = refl
most-is Immediate annual m = refl

module _ {n : ℕ} (along : TreeTask n) (is : IsTreeTask along) (annual : along.pay.now.kind ≢ Insurance)
    (group : IsGroup n along.group.now) (ties : Ties) where
  abbrev b : Basis
  b = basis_of_tree_task along ties

  abbrev pay : PlainPay
  pay = pay_of along.pay.now

  abbrev start : ℕ
  start = along.group.now.start

  abbrev living : ℕ → Bool
  living = has_bit along.group.now.alive

  lives : AreLives b.lives
  lives = group-lives n along.group.now group

  plain : pay.mark ≡ None
  plain = no-mark pay is.valid annual

  -- the payments of the years to the horizon are worth what the annuity is worth
  pub total-encloses : (i : Ends) → EnclosesYears along (along.horizon - start) i
      → Encloses i (pos (numerator b (of_one pay) start living)) (denominator b start living)
  unfolding EnclosesYears denominator
  total-encloses i years =
      encloses_at i (present_value_of_years b (of_one pay) start living (along.horizon - start))
      (pos (numerator b (of_one pay) start living)) (present_whole b start living)
      (length (taken b) * (joint_survivors start living b.lives * accumulated b start)) (length (taken b))
      (years ties).encloses
      (value-by-years b lives (of_one pay) plain is.valid.lists (ranks-ask pay.body is.valid.ranks) start living annual
      group.time (omega (arith, is.horizon_is, is.horizon_in))
      ∙ ap (λ (h : ℕ). pos (length (taken b)) *ℤ present_value_of_years b (of_one pay) start living (h - start))
      (sym is.horizon_is)
      ∙ mul_comm (pos (length (taken b))) _)
      (omega arith)

  -- and no wider than its count
  pub total-narrow : (i : Ends) → EnclosesYears along (along.horizon - start) i
      → HasWidth i (width_count (measures_of b pay))
  unfolding EnclosesYears
  total-narrow i years = wider i _ _
      (rw is.horizon_is (count-has-room (measures_of b pay) (horizon b.lives pay.body - start) (omega arith)
      (some-nodes pay.body) (greatest-some _) (share-of-annuity ties pay.kind _ annual)))
      (years ties).narrow

  -- the bounds of its value
  pub most-of-annuity : (most : ℕ) → most ≡ greatest_factor along.pay.now.vary along.horizon * (along.horizon + 1)
      → most ≡ most_worth pay.kind (measures_of b pay)
  most-of-annuity most e = e ∙ ap (λ (h : ℕ). greatest_factor along.pay.now.vary h * (h + 1)) is.horizon_is
      ∙ sym (most-is pay.kind annual (measures_of b pay))

  pub value-above : (most : ℕ) → most ≡ greatest_factor along.pay.now.vary along.horizon * (along.horizon + 1)
      → numerator b (of_one pay) start living ≤ most * denominator b start living
  value-above most e =
      rw (
        most-of-annuity most e,
        most-is pay.kind annual (measures_of b pay),
        ← most-is pay.kind annual (measures_of b (of_one pay)),
      )
      (annuity-is-bounded b lives (of_one pay) annual plain refl is.valid.lists (ranks-ask pay.body is.valid.ranks)
      start group.time living)

  pub value-below : (least : ℕ) → ((least ≡ 1) × PaysAtOnce along.pay.now start along.group.now.alive) ⊎ (least ≡ 0)
      → least * denominator b start living ≤ numerator b (of_one pay) start living
  value-below least either = ⊎_elim
      (λ (one : (least ≡ 1) × PaysAtOnce along.pay.now start along.group.now.alive).
      let now = one.1 in
      let d = due-is-worth-one b lives (of_one pay) now.due plain refl now.level now.at_once
      (λ i named. omega (arith, is.lives i named, count-lives along.group.now, group.count))
      start group.time living now.exists_then in
      rw one.0 (omega (arith, d)))
      (λ (none : least ≡ 0). rw none (omega arith))
      either

-- with one order of the lives there is a denominator
pub some-denominator : {n : ℕ} (along : TreeTask n) → IsGroup n along.group.now → IsInterest along.interest.now
    → 0 < denominator (basis_of_tree_task along Declared) along.group.now.start (has_bit along.group.now.alive)
unfolding denominator
some-denominator {n} along group interest =
    mul-pos one (mul-pos
    (some-survive along.group.now.file along.group.now.start (has_bit along.group.now.alive) along.group.now.lives
    (λ i below alive. living-survive n along.group.now group i (omega (arith, below, group.count)) alive))
    (some-interest _ _ (200 - along.group.now.start) along.group.now.start
    (λ k since below. omega (arith, (in_force_is along.interest.now interest k).q_from))))
  where
    one : 0 < 1
    one = omega arith
