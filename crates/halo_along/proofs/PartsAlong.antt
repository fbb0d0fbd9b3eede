-- What falls on one event of an insurance: its enclosures along the tree, within its count and its bounds.
use Rattle.std.proofs.Common.{◌≡◌, ℕ, suc, ◌*◌, ◌-◌, ◌<◌, ◌≤◌, length, Bool, true, false, cond, ℤ, pos, negsuc, ◌+ℤ◌, ◌*ℤ◌, arith, refl, ap, subst, sym, ◌∙◌}
use Rattle.std.proofs.Math.IntN.{*ℤ-zero}
use Rattle.std.proofs.lemmas.Int.{ints}
use Rattle.std.proofs.Math.Nat.{mul-le-mul_right}
use Rattle.halo_sums.specs.Masks.{has_bit}
use Rattle.halo_sums.specs.Sums.{indicator}
use Rattle.halo_num.specs.Ends.{Ends, HasWidth, IsWithin, fine}
use Rattle.halo_num.specs.Enclosure.{Encloses}
use Rattle.halo_num.proofs.Enclosures.{encloses_at}
use Rattle.halo_status.specs.Naming.{names_life}
use Rattle.halo_status.specs.Pay.{PlainPay, pay_of}
use Rattle.halo_status.specs.declared.pay.Kind.TheVariants.{Insurance}
use Rattle.halo_contract.specs.declared.ties.Ties.TheVariants.{Declared}
use Rattle.halo_model.specs.Basis.{Basis}
use Rattle.halo_model.specs.Counts.{greatest_factor, measures_of, most_worth, width_count}
use Rattle.halo_model.specs.Enclosed.{of_one}
use Rattle.halo_model.specs.Event.{ends}
use Rattle.halo_model.specs.Expectation.{expected}
use Rattle.halo_model.specs.Horizon.{horizon}
use Rattle.halo_model.specs.OnePayment.{IsBetween, most_paid}
use Rattle.halo_model.specs.Part.{paid_for_year}
use Rattle.halo_model.specs.Payment.{falls_on}
use Rattle.halo_model.specs.SetValue.{can_fall_on_term}
use Rattle.halo_model.specs.Value.{denominator}
use Rattle.halo_model.proofs.Bounded.{ends-are-bounded, leavings-are-bounded}
use Rattle.halo_model.proofs.HorizonIsLeast.{horizon-is-least}
use Rattle.halo_model.proofs.NoFall.{no-chance-on-end}
use Rattle.halo_model.proofs.Outside.{no-chance-on-end-outside}
use Rattle.halo_life.specs.PlainGroup.{IsGroup}
use Rattle.halo_compile.proofs.Sums.{wider}
use Rattle.halo_compile.proofs.Tasks.{group-lives}
use Rattle.halo_along.specs.Along.{IsTreeTask, basis_of_tree_task}
use Rattle.halo_along.specs.Contingent.{EnclosesEnd, EnclosesOnLife}
use Rattle.halo_along.specs.Leavings.{declared_rank, width_of_falling}
use Rattle.halo_along.specs.Parts.{EnclosesPartOfOne, EnclosesWorthOnTerm, worth_on_end, worth_on_leaving}
use Rattle.halo_along.specs.Years.{EnclosesPresent, present_whole}
use Rattle.halo_along.specs.declared.tree_task.TreeTask.{TreeTask}
use Rattle.halo_along.proofs.ByParts.{end-in-year, ending-named}
use Rattle.halo_along.proofs.Contingents.{falling-count-has-room}
use Rattle.halo_along.proofs.Counting.{greatest-some, some-nodes}
use Rattle.halo_along.proofs.InsuredWhole.{group-ends, most-is, share-some}
use Rattle.halo_along.proofs.NamedLives.{named-most}
use Rattle.halo_along.proofs.OneLeaving.{unit-valid}

-- what is from 0 to so much is such a natural number
record IsUpTo (most : ℕ) (z : ℤ) : Type 0 where
  number : ℕ
  is : z ≡ pos number
  bound : number ≤ most

up-to : (most : ℕ) (z : ℤ) → IsBetween 0 most z → IsUpTo most z
up-to most (pos n) h = record { number = n; is = refl; bound = omega (arith, ints, h.at_most) }
up-to most (negsuc n) h = absurd (omega (arith, ints, h.at_least))

-- i encloses a part that is a natural number and at most so much, within the count of an insurance
pub record IsPart (b : Basis) (pay : PlainPay) (T : ℕ) (S : ℕ → Bool) (most : ℕ) (part : ℤ) (i : Ends) : Type 0 where
  pub number : ℕ
  pub is : part ≡ pos number
  pub bound : number ≤ most * denominator b T S
  pub encloses : Encloses i (pos number) (denominator b T S)
  pub narrow : HasWidth i (width_count (measures_of b pay))

-- nothing is enclosed by 0, which is within all bounds
pub none-enclosed : (b : Basis) (pay : PlainPay) (T : ℕ) (S : ℕ → Bool) (part : ℤ) (i : Ends)
    → part ≡ pos 0 → i.lo ≡ pos 0 → i.hi ≡ pos 0 → EnclosesPartOfOne b pay T S part i
none-enclosed b pay T S part i none low high = record {
  encloses = record { low = rw (none, low) (omega (arith, ints)); high = rw (none, high) (omega (arith, ints)) };
  narrow = record { near = omega (arith, ints, low, high) };
  within = record { low = omega (arith, ints, low); high = omega (arith, ints, high) };
}

module _ {n : ℕ} (along : TreeTask n) where
  abbrev b : Basis
  b = basis_of_tree_task along Declared

  abbrev pay : PlainPay
  pay = of_one (pay_of along.pay.now)

  abbrev start : ℕ
  start = along.group.now.start

  abbrev living : ℕ → Bool
  living = has_bit along.group.now.alive

  abbrev rank : ℕ → ℕ
  rank = declared_rank (length b.lives)

  -- nothing falls on the end of a term where no payment can, or that ended before the valuation
  module _ (years : ℕ) where
    none-paid : expected start living b.lives (λ o. indicator (falls_on pay rank start o (ends years))) ≡ pos 0
        → worth_on_end b pay start living years ≡ pos 0
    none-paid none =
        ap (λ z. pos (paid_for_year b pay start (years - 1)) *ℤ z +ℤ pos 0) none
        ∙ ap (λ z. z +ℤ pos 0) (*ℤ-zero (pos (paid_for_year b pay start (years - 1))))

    pub silent-term : (i : Ends) → can_fall_on_term (pay_of along.pay.now) years ≡ false
        → i.lo ≡ pos 0 → i.hi ≡ pos 0 → EnclosesWorthOnTerm along years i
    silent-term i silent low high =
        none-enclosed b pay start living _ i (none-paid (no-chance-on-end pay rank start living b.lives years silent))
        low high

    pub past-term : (i : Ends) → 1 ≤ years → years ≤ start
        → i.lo ≡ pos 0 → i.hi ≡ pos 0 → EnclosesWorthOnTerm along years i
    past-term i some past low high =
        none-enclosed b pay start living _ i
        (none-paid (no-chance-on-end-outside pay rank start years living b.lives
        (λ causes deferred since. absurd (omega (arith, some, past, since))))) low high

    -- one on which a payment can fall ends by the horizon
    pub falling-term-in : IsTreeTask along → can_fall_on_term (pay_of along.pay.now) years ≡ true
        → years ≤ along.horizon
    falling-term-in is falls =
        let covers = (horizon-is-least b.lives pay.body (horizon b.lives pay.body)).0 (omega arith) in
        rw is.horizon_is (covers.each_term years (ending-named pay years falls))

  module _ (is : IsTreeTask along) (group : IsGroup n along.group.now) (kind : along.pay.now.kind ≡ Insurance)
      (most : ℕ) (is_most : most ≡ greatest_factor along.pay.now.vary along.horizon) where
    same-most : most_paid b pay ≡ most
    same-most =
        let once : 1 * greatest_factor along.pay.now.vary along.horizon ≡ most = omega (arith, is_most) in
        ap (λ (h : ℕ). 1 * greatest_factor along.pay.now.vary h) (sym is.horizon_is) ∙ once

    -- the count has room for what falls in the years of a horizon
    falling-fits : along.horizon * width_of_falling along ≤ width_count (measures_of b pay)
    falling-fits =
        let m = measures_of b pay in
        rw is.horizon_is (omega (
          arith,
          falling-count-has-room m m.horizon (omega arith) (named-most _ pay.body).0 (some-nodes pay.body)
              (greatest-some _) (share-some Declared along.pay.now.kind m.named),
        ))

    part-is : (part x : ℤ) (w l : ℕ) (i : Ends) → IsBetween 0 (most_paid b pay * denominator b start living) part
        → part ≡ x +ℤ pos 0 → w ≤ along.horizon * width_of_falling along
        → EnclosesPresent b start living x w l i → IsPart b pay start living most part i
    unfolding denominator
    part-is part x w l i between same few value =
        let up = up-to _ part between in
        record {
          number = up.number;
          is = up.is;
          bound = rw (← same-most) up.bound;
          encloses = encloses_at i x (pos up.number) (present_whole b start living) _ 1 value.encloses
              (sym up.is ∙ same ∙ alone x) (omega arith);
          narrow = wider i w _ (omega (arith, few, falling-fits)) value.narrow;
        }
      where
        alone : (z : ℤ) → z +ℤ pos 0 ≡ z *ℤ pos 1
        alone z = omega (arith, ints)

    pub life-part : (a : ℕ) (i : Ends) → EnclosesOnLife along a i
        → IsPart b pay start living most (worth_on_leaving b pay start living a) i
    unfolding EnclosesOnLife
    life-part a i on_life =
        part-is _ _ _ _ i
        (leavings-are-bounded b (group-lives n along.group.now group) (group-ends n along.group.now group) pay
        (unit-valid (pay_of along.pay.now) is.valid kind) start living a)
        refl (once (names_life a pay.body) _) on_life
      where
        once : (named : Bool) (w : ℕ) → cond named 1 0 * w ≤ w
        once true w = omega arith
        once false w = omega arith

    term-part : (k : ℕ) (i : Ends) → k < along.horizon → EnclosesEnd along k i
        → IsPart b pay start living most (worth_on_end b pay start living (suc k)) i
    unfolding EnclosesEnd
    term-part k i before on_end =
        let some = mul-le-mul_right (width_of_falling along) (at-least-one along.horizon k before) in
        part-is _ _ _ _ i
        (ends-are-bounded b (group-lives n along.group.now group) pay
        (unit-valid (pay_of along.pay.now) is.valid kind) start living (suc k) (omega arith)
        (omega (arith, before, is.horizon_in)))
        (ap (λ z. z +ℤ pos 0) (end-in-year b pay start living k)) (omega (arith, some)) on_end
      where
        at-least-one : (h k : ℕ) → k < h → 1 ≤ h
        at-least-one h k before = omega (arith, before)

    pub term-is-part : (years : ℕ) (i : Ends) → 1 ≤ years → years ≤ along.horizon → EnclosesEnd along (years - 1) i
        → IsPart b pay start living most (worth_on_end b pay start living years) i
    term-is-part years i some short on_end =
        let same : suc (years - 1) ≡ years = omega (arith, some) in
        subst (λ (m : ℕ). IsPart b pay start living most (worth_on_end b pay start living m) i) same
        (term-part (years - 1) i (omega (arith, some, short)) on_end)

    -- and its part between the bounds of the insurance encloses it within them
    pub bounded-part : (part : ℤ) (i r : Ends) → IsPart b pay start living most part i
        → ((num den : ℕ) → num ≤ most * den → 0 * den ≤ num → Encloses i (pos num) den → Encloses r (pos num) den)
        → ((w : ℕ) → HasWidth i w → HasWidth r w) → IsWithin r (pos (0 * fine)) (pos (most * fine))
        → EnclosesPartOfOne b pay start living part r
    bounded-part part i r is_part encloses narrow within =
        let high : most * fine ≡ most_worth pay.kind (measures_of b pay) * fine =
        ap (λ (n : ℕ). n * fine)
        (is_most ∙ ap (greatest_factor along.pay.now.vary) is.horizon_is
        ∙ sym (most-is pay.kind kind (measures_of b pay))) in
        record {
          encloses = rw is_part.is (encloses is_part.number _ is_part.bound (omega arith) is_part.encloses);
          narrow = narrow _ is_part.narrow;
          within = record { low = within.low; high = rw (← high) within.high };
        }
