-- A year back for the sets of named lives: what is due from the next year on, and what is due in the year.
use Rattle.std.proofs.Common.{◌≡◌, ℕ, suc, ◌+◌, ◌*◌, ◌-◌, ◌^◌, ◌<◌, ◌≤◌, arith, refl, ap, sym, ◌∙◌, List, length, Bool, true, cond, nat_le, ℤ, pos, mul_comm, subst}
use Rattle.std.proofs.Math.Path.{fun_ext}
use Rattle.halo_sums.specs.Masks.{bits, has_bit}
use Rattle.halo_sums.specs.Sets.{in_set, size_of}
use Rattle.halo_sums.proofs.SetMasks.{length-bits}
use Rattle.halo_num.specs.Chance.{EnclosesChance}
use Rattle.halo_num.specs.Ends.{Ends, HasWidth}
use Rattle.halo_num.specs.Enclosure.{Encloses}
use Rattle.halo_num.proofs.Enclosures.{encloses_at}
use Rattle.halo_status.specs.Naming.{names_life}
use Rattle.halo_status.specs.Pay.{PlainPay}
use Rattle.halo_model.specs.Backward.{above_zero, below_zero}
use Rattle.halo_model.specs.Basis.{Basis, taken}
use Rattle.halo_model.specs.Chance.{asked}
use Rattle.halo_model.specs.Coefficient.{form}
use Rattle.halo_model.specs.Horizon.{horizon}
use Rattle.halo_model.specs.Life.{AreLives}
use Rattle.halo_model.specs.Order.{orders_taken}
use Rattle.halo_model.specs.Outcome.{joint_survivors}
use Rattle.halo_model.specs.OrderLaws.{year_numbers}
use Rattle.halo_model.specs.Payment.{factor}
use Rattle.halo_model.specs.SetValue.{SomeEvents}
use Rattle.halo_poly.specs.Poly.{coefficient_at}
use Rattle.halo_life.specs.Lists.{Lists, entry, nothing}
use Rattle.halo_sums.specs.Within.{is_within}
use Rattle.halo_life.specs.YearOfSets.{EncloseLeavings, EncloseSurvivals, leavings_of_set}
use Rattle.halo_compile.specs.NamedSets.{AreNamed}
use Rattle.halo_compile.proofs.NamedSets.{named-within}
use Rattle.halo_insure.specs.declared.due.Due.{Due}
use Rattle.halo_insure.specs.declared.sets.Year.{Year}
use Rattle.halo_insure.specs.Dues.{coefficient_before, due_of, ends_count}
use Rattle.halo_insure.specs.Leavings.{counts, set_leavings, set_survivors}
use Rattle.halo_insure.specs.OneSet.{EnclosesDues, most_due}
use Rattle.halo_insure.specs.Total.{EnclosesSet, HoldDues}
use Rattle.halo_insure.specs.YearSets.{SetGoesBack, SetsGoBack, next_coefficient}
use Rattle.halo_insure.proofs.DueOfSet.{due-of-form}
use Rattle.halo_insure.proofs.Nobody.{end-with-nobody}
use Rattle.halo_insure.proofs.OneSet.{nothing-due, year-more}

-- a chance told in more parts
pub chance-scaled : (n d w k : ℕ) (i : Ends) → EnclosesChance n d w i → EnclosesChance (k * n) (k * d) w i
chance-scaled n d w k i c = record {
  encloses = encloses_at i (pos n)
      (pos (k * n)) d (k * d) k c.encloses (ap pos (mul_comm k n)) (mul_comm k d);
  narrow = c.narrow;
  within = c.within;
}

module _ {m : ℕ} (n : ℕ) (b : Basis)
    (rule : AreLives b.lives) (pay : PlainPay) (one : pay.amount ≡ 1) (events : SomeEvents) (count : length b.lives ≡ n)
    (k : ℕ) (in_time : horizon b.lives pay.body ≤ b.last_time) (now : k < horizon b.lives pay.body)
    (year : Year m)
    (discounts : Encloses year.discount (pos (b.q k)) (b.p k + b.q k)) (narrow : HasWidth year.discount 1)
    (pays : year.pays.payment ≡ cond (nat_le pay.defer k) (factor pay.vary (k - pay.defer)) 0)
    (ends : year.pays.ends ≡ ends_count pay events (suc k))
    (here : (mask : ℕ) → mask < 2 ^ n → coefficient_at year.here.now mask ≡ form pay k (bits n mask))
    (next : (mask : ℕ) → mask < 2 ^ n
    → next_coefficient year mask ≡ coefficient_before pay (horizon b.lives pay.body) (suc k) (bits n mask))
    (named counted : ℕ) (names : (i : ℕ) → has_bit named i ≡ names_life i pay.body)
    (counting : (i : ℕ) → has_bit counted i ≡ counts pay events i)
    (before after : Lists) (survive : EncloseSurvivals n b.lives k named before.survivals)
    (leave : EncloseLeavings b.ties n b.lives k named counted (asked pay.causes) before.leavings)
    (back : SetsGoBack year named before after) where
  abbrev H : ℕ
  H = horizon b.lives pay.body

  -- the chances of a set
  set-survives : (mask : ℕ)
      → mask < 2 ^ n → is_within mask named ≡ true → EnclosesChance (set_survivors b (bits n mask) (suc k))
      (set_survivors b (bits n mask) k) (2 * size_of (bits n mask)) (entry before.survivals mask)
  set-survives mask below inside = chance-scaled _ _ _ (length (taken b)) _ (survive mask below inside)

  set-leaves : (mask : ℕ)
      → mask < 2 ^ n → is_within mask named ≡ true → EnclosesChance (set_leavings b pay events (bits n mask) k)
      (set_survivors b (bits n mask) k) (4 * size_of (bits n mask)) (entry before.leavings mask)
  set-leaves mask below inside =
      let same : has_bit counted ≡ counts pay events = fun_ext counting in
      let P : (ℕ → Bool) → ℕ → Type 0 = λ c l. EnclosesChance
      (leavings_of_set b.ties l (year_numbers c (asked pay.causes) b.lives k) (in_set (bits n mask)))
      (length (orders_taken b.ties l) * joint_survivors k (in_set (bits n mask)) b.lives)
      (4 * size_of (bits n mask)) (entry before.leavings mask) in
      subst (λ (c : ℕ → Bool). P c (length b.lives)) same
      (subst (λ (l : ℕ). P (has_bit counted) l) (sym count) (leave mask below inside))

  -- a set of named lives
  set-carried : (part : ℤ → ℕ) (mask : ℕ) → mask < 2 ^ n
      → is_within mask named ≡ true → (later result : Ends) → SetGoesBack part year before mask later result
      → EnclosesSet part b pay events (bits n mask) (suc k) later → EnclosesSet part b pay events (bits n mask) k result
  set-carried part mask below inside later result goes held =
      let s : List Bool = bits n mask in
      let due =
      due-of-form part pay one events H s k year.pays.payment year.pays.ends (coefficient_at year.here.now mask)
      (next_coefficient year mask) pays ends (here mask below) (next mask below) in
      let years : suc (H - suc k) ≡ H - k = omega (arith, now) in
      let two : 2 * size_of s ≤ 4 * size_of s = omega arith in
      subst (λ (y : ℕ). EnclosesDues b (set_leavings b pay events s)
      (set_survivors b s) (due_of part pay events H s) (4 * size_of s) k y result) years
      (year-more b (set_leavings b pay events s) (set_survivors b s) (end-with-nobody b rule pay events s
      (length-bits n mask ∙ sym count)) (due_of part pay events H s) (4 * size_of s) k (H - suc k) (4 * size_of s)
      (2 * size_of s) later result (entry before.leavings mask) (entry before.survivals mask) year.discount
      (omega (arith, now, in_time)) (omega arith) two
      (set-leaves mask below inside) (set-survives mask below inside) discounts narrow (rw due at goes) held)

  pub dues-carried : HoldDues b pay events n (suc k) before → HoldDues b pay events n k after
  dues-carried held mask below each =
      let within = named-within named pay.body names mask each in
      let later = held mask below each in (
        set-carried above_zero mask below within _ _ (back.plus mask within) later.0,
        set-carried below_zero mask below within _ _ (back.minus mask within) later.1,
      )

-- at the horizon nothing is due any more
pub none-held : (b : Basis) (pay : PlainPay) (events : SomeEvents) (n t : ℕ) (lists : Lists)
    → horizon b.lives pay.body ≤ t
    → ((mask : ℕ) → mask < 2 ^ n → AreNamed pay.body mask
    → (entry lists.plus mask ≡ nothing) × (entry lists.minus mask ≡ nothing)) → HoldDues b pay events n t lists
none-held b pay events n t lists past empty mask below named =
    let years : horizon b.lives pay.body - t ≡ 0 = omega (arith, past) in
    let none : (due : ℕ → Due) → most_due due t (horizon b.lives pay.body - t) ≡ 0 = λ due. rw years refl in
    let is = empty mask below named in (
      nothing-due b _ _ _ _ t _ (entry lists.plus mask) (none _) (rw is.0 refl) (rw is.0 refl),
      nothing-due b _ _ _ _ t _ (entry lists.minus mask) (none _) (rw is.1 refl) (rw is.1 refl),
    )

-- lists with the same values hold the same
pub held-same : (b : Basis) (pay : PlainPay) (events : SomeEvents) (n t : ℕ) (lists others : Lists) → others.plus
    ≡ lists.plus → others.minus ≡ lists.minus → HoldDues b pay events n t lists → HoldDues b pay events n t others
held-same b pay events n t lists others plus minus held mask below named = rw (plus, minus) (held mask below named)
