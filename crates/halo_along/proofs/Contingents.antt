-- What an insurance pays on the leavings of all lives and on the ends of terms encloses its value in the declared
-- order, within its count and its bounds.
use Rattle.std.proofs.Common.{◌≡◌, ℕ, ◌+◌, ◌*◌, ◌-◌, ◌^◌, ◌≤◌, length, Bool, true, false, cond, ℤ, pos, neg_ℤ, ◌+ℤ◌, ◌*ℤ◌, arith, refl, ap, sym, ◌∙◌}
use Rattle.std.proofs.lemmas.Int.{ints}
use Rattle.std.proofs.lemmas.Nat.{mul-le}
use Rattle.std.proofs.Math.Nat.{mul-le-mul_right, pow-succ', pow-zero}
use Rattle.halo_sums.specs.Masks.{has_bit}
use Rattle.halo_sums.specs.Sums.{int_sum_over, numbers_from}
use Rattle.halo_num.specs.Ends.{Ends, HasWidth, IsWithin}
use Rattle.halo_num.specs.Enclosure.{Encloses}
use Rattle.halo_num.proofs.Enclosures.{encloses_at}
use Rattle.halo_status.specs.Naming.{names_life}
use Rattle.halo_status.specs.Pay.{PlainPay, pay_of}
use Rattle.halo_status.specs.Tree.{Tree}
use Rattle.halo_status.specs.declared.pay.Kind.TheVariants.{Insurance}
use Rattle.halo_contract.specs.declared.ties.Ties.TheVariants.{Declared}
use Rattle.halo_model.specs.Basis.{Basis}
use Rattle.halo_model.specs.Counts.{Measures, lives_named, measures_of, width_count}
use Rattle.halo_model.specs.Enclosed.{of_one}
use Rattle.halo_model.specs.Horizon.{horizon}
use Rattle.halo_model.specs.Part.{leaving_part}
use Rattle.halo_model.specs.SetValue.{can_fall_on_life}
use Rattle.halo_model.specs.Value.{denominator, numerator}
use Rattle.halo_life.specs.PlainGroup.{IsGroup}
use Rattle.halo_compile.proofs.Sums.{wider}
use Rattle.halo_compile.proofs.Tasks.{count-lives}
use Rattle.halo_along.specs.Along.{IsTreeTask, basis_of_tree_task}
use Rattle.halo_along.specs.Contingent.{EnclosesEnds, EnclosesOnLife, EnclosesOnLives, value_on_ends}
use Rattle.halo_along.specs.Leavings.{EnclosesLeavings, declared_rank, value_on_leavings, width_of_falling}
use Rattle.halo_along.specs.Years.{EnclosesPresent, present_whole}
use Rattle.halo_along.specs.declared.tree_task.TreeTask.{TreeTask}
use Rattle.halo_along.proofs.ByParts.{falling-named, gone-leavings, in-declared-order, leavings-to-horizon, silent-leavings}
use Rattle.halo_along.proofs.Counting.{event-few, greatest-some, products-few, some-nodes}
use Rattle.halo_along.proofs.InsuredWhole.{group-ends, share-some}
use Rattle.halo_along.proofs.NamedLives.{named-most, named-next}
use Rattle.halo_along.proofs.PresentSums.{both-encloses, in-greater-bounds, nothing-encloses, one-number-more, present-small}

-- the count has room for what falls on each life named in each year, and on the ends of the terms of each year
pub falling-count-has-room : (m : Measures) (years : ℕ) → years ≤ m.horizon → m.named ≤ m.nodes
    → 1 ≤ m.nodes → 1 ≤ m.weight → 1 ≤ m.share
    → m.named * (m.horizon * ((3 * m.horizon + 4 * m.nodes + 7) * m.factor))
    + years * ((3 * m.horizon + 4 * m.nodes + 7) * m.factor) ≤ width_count m
unfolding width_count
falling-count-has-room m years few named some weighty shared = omega (arith, of_lives, of_ends, weighed, times, room)
  where
    span : ℕ
    span = m.horizon + m.named + 3

    square : (n : ℕ) → n ^ 2 ≡ n * n
    square n = pow-succ' n 1 ∙ ap (λ z. n * z) (pow-succ' n 0 ∙ ap (λ z. n * z) (pow-zero n) ∙ omega arith)

    each : ℕ
    each = 6 * ((m.nodes + 1) * span) * m.factor

    -- of one event, by the nodes and the horizon
    one : 3 * m.horizon + 4 * m.nodes + 7 ≤ 6 * ((m.nodes + 1) * span)
    one =
        let least : (m.nodes + 1) * (m.horizon + 3) ≤ (m.nodes + 1) * span =
        mul-le (m.nodes + 1) (m.horizon + 3) (m.nodes + 1) span (omega arith) (omega arith) in
        omega (arith, least)

    event : (3 * m.horizon + 4 * m.nodes + 7) * m.factor ≤ each
    event = mul-le-mul_right m.factor one

    part : ℕ
    part = (m.horizon + 1) * each

    of_lives : m.named * (m.horizon * ((3 * m.horizon + 4 * m.nodes + 7) * m.factor)) ≤ m.nodes * part
    of_lives = mul-le m.named _ m.nodes part named (mul-le m.horizon _ (m.horizon + 1) each (omega arith) event)

    of_ends : years * ((3 * m.horizon + 4 * m.nodes + 7) * m.factor) ≤ part
    of_ends = mul-le years _ (m.horizon + 1) each (omega (arith, few)) event

    weighed : 1 * ((m.nodes + 1) * part) ≤ m.weight * ((m.nodes + 1) * part)
    weighed = mul-le-mul_right ((m.nodes + 1) * part) weighty

    times : 1 * (m.weight * ((m.nodes + 1) * part)) ≤ m.share * (m.weight * ((m.nodes + 1) * part))
    times = mul-le-mul_right (m.weight * ((m.nodes + 1) * part)) shared

    room : m.share * (m.weight * ((m.nodes + 1) * part))
        ≤ 6 * (m.nodes + 1) ^ 2 * m.weight * (m.horizon + 1) * span * m.factor * m.share
    room = rw (square (m.nodes + 1)) (omega arith)

-- the products of all lives named and of the ends of terms are few enough
pub contingent-products-few : (years horizon named m : ℕ) → years ≤ horizon
    → named * (horizon * (4 * (m + 1) ^ 2 + 3)) + years * (4 * (m + 1) ^ 2 + 3)
    ≤ (named + 1) * (16 * (horizon + 1) * (m + 1) ^ 2)
contingent-products-few years horizon named m few =
    let event : ℕ = 4 * (m + 1) ^ 2 + 3 in
    let most : ℕ = 16 * (horizon + 1) * (m + 1) ^ 2 in
    let of_life : horizon * event ≤ most = products-few horizon event horizon m (omega arith) (event-few m) in
    let of_lives : named * (horizon * event) ≤ named * most = mul-le named _ named _ (omega arith) of_life in
    let of_ends : years * event ≤ most = products-few years event horizon m (omega arith) (event-few m) in
    omega (arith, of_lives, of_ends)

shared : (k m c w : ℕ) → k ≡ m + c → k * w ≡ m * w + c * w
shared k m c w e = rw e (omega arith)

-- the products of one life more
pub lives-products : (old before new count each : ℕ) (body : Tree)
    → before ≤ old + lives_named count body * each → new ≤ before + cond (names_life count body) 1 0 * each
    → new ≤ old + lives_named (count + 1) body * each
lives-products old before new count each body so_far more = omega (
  arith,
  so_far,
  more,
  shared (lives_named (count + 1) body) _ _ each (named-next count body),
)

-- and of one life on whose leaving a payment can fall
pub life-products : (pay : PlainPay) (a : ℕ) → can_fall_on_life pay a ≡ true → (old new years horizon each : ℕ)
    → years ≤ horizon → new ≤ old + years * each → new ≤ old + cond (names_life a pay.body) 1 0 * (horizon * each)
life-products pay a falls old new years horizon each few h =
    let fewer : years * each ≤ horizon * each = mul-le-mul_right each few in
    rw (falling-named pay a falls) (omega (arith, h, fewer))

one-share-more : (m w : ℕ) → (m + 1) * w ≡ m * w + w
one-share-more m w = omega arith

-- nor of one life, or of the end of one term with its discount factor, too many
pub one-life-products : (named : Bool) (horizon m : ℕ)
    → cond named 1 0 * (horizon * (4 * (m + 1) ^ 2 + 3)) ≤ 16 * (horizon + 1) * (m + 1) ^ 2
one-life-products true horizon m = omega (arith, products-few horizon _ horizon m (omega arith) (event-few m))
one-life-products false horizon m = omega arith

pub one-term-products : (years horizon m : ℕ) → years ≤ horizon
    → years + (4 * (m + 1) ^ 2 + 2) ≤ 16 * (horizon + 1) * (m + 1) ^ 2
one-term-products years horizon m few =
    omega (arith, products-few (years + 1) (4 * (m + 1) ^ 2 + 3) horizon m (omega arith) (event-few m))

module _ {n : ℕ} (along : TreeTask n) where
  abbrev b : Basis
  b = basis_of_tree_task along Declared

  abbrev pay : PlainPay
  pay = of_one (pay_of along.pay.now)

  abbrev start : ℕ
  start = along.group.now.start

  abbrev living : ℕ → Bool
  living = has_bit along.group.now.alive

  abbrev on_life : ℕ → ℤ
  on_life = leaving_part b pay (declared_rank (length b.lives)) start living

  -- nothing falls on the leaving of a life on which no payment can fall, or that is not alive
  pub silent-life : (a : ℕ) (i : Ends) → can_fall_on_life (pay_of along.pay.now) a ≡ false
      → i.lo ≡ pos 0 → i.hi ≡ pos 0 → EnclosesOnLife along a i
  unfolding EnclosesOnLife
  silent-life a i silent low high =
      nothing-encloses _ _ _ _ _ _ i (silent-leavings b pay start living a silent) low high

  pub gone-life : (a : ℕ) (i : Ends) → has_bit along.group.now.alive a ≡ false
      → i.lo ≡ pos 0 → i.hi ≡ pos 0 → EnclosesOnLife along a i
  unfolding EnclosesOnLife
  gone-life a i gone low high = nothing-encloses _ _ _ _ _ _ i (gone-leavings b pay start living a gone) low high

  -- on that of another the years to the horizon tell what falls
  pub falling-life : IsTreeTask along → IsGroup n along.group.now → (a : ℕ) (i : Ends)
      → can_fall_on_life (pay_of along.pay.now) a ≡ true → EnclosesLeavings along a (along.horizon - start) i
      → EnclosesOnLife along a i
  unfolding EnclosesOnLife EnclosesLeavings
  falling-life is group a i falls years =
      let named = falling-named pay a falls in
      let fewer = mul-le-mul_right (width_of_falling along) (fewer-years along.horizon start) in
      rw named (in-greater-bounds _ _ _ _ _ _ _ _ _ i
      (leavings-to-horizon b pay start living a named group.time (rw (← is.horizon_is) is.horizon_in)
      ∙ ap (λ (h : ℕ). value_on_leavings b pay start living a (h - start)) (sym is.horizon_is))
      (omega (arith, fewer)) (omega arith) years)
    where
      fewer-years : (h t : ℕ) → h - t ≤ h
      fewer-years h t = omega arith

  -- on those of no lives, and of one life more
  pub no-lives : (i : Ends) → i.lo ≡ pos 0 → i.hi ≡ pos 0 → EnclosesOnLives along 0 i
  unfolding EnclosesOnLives
  no-lives i low high = nothing-encloses _ _ _ _ _ _ i refl low high

  pub one-life-more : (count : ℕ) (sum one r : Ends) → EnclosesOnLives along count sum → EnclosesOnLife along count one
      → r.lo ≡ sum.lo +ℤ one.lo → r.hi ≡ sum.hi +ℤ one.hi → EnclosesOnLives along (count + 1) r
  unfolding EnclosesOnLives EnclosesOnLife
  one-life-more count sum one r of_sum one_is low high =
      both-encloses _ _ _ _ _ _ _ _ _ _ _ _ sum one r (one-number-more count on_life)
      (shared (lives_named (count + 1) pay.body) _ _ (along.horizon * width_of_falling along)
      (named-next count pay.body))
      (one-share-more count (along.horizon * 201)) of_sum one_is low high

  -- these are small numbers
  pub lives-small : (count : ℕ) (i : Ends) → count ≤ 12 → along.horizon ≤ 200 → EnclosesOnLives along count i
      → IsWithin i (neg_ℤ (pos (10 ^ 36))) (pos (10 ^ 36))
  unfolding EnclosesOnLives
  lives-small count i few short is =
      let most = mul-le count (along.horizon * 201) 12 (200 * 201) few (mul-le-mul_right 201 short) in
      present-small _ _ _ _ _ _ i (omega (arith, most)) is

  pub life-small : (a : ℕ) (i : Ends) → along.horizon ≤ 200 → EnclosesOnLife along a i
      → IsWithin i (neg_ℤ (pos (10 ^ 36))) (pos (10 ^ 36))
  unfolding EnclosesOnLife
  life-small a i short is = present-small _ _ _ _ _ _ i (omega (arith, short)) is

  module _ (is : IsTreeTask along) (group : IsGroup n along.group.now) (kind : along.pay.now.kind ≡ Insurance)
      (leavings ends total : Ends) (on_lives : EnclosesOnLives along n leavings)
      (on_ends : EnclosesEnds along (along.horizon - start) ends)
      (low : total.lo ≡ leavings.lo +ℤ ends.lo) (high : total.hi ≡ leavings.hi +ℤ ends.hi) where
    both : EnclosesPresent b start living
        (int_sum_over (numbers_from 0 n) on_life +ℤ value_on_ends b pay start living (along.horizon - start))
        (lives_named n pay.body * (along.horizon * width_of_falling along)
        + (along.horizon - start) * width_of_falling along)
        (n * (along.horizon * 201) + (along.horizon - start) * 201) total
    unfolding EnclosesOnLives EnclosesEnds
    both = both-encloses _ _ _ _ _ _ _ _ _ _ _ _ leavings ends total refl refl refl on_lives on_ends low high

    same-lives : length b.lives ≡ n
    same-lives = count-lives along.group.now ∙ group.count

    -- together they are worth what the insurance is worth
    pub contingent-encloses : Encloses total (pos (numerator b pay start living)) (denominator b start living)
    unfolding denominator
    contingent-encloses = encloses_at total _ (pos (numerator b pay start living)) (present_whole b start living) _ 1
        both.encloses
        (in-declared-order b pay start living (group-ends n along.group.now group) kind refl group.time
        (rw (← is.horizon_is) is.horizon_in)
        ∙ ap (λ (m : ℕ). int_sum_over (numbers_from 0 m) on_life
        +ℤ value_on_ends b pay start living (horizon b.lives pay.body - start)) same-lives
        ∙ ap (λ (h : ℕ). int_sum_over (numbers_from 0 n) on_life +ℤ value_on_ends b pay start living (h - start))
        (sym is.horizon_is)
        ∙ times-one _)
        (omega arith)
      where
        times-one : (z : ℤ) → z ≡ z *ℤ pos 1
        times-one z = omega (arith, ints)

    -- no wider than its count
    pub contingent-narrow : HasWidth total (width_count (measures_of b (pay_of along.pay.now)))
    contingent-narrow =
        let m = measures_of b (pay_of along.pay.now) in
        wider total _ _
        (rw (is.horizon_is, ← same-lives) (falling-count-has-room m (horizon b.lives pay.body - start) (omega arith)
        (named-most (length b.lives) pay.body).0 (some-nodes pay.body) (greatest-some _)
        (share-some Declared along.pay.now.kind (lives_named (length b.lives) pay.body))))
        both.narrow
