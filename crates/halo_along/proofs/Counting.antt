-- How wide the payments of a valuation are, and how many products they cost: both within the counts.
use Rattle.std.proofs.Common.{◌≡◌, ◌≢◌, ℕ, ◌+◌, ◌*◌, ◌-◌, ◌^◌, ◌≤◌, List, [], ◌∷◌, Bool, cond, true, false, Option, Some, None, arith, ap, refl, ◌∙◌}
use Rattle.std.proofs.Math.Nat.{mul-le-mul_right, pow-le-pow_left, pow-succ', pow-zero}
use Rattle.std.proofs.lemmas.Nat.{mul-le}
use Rattle.halo_status.specs.Tree.{Tree, Trees, life, term, joint, last, at_least, exactly, after, none, more}
use Rattle.halo_status.specs.Nodes.{nodes, nodes_in}
use Rattle.halo_status.specs.Pay.{PlainPay}
use Rattle.halo_status.specs.ValidPay.{IsValidPay}
use Rattle.halo_status.specs.declared.pay.Kind.{Kind}
use Rattle.halo_status.specs.declared.pay.Kind.TheVariants.{Insurance, Due, Immediate}
use Rattle.halo_status.specs.declared.pay.Mark.{Mark}
use Rattle.halo_status.specs.declared.pay.Vary.{Vary}
use Rattle.halo_status.specs.declared.pay.Vary.TheVariants.{Level, Increasing, Decreasing}
use Rattle.halo_contract.specs.declared.ties.Ties.{Ties}
use Rattle.halo_contract.specs.declared.ties.Ties.TheVariants.{Even, Declared}
use Rattle.halo_model.specs.Payment.{factor, payment}
use Rattle.halo_model.specs.Counts.{Measures, greatest, greatest_factor, order_share, width_count}
use Rattle.halo_model.specs.Backward.{may_pay, paid_at, years_passed}
use Rattle.halo_chance.specs.Enclosed.{life_widths, life_widths_in}

-- the places of lives in a status are nodes of it
mutual
  pub places-in-nodes : (s : Tree) → life_widths (λ i. 1) s ≤ nodes s
  places-in-nodes (life i) = omega arith
  places-in-nodes (term m) = omega arith
  places-in-nodes (joint ms) = omega (arith, places-of-members ms)
  places-in-nodes (last ms) = omega (arith, places-of-members ms)
  places-in-nodes (at_least r ms) = omega (arith, places-of-members ms)
  places-in-nodes (exactly r ms) = omega (arith, places-of-members ms)
  places-in-nodes (after s t) = omega (arith, places-in-nodes s, places-in-nodes t)

  places-of-members : (ms : Trees) → life_widths_in (λ i. 1) ms ≤ nodes_in ms
  places-of-members none = omega arith
  places-of-members (more s ms) = omega (arith, places-in-nodes s, places-of-members ms)

pub some-nodes : (s : Tree) → 1 ≤ nodes s
some-nodes (life i) = omega arith
some-nodes (term n) = omega arith
some-nodes (joint ms) = omega arith
some-nodes (last ms) = omega arith
some-nodes (at_least r ms) = omega arith
some-nodes (exactly r ms) = omega arith
some-nodes (after s t) = omega arith

-- a payment of 1 is at most its greatest factor
pub factor-within : (vary : Vary) (passed years : ℕ) → passed ≤ years → factor vary passed ≤ greatest_factor vary years
factor-within Level passed years h = omega arith
factor-within Increasing passed years h = omega arith
factor-within (Decreasing n) passed years h = omega arith

passed-within : (kind : Kind) (defer t : ℕ) → years_passed kind defer t ≤ t
passed-within Insurance defer t = omega arith
passed-within Due defer t = omega arith
passed-within Immediate defer t = omega arith

pub cond-within : (may : Bool) (m n : ℕ) → m ≤ n → cond may m 0 ≤ n
cond-within true m n h = h
cond-within false m n h = omega arith

pub paid-within : (pay : PlainPay)
    → pay.amount ≡ 1 → (T t years : ℕ) → t ≤ years → paid_at pay T t ≤ greatest_factor pay.vary years
paid-within pay one T t years h =
    cond-within (may_pay pay.kind pay.defer T t) _ _
    (let e : payment pay (years_passed pay.kind pay.defer t) ≡ 1 * factor pay.vary (years_passed pay.kind pay.defer t) =
    ap (λ (a : ℕ). a * factor pay.vary (years_passed pay.kind pay.defer t)) one in
    omega (
      arith,
      e,
      factor-within pay.vary
          (years_passed pay.kind pay.defer t) years (omega (arith, passed-within pay.kind pay.defer t)),
    ))

-- an annuity has no mark
pub no-mark : (pay : PlainPay) → IsValidPay pay → pay.kind ≢ Insurance → pay.mark ≡ None
no-mark pay valid annual = by-mark pay.mark refl
  where
    by-mark : (mark : Option Mark) → pay.mark ≡ mark → mark ≡ None
    by-mark None e = refl
    by-mark (Some mark) e = absurd (annual ((rw e at valid.mark).0))

-- an annuity has the same count with either rule for ties
pub share-of-annuity : (ties : Ties) (kind : Kind) (named : ℕ) → kind ≢ Insurance → order_share ties kind named ≡ 1
share-of-annuity ties Insurance named annual = absurd (annual refl)
share-of-annuity Declared Due named annual = refl
share-of-annuity Even Due named annual = refl
share-of-annuity Declared Immediate named annual = refl
share-of-annuity Even Immediate named annual = refl

pub greatest-some : (ns : List ℕ) → 1 ≤ greatest 1 ns
greatest-some [] = omega arith
greatest-some (n ∷ ns) = omega (arith, greatest-some ns)

-- the count has room for a payment of each year of the horizon
pub count-has-room : (m : Measures) (years : ℕ) → years ≤ m.horizon → 1 ≤ m.nodes → 1 ≤ m.weight → m.share ≡ 1
    → years * ((3 * m.horizon + 2 * m.nodes + 1) * m.factor) ≤ width_count m
unfolding width_count
count-has-room m years few some weighty alone =
    rw alone (omega (arith, payments, room, weighed))
  where
    span : ℕ
    span = m.horizon + m.named + 3

    square : ℕ
    square = (m.nodes + 1) ^ 2

    -- one payment, by the nodes and the horizon
    one : 3 * m.horizon + 2 * m.nodes + 1 ≤ square * span
    one =
        let two : 2 * (m.nodes + 1) ≤ (m.nodes + 1) * (m.nodes + 1) = mul-le-mul_right (m.nodes + 1) (omega arith) in
        let is : square ≡ (m.nodes + 1) * (m.nodes + 1) = squared (m.nodes + 1) in
        let all : 2 * (m.nodes + 1) * span ≤ square * span = mul-le-mul_right span (omega (arith, two, is)) in
        let more : 1 * m.horizon ≤ m.nodes * m.horizon = mul-le-mul_right m.horizon some in
        omega (arith, all, more)
      where
        squared : (n : ℕ) → n ^ 2 ≡ n * n
        squared n = pow-succ' n 1 ∙ ap (λ z. n * z) (pow-succ' n 0 ∙ ap (λ z. n * z) (pow-zero n) ∙ omega arith)

    -- of all years
    payments : years * ((3 * m.horizon + 2 * m.nodes + 1) * m.factor) ≤ (m.horizon + 1) * (square * span * m.factor)
    payments = mul-le years _ (m.horizon + 1) _ (omega arith) (mul-le-mul_right m.factor one)

    weighed : 1 * ((m.horizon + 1) * (square * span * m.factor))
        ≤ m.weight * ((m.horizon + 1) * (square * span * m.factor))
    weighed = mul-le-mul_right _ weighty

    room : m.weight * ((m.horizon + 1) * (square * span * m.factor))
        ≤ 6 * square * m.weight * (m.horizon + 1) * span * m.factor * 1
    room = omega arith

-- so many products for each of some years are within those of a valuation along a tree
pub products-few : (years each horizon m : ℕ) → years ≤ horizon + 1 → each ≤ 16 * (m + 1) ^ 2
    → years * each ≤ 16 * (horizon + 1) * (m + 1) ^ 2
products-few years each horizon m few small =
    omega (arith, mul-le years each (horizon + 1) (16 * (m + 1) ^ 2) few small)

pub some-square : (m : ℕ) → 1 ≤ (m + 1) ^ 2
some-square m = let some : 1 ^ 2 ≤ (m + 1) ^ 2 = pow-le-pow_left one 2 in omega (arith, some)
  where
    one : 1 ≤ m + 1
    one = omega arith

-- a year of an annuity, one of an insurance by its body, and one of an event
pub year-few : (m : ℕ) → 2 * (m + 1) ^ 2 + 2 ≤ 16 * (m + 1) ^ 2
year-few m = omega (arith, some-square m)

pub insured-year-few : (m : ℕ) → 2 * (m + 1) ^ 2 + 3 ≤ 16 * (m + 1) ^ 2
insured-year-few m = omega (arith, some-square m)

pub event-few : (m : ℕ) → 4 * (m + 1) ^ 2 + 3 ≤ 16 * (m + 1) ^ 2
event-few m = omega (arith, some-square m)

-- the products of a year more: one for the discount factor, and those of its payment
pub products-more : (old before now new square t start : ℕ) → start ≤ t
    → before ≤ old + (t - start) * (2 * square + 2) → now ≡ before + 1 → new ≤ now + 2 * square + 1
    → new ≤ old + (t + 1 - start) * (2 * square + 2)
products-more old before now new square t start from so_far one more_of_year =
    let years : t + 1 - start ≡ (t - start) + 1 = omega arith in
    rw years (omega (arith, so_far, one, more_of_year))
