-- How wide an enclosure of a value may be: counts of rounding steps, from the contract and its
-- tables alone.
use Rattle.std.specs.Prelude.{ℕ, ◌+◌, ◌*◌, ◌^◌, cond, List, [], ◌∷◌, length, map, max, ℤ, pos, negsuc, suc}
use Rattle.halo_sums.specs.Sums.{numbers_from, sum_over}
use Rattle.halo_status.specs.Tree.{Tree}
use Rattle.halo_status.specs.Naming.{names_life}
use Rattle.halo_status.specs.Nodes.{nodes}
use Rattle.halo_status.specs.Pay.{PlainPay}
use Rattle.halo_status.specs.declared.pay.Kind.{Kind}
use Rattle.halo_status.specs.declared.pay.Kind.TheVariants.{Insurance, Due, Immediate}
use Rattle.halo_status.specs.declared.pay.Vary.{Vary}
use Rattle.halo_status.specs.declared.pay.Vary.TheVariants.{Level, Increasing, Decreasing}
use Rattle.halo_model.specs.Basis.{Basis}
use Rattle.halo_model.specs.Horizon.{horizon}
use Rattle.halo_contract.specs.declared.ties.Ties.{Ties}
use Rattle.halo_contract.specs.declared.ties.Ties.TheVariants.{Even}
use Rattle.halo_model.specs.Segment.{coefficients_at, first_time}

-- how many of n lives a status names
abbrev pub lives_named : ℕ → Tree → ℕ
lives_named n body = sum_over (numbers_from 0 n) (λ i. cond (names_life i body) 1 0)

-- how large an integer is without its sign
abbrev pub size : ℤ → ℕ
size (pos n) = n
size (negsuc n) = suc n

-- the greatest of some numbers, at least the first
abbrev pub greatest : ℕ → List ℕ → ℕ
greatest least [] = least
greatest least (n ∷ ns) = max n (greatest least ns)

-- the weight of a form (G): the greatest sum of the sizes of its coefficients over its times, at
-- least 1
abbrev pub form_weight : PlainPay → ℕ → ℕ → ℕ
form_weight pay n horizon = greatest 1
    (map (λ t. sum_over (coefficients_at pay n t) size)
    (numbers_from (first_time pay.kind) horizon))

-- the greatest factor of a pay up to its horizon (f)
abbrev pub greatest_factor : Vary → ℕ → ℕ
greatest_factor Level horizon = 1
greatest_factor Increasing horizon = horizon + 1
greatest_factor (Decreasing n) horizon = n

-- by how much more an insurance on n named lives may be wide where each order of the lives counts
abbrev pub order_share : Ties → Kind → ℕ → ℕ
order_share Even Insurance named = 2 ^ (named + 1)
order_share _ _ named = 1

-- what the counts of a pay are made of, each from the contract and its tables: the nodes of its
-- body, the lives that it names, its horizon, the weight of its form, its greatest factor, and the
-- share of the orders
pub record Measures : Type 0 where
  pub nodes : ℕ
  pub named : ℕ
  pub horizon : ℕ
  pub weight : ℕ
  pub factor : ℕ
  pub share : ℕ

abbrev pub measures_of : Basis → PlainPay → Measures
measures_of b pay =
    let lives : ℕ = length b.lives in
    let years : ℕ = horizon b.lives pay.body in
    record {
      nodes = nodes pay.body;
      named = lives_named lives pay.body;
      horizon = years;
      weight = form_weight pay lives years;
      factor = greatest_factor pay.vary years;
      share = order_share b.ties pay.kind (lives_named lives pay.body);
    }

-- the width in fine units that the value of a pay of amount 1 may have (Count)
unfoldable pub width_count : Measures → ℕ
width_count m =
    6 * (m.nodes + 1) ^ 2 * m.weight * (m.horizon + 1) * (m.horizon + m.named + 3) * m.factor
    * m.share

-- the most that a pay of amount 1 can be worth (Most)
unfoldable pub most_worth : Kind → Measures → ℕ
most_worth Insurance m = m.factor
most_worth Due m = m.factor * (m.horizon + 1)
most_worth Immediate m = m.factor * (m.horizon + 1)
