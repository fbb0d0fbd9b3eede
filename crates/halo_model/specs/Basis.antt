-- The basis of a valuation: interest, lives and the rule for ties.
use Rattle.std.specs.Prelude.{ℕ, ◌+◌, ◌-◌, ◌*◌, List, length}
use Rattle.halo_sums.specs.Sums.{numbers_from, product_over}
use Rattle.halo_model.specs.Life.{PlainLife}
use Rattle.halo_model.specs.Order.{orders_taken}
use Rattle.halo_contract.specs.declared.ties.Ties.{Ties}

-- Year k has the interest p k / q k. The last time is the last at which anything is paid. The lives
-- stand in the declared order.
pub record Basis : Type 0 where
  pub p : ℕ → ℕ
  pub q : ℕ → ℕ
  pub last_time : ℕ
  pub lives : List PlainLife
  pub ties : Ties

-- the orders in which the lives of one year may leave
abbrev pub taken : Basis → List (List ℕ)
taken b = orders_taken b.ties (length b.lives)

-- 1 at time t with the interest of all years from there to the last time, cleared of fractions: the
-- product of p + q
-- (1 + i)^n · q^n, where each of the n years has the interest i = p / q
abbrev pub accumulated : Basis → ℕ → ℕ
accumulated b t = product_over (numbers_from t (b.last_time - t)) (λ k. b.p k + b.q k)

-- the value at time T of 1 paid at time t, cleared of fractions: year k has the discount factor
-- q / (p + q), and the value is told in the parts of which 1 has accumulated b T
-- v^(t-T), where each year has the discount factor v = 1 / (1 + i)
abbrev pub discounted : Basis → ℕ → ℕ → ℕ
discounted b T t = product_over (numbers_from T (t - T)) b.q * accumulated b t
