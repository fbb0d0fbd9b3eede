-- The compiled form of a pay: its coefficients by inclusion and exclusion.
-- ä_(bar x:y) = ä_x + ä_y - ä_(x:y), and for at least r of m statuses, S_j being the sum over the
-- joint statuses of j of them, Σ_(j ≥ r) (-1)^(j-r) · C(j-1, r-1) · S_j; for exactly r of them,
-- Σ_(j ≥ r) (-1)^(j-r) · C(j, r) · S_j
use Rattle.std.specs.Prelude.{ℕ, ◌-◌, Bool, false, ◌&&◌, nat_eq, List, get_or, length, Option, Some, None, ℤ}
use Rattle.halo_sums.specs.Sums.{count_true, indicator}
use Rattle.halo_sums.specs.Sets.{in_set}
use Rattle.halo_sums.specs.Coefficients.{coefficient}
use Rattle.halo_status.specs.Tree.{Tree}
use Rattle.halo_status.specs.Exists.{each_exists, exists}
use Rattle.halo_status.specs.View.{is_on}
use Rattle.halo_status.specs.Pay.{PlainPay}
use Rattle.halo_status.specs.declared.pay.Mark.{Mark}
use Rattle.halo_status.specs.declared.pay.Kind.{Kind}
use Rattle.halo_status.specs.declared.pay.Kind.TheVariants.{Insurance, Due as DuePay, Immediate as ImmediatePay}
use Rattle.halo_status.specs.declared.view.View.{View}
use Rattle.halo_status.specs.declared.view.View.TheVariants.{Due, Immediate}
use Rattle.halo_model.specs.Payment.{members_of}

-- at which end of the years a kind of pay looks at its terms
abbrev pub view_of : Kind → View
view_of Insurance = Due
view_of ImmediatePay = Immediate
view_of DuePay = Due

-- whether, of m members told by whether they exist, the marked one and exactly m - r others exist:
-- it fails at its rank if it fails next
abbrev pub waits_at_rank : Mark → List Bool → Bool
waits_at_rank mark members =
    get_or members mark.member false && nat_eq (count_true members - 1) (length members - mark.rank)

-- whether the body of a pay exists where some lives are there and some terms are on, or its marked
-- member waits at its rank
abbrev pub exists_by_mark : Option Mark → Tree → (ℕ → Bool) → (ℕ → Bool) → Bool
exists_by_mark None body alive on = exists alive on body
exists_by_mark (Some mark) body alive on =
    waits_at_rank mark (each_exists alive on (members_of body))

-- the function f of a pay for some terms that are on: 1 for the sets of lives with which it exists,
-- else 0
abbrev pub existence_with : PlainPay → (ℕ → Bool) → List Bool → ℤ
existence_with pay on alive = indicator (exists_by_mark pay.mark pay.body (in_set alive) on)

-- and at time t, for the terms that are on then
abbrev pub existence : PlainPay → ℕ → List Bool → ℤ
existence pay t = existence_with pay (is_on (view_of pay.kind) t)

-- the coefficients of the form of a pay at time t, for each set of lives
-- c(s) = Σ_(u ⊆ s) (-1)^(|s| - |u|) · f(u)
unfoldable pub form : PlainPay → ℕ → List Bool → ℤ
form pay t s = coefficient (existence pay t) s
