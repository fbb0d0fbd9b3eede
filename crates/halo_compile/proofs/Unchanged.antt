-- A pay exists on the same sets of lives as a year before, unless one of its terms ends.
use Rattle.std.proofs.Common.{◌≡◌, ◌≢◌, ℕ, ◌-◌, ◌≤◌, arith, refl, ap, sym, ◌∙◌, List, Bool, true, false}
use Rattle.std.proofs.lemmas.Bool.{false≢true}
use Rattle.std.proofs.lemmas.Bool.Decides.{nat_tests}
use Rattle.halo_sums.specs.Sums.{indicator}
use Rattle.halo_sums.specs.Sets.{in_set}
use Rattle.halo_status.specs.Naming.{names_term}
use Rattle.halo_status.specs.Pay.{PlainPay}
use Rattle.halo_status.specs.View.{is_on}
use Rattle.halo_status.specs.declared.pay.Kind.{Kind}
use Rattle.halo_status.specs.declared.pay.Kind.TheVariants.{Insurance, Due as DuePay, Immediate as ImmediatePay}
use Rattle.halo_model.specs.Coefficient.{existence, view_of}
use Rattle.halo_compile.specs.Terms.{last_term}
use Rattle.halo_compile.proofs.Agreeing.{agree_by_mark}

-- a term of another length is on as a year before
other_term : (kind : Kind) (t n : ℕ) → 1 ≤ t → n ≢ last_term kind t
    → is_on (view_of kind) t n ≡ is_on (view_of kind) (t - 1) n
other_term Insurance t n h ne = grind (arith, nat_tests)
other_term DuePay t n h ne = grind (arith, nat_tests)
other_term ImmediatePay t n h ne = grind (arith, nat_tests)

pub unchanged : (pay : PlainPay) (t : ℕ) → 1 ≤ t → names_term (last_term pay.kind t) pay.body ≡ false → (u : List Bool)
    → existence pay t u ≡ existence pay (t - 1) u
unchanged pay t h unnamed u =
    ap indicator
    (agree_by_mark (in_set u) (in_set u) (is_on (view_of pay.kind) t) (is_on (view_of pay.kind) (t - 1)) pay.mark
    pay.body (λ i e. refl) (λ n e. other_term pay.kind t n h (named n e)))
  where
    named : (n : ℕ) → names_term n pay.body ≡ true → n ≢ last_term pay.kind t
    named n e same = false≢true (sym unnamed ∙ rw same at e)
