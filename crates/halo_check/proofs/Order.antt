-- The order of the forms, from one to the next.
use Rattle.std.proofs.Common.{◌≡◌, ◌≢◌, ◌+◌, ◌≤◌, ℕ, zero, suc, arith, refl, ap, sym, ◌∙◌, subst}
use Rattle.halo_check.specs.Draft.{Draft}
use Rattle.halo_syntax.specs.Forms.{place_of_form}
use Rattle.halo_check.specs.FormOrder.{CameBefore, IsInOrder}
use Rattle.halo_syntax.specs.declared.form.Form.{Form}
use Rattle.halo_syntax.specs.declared.form.Form.TheVariants as form

-- the form at a place of the order
form_at : ℕ → Form
form_at zero = form.Interest
form_at (suc zero) = form.Life
form_at (suc (suc zero)) = form.Ties
form_at (suc (suc (suc zero))) = form.Pay
form_at (suc (suc (suc (suc zero)))) = form.Premium
form_at (suc (suc (suc (suc (suc n))))) = form.Reserve

form_at-place : (f : Form) → form_at (place_of_form f) ≡ f
unfolding form_at
form_at-place form.Interest = refl
form_at-place form.Life = refl
form_at-place form.Ties = refl
form_at-place form.Pay = refl
form_at-place form.Premium = refl
form_at-place form.Reserve = refl

-- forms at one place are one form
one_form : (f g : Form) → place_of_form f ≡ place_of_form g → f ≡ g
one_form f g e = sym (form_at-place f) ∙ ap form_at e ∙ form_at-place g

-- a form is in order where the next one did not come before and is in order itself
pub order_from_next : (d : Draft) (f g : Form) → place_of_form g ≡ place_of_form f + 1 → (CameBefore d g → ⊥)
    → IsInOrder d g → IsInOrder d f
order_from_next d f g next none order earlier came =
    let within = order earlier came in
    let other : place_of_form earlier ≢ place_of_form g =
    (λ e. none (subst (CameBefore d) (one_form earlier g e) came)) in
    omega (arith, within, next, other)

pub most_place : (f : Form) → place_of_form f ≤ 5
most_place form.Interest = omega arith
most_place form.Life = omega arith
most_place form.Ties = omega arith
most_place form.Pay = omega arith
most_place form.Premium = omega arith
most_place form.Reserve = omega arith

pub last_in_order : (d : Draft) (f : Form) → place_of_form f ≡ 5 → IsInOrder d f
last_in_order d f last earlier came = let most = most_place earlier in omega (arith, most, last)
