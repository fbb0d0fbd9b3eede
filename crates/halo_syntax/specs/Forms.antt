-- The forms of a contract's lines, and their places in the order in which they come.
use Rattle.std.specs.Prelude.{ℕ}
use Rattle.halo_syntax.specs.Line.{Line, interest, life, ties, pay, premium, reserve}
use Rattle.halo_syntax.specs.declared.form.Form.{Form}
use Rattle.halo_syntax.specs.declared.form.Form.TheVariants as form

-- the place of a form in the order
abbrev pub place_of_form : Form → ℕ
place_of_form form.Interest = 0
place_of_form form.Life = 1
place_of_form form.Ties = 2
place_of_form form.Pay = 3
place_of_form form.Premium = 4
place_of_form form.Reserve = 5

-- the form of a line
abbrev pub form_of : Line → Form
form_of (interest p q rates) = form.Interest
form_of (life name table age) = form.Life
form_of (ties r) = form.Ties
form_of (pay amount symbol) = form.Pay
form_of (premium status) = form.Premium
form_of (reserve time names) = form.Reserve
