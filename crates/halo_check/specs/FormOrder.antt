-- The order of the forms of a contract's lines.
use Rattle.std.specs.Prelude.{◌≢◌, ◌<◌, ◌≤◌, length, None}
use Rattle.halo_syntax.specs.Forms.{place_of_form}
use Rattle.halo_syntax.specs.declared.form.Form.{Form}
use Rattle.halo_syntax.specs.declared.form.Form.TheVariants as form
use Rattle.halo_check.specs.Draft.{Draft}

-- a line of this form is among some lines
abbrev pub CameBefore : Draft → Form → Type 0
CameBefore d form.Interest = d.interest ≢ None
CameBefore d form.Life = 0 < length d.lives
CameBefore d form.Ties = d.ties ≢ None
CameBefore d form.Pay = 0 < length d.pays
CameBefore d form.Premium = d.premium ≢ None
CameBefore d form.Reserve = 0 < length d.reserves

-- no line of a later form came before
abbrev pub IsInOrder : Draft → Form → Type 0
IsInOrder d f = (earlier : Form) → CameBefore d earlier → place_of_form earlier ≤ place_of_form f
