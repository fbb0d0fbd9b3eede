-- The draft that the canonical text of a contract makes: a rule for ties that holds without a line is left unsaid.
use Rattle.std.proofs.Common.{◌≡◌, ◌≢◌, List, Option, Some, None, ap, refl}
use Rattle.std.specs.Prelude.{unwrap_or}
use Rattle.halo_table.specs.DecrementTable.{TableFile}
use Rattle.halo_contract.specs.declared.ties.Ties.{Ties}
use Rattle.halo_contract.specs.declared.ties.Ties.TheVariants as rule
use Rattle.halo_check.specs.Draft.{Draft, contract_made}
use Rattle.halo_check.specs.FormOrder.{CameBefore}
use Rattle.halo_syntax.specs.Line.{Line}
use Rattle.halo_syntax.specs.declared.form.Form.{Form}
use Rattle.halo_syntax.specs.declared.form.Form.TheVariants as form
use Rattle.halo_spell.specs.ContractText.{canonical_lines}

-- the canonical lines of the contract that a draft makes
abbrev pub lines_for : TableFile → Draft → List Line
lines_for tables d = canonical_lines tables (contract_made d)

-- a rule for ties where the one that holds without a line is left unsaid
abbrev pub brief_rule : Option Ties → Option Ties
brief_rule None = None
brief_rule (Some rule.Declared) = None
brief_rule (Some rule.Even) = Some rule.Even

-- what lines have said, with the rule for ties told so
abbrev pub briefly : Draft → Draft
briefly d = record d { ties = brief_rule d.ties }

-- the rule that holds is the same
same_rule : (t : Option Ties) → unwrap_or t rule.Declared ≡ unwrap_or (brief_rule t) rule.Declared
same_rule None = refl
same_rule (Some rule.Declared) = refl
same_rule (Some rule.Even) = refl

-- and so is the contract
pub same_contract : (d : Draft) → contract_made d ≡ contract_made (briefly d)
same_contract d = ap (λ r. record (contract_made d) { ties = r }) (same_rule d.ties)

-- a rule that is told briefly was told
told : (t : Option Ties) → brief_rule t ≢ None → t ≢ None
told t brief none = brief (ap brief_rule none)

-- so each form of a line that came before did so
pub came : (d : Draft) (f : Form) → CameBefore (briefly d) f → CameBefore d f
came d form.Interest h = h
came d form.Life h = h
came d form.Ties h = told d.ties h
came d form.Pay h = h
came d form.Premium h = h
came d form.Reserve h = h
