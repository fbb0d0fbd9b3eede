-- The pays so far have their forms.
use Rattle.std.proofs.Common.{length, map, take}
use Rattle.std.specs.List.{AllZip}
use Rattle.halo_status.specs.Pay.{pay_of}
use Rattle.halo_model.specs.FromTables.{lives_of}
use Rattle.halo_value.specs.Forms.{IsFormOn}
use Rattle.halo_value.proofs.forms.forms_of_pays.Given as goal

abbrev pub invariant-loop-pay : goal.invariant-loop-pay
invariant-loop-pay g l = AllZip (IsFormOn (length l.lives) (lives_of l.tables l.lives))
    (map pay_of (take l.pay-index l.pays)) l.forms.items
