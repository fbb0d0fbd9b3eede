-- All pays of a contract have forms.
use Rattle.std.proofs.Common.{ℕ, List, [], ◌∷◌, ◌≤◌, arith, length}
use Rattle.std.specs.List.{AllZip}
use Rattle.halo_status.specs.Pay.{PlainPay}
use Rattle.halo_table.specs.DecrementTable.{TableFile}
use Rattle.halo_contract.specs.PlainContract.{PlainContract}
use Rattle.halo_model.specs.ContractBasis.{contract_basis}
use Rattle.halo_model.specs.Horizon.{horizon}
use Rattle.halo_model.specs.Life.{PlainLife}
use Rattle.halo_status.specs.Tree.{Tree}
use Rattle.halo_compile.specs.declared.form.Segment.{Segment}
use Rattle.halo_value.specs.Forms.{AreForms, IsFormOn, pays_with_premium}
use Rattle.halo_value.proofs.SomeForm.{form-exists}

-- a horizon has a year
pub some-years : (lives : List PlainLife) (body : Tree) → 1 ≤ horizon lives body
unfolding horizon
some-years lives body = omega arith

pays-have-forms : (m n : ℕ) (lives : List PlainLife) (pays : List PlainPay)
    → (forms : List (List (Segment m))) × AllZip (IsFormOn n lives) pays forms
pays-have-forms m n lives [] = ([], tt)
pays-have-forms m n lives (pay ∷ pays) =
    let form = form-exists pay n m (horizon lives pay.body) (some-years lives pay.body) in
    let forms = pays-have-forms m n lives pays in
    (form.0 ∷ forms.0, (form.1, forms.1))

pub contracts-have-forms : (tables : TableFile) (contract : PlainContract) (m : ℕ)
    → (forms : List (List (Segment m))) × AreForms tables contract forms
contracts-have-forms tables contract m =
    pays-have-forms m (length contract.lives) (contract_basis tables contract).lives (pays_with_premium contract)
