-- What a valid contract says of the forms of its pays.
use Rattle.std.proofs.Common.{◌≡◌, ℕ, ◌^◌, ◌++◌, List, [], ◌∷◌, None, Some, length, arith, sym}
use Rattle.std.specs.Prelude.{All}
use Rattle.std.specs.List.{AllZip}
use Rattle.std.proofs.lemmas.List.{append-nil, length-map}
use Rattle.std.proofs.lemmas.Slice.Zip.{all_zipped_more}
use Rattle.halo_status.specs.Pay.{PlainPay}
use Rattle.halo_table.specs.DecrementTable.{TableFile}
use Rattle.halo_table.specs.declared.lives.Life.{Life}
use Rattle.halo_contract.specs.PlainContract.{PlainContract}
use Rattle.halo_contract.specs.ValidContract.{IsValidContract}
use Rattle.halo_contract.specs.declared.contract.LifeLine.{LifeLine}
use Rattle.halo_model.specs.FromTables.{lives_of}
use Rattle.halo_compile.specs.declared.form.Segment.{Segment}
use Rattle.halo_value.specs.Forms.{AreForms, HaveSets, IsFormOn}
use Rattle.halo_value.specs.Setting.{CanBeValued}
use Rattle.halo_value.specs.Setting.{declared}
use Rattle.halo_value.proofs.OfContract.{pays-valued, rows-at}

module _ (tables : TableFile) (contract : PlainContract) (valid : IsValidContract tables contract)
    (lives : List Life) (told : lives ≡ declared contract.lives) where
  count : length contract.lives ≡ length lives
  count = rw told (sym (length-map contract.lives (λ (line : LifeLine). line.life)))

  pub have-sets : (m : ℕ) → m ≡ 2 ^ length contract.lives → HaveSets tables lives m
  have-sets m sets = record {
    sets = rw (← count) sets;
    some = omega (arith, count, valid.some_lives);
    few = omega (arith, count, valid.few_lives);
    rows = λ i below. rw told (rows-at tables contract valid (length lives) count i below);
  }

  pub pays-compiled : All (CanBeValued (length lives)) contract.pays
  pays-compiled = pays-valued tables contract valid (length lives) count

  pub premium-compiled : (pay : PlainPay) → contract.premium ≡ Some pay → CanBeValued (length lives) pay
  premium-compiled pay is =
      let among = (rw is at valid.premium).among in
      record { valid = among.valid; named = λ i names. omega (arith, among.named i names, count) }

  module _ {m : ℕ} (forms : List (List (Segment m)))
      (of_pays : AllZip (IsFormOn (length lives) (lives_of tables lives)) contract.pays forms) where
    abbrev IsOnContract : PlainPay → List (Segment m) → Type 0
    IsOnContract = IsFormOn (length contract.lives) (lives_of tables (declared contract.lives))

    on-contract : AllZip IsOnContract contract.pays forms
    on-contract = rw (count, ← told) of_pays

    pub without-premium : contract.premium ≡ None → AreForms tables contract forms
    without-premium is = rw (is, append-nil contract.pays) on-contract

    pub with-premium : (pay : PlainPay) (form : List (Segment m)) → contract.premium ≡ Some pay
        → IsFormOn (length lives) (lives_of tables lives) pay form → AreForms tables contract (forms ++ form ∷ [])
    with-premium pay form is of_premium =
        rw is
        (all_zipped_more IsOnContract contract.pays forms pay form on-contract (rw (count, ← told) of_premium))
