-- What the forms of a contract make of its text.
use Rattle.std.proofs.Common.{◌≡◌, ℕ, ◌^◌, List, [], ◌∷◌, length, length-append, ap, subst, ◌∙◌, suc, refl}
use Rattle.std.specs.List.{AllZip}
use Rattle.std.specs.Option.{option_to_list}
use Rattle.halo_table.specs.DecrementTable.{TableFile}
use Rattle.halo_contract.specs.PlainContract.{PlainContract}
use Rattle.halo_compile.specs.declared.form.Segment.{Segment}
use Rattle.halo_report.specs.FormText.{form_count, form_text}
use Rattle.halo_value.specs.Forms.{AreForms}
use Rattle.halo_top.specs.Verdict.{IsTextOf}
use Rattle.halo_top.specs.declared.command.Task.TheVariants as task

-- lists that match have one length
pub zip-length : {A B : Type 0} (R : A → B → Type 0) (xs : List A) (ys : List B)
    → AllZip R xs ys → length ys ≡ length xs
zip-length R [] [] all = refl
zip-length R (x ∷ xs) (y ∷ ys) all = ap suc (zip-length R xs ys all.1)
zip-length R [] (y ∷ ys) all = absurd all
zip-length R (x ∷ xs) [] all = absurd all

module _ (tables : TableFile) (contract : PlainContract) {m : ℕ} (forms : List (List (Segment m)))
    (are : AreForms tables contract forms) where
  -- there is one for each pay, and one for the premium, where there is one
  pub forms-count : length forms ≡ form_count contract
  forms-count = zip-length _ _ forms are ∙ length-append contract.pays (option_to_list contract.premium)

  -- their text is what the task writes
  pub forms-told : m ≡ 2 ^ length contract.lives → (text : List ℕ) → text ≡ form_text tables contract forms
      → IsTextOf task.Compile tables contract text
  forms-told sets text is = subst
      (λ (k : ℕ). (fs : List (List (Segment k))) × AreForms tables contract fs × (text ≡ form_text tables contract fs))
      sets (forms, are, is)
