-- Each contract that can be valued has an explanation.
use Rattle.std.proofs.Common.{◌≡◌, ℕ, zero, suc, ◌≤◌, ◌++◌, List, [], ◌∷◌, length, map, flat_map, Bool, true, false, ap, arith, refl, sym, ◌∙◌}
use Rattle.std.specs.Prelude.{⊤, replicate}
use Rattle.std.specs.List.{AllZip}
use Rattle.halo_sums.specs.Masks.{bits}
use Rattle.halo_sums.specs.SetMasks.{mask_of}
use Rattle.halo_sums.specs.SetsInOrder.{sets_in_order, sets_of_size}
use Rattle.halo_sums.specs.Sums.{numbers_from}
use Rattle.halo_sums.proofs.SetMasks.{bits-mask_of}
use Rattle.halo_status.specs.Naming.{names_life, names_term}
use Rattle.halo_status.specs.Pay.{PlainPay}
use Rattle.halo_status.specs.declared.pay.Kind.{Kind}
use Rattle.halo_status.specs.declared.pay.Kind.TheVariants.{Insurance, Due, Immediate}
use Rattle.halo_table.specs.DecrementTable.{TableFile}
use Rattle.halo_table.specs.Sound.{IsSound}
use Rattle.halo_contract.specs.PlainContract.{PlainContract}
use Rattle.halo_contract.specs.Premium.{all_lives}
use Rattle.halo_contract.specs.ValidContract.{IsValidContract}
use Rattle.halo_model.specs.Basis.{Basis}
use Rattle.halo_model.specs.Coefficient.{form}
use Rattle.halo_model.specs.ContractBasis.{contract_basis}
use Rattle.halo_model.specs.Horizon.{horizon}
use Rattle.halo_model.specs.PayPart.{ArePartsByKind, PayPart, annuity_parts, by_set, insurance_parts, is_some, on_life, on_term, part_numerator, parts_by_sets, parts_on_lives, parts_on_terms}
use Rattle.halo_model.specs.Segment.{Run}
use Rattle.halo_model.specs.Value.{denominator}
use Rattle.halo_model.specs.Widths.{printed_pay_width}
use Rattle.halo_model.proofs.Positive.{contracts-have-positive-denominators}
use Rattle.halo_compile.specs.Form.{run_of}
use Rattle.halo_lines.specs.Parts.{ExplainsContract, ExplainsPay, TellsPart}
use Rattle.halo_lines.specs.declared.parts.Part.{Part}
use Rattle.halo_lines.specs.declared.parts.Part.TheVariants as part
use Rattle.halo_lines.proofs.ContractReports.{a-line}
use Rattle.halo_value.proofs.SomeForm.{form-exists}
use Rattle.halo_value.proofs.SomeForms.{some-years}

-- sets of n lives
abbrev AreOf : ℕ → List (List Bool) → Type 0
AreOf n [] = ⊤
AreOf n (s ∷ sets) = (length s ≡ n) × AreOf n sets

of-both : (n : ℕ) (sets others : List (List Bool)) → AreOf n sets → AreOf n others → AreOf n (sets ++ others)
of-both n [] others all also = also
of-both n (s ∷ sets) others all also = (all.0, of-both n sets others all.1 also)

of-more : (n : ℕ) (life : Bool) (sets : List (List Bool)) → AreOf n sets → AreOf (suc n) (map (λ s. life ∷ s) sets)
of-more n life [] all = tt
of-more n life (s ∷ sets) all = (ap suc all.0, of-more n life sets all.1)

no-lives : (n : ℕ) → length (replicate n false) ≡ n
no-lives zero = refl
no-lives (suc n) = ap suc (no-lives n)

of-size : (k n : ℕ) → AreOf n (sets_of_size k n)
of-size zero n = (no-lives n, tt)
of-size (suc k) zero = tt
of-size (suc k) (suc n) = of-both (suc n) (map (λ s. true ∷ s) (sets_of_size k n)) _
    (of-more n true (sets_of_size k n) (of-size k n)) (of-more n false (sets_of_size (suc k) n) (of-size (suc k) n))

of-sizes : (n : ℕ) (sizes : List ℕ) → AreOf n (flat_map (λ k. sets_of_size k n) sizes)
of-sizes n [] = tt
of-sizes n (k ∷ sizes) =
    of-both n (sets_of_size k n) (flat_map (λ j. sets_of_size j n) sizes) (of-size k n) (of-sizes n sizes)

module _ (b : Basis) (pay : PlainPay) (positive : 1 ≤ denominator b 0 all_lives) where
  -- some parts are told
  abbrev Told : List PayPart → Type 0
  Told parts = (told : List Part) × AllZip (TellsPart b pay) parts told

  told-more : (part : PayPart) (parts : List PayPart) (one : Part) → TellsPart b pay part one → Told parts
      → Told (part ∷ parts)
  told-more part parts one tells (told, all) = (one ∷ told, (tells, all))

  told-both : (parts others : List PayPart) → Told parts → Told others → Told (parts ++ others)
  told-both [] others (told, all) also = also
  told-both (part ∷ parts) others ([], all) also = absurd all
  told-both (part ∷ parts) others (one ∷ told, all) also =
      told-more part (parts ++ others) one all.0 (told-both parts others (told, all.1) also)

  wide : 1 ≤ printed_pay_width b pay
  unfolding printed_pay_width
  wide = omega arith

  told-sets : (run : Run) (sets : List (List Bool)) → AreOf (length b.lives) sets → Told (parts_by_sets pay run sets)
  told-sets run [] all = ([], tt)
  told-sets run (s ∷ sets) all = by-coefficient (is_some (form pay run.first s)) refl (told-sets run sets all.1)
    where
      by-coefficient : (there : Bool) → is_some (form pay run.first s) ≡ there → Told (parts_by_sets pay run sets)
          → Told (parts_by_sets pay run (s ∷ sets))
      by-coefficient false is rest = rw is rest
      by-coefficient true is rest =
          let line = a-line (part_numerator b pay (by_set run s)) (denominator b 0 all_lives)
          (printed_pay_width b pay) positive wide in
          let mask = sym (bits-mask_of s) ∙ ap (λ (n : ℕ). bits n (mask_of s)) all.0 in
          rw is (told-more (by_set run s) (parts_by_sets pay run sets)
          (part.Term run.first run.last (form pay run.first s) (mask_of s) line.0) (refl, mask, refl, line.1) rest)

  told-runs : (runs : List Run) → Told (annuity_parts pay (length b.lives) runs)
  told-runs [] = ([], tt)
  told-runs (run ∷ runs) = told-both (parts_by_sets pay run (sets_in_order (length b.lives))) _
      (told-sets run (sets_in_order (length b.lives))
      (of-sizes (length b.lives) (numbers_from 0 (suc (length b.lives)))))
      (told-runs runs)

  told-lives : (lives : List ℕ) → Told (parts_on_lives pay.body lives)
  told-lives [] = ([], tt)
  told-lives (a ∷ lives) = by-name (names_life a pay.body) refl (told-lives lives)
    where
      by-name : (named : Bool) → names_life a pay.body ≡ named → Told (parts_on_lives pay.body lives)
          → Told (parts_on_lives pay.body (a ∷ lives))
      by-name false is rest = rw is rest
      by-name true is rest =
          let line = a-line (part_numerator b pay (on_life a)) (denominator b 0 all_lives)
          (printed_pay_width b pay) positive wide in
          rw is (told-more (on_life a) (parts_on_lives pay.body lives) (part.OnLife a line.0) (refl, line.1) rest)

  told-terms : (lengths : List ℕ) → Told (parts_on_terms pay.body lengths)
  told-terms [] = ([], tt)
  told-terms (n ∷ lengths) = by-name (names_term n pay.body) refl (told-terms lengths)
    where
      by-name : (named : Bool) → names_term n pay.body ≡ named → Told (parts_on_terms pay.body lengths)
          → Told (parts_on_terms pay.body (n ∷ lengths))
      by-name false is rest = rw is rest
      by-name true is rest =
          let line = a-line (part_numerator b pay (on_term n)) (denominator b 0 all_lives)
          (printed_pay_width b pay) positive wide in
          rw is (told-more (on_term n) (parts_on_terms pay.body lengths) (part.OnTerm n line.0) (refl, line.1) rest)

  -- the parts of a pay of each kind
  abbrev Explained : Kind → Type 0
  Explained kind = (told : List Part) × (parts : List PayPart) × ArePartsByKind kind b pay parts
      × AllZip (TellsPart b pay) parts told

  annuity : Explained Due
  annuity =
      let found = form-exists pay (length b.lives) 0 (horizon b.lives pay.body) (some-years b.lives pay.body) in
      let runs = map run_of found.0 in
      let told = told-runs runs in
      (told.0, annuity_parts pay (length b.lives) runs, (runs, found.1.runs, refl), told.1)

  by-kind : (kind : Kind) → Explained kind
  by-kind Insurance =
      let told = told-both (parts_on_lives pay.body (numbers_from 0 (length b.lives))) _
      (told-lives (numbers_from 0 (length b.lives))) (told-terms (numbers_from 1 b.last_time)) in
      (told.0, insurance_parts b pay, refl, told.1)
  by-kind Due = annuity
  by-kind Immediate = annuity

pays-are-explained : (b : Basis) → 1 ≤ denominator b 0 all_lives → (pays : List PlainPay)
    → (told : List (List Part)) × AllZip (ExplainsPay b) pays told
pays-are-explained b positive [] = ([], tt)
pays-are-explained b positive (pay ∷ pays) =
    let first = by-kind b pay positive pay.kind in
    let rest = pays-are-explained b positive pays in
    (first.0 ∷ rest.0, ((first.1, first.2, first.3), rest.1))

pub contracts-have-explanations : (tables : TableFile) → IsSound tables → (contract : PlainContract)
    → IsValidContract tables contract → (told : List (List Part)) × ExplainsContract tables contract told
contracts-have-explanations tables sound contract valid = pays-are-explained (contract_basis tables contract)
    (contracts-have-positive-denominators tables sound contract valid).at_start contract.pays
