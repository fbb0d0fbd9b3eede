-- A contract that a file writes is valid.
use Rattle.std.proofs.Common.{◌≢◌, ◌<◌, ◌≤◌, ℕ, List, [], ◌∷◌, ◌++◌, IfSome, length, inl, inr, subst, sym, refl, arith}
use Rattle.std.specs.Prelude.{All, None, Option, Some, unwrap_or}
use Rattle.std.proofs.lemmas.List.{length_push}
use Rattle.std.proofs.lemmas.List.Elements.{All-nil, All-push}
use Rattle.halo_contract.specs.PlainContract.{life_names}
use Rattle.halo_contract.specs.ValidContract.{IsValidAmong, IsValidContract, IsValidPremium, IsValidReserve}
use Rattle.halo_contract.specs.declared.contract.LifeLine.{LifeLine}
use Rattle.halo_contract.specs.declared.contract.ReserveLine.{ReserveLine}
use Rattle.halo_interest.specs.Rates.{IsInterest}
use Rattle.halo_interest.specs.declared.rate.Rate.{Rate}
use Rattle.halo_status.specs.Pay.{PlainPay}
use Rattle.halo_table.specs.DecrementTable.{TableFile, names_of}
use Rattle.halo_text.specs.Number.{number}
use Rattle.halo_check.specs.Addition.{IsKept}
use Rattle.halo_check.specs.Checks.{PassesAll}
use Rattle.halo_parse.specs.ContractLaws.{ContractsAreValid}
use Rattle.halo_check.specs.Draft.{Draft, contract_made, empty_draft, mask_of_names, pay_written, place_of, with_line}
use Rattle.halo_parse.specs.Faults.{IsWhole, MakesDraft}
use Rattle.halo_syntax.specs.FileLines.{lines_of}
use Rattle.halo_check.specs.FormOrder.{IsInOrder}
use Rattle.halo_syntax.specs.Line.{Line, interest, life, ties, pay, premium, reserve}
use Rattle.halo_syntax.specs.ProperLine.{IsProperLine}
use Rattle.halo_check.specs.declared.fault.ContractKind.TheVariants as kind
use Rattle.halo_syntax.specs.declared.form.Form.TheVariants as form
use Rattle.halo_parse.proofs.Kept.{kept_at_first, kept_by_line}
use Rattle.halo_parse.proofs.ValidInterest.{valid_interest}
use Rattle.halo_parse.proofs.ValidPays.{pays_are_valid, premiums_are_valid}
use Rattle.halo_parse.proofs.ValidReserves.{valid_reserve}

-- what the lines so far have said, each of which passed the checks, is valid
record IsValidDraft (tables : TableFile) (d : Draft) : Type 0 where
  pub kept : IsKept tables d
  pub interest : IfSome d.interest IsInterest
  pub few_pays : length d.pays ≤ 64
  pub pays : All (IsValidAmong (length d.lives) (length tables.causes)) d.pays
  pub premium : IfSome d.premium (IsValidPremium (length d.lives) (length tables.causes))
  pub few_reserves : length d.reserves ≤ 64
  pub reserves : All (IsValidReserve tables d.lives) d.reserves

valid_at_first : (tables : TableFile) → IsValidDraft tables empty_draft
valid_at_first tables = record {
  kept = kept_at_first tables;
  interest = tt;
  few_pays = omega arith;
  pays = All-nil (IsValidAmong 0 (length tables.causes));
  premium = tt;
  few_reserves = omega arith;
  reserves = All-nil (IsValidReserve tables []);
}

-- where a life line stands in order, no line of a later form came before it, and what holds of each
-- thing that those say holds there
module _ (d : Draft) (in_order : IsInOrder d form.Life) where
  no_pays : (P : PlainPay → Type 0) → All P d.pays
  no_pays P i p within =
      let some : 0 < length d.pays = omega arith in
      absurd (omega (arith, in_order form.Pay some))

  no_reserves : (P : ReserveLine → Type 0) → All P d.reserves
  no_reserves P i r within =
      let some : 0 < length d.reserves = omega arith in
      absurd (omega (arith, in_order form.Reserve some))

  no_premium : (P : PlainPay → Type 0) → IfSome d.premium P
  no_premium P = none d.premium (λ some. omega (arith, in_order form.Premium some))
    where
      none : (premium : Option PlainPay) → (premium ≢ None → ⊥) → IfSome premium P
      none None absent = tt
      none (Some p) absent = absurd (absent (λ same. absurd cc))

-- a line that passes all checks keeps it so
valid_by_line : (tables : TableFile) (d : Draft) (l : Line) → IsProperLine l → PassesAll tables d l
    → IsValidDraft tables d → IsValidDraft tables (with_line tables d l)
unfolding with_line
valid_by_line tables d (interest p q rates) proper passes before = record {
  kept = kept_by_line tables d (interest p q rates) before.kept passes;
  interest = valid_interest tables d p q rates passes;
  few_pays = before.few_pays;
  pays = before.pays;
  premium = before.premium;
  few_reserves = before.few_reserves;
  reserves = before.reserves;
}
valid_by_line tables d (life name table age) proper passes before =
    let place = place_of (names_of tables.tables) table in
    let added : LifeLine = record { name = name; life = record { table = place; age = number age } } in
    let lives = d.lives ++ added ∷ [] in
    record {
      kept = kept_by_line tables d (life name table age) before.kept passes;
      interest = before.interest;
      few_pays = before.few_pays;
      pays = no_pays d (passes kind.Order) (IsValidAmong (length lives) (length tables.causes));
      premium = no_premium d (passes kind.Order) (IsValidPremium (length lives) (length tables.causes));
      few_reserves = before.few_reserves;
      reserves = no_reserves d (passes kind.Order) (IsValidReserve tables lives);
    }
valid_by_line tables d (ties r) proper passes before = record {
  kept = kept_by_line tables d (ties r) before.kept passes;
  interest = before.interest;
  few_pays = before.few_pays;
  pays = before.pays;
  premium = before.premium;
  few_reserves = before.few_reserves;
  reserves = before.reserves;
}
valid_by_line tables d (pay amount s) proper passes before =
    let added = pay_written (life_names d.lives) tables.causes amount s in
    let IsAmong = IsValidAmong (length d.lives) (length tables.causes) in
    record {
      kept = kept_by_line tables d (pay amount s) before.kept passes;
      interest = before.interest;
      few_pays = omega (arith, length_push d.pays added, (passes kind.Magnitude).2);
      pays = All-push IsAmong d.pays added before.pays (pays_are_valid tables d amount s proper passes);
      premium = before.premium;
      few_reserves = before.few_reserves;
      reserves = before.reserves;
    }
valid_by_line tables d (premium body) proper passes before = record {
  kept = kept_by_line tables d (premium body) before.kept passes;
  interest = before.interest;
  few_pays = before.few_pays;
  pays = before.pays;
  premium = premiums_are_valid tables d body proper passes;
  few_reserves = before.few_reserves;
  reserves = before.reserves;
}
valid_by_line tables d (reserve time names) proper passes before =
    let added : ReserveLine = record { time = number time; alive = mask_of_names (life_names d.lives) names } in
    let valid = valid_reserve tables d time names before.kept passes in
    record {
      kept = kept_by_line tables d (reserve time names) before.kept passes;
      interest = before.interest;
      few_pays = before.few_pays;
      pays = before.pays;
      premium = before.premium;
      few_reserves = omega (arith, length_push d.reserves added, (passes kind.Magnitude).2);
      reserves = All-push (IsValidReserve tables d.lives) d.reserves added before.reserves valid;
    }

valid_by_lines : (tables : TableFile) (d final : Draft) (texts : List (List ℕ)) → IsValidDraft tables d
    → MakesDraft tables d texts final → IsValidDraft tables final
valid_by_lines tables d final [] before makes = subst (IsValidDraft tables) (sym makes) before
valid_by_lines tables d final (text ∷ texts) before (inl silent) = valid_by_lines tables d final texts before silent.1
valid_by_lines tables d final (text ∷ texts) before (inr (l, fine, rest)) =
    let next = valid_by_line tables d l fine.spells.proper fine.passes before in
    valid_by_lines tables (with_line tables d l) final texts next rest

interest_made : (interest : Option (List Rate)) → interest ≢ None → IfSome interest IsInterest
    → IsInterest (unwrap_or interest [])
interest_made None some valid = absurd (some refl)
interest_made (Some rates) some valid = valid

-- a whole draft that is valid makes a valid contract
valid_made : (tables : TableFile) (d : Draft) → IsWhole d → IsValidDraft tables d
    → IsValidContract tables (contract_made d)
valid_made tables d whole valid = record {
  interest = interest_made d.interest whole.interest valid.interest;
  some_lives = omega (arith, whole.life);
  few_lives = valid.kept.few_lives;
  rows = valid.kept.rows;
  some_pays = omega (arith, whole.pay);
  few_pays = valid.few_pays;
  amounts = valid.kept.amounts;
  pays = valid.pays;
  premium = valid.premium;
  few_reserves = valid.few_reserves;
  reserves = valid.reserves;
}

pub contracts_are_valid : ContractsAreValid
contracts_are_valid tables bytes contract writes =
    let valid = valid_by_lines tables empty_draft writes.draft (lines_of bytes) (valid_at_first tables) writes.lines in
    subst (IsValidContract tables) (sym writes.made) (valid_made tables writes.draft writes.whole valid)
