-- Drafts that the lines of a sample make, one line after another.
use Rattle.std.proofs.Common.{◌≡◌, ℕ, ◌≤◌, List, [], ◌∷◌, None, Some, map, refl, subst, sym, arith, inr}
use Rattle.std.specs.Prelude.{All}
use Rattle.std.proofs.lemmas.List.Elements.{All-cons, All-nil, All-weaker}
use Rattle.halo_interest.specs.declared.rate.Rate.{Rate}
use Rattle.halo_status.specs.Pay.{PlainPay}
use Rattle.halo_table.specs.DecrementTable.{TableFile}
use Rattle.halo_contract.specs.PlainContract.{PlainContract}
use Rattle.halo_contract.specs.declared.contract.LifeLine.{LifeLine}
use Rattle.halo_check.specs.Checks.{PassesAll}
use Rattle.halo_check.specs.Draft.{Draft, contract_made, empty_draft, with_line}
use Rattle.halo_parse.specs.Faults.{IsWhole, MakesDraft, WritesContract}
use Rattle.halo_syntax.specs.FileLines.{lines_of}
use Rattle.halo_check.specs.FormOrder.{IsInOrder}
use Rattle.halo_syntax.specs.Line.{Line}
use Rattle.halo_syntax.specs.LineReading.{nest_line}
use Rattle.halo_syntax.specs.ProperLine.{IsProperLine}
use Rattle.halo_syntax.specs.declared.form.Form.TheVariants as form
use Rattle.halo_check.proofs.Order.{last_in_order, order_from_next}
use Rattle.halo_spell.specs.ContractText.{line_text, lines_text}
use Rattle.halo_spell.proofs.ReadsBack.{fine_text}
use Rattle.halo_spell.proofs.WordsBack.{IsInLine, lines_back, text_in_line}
use Rattle.halo_sampled.specs.Laws.{IsOfSample}

-- the draft of an interest, lives and pays
abbrev pub drafted : List Rate → List LifeLine → List PlainPay → Draft
drafted rates lives pays = record {
  interest = Some rates;
  lives = lives;
  ties = None;
  pays = pays;
  premium = None;
  reserves = [];
}

-- behind an interest, lives and pays a premium is in order
pub premium-in-order : (rates : List Rate) (lives : List LifeLine) (pays : List PlainPay)
    → IsInOrder (drafted rates lives pays) form.Premium
premium-in-order rates lives pays =
    let d = drafted rates lives pays in
    order_from_next d form.Premium form.Reserve refl (λ came. omega (arith, came)) (last_in_order d form.Reserve refl)

-- and a pay
pub pay-in-order : (rates : List Rate) (lives : List LifeLine) (pays : List PlainPay)
    → IsInOrder (drafted rates lives pays) form.Pay
pay-in-order rates lives pays =
    order_from_next (drafted rates lives pays) form.Pay form.Premium refl (λ came. came refl)
    (premium-in-order rates lives pays)

-- and a life where there are no pays
pub life-in-order : (rates : List Rate) (lives : List LifeLine) → IsInOrder (drafted rates lives []) form.Life
life-in-order rates lives =
    let d = drafted rates lives [] in
    order_from_next d form.Life form.Ties refl (λ came. came refl)
    (order_from_next d form.Ties form.Pay refl (λ came. omega (arith, came)) (pay-in-order rates lives []))

-- and an interest at first
pub interest-in-order : IsInOrder empty_draft form.Interest
interest-in-order =
    let d = empty_draft in
    order_from_next d form.Interest form.Life refl (λ came. omega (arith, came))
    (order_from_next d form.Life form.Ties refl (λ came. came refl)
    (order_from_next d form.Ties form.Pay refl (λ came. omega (arith, came))
    (order_from_next d form.Pay form.Premium refl (λ came. came refl)
    (order_from_next d form.Premium form.Reserve refl (λ came. omega (arith, came))
    (last_in_order d form.Reserve refl)))))

-- a draft that makes a contract of a sample
pub record IsDone (d : Draft) : Type 0 where
  pub whole : IsWhole d
  pub sample : IsOfSample (contract_made d)

-- behind a draft some lines have no fault, and then it is done
pub record Ends (tables : TableFile) (d : Draft) (lines : List Line) : Type 0 where
  pub final : Draft
  pub makes : MakesDraft tables d (map line_text lines) final
  pub proper : All IsProperLine lines
  pub done : IsDone final

-- a line that passes all checks
pub record IsGoodLine (tables : TableFile) (d : Draft) (l : Line) : Type 0 where
  pub proper : IsProperLine l
  pub depth : nest_line l ≤ 16
  pub passes : PassesAll tables d l

module _ (tables : TableFile) where
  -- no lines end at a draft that is done
  pub ends-none : (d : Draft) → IsDone d → Ends tables d []
  ends-none d done = record { final = d; makes = refl; proper = All-nil IsProperLine; done = done }

  -- and a good line comes before lines that end
  pub ends-line : (d : Draft) (l : Line) (lines : List Line) → IsGoodLine tables d l
      → Ends tables (with_line tables d l) lines → Ends tables d (l ∷ lines)
  ends-line d l lines good rest = record {
    final = rest.final;
    makes = inr (l, fine_text tables d l good.proper good.depth good.passes, rest.makes);
    proper = All-cons IsProperLine l lines good.proper rest.proper;
    done = rest.done;
  }

  -- so the text of the lines writes a contract of a sample
  pub writes-contract : (bytes : List ℕ) (lines : List Line) → bytes ≡ lines_text lines
      → Ends tables empty_draft lines
      → (contract : PlainContract) × WritesContract tables bytes contract × IsOfSample contract
  writes-contract bytes lines is ends =
      let in_line = All-weaker IsProperLine (λ l. All IsInLine (line_text l)) text_in_line lines ends.proper in
      let texts : lines_of (lines_text lines) ≡ map line_text lines = lines_back lines in_line in
      let makes : MakesDraft tables empty_draft (lines_of (lines_text lines)) ends.final =
      subst (λ ts. MakesDraft tables empty_draft ts ends.final) (sym texts) ends.makes in
      let writes : WritesContract tables (lines_text lines) (contract_made ends.final) =
      record { draft = ends.final; lines = makes; whole = ends.done.whole; made = refl } in (
        contract_made ends.final,
        subst (λ bs. WritesContract tables bs (contract_made ends.final)) (sym is) writes,
        ends.done.sample,
      )
