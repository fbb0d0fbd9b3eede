-- The canonical symbol of a pay writes the pay again.
use Rattle.std.proofs.Common.{◌≡◌, ◌≢◌, ℕ, zero, suc, ◌≤◌, ◌<◌, ◌^◌, List, [], ◌∷◌, Option, Some, None, length, ap, ◌∙◌, refl, arith}
use Rattle.std.specs.Prelude.{All, IfSome}
use Rattle.std.specs.Fmt.{decimal}
use Rattle.std.specs.Option.{option_and_then, option_map}
use Rattle.halo_status.specs.Nodes.{AtEachNode, HasShortList}
use Rattle.halo_status.specs.Pay.{PlainPay}
use Rattle.halo_status.specs.Tree as status
use Rattle.halo_status.specs.Tree.{Tree}
use Rattle.halo_status.specs.ValidPay.{CanBeMarked, HasValidVary}
use Rattle.halo_status.specs.declared.pay.Kind.{Kind}
use Rattle.halo_status.specs.declared.pay.Kind.TheVariants.{Insurance}
use Rattle.halo_status.specs.declared.pay.Mark.{Mark}
use Rattle.halo_status.specs.declared.pay.Vary.{Vary}
use Rattle.halo_status.specs.declared.pay.Vary.TheVariants as paid
use Rattle.halo_symbol.specs.Nesting.{nest_body}
use Rattle.halo_symbol.specs.Proper.{IsPlainName}
use Rattle.halo_symbol.specs.StatusOf.{tree_of_content}
use Rattle.halo_check.specs.Checks.{AreDifferent}
use Rattle.halo_contract.specs.ValidContract.{IsValidAmong}
use Rattle.halo_check.specs.Draft.{causes_of, defer_of, mark_of, mask_of_names, pay_written, place_of, vary_of}
use Rattle.halo_spell.specs.Canonical.{canonical_body, canonical_defer, canonical_mark, canonical_symbol, canonical_vary, names_in, set_of}
use Rattle.halo_spell.proofs.CausesLeft.{some_name}
use Rattle.halo_spell.proofs.NamesBack.{mask_back}
use Rattle.halo_spell.proofs.NumbersBack.{number-decimal}
use Rattle.halo_spell.proofs.PartsBack.{IsFitBody}

-- a pay that its canonical symbol writes again, where the lives and the causes have these names
pub record IsSpelledPay (lives causes : List (List ℕ)) (pay : PlainPay) : Type 0 where
  pub among : IsValidAmong (length lives) (length causes) pay
  pub causes_plain : IfSome pay.causes (λ mask. All IsPlainName (names_in causes mask))
  pub fit : IsFitBody (length lives) pay.body
  pub content : tree_of_content (place_of lives) (option_map canonical_mark pay.mark) (canonical_body lives pay.body)
      ≡ pay.body
  pub depth : nest_body (canonical_body lives pay.body) ≤ 16

vary_back : (vary : Vary) → HasValidVary vary → vary_of (canonical_vary vary) ≡ vary
vary_back paid.Level valid = refl
vary_back paid.Increasing valid = refl
vary_back (paid.Decreasing n) valid = ap paid.Decreasing (number-decimal n (omega (arith, valid.1)))

defer_back : (years : ℕ) → years ≤ 200 → defer_of (canonical_defer years) ≡ years
defer_back zero few = refl
defer_back (suc years) few = number-decimal (suc years) (omega arith)

-- the set of some names has their mask
set_back : (causes names : List (List ℕ)) → names ≢ []
    → causes_of causes (set_of names) ≡ Some (mask_of_names causes names)
set_back causes [] some = absurd (some refl)
set_back causes (name ∷ names) some = refl

causes_back : (causes : List (List ℕ)) (kind : Kind) → AreDifferent causes → (set : Option ℕ)
    → IfSome set (λ mask. (kind ≡ Insurance) × (1 ≤ mask)) → IfSome set (λ mask. mask < 2 ^ length causes)
    → causes_of causes (option_and_then (λ mask. set_of (names_in causes mask)) set) ≡ set
causes_back causes kind different None valid known = refl
causes_back causes kind different (Some mask) valid known =
    set_back causes (names_in causes mask) (some_name causes mask valid.1 known)
    ∙ ap Some (mask_back causes mask different known)

-- the rank of a mark is at most 16
low_rank : (s : Tree) (mark : Mark) → AtEachNode HasShortList s → CanBeMarked s mark → mark.rank ≤ 16
low_rank (status.joint ms) mark short can = omega (arith, can.rank.1, short.0.1)
low_rank s mark short can = absurd can

pub low_marks : (s : Tree) (kind : Kind) (mark : Option Mark) → AtEachNode HasShortList s
    → IfSome mark (λ m. (kind ≡ Insurance) × CanBeMarked s m) → IfSome mark (λ m. m.rank ≤ 16)
low_marks s kind None short can = tt
low_marks s kind (Some mark) short can = low_rank s mark short can.1

mark_back : (mark : Option Mark) → IfSome mark (λ m. m.rank ≤ 16) → mark_of (option_map canonical_mark mark) ≡ mark
mark_back None low = refl
mark_back (Some m) low = rw (number-decimal m.rank (omega arith)) refl

pub pay_back : (lives causes : List (List ℕ)) (pay : PlainPay) → AreDifferent causes → IsSpelledPay lives causes pay
    → pay_written lives causes (decimal pay.amount) (canonical_symbol lives causes pay) ≡ pay
pay_back lives causes pay different is =
    let valid = is.among.valid in
    let low = low_marks pay.body pay.kind pay.mark valid.lists valid.mark in
    rw (
      number-decimal pay.amount (omega (arith, valid.amount_in)),
      vary_back pay.vary valid.vary,
      defer_back pay.defer valid.defer_in,
      causes_back causes pay.kind different pay.causes valid.causes is.among.by_cause,
      mark_back pay.mark low,
      is.content,
    ) refl
