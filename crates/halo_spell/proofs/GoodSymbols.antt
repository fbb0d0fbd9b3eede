-- The canonical symbol of a pay keeps the rules of symbols and of lines.
use Rattle.std.proofs.Common.{◌≡◌, ℕ, zero, suc, ◌≤◌, List, [], ◌∷◌, Option, Some, None, arith}
use Rattle.std.specs.Prelude.{All, Contains, IfSome}
use Rattle.std.specs.Option.{option_and_then, option_map}
use Rattle.std.proofs.lemmas.List.Elements.{All-contains_itself, All-head, All-tail}
use Rattle.halo_text.specs.Number.{IsNumber}
use Rattle.halo_status.specs.Pay.{PlainPay}
use Rattle.halo_status.specs.Tree as status
use Rattle.halo_status.specs.Tree.{Tree}
use Rattle.halo_status.specs.ValidPay.{CanBeMarked, HasValidVary}
use Rattle.halo_status.specs.declared.pay.Kind.{Kind}
use Rattle.halo_status.specs.declared.pay.Kind.TheVariants.{Insurance}
use Rattle.halo_status.specs.declared.pay.Mark.{Mark}
use Rattle.halo_status.specs.declared.pay.Vary.{Vary}
use Rattle.halo_status.specs.declared.pay.Vary.TheVariants as paid
use Rattle.halo_symbol.specs.Proper.{AreProperNames, IsPlainName, IsProperSymbol, IsProperVary, MayHaveCauses, MayHaveMark, StandsIn}
use Rattle.halo_check.specs.Checks.{AreDifferent, FallsFromSome}
use Rattle.halo_check.specs.Draft.{all_names, place_of}
use Rattle.halo_check.specs.Limits.{AreNamesWithin, IsShortName, IsSymbolWithin, IsUpTo, IsVaryWithin, any_life}
use Rattle.halo_check.proofs.Nodes.{nodes-tree_of_symbol}
use Rattle.halo_spell.specs.Canonical.{canonical_body, canonical_defer, canonical_mark, canonical_symbol, canonical_vary, names_in, set_of}
use Rattle.halo_spell.proofs.NamesBack.{All-chosen, names_in-different}
use Rattle.halo_spell.proofs.NumbersBack.{IsNumber-decimal, number-decimal}
use Rattle.halo_spell.proofs.PartsBack.{IsGoodBody, good-canonical_body, member_count-canonical}
use Rattle.halo_spell.proofs.PaysBack.{IsSpelledPay, low_marks}

-- what holds of what may be there
if_some : {X : Type 0} (P Q : X → Type 0) (o : Option X) → ((x : X) → P x → Q x) → IfSome o P → IfSome o Q
if_some P Q None one h = tt
if_some P Q (Some x) one h = one x h

-- what holds of the names of a set holds of the set that is written
if_set : (Q : List (List ℕ) → Type 0) (names : List (List ℕ)) → Q names
    → IfSome (set_of names) (λ set. Q (all_names set))
if_set Q [] h = tt
if_set Q (name ∷ names) h = h

if_causes : (Q : List (List ℕ) → Type 0) (causes : List (List ℕ)) (set : Option ℕ)
    → IfSome set (λ mask. Q (names_in causes mask))
    → IfSome (option_and_then (λ mask. set_of (names_in causes mask)) set) (λ names. Q (all_names names))
if_causes Q causes None h = tt
if_causes Q causes (Some mask) h = if_set Q (names_in causes mask) h

-- what holds of every set
of_each : (Q : List (List ℕ) → Type 0) (causes : List (List ℕ)) (set : Option ℕ)
    → ((mask : ℕ) → Q (names_in causes mask)) → IfSome set (λ mask. Q (names_in causes mask))
of_each Q causes None h = tt
of_each Q causes (Some mask) h = h mask

vary_proper : (vary : Vary) → HasValidVary vary → IsProperVary (canonical_vary vary)
vary_proper paid.Level valid = tt
vary_proper paid.Increasing valid = tt
vary_proper (paid.Decreasing n) valid = IsNumber-decimal n (omega (arith, valid.1))

vary_within : (vary : Vary) → HasValidVary vary → IsVaryWithin (canonical_vary vary)
vary_within paid.Level valid = tt
vary_within paid.Increasing valid = tt
vary_within (paid.Decreasing n) valid = rw (number-decimal n (omega (arith, valid.1))) valid.1

vary_some : (vary : Vary) → HasValidVary vary → FallsFromSome (canonical_vary vary)
vary_some paid.Level valid = tt
vary_some paid.Increasing valid = tt
vary_some (paid.Decreasing n) valid = rw (number-decimal n (omega (arith, valid.1))) valid.0

defer_proper : (years : ℕ) → years ≤ 200 → IfSome (canonical_defer years) IsNumber
defer_proper zero few = tt
defer_proper (suc years) few = IsNumber-decimal (suc years) (omega arith)

defer_within : (years : ℕ) → years ≤ 200 → IfSome (canonical_defer years) (IsUpTo 200)
defer_within zero few = tt
defer_within (suc years) few = rw (number-decimal (suc years) (omega arith)) few

causes_allowed : (causes : List (List ℕ)) (kind : Kind) (set : Option ℕ)
    → IfSome set (λ mask. (kind ≡ Insurance) × (1 ≤ mask))
    → MayHaveCauses kind (option_and_then (λ mask. set_of (names_in causes mask)) set)
causes_allowed causes kind set valid =
    if_causes (λ names. kind ≡ Insurance) causes set
    (if_some (λ mask. (kind ≡ Insurance) × (1 ≤ mask)) (λ mask. kind ≡ Insurance) set (λ mask h. h.0) valid)

-- a marked member is one of the list
stands : (names : List (List ℕ)) (s : Tree) (mark : Mark) → CanBeMarked s mark
    → StandsIn (canonical_mark mark) (canonical_body names s)
stands names (status.joint ms) mark can =
    omega (arith, can.member, member_count-canonical names ms (omega (arith, can.member)))
stands names s mark can = absurd can

mark_allowed : (names : List (List ℕ)) (kind : Kind) (s : Tree) (mark : Option Mark)
    → IfSome mark (λ m. (kind ≡ Insurance) × CanBeMarked s m)
    → MayHaveMark kind (option_map canonical_mark mark) (canonical_body names s)
mark_allowed names kind s None can = tt
mark_allowed names kind s (Some mark) can = (can.0, stands names s mark can.1)

mark_proper : (mark : Option Mark) → IfSome mark (λ m. m.rank ≤ 16)
    → IfSome (option_map canonical_mark mark) (λ m. IsNumber m.rank)
mark_proper None low = tt
mark_proper (Some mark) low = IsNumber-decimal mark.rank (omega arith)

mark_within : (mark : Option Mark) → IfSome mark (λ m. m.rank ≤ 16)
    → IfSome (option_map canonical_mark mark) (λ m. IsUpTo 64 m.rank)
mark_within None low = tt
mark_within (Some mark) low = rw (number-decimal mark.rank (omega arith)) (omega arith)

module _ (lives causes : List (List ℕ)) (pay : PlainPay) (is : IsSpelledPay lives causes pay)
    (plain : All IsPlainName lives) (short : All IsShortName lives) (short_causes : All IsShortName causes) where
  low : IfSome pay.mark (λ m. m.rank ≤ 16)
  low = low_marks pay.body pay.kind pay.mark is.among.valid.lists is.among.valid.mark

  pub good_body : IsGoodBody lives (canonical_body lives pay.body)
  good_body = good-canonical_body lives plain short pay.body is.fit

  pub proper_symbol : IsProperSymbol (canonical_symbol lives causes pay)
  proper_symbol = record {
    allowed = record {
      vary = vary_proper pay.vary is.among.valid.vary;
      causes = causes_allowed causes pay.kind pay.causes is.among.valid.causes;
      mark = mark_allowed lives pay.kind pay.body pay.mark is.among.valid.mark;
    };
    defer = defer_proper pay.defer is.among.valid.defer_in;
    causes =
        if_some (λ names. All IsPlainName (all_names names)) AreProperNames _
        (λ names h. (
          All-head IsPlainName names.first names.others h,
          All-tail IsPlainName names.first names.others
              h,
        ))
        (if_causes (All IsPlainName) causes pay.causes is.causes_plain);
    body = good_body.proper;
    mark = mark_proper pay.mark low;
  }

  pub symbol_within : IsSymbolWithin (canonical_symbol lives causes pay)
  symbol_within = record {
    defer = defer_within pay.defer is.among.valid.defer_in;
    vary = vary_within pay.vary is.among.valid.vary;
    causes =
        if_some (λ names. All IsShortName (all_names names)) AreNamesWithin _
        (λ names h. (
          All-head IsShortName names.first names.others h,
          All-tail IsShortName names.first names.others
              h,
        ))
        (if_causes (All IsShortName) causes pay.causes
        (of_each (All IsShortName) causes pay.causes (λ mask. All-chosen IsShortName causes _ short_causes)));
    parts = good_body.within;
    few_nodes =
        rw (nodes-tree_of_symbol any_life (place_of lives) (canonical_symbol lives causes pay), is.content)
        is.among.valid.few_nodes;
    mark = mark_within pay.mark low;
  }

  pub falls_from_some : FallsFromSome (canonical_vary pay.vary)
  falls_from_some = vary_some pay.vary is.among.valid.vary

  pub different_causes : AreDifferent causes
      → IfSome (canonical_symbol lives causes pay).causes (λ names. AreDifferent (all_names names))
  different_causes different =
      if_causes AreDifferent causes pay.causes
      (of_each AreDifferent causes pay.causes (λ mask. names_in-different causes mask different))

  pub known_causes : IfSome (canonical_symbol lives causes pay).causes
      (λ names. All (λ name. Contains causes name) (all_names names))
  known_causes =
      if_causes (All (λ name. Contains causes name)) causes pay.causes
      (of_each (All (λ name. Contains causes name)) causes pay.causes
      (λ mask. All-chosen (λ name. Contains causes name) causes _ (All-contains_itself causes)))
