-- What a line adds that passes all checks can be written again.
use Rattle.std.proofs.Common.{◌≡◌, ℕ, ◌≤◌, ◌<◌, List, Option, Some, None, length, ap, refl, arith, inl, inr}
use Rattle.std.specs.Prelude.{All, IfSome, true}
use Rattle.std.specs.Option.{option_map}
use Rattle.std.proofs.lemmas.List.{length-map}
use Rattle.std.proofs.lemmas.List.Elements.{All-cons}
use Rattle.halo_status.specs.Naming.{NamesLivesBelow}
use Rattle.halo_status.specs.Nodes.{AtEachNode, HasShortList}
use Rattle.halo_status.specs.Tree as status
use Rattle.halo_status.specs.Tree.{Tree}
use Rattle.halo_status.specs.ValidPay.{HasLength, HasRank, IsValidPay}
use Rattle.halo_status.specs.Exists.{exists}
use Rattle.halo_status.specs.View.{is_on}
use Rattle.halo_status.specs.declared.view.View.TheVariants.{Due}
use Rattle.halo_contract.specs.Premium.{all_lives, premium_pay}
use Rattle.halo_symbol.specs.Nesting.{nest_body}
use Rattle.halo_symbol.specs.Proper.{AreProperNames, IsPlainName}
use Rattle.halo_symbol.specs.StatusOf.{tree_of_body, tree_of_content, trees_of_members}
use Rattle.halo_symbol.specs.Symbol as written
use Rattle.halo_symbol.specs.Symbol.{Names, Symbol}
use Rattle.halo_symbol.specs.Tree.{Body, list, reversion}
use Rattle.halo_table.specs.DecrementTable.{TableFile}
use Rattle.halo_check.specs.Checks.{AreDifferent, PassesAll, status_tree}
use Rattle.halo_check.specs.Draft.{Draft, all_names, causes_of, mark_of, pay_written, place_of}
use Rattle.halo_contract.specs.PlainContract.{life_names}
use Rattle.halo_check.specs.Limits.{IsShortName}
use Rattle.halo_syntax.specs.Line.{pay, premium}
use Rattle.halo_contract.specs.declared.contract.LifeLine.{LifeLine}
use Rattle.halo_syntax.specs.ProperLine.{IsProperLine}
use Rattle.halo_parse.proofs.ValidPays.{pays_are_valid, premiums_are_valid}
use Rattle.halo_spell.specs.Canonical.{canonical_body, canonical_mark, name_at, names_in}
use Rattle.halo_spell.proofs.FitTrees.{IsFit, fit, fit_in}
use Rattle.halo_spell.proofs.NamesBack.{All-names_of_mask, place_back}
use Rattle.halo_spell.proofs.PartsBack.{IsFitBody}
use Rattle.halo_spell.proofs.PaysBack.{IsSpelledPay}
use Rattle.halo_spell.proofs.TreesBack.{body_back, members_back}
use Rattle.halo_spell.proofs.WrittenTrees.{nest-canonical_body, nest-canonical_content, two-body, two-members}

-- names of lives: names of at most 32 bytes, other than `bar`, no two equal
pub record IsNamed (names : List (List ℕ)) : Type 0 where
  pub plain : All IsPlainName names
  pub short : All IsShortName names
  pub different : AreDifferent names

-- the names of a set of causes
causes_plain : (causes : List (List ℕ)) (set : Option Names) → IfSome set AreProperNames
    → IfSome (causes_of causes set) (λ mask. All IsPlainName (names_in causes mask))
causes_plain causes None proper = tt
causes_plain causes (Some names) proper =
    All-names_of_mask IsPlainName causes (all_names names)
    (All-cons IsPlainName names.first names.others proper.0 proper.1)

module _ (names : List (List ℕ)) (different : AreDifferent names) where
  back : (i : ℕ) → i < length names → place_of names (name_at names i) ≡ i
  back i below = place_back names i different below

  -- a status that is written with these names is fit, and its canonical tree means it
  fit_body : (body : Body) → NamesLivesBelow (length names) (tree_of_body (place_of names) body)
      → AtEachNode HasLength (tree_of_body (place_of names) body)
      → AtEachNode HasShortList (tree_of_body (place_of names) body)
      → AtEachNode HasRank (tree_of_body (place_of names) body)
      → AtEachNode (IsFit (length names)) (tree_of_body (place_of names) body)
  fit_body body below lengths short ranks =
      fit (length names) (tree_of_body (place_of names) body) below lengths short ranks (two-body (place_of names) body)

  fit_content : (mark : Option written.Mark) (body : Body)
      → NamesLivesBelow (length names) (tree_of_content (place_of names) mark body)
      → AtEachNode HasLength (tree_of_content (place_of names) mark body)
      → AtEachNode HasShortList (tree_of_content (place_of names) mark body) → AtEachNode HasRank
      (tree_of_content (place_of names) mark body)
      → IsFitBody (length names) (tree_of_content (place_of names) mark body)
      × (tree_of_content (place_of names) (option_map canonical_mark (mark_of mark))
      (canonical_body names (tree_of_content (place_of names) mark body))
      ≡ tree_of_content (place_of names) mark body)
  fit_content None body below lengths short ranks =
      let f = fit_body body below lengths short ranks in
      (inl f, body_back (place_of names) names (length names) back _ f)
  fit_content (Some mark) (list ms) below lengths short ranks =
      let ts = trees_of_members (place_of names) ms in
      let f = fit_in (length names) ts below lengths.1 short.1 ranks.1 (two-members (place_of names) ms) in (
        inr (ts, refl, short.0.0, short.0.1, f),
        ap status.joint
            (members_back (place_of names) names (length names) back ts short.0.0 f),
      )
  fit_content (Some mark) (reversion ms ns) below lengths short ranks =
      let f = fit_body (reversion ms ns) below lengths short ranks in
      (inl f, body_back (place_of names) names (length names) back (tree_of_body (place_of names) (reversion ms ns)) f)

-- there are as many names as lives
count_of_names : (d : Draft) → length (life_names d.lives) ≡ length d.lives
count_of_names d = length-map d.lives (λ (line : LifeLine). line.name)

-- a pay
pub spelled_pay : (tables : TableFile) (d : Draft) (amount : List ℕ) (s : Symbol) → IsNamed (life_names d.lives)
    → IsProperLine (pay amount s) → PassesAll tables d (pay amount s) → nest_body s.body ≤ 16
    → IsSpelledPay (life_names d.lives) tables.causes (pay_written (life_names d.lives) tables.causes amount s)
spelled_pay tables d amount s named proper passes deep =
    let names = life_names d.lives in
    let among = rw (← count_of_names d) at (pays_are_valid tables d amount s proper passes) in
    let valid = among.valid in
    let both = fit_content names named.different s.mark s.body among.named valid.lengths valid.lists valid.ranks in
    record {
      among = among;
      causes_plain = causes_plain tables.causes s.causes proper.1.causes;
      fit = both.0;
      content = both.1;
      depth = omega (arith, nest-canonical_content names (place_of names) s.mark s.body, deep);
    }

-- the status of a premium
pub record IsSpelledStatus (names : List (List ℕ)) (s : Tree) : Type 0 where
  pub valid : IsValidPay (premium_pay s)
  pub at_start : exists all_lives (is_on Due 0) s ≡ true
  pub fit : IsFitBody (length names) s
  pub content : tree_of_body (place_of names) (canonical_body names s) ≡ s
  pub depth : nest_body (canonical_body names s) ≤ 16

pub spelled_status : (tables : TableFile) (d : Draft) (body : Body) → IsNamed (life_names d.lives)
    → IsProperLine (premium body) → PassesAll tables d (premium body) → nest_body body ≤ 16
    → IsSpelledStatus (life_names d.lives) (status_tree d body)
spelled_status tables d body named proper passes deep =
    let names = life_names d.lives in
    let premium = premiums_are_valid tables d body proper passes in
    let valid = premium.among.valid in
    let below = rw (← count_of_names d) at premium.among.named in
    let f = fit_body names named.different body below valid.lengths valid.lists valid.ranks in
    record {
      valid = valid;
      at_start = premium.at_start;
      fit = inl f;
      content = body_back (place_of names) names (length names) (back names named.different) (status_tree d body) f;
      depth = omega (arith, nest-canonical_body names (place_of names) body, deep);
    }
