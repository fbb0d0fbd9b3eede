-- The symbols of a sample pass the checks of a pay among its lives and causes.
use Rattle.std.proofs.Common.{◌≡◌, ◌≢◌, ℕ, zero, suc, ◌≤◌, ◌<◌, List, [], ◌∷◌, Some, arith, rules, sym, ◌∙◌}
use Rattle.std.specs.Prelude.{All, Contains, IfSome, codes}
use Rattle.std.proofs.lemmas.Bool.{eqb-true}
use Rattle.std.proofs.lemmas.List.Elements.{All-from_recursion, All-get_or, All-nil}
use Rattle.halo_text.specs.Number.{number}
use Rattle.halo_status.specs.Nodes.{AtEachNode, IsLasting}
use Rattle.halo_status.specs.Tree.{Tree, Trees, life, member_at, member_count, more, none}
use Rattle.halo_status.specs.ValidPay.{AreApart, HasRank, IsRank, SharesNothing}
use Rattle.halo_status.specs.declared.pay.Kind.TheVariants.{Insurance}
use Rattle.halo_symbol.specs.Nesting.{nest_body}
use Rattle.halo_symbol.specs.Proper.{IsPlainName, IsProperSymbol}
use Rattle.halo_symbol.specs.Symbol.{Symbol}
use Rattle.halo_check.specs.Checks.{AreDifferent, FallsFromSome, HasYears, IsDeclared, OfMembers}
use Rattle.halo_symbol.specs.StatusOf.{tree_of_symbol}
use Rattle.halo_check.specs.Draft.{all_names, place_of}
use Rattle.halo_check.specs.Limits.{IsShortName, IsSymbolWithin}
use Rattle.halo_check.specs.Parts as parts
use Rattle.halo_sampled.specs.DrawnLines.{drawn_symbols, first_reserve, on_at_least, on_cause, on_exactly, on_first_death, on_last, on_later, on_reversion, on_term, symbol_at}
use Rattle.halo_sampled.proofs.KnownNames.{death-is-cause, death-is-name, sample_causes, written}

-- what the checks of a pay ask of its symbol, where the lives have these names
pub record IsSoundSymbol (names : List (List ℕ)) (s : Symbol) : Type 0 where
  pub proper : IsProperSymbol s
  pub depth : nest_body s.body ≤ 16
  pub within : IsSymbolWithin s
  pub falls : FallsFromSome s.vary
  pub years : parts.AtEachNode HasYears s.body
  pub once : IfSome s.causes (λ causes. AreDifferent (all_names causes))
  pub lives : parts.AtEachNode (IsDeclared names) s.body
  pub causes : IfSome s.causes (λ causes. All (λ cause. Contains sample_causes cause) (all_names causes))
  pub ranks : AtEachNode HasRank (tree_of_symbol (place_of names) s)
  pub mark : IfSome s.mark (λ mark.
      OfMembers (λ ms. IsRank (number mark.rank) (member_count ms)) (tree_of_symbol (place_of names) s))
  pub lasting : s.kind ≡ Insurance → IsLasting (tree_of_symbol (place_of names) s)
  pub apart : IfSome s.mark (λ mark. OfMembers AreApart (tree_of_symbol (place_of names) s))

-- different lives share nothing, as the members of a marked list have to
apart : (i j : ℕ) → i ≢ j → SharesNothing (life i) (life j)
apart i j other = record {
  lives = λ k first second. other (sym (eqb-true k i first) ∙ eqb-true k j second);
  terms = λ n named. absurd (cc named);
}

-- the members of the marked list
first_three : Trees
first_three = more (life 0) (more (life 1) (more (life 2) none))

-- each of them is a life
one-of-three : (p : ℕ) (s : Tree) → member_at first_three p ≡ Some s → s ≡ life p
unfolding first_three
one-of-three zero s at = cc
one-of-three (suc zero) s at = cc
one-of-three (suc (suc zero)) s at = cc
one-of-three (suc (suc (suc p))) s at = absurd cc

-- so they share nothing
three-apart : AreApart first_three
three-apart p q s t other at_p at_q = rw (one-of-three p s at_p, one-of-three q t at_q) (apart p q other)

-- one name alone is different from all others
alone-differs : (name : List ℕ) → AreDifferent (name ∷ [])
alone-differs name i j before within = absurd (omega (arith, before, within))

-- each symbol is sound
sound-last : IsSoundSymbol first_reserve on_last
sound-last = search (rules, written) depth 40

sound-first_death : IsSoundSymbol first_reserve on_first_death
unfolding first_three
sound-first_death = search (rules, written, three-apart) depth 40

sound-reversion : IsSoundSymbol first_reserve on_reversion
sound-reversion = search (rules, written) depth 40

sound-at_least : IsSoundSymbol first_reserve on_at_least
sound-at_least = search (rules, written) depth 40

sound-exactly : IsSoundSymbol first_reserve on_exactly
sound-exactly = search (rules, written) depth 40

sound-cause : IsSoundSymbol first_reserve on_cause
sound-cause =
    search (
      rules,
      written,
      death-is-name,
      death-is-cause,
      alone-differs (codes "death"),
      All-nil IsPlainName,
      All-nil IsShortName,
    ) depth 40

sound-term : IsSoundSymbol first_reserve on_term
sound-term = search (rules, written) depth 40

sound-later : IsSoundSymbol first_reserve on_later
sound-later = search (rules, written) depth 40

ruleset each_sound = (
  sound-last,
  sound-first_death,
  sound-reversion,
  sound-at_least,
  sound-exactly,
  sound-cause,
  sound-term,
  sound-later,
)

-- so the symbol that is drawn is
pub symbol-is-sound : (choice : ℕ) → choice < 8 → IsSoundSymbol first_reserve (symbol_at choice)
symbol-is-sound choice known =
    All-get_or (IsSoundSymbol first_reserve) drawn_symbols choice on_last known
    (All-from_recursion (IsSoundSymbol first_reserve) drawn_symbols (search each_sound depth 20))
