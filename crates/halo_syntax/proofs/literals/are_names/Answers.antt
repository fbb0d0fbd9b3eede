use Rattle.std.proofs.Common.{◌≡◌, ◌↔◌, ℕ, ◌<◌, Bool, true, false, Bor, List, [], length, refl, arith, rules, subst, tests, MatchBool}
use Rattle.std.specs.Prelude.{All}
use Rattle.std.specs.List.{AllWithin, HoldsAt}
use Rattle.std.proofs.lemmas.Bool.{false≢true}
use Rattle.std.proofs.lemmas.Iterator.{YieldsList-from_slice, cases_from_all}
use Rattle.std.proofs.lemmas.List.{get_or-map, length-map}
use Rattle.std.proofs.lemmas.List.Elements.{All-from_all_within, All-map}
use Rattle.halo_lex.specs.Lexeme.{IsLongName}
use Rattle.halo_syntax.specs.LineReading.{bytes_of}
use Rattle.halo_syntax.proofs.literals.are_names.Goals as goal

-- a text with the bytes of a name
abbrev IsNameText : Bor (List ℕ) → Type 0
IsNameText text = IsLongName text.now

-- all texts are names, or one is not
all_names : (answer : Bool) (texts : List (Bor (List ℕ)))
    → MatchBool answer (AllWithin IsNameText texts 0 (length texts))
    ((k : ℕ) × (k < length texts) × HoldsAt (λ text. IsNameText text → ⊥) texts k)
    → (answer ≡ true) ↔ All IsLongName (bytes_of texts)
all_names true texts all =
    (λ _. All-map IsLongName (λ text. text.now) texts (All-from_all_within IsNameText texts all), λ _. refl)
all_names false texts none =
    let other : Bor (List ℕ) = record { ref_ptr = (0, 0); now = [] } in (
      λ e. absurd (false≢true e),
      λ all.
          absurd (none.2 other (subst IsLongName (get_or-map (λ text. text.now) texts none.0 other [] none.1)
          (all none.0 [] (omega (arith, none.1, length-map texts (λ text. text.now)))))),
    )

pub returns : goal.returns
returns c =
    all_names c.all.result c.args.words.now
    (cases_from_all _ _ _ IsNameText (λ text. IsNameText text → ⊥) c.all.ensures.ran
    (YieldsList-from_slice c.args.words.now cc) (λ x q k. search (rules, tests)) (λ x q k. search (rules, tests)))
