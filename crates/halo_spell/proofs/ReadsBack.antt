-- The canonical text of a contract writes it again.
use Rattle.std.proofs.Common.{◌≡◌, ℕ, ◌≤◌, ◌<◌, List, [], ◌∷◌, ◌++◌, map, ap, sym, ◌∙◌, refl, subst, arith, inl, inr, false}
use Rattle.std.specs.Prelude.{All}
use Rattle.std.proofs.lemmas.Bool.{cases_lt}
use Rattle.std.proofs.lemmas.List.{map_push}
use Rattle.std.proofs.lemmas.List.Elements.{All-nil, All-push}
use Rattle.halo_table.specs.DecrementTable.{TableFile}
use Rattle.halo_table.specs.Sound.{IsSound}
use Rattle.halo_check.specs.Checks.{PassesAll}
use Rattle.halo_check.specs.Draft.{Draft, empty_draft, with_line}
use Rattle.halo_parse.specs.Faults.{IsFine, MakesDraft, WritesContract}
use Rattle.halo_syntax.specs.FileLines.{is_silent, lines_of, words_of}
use Rattle.halo_syntax.specs.Line.{Line, interest, life, line_words, pay, premium, reserve, ties}
use Rattle.halo_syntax.specs.LineReading.{nest_line, NoLine, NoLineTo}
use Rattle.halo_syntax.specs.ProperLine.{IsProperLine, SpellsLine}
use Rattle.halo_check.specs.declared.fault.ContractKind.TheVariants as kind
use Rattle.halo_contract.specs.PlainContract.{PlainContract, life_names}
use Rattle.halo_contract.specs.declared.ties.Ties.TheVariants as rule
use Rattle.halo_syntax.specs.Depth.{IsShallow}
use Rattle.halo_syntax.proofs.lines.Deep.{no_line_at_all}
use Rattle.halo_syntax.proofs.lines.OneLine.{line_one}
use Rattle.halo_spell.specs.ContractText.{contract_text, line_text}
use Rattle.halo_spell.proofs.Brief.{brief_rule, briefly, lines_for, same_contract}
use Rattle.halo_spell.proofs.Drafts.{AddsLine, declared_last, interest_last, life_last, named_at_first, named_by_line, nothing_in, pay_last, premium_last, reserve_last, ties_last}
use Rattle.halo_spell.proofs.LinesAgain.{IsAgain, interest_again, life_again, pay_again, premium_again, reserve_again, ties_again}
use Rattle.halo_spell.proofs.Rooms.{shallow_text}
use Rattle.halo_spell.proofs.SpelledLines.{IsNamed}
use Rattle.halo_spell.proofs.WordsBack.{IsInLine, line_words_back, lines_back, text_in_line}

-- where the brackets of a text do not open too far, they nest at most 16 deep in the line that it is
line_within : (text : List ℕ) (l : Line) → IsShallow text → SpellsLine (words_of text) l → nest_line l ≤ 16
unfolding NoLineTo
line_within text l shallow spells = elim (cases_lt 16 (nest_line l)) [
  | inl deeper ↦ absurd (no_line_at_all text (words_of text) refl (none deeper) shallow l spells)
  | inr within ↦ within
]
  where
    none : 16 < nest_line l → NoLine (words_of text)
    none deeper other depth other_spells =
        let same_depth = ap nest_line (line_one (words_of text) other l other_spells spells) in omega arith

-- a line does not begin with `#`
speaks : (l : Line) → is_silent (line_words l) ≡ false
speaks (interest p q rates) = refl
speaks (life name table age) = refl
speaks (ties r) = refl
speaks (pay amount s) = refl
speaks (premium body) = refl
speaks (reserve time names) = refl

-- the text of a line that passes all checks is that line
pub fine_text : (tables : TableFile) (d : Draft) (l : Line) → IsProperLine l → nest_line l ≤ 16 → PassesAll tables d l
    → IsFine tables d (line_text l) l
fine_text tables d l proper deep passes = record {
  readable = record {
    speaks = rw (line_words_back l proper) (speaks l);
    shallow = shallow_text l proper deep;
  };
  spells = record { proper = proper; words_are = line_words_back l proper };
  passes = passes;
}

-- a draft with one line more
module _ (tables : TableFile) (text : List ℕ) (l : Line) (final : Draft) where
  makes_more : (first : Draft) (texts : List (List ℕ)) (d : Draft) → MakesDraft tables first texts d
      → IsFine tables d text l → final ≡ with_line tables d l → MakesDraft tables first (texts ++ text ∷ []) final
  makes_more first [] d makes fine last =
      inr (l, subst (λ e. IsFine tables e text l) makes fine, last ∙ ap (λ e. with_line tables e l) makes)
  makes_more first (other ∷ texts) d (inl silent) fine last =
      inl (silent.0, makes_more first texts d silent.1 fine last)
  makes_more first (other ∷ texts) d (inr (k, here, rest)) fine last =
      inr (k, here, makes_more (with_line tables first k) texts d rest fine last)

-- no byte of the text of a line ends a line
abbrev TextInLine : Line → Type 0
TextInLine l = All IsInLine (line_text l)

-- the lines for a draft make it again, and no byte of their texts ends a line
record IsWritten (tables : TableFile) (d : Draft) : Type 0 where
  named : IsNamed (life_names d.lives)
  makes : MakesDraft tables empty_draft (map line_text (lines_for tables d)) (briefly d)
  in_line : All TextInLine (lines_for tables d)

module _ (tables : TableFile) (sound : IsSound tables) where
  written_at_first : IsWritten tables empty_draft
  written_at_first = record { named = named_at_first; makes = refl; in_line = All-nil TextInLine }

  module _ (d : Draft) (written : IsWritten tables d) where
    -- with a line that is written again
    with_again : (l again : Line) → IsProperLine l → PassesAll tables d l → IsAgain tables d l again
        → AddsLine tables d l again → IsWritten tables (with_line tables d l)
    with_again l again proper passes is last =
        let fine = fine_text tables (briefly d) again is.proper is.depth is.passes in
        let next = briefly (with_line tables d l) in
        let texts = map line_text (lines_for tables d) in
        record {
          named = named_by_line tables d l proper passes written.named;
          makes = rw (last, map_push) (makes_more tables (line_text again) again next empty_draft texts (briefly d)
              written.makes fine (sym is.adds));
          in_line = rw last
              (All-push TextInLine (lines_for tables d) again written.in_line (text_in_line again is.proper));
        }

    -- with a rule that is left unsaid
    with_declared : PassesAll tables d (ties rule.Declared) → IsWritten tables (with_line tables d (ties rule.Declared))
    unfolding with_line
    with_declared passes =
        let same = declared_last tables d passes in
        let unsaid = ap (λ t. record d { ties = brief_rule t }) (nothing_in d.ties (passes kind.Twice)) in
        let texts = map line_text (lines_for tables d) in
        record {
          named = written.named;
          makes = rw same (subst (MakesDraft tables empty_draft texts) unsaid written.makes);
          in_line = rw same written.in_line;
        }

    with_fine : (l : Line) → IsProperLine l → nest_line l ≤ 16 → PassesAll tables d l
        → IsWritten tables (with_line tables d l)
    with_fine (interest p q rates) proper deep passes =
        with_again _ _ proper passes (interest_again tables d p q rates passes)
        (interest_last tables d p q rates passes)
    with_fine (life name table age) proper deep passes =
        with_again _ _ proper passes (life_again tables sound d written.named name table age proper passes)
        (life_last tables d name table age passes)
    with_fine (ties rule.Even) proper deep passes =
        with_again _ _ proper passes (ties_again tables sound d written.named passes) (ties_last tables d passes)
    with_fine (ties rule.Declared) proper deep passes = with_declared passes
    with_fine (pay amount s) proper deep passes =
        with_again _ _ proper passes (pay_again tables sound d written.named amount s proper deep passes)
        (pay_last tables d amount s passes)
    with_fine (premium body) proper deep passes =
        with_again _ _ proper passes (premium_again tables sound d written.named body proper deep passes)
        (premium_last tables d body passes)
    with_fine (reserve time names) proper deep passes =
        with_again _ _ proper passes (reserve_again tables sound d written.named time names proper passes)
        (reserve_last tables d time names passes)

  written_by_lines : (d : Draft) (texts : List (List ℕ)) (final : Draft) → IsWritten tables d
      → MakesDraft tables d texts final → IsWritten tables final
  written_by_lines d [] final written makes = subst (IsWritten tables) (sym makes) written
  written_by_lines d (text ∷ texts) final written (inl silent) = written_by_lines d texts final written silent.1
  written_by_lines d (text ∷ texts) final written (inr (l, fine, rest)) =
      let deep = line_within text l fine.readable.shallow fine.spells in
      written_by_lines (with_line tables d l) texts final
      (with_fine d written l fine.spells.proper deep fine.passes) rest

  pub reads_back : (bytes : List ℕ) (contract : PlainContract) → WritesContract tables bytes contract
      → WritesContract tables (contract_text tables contract) contract
  unfolding contract_text
  reads_back bytes contract writes =
      let d = writes.draft in
      let written = written_by_lines empty_draft (lines_of bytes) d written_at_first writes.lines in
      rw writes.made (record {
        draft = briefly d;
        lines = rw (lines_back (lines_for tables d) written.in_line) written.makes;
        whole = record { interest = writes.whole.interest; life = writes.whole.life; pay = writes.whole.pay };
        made = same_contract d;
      })
