-- Words spell at most one line.
use Rattle.std.proofs.Common.{◌≡◌, ℕ, List, [], ◌∷◌, ap, sym, ◌∙◌, refl, arith, length}
use Rattle.std.specs.Prelude.{All}
use Rattle.std.proofs.lemmas.List.Elements.{All-head, All-tail}
use Rattle.halo_symbol.proofs.Words.{status_unique, symbol_unique}
use Rattle.halo_symbol.specs.Bytes.{body_bytes, symbol_bytes}
use Rattle.halo_syntax.specs.Line.{LaterRate, Line, interest, life, ties, pay, premium, reserve, line_words, rate_words, rule_word}
use Rattle.halo_syntax.specs.ProperLine.{IsProperLine, IsProperRate, SpellsLine}
use Rattle.halo_contract.specs.declared.ties.Ties.{Ties}
use Rattle.halo_contract.specs.declared.ties.Ties.TheVariants.{Declared, Even}
use Rattle.halo_syntax.proofs.lines.NoLines.{behind, first_is, word_code}
use Rattle.halo_syntax.proofs.lines.Slashes.{fraction_one}

-- pairs of a year and a fraction are told by their words
rates_one : (rates others : List LaterRate) → All IsProperRate rates → All IsProperRate others
    → rate_words rates ≡ rate_words others → rates ≡ others
rates_one [] [] a b e = refl
rates_one [] (other ∷ others) a b e = absurd (omega (arith, ap length e))
rates_one (rate ∷ rates) [] a b e = absurd (omega (arith, ap length e))
rates_one (rate ∷ rates) (other ∷ others) a b e =
    let fraction =
    fraction_one rate.p rate.q other.p other.q (All-head IsProperRate rate rates a).p
    (All-head IsProperRate other others b).p (first_is (behind e)) in
    let year = first_is e in
    let first : rate ≡ other = λ i. record { year = year i; p = fraction.0 i; q = fraction.1 i } in
    let rest =
    rates_one rates others (All-tail IsProperRate rate rates a) (All-tail IsProperRate other others b)
    (behind (behind e)) in
    cc

-- a rule is told by its word
rule_one : (rule other : Ties) → rule_word rule ≡ rule_word other → rule ≡ other
rule_one Declared Declared e = refl
rule_one Declared Even e = absurd (omega (arith, ap length e))
rule_one Even Declared e = absurd (omega (arith, ap length e))
rule_one Even Even e = refl

-- a line is told by its words
same_words : (l m : Line) → IsProperLine l → IsProperLine m → line_words l ≡ line_words m → l ≡ m
same_words (interest p q rates) (interest r s others) a b e =
    let fraction = fraction_one p q r s a.0 b.0 (first_is (behind e)) in
    let same = rates_one rates others a.2 b.2 (behind (behind e)) in
    let first = fraction.0 in
    let second = fraction.1 in
    cc
same_words (life name table age) (life other second years) a b e = cc
same_words (ties r) (ties s) a b e = ap ties (rule_one r s (first_is (behind e)))
same_words (pay amount symbol) (pay other second) a b e =
    let first = first_is (behind e) in
    let same =
    symbol_unique (symbol_bytes symbol) symbol second (record {
      proper = a.1;
      bytes = refl;
    }) (record { proper = b.1; bytes = first_is (behind (behind e)) }) in
    cc
same_words (premium status) (premium other) a b e =
    ap premium (status_unique (body_bytes status) status other (record {
      proper = a;
      bytes = refl;
    }) (record { proper = b; bytes = first_is (behind e) }))
same_words (reserve time names) (reserve other others) a b e = cc
same_words l m a b e = absurd (omega (arith, ap word_code e))

-- words spell at most one line
pub line_one : (words : List (List ℕ)) (l m : Line) → SpellsLine words l → SpellsLine words m → l ≡ m
line_one words l m a b = same_words l m a.proper b.proper (sym a.words_are ∙ b.words_are)
