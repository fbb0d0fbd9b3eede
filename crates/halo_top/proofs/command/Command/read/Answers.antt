use Rattle.std.proofs.Common.{◌≡◌, ◌∙◌, ◌∷◌, [], List, ℕ, ap, arith, codes, string_bytes, sym}
use Rattle.std.specs.Cmp.Lexicographic.{same_text}
use Rattle.halo_top.proofs.Words.{four_words, two_words}
use Rattle.halo_top.proofs.command.Command.read.Goals as goal

pub returns-in-len2 : goal.returns-in-len2
returns-in-len2 c =
    let words =
    two_words c.args.words.now c.word-item.result c.number-item.result (omega (arith, c.in-len2.len_at_least))
    (omega (arith, c.in-len2.len_below)) c.word-item.is c.number-item.is in
    let is : string_bytes c.word-item.result ≡ codes "sample"
    = sym c.as_str.ensures.value ∙ same_text _ _ c.if-eq.ensures in
    rw c.as_str-in-len2.ensures.value
    (words ∙ ap (λ (word : List ℕ). word ∷ string_bytes c.number-item.result ∷ []) is)

pub returns-in-len4 : goal.returns-in-len4
returns-in-len4 c =
    let words = four_words c.args.words.now c.word-item-then-words-lt5.result c.tables-item-then-words-lt5.result
    c.name-item.result c.fraction-item.result (omega (arith, c.in-len4.len_at_least))
    (omega (arith, c.in-len4.len_below))
    c.word-item-then-words-lt5.is c.tables-item-then-words-lt5.is c.name-item.is c.fraction-item.is in
    let is : string_bytes c.word-item-then-words-lt5.result ≡ codes "columns"
    = sym c.as_str-then-words-lt5.ensures.value ∙ same_text _ _ c.if-eq-2.ensures in
    rw (c.as_str-in-len4.ensures.value, c.as_str-in-len4-2.ensures.value, c.as_str-in-len4-3.ensures.value)
    (words ∙ ap (λ (word : List ℕ). word ∷ string_bytes c.tables-item-then-words-lt5.result
    ∷ string_bytes c.name-item.result ∷ string_bytes c.fraction-item.result ∷ []) is)
