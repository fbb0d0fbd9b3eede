-- The words of a line's text are the line's words, and the lines of a contract's text are its lines.
use Rattle.std.proofs.Common.{◌≡◌, ◌≢◌, ℕ, ◌<◌, ◌==◌, List, [], ◌∷◌, ◌++◌, append_assoc, Bool, true, false, length, length-append, map, ap, ap₂, ◌∙◌, refl, arith}
use Rattle.std.specs.Prelude.{All, codes, not, ◌&&◌}
use Rattle.std.specs.Char.{is_ascii_alphabetic}
use Rattle.std.specs.List.{filter, join_with_byte, list_all, slice_split}
use Rattle.std.proofs.lemmas.Bool.{ne_eqb}
use Rattle.std.proofs.lemmas.List.Elements.{All-nil, All-cons, All-head, All-tail, All-append, All-weaker}
use Rattle.std.proofs.lemmas.List.Splits.{slice_split_at, slice_split_none}
use Rattle.std.proofs.lemmas.List.Sums.{AllPass-from_list_all}
use Rattle.halo_text.specs.Name.{is_name_byte}
use Rattle.halo_text.specs.Number.{IsDigit, IsNumber}
use Rattle.halo_lex.specs.Lexeme.{IsLongName, is_symbol_byte}
use Rattle.halo_lex.specs.Words.{is_blank}
use Rattle.halo_symbol.specs.Bytes.{body_bytes, symbol_bytes}
use Rattle.halo_symbol.specs.Piece as piece
use Rattle.halo_symbol.specs.Piece.{ArePieces, Piece, piece_texts}
use Rattle.halo_symbol.specs.Pieces.{body_pieces, symbol_pieces}
use Rattle.halo_symbol.specs.Proper.{IsProperBody, IsProperSymbol}
use Rattle.halo_symbol.specs.Symbol.{Symbol}
use Rattle.halo_symbol.specs.Tree.{Body}
use Rattle.halo_symbol.proofs.Lengths.{body_pieces-longer, symbol_pieces-longer}
use Rattle.halo_symbol.proofs.Words.{spelled_pieces, status_pieces}
use Rattle.halo_syntax.specs.FileLines.{is_line_feed, is_some, lines_of, without_empty_end, without_mark, without_return, words_of}
use Rattle.halo_syntax.specs.Line.{LaterRate, Line, fraction_word, interest, life, line_words, pay, premium, rate_words, reserve, rule_word, ties}
use Rattle.halo_syntax.specs.ProperLine.{IsProperLine, IsProperRate}
use Rattle.halo_contract.specs.declared.ties.Ties.TheVariants as rule
use Rattle.halo_spell.specs.ContractText.{line_text, lines_text}

-- a byte that ends neither a word nor a line
pub record IsPlain (b : ℕ) : Type 0 where
  pub not_tab : b ≢ 9
  pub not_feed : b ≢ 10
  pub not_return : b ≢ 13
  pub not_space : b ≢ 32

-- the same as a test
abbrev is_plain : ℕ → Bool
is_plain b = not (b == 9) && not (b == 10) && not (b == 13) && not (b == 32)

name_byte_plain : (b : ℕ) → is_name_byte b ≡ true → IsPlain b
name_byte_plain b is = record {
  not_tab = λ e. let same = ap is_name_byte e in cc;
  not_feed = λ e. let same = ap is_name_byte e in cc;
  not_return = λ e. let same = ap is_name_byte e in cc;
  not_space = λ e. let same = ap is_name_byte e in cc;
}

letter_plain : (b : ℕ) → is_ascii_alphabetic b ≡ true → IsPlain b
letter_plain b is = record {
  not_tab = λ e. let same = ap is_ascii_alphabetic e in cc;
  not_feed = λ e. let same = ap is_ascii_alphabetic e in cc;
  not_return = λ e. let same = ap is_ascii_alphabetic e in cc;
  not_space = λ e. let same = ap is_ascii_alphabetic e in cc;
}

digit_plain : (b : ℕ) → IsDigit b → IsPlain b
digit_plain b is =
    record {
      not_tab = λ e. omega (arith, is.0);
      not_feed = λ e. omega (arith, is.0);
      not_return = λ e. omega (arith, is.0);
      not_space = λ e. omega (arith, is.0);
    }

symbol_byte_plain : (b : ℕ) → is_symbol_byte b ≡ true → IsPlain b
unfolding is_symbol_byte
symbol_byte_plain b is = record {
  not_tab = λ e. let same = ap is_symbol_byte e in cc;
  not_feed = λ e. let same = ap is_symbol_byte e in cc;
  not_return = λ e. let same = ap is_symbol_byte e in cc;
  not_space = λ e. let same = ap is_symbol_byte e in cc;
}

-- a text that is written out
written_plain : (bytes : List ℕ) → list_all is_plain bytes ≡ true → All IsPlain bytes
written_plain bytes passes =
    All-weaker (λ b. is_plain b ≡ true) IsPlain one bytes (AllPass-from_list_all is_plain bytes passes)
  where
    one : (b : ℕ) → is_plain b ≡ true → IsPlain b
    one b is = record {
      not_tab = λ e. let same = ap is_plain e in cc;
      not_feed = λ e. let same = ap is_plain e in cc;
      not_return = λ e. let same = ap is_plain e in cc;
      not_space = λ e. let same = ap is_plain e in cc;
    }

-- a word: at least one byte, and none that ends it
pub record IsWord (word : List ℕ) : Type 0 where
  pub some : 0 < length word
  pub plain : All IsPlain word

name_word : (text : List ℕ) → IsLongName text → IsWord text
name_word [] is = absurd is
name_word (first ∷ rest) is =
    record {
      some = omega arith;
      plain =
          All-cons IsPlain first rest (letter_plain first is.0)
          (All-weaker (λ b. is_name_byte b ≡ true) IsPlain name_byte_plain rest is.1);
    }

number_word : (text : List ℕ) → IsNumber text → IsWord text
number_word text is = record { some = is.0; plain = All-weaker IsDigit IsPlain digit_plain text is.1 }

-- the texts of pieces
pieces_plain : (pieces : List Piece) → ArePieces pieces → All IsPlain (piece_texts pieces)
pieces_plain [] are = All-nil IsPlain
pieces_plain (piece.name text ∷ pieces) are =
    All-append IsPlain text (piece_texts pieces) (name_word text are.0.0).plain (pieces_plain pieces are.2)
pieces_plain (piece.bar ∷ pieces) are =
    All-append IsPlain (codes "bar") (piece_texts pieces) (written_plain (codes "bar") refl) (pieces_plain pieces are.2)
pieces_plain (piece.number digits ∷ pieces) are =
    All-append IsPlain digits (piece_texts pieces) (number_word digits are.0).plain (pieces_plain pieces are.2)
pieces_plain (piece.byte b ∷ pieces) are =
    All-cons IsPlain b (piece_texts pieces) (symbol_byte_plain b are.0) (pieces_plain pieces are.2)

pieces_some : (pieces : List Piece) → ArePieces pieces → 0 < length pieces → 0 < length (piece_texts pieces)
pieces_some [] are some = absurd (omega arith)
pieces_some (piece.name text ∷ pieces) are some =
    omega (arith, length-append text (piece_texts pieces), (name_word text are.0.0).some)
pieces_some (piece.bar ∷ pieces) are some = omega arith
pieces_some (piece.number digits ∷ pieces) are some = omega (arith, length-append digits (piece_texts pieces), are.0.0)
pieces_some (piece.byte b ∷ pieces) are some = omega arith

symbol_word : (s : Symbol) → IsProperSymbol s → IsWord (symbol_bytes s)
symbol_word s proper =
    let are = spelled_pieces (symbol_bytes s) s (record { proper = proper; bytes = refl }) in
    rw (← are.whole) (record {
      some = pieces_some (symbol_pieces s []) are.each
          (omega (arith, symbol_pieces-longer s []));
      plain = pieces_plain (symbol_pieces s []) are.each;
    })

status_word : (body : Body) → IsProperBody body → IsWord (body_bytes body)
status_word body proper =
    let are = status_pieces (body_bytes body) body (record { proper = proper; bytes = refl }) in
    rw (← are.whole) (record {
      some = pieces_some (body_pieces body []) are.each
          (omega (arith, body_pieces-longer body []));
      plain = pieces_plain (body_pieces body []) are.each;
    })

fraction_is_word : (p q : List ℕ) → IsNumber p → IsNumber q → IsWord (fraction_word p q)
fraction_is_word p q p_is q_is = record {
  some = omega (arith, length-append (p ++ codes "/") q, length-append p (codes "/"), p_is.0);
  plain =
      All-append IsPlain (p ++ codes "/") q (All-append IsPlain p (codes "/") (number_word p p_is).plain
      (written_plain (codes "/") refl)) (number_word q q_is).plain;
}

-- a word that is written out
written_word : (word : List ℕ) → 0 < length word → list_all is_plain word ≡ true → IsWord word
written_word word some passes = record { some = some; plain = written_plain word passes }

-- the words of a proper line
module _ where
  cons : (word : List ℕ) (words : List (List ℕ)) → IsWord word → All IsWord words → All IsWord (word ∷ words)
  cons word words first others = All-cons IsWord word words first others

  rates_are_words : (rates : List LaterRate) → All IsProperRate rates → All IsWord (rate_words rates)
  rates_are_words [] proper = All-nil IsWord
  rates_are_words (rate ∷ rates) proper =
      let here = All-head IsProperRate rate rates proper in
      cons rate.year (fraction_word rate.p rate.q ∷ rate_words rates) (number_word rate.year here.year)
      (cons (fraction_word rate.p rate.q) (rate_words rates) (fraction_is_word rate.p rate.q here.p here.q)
      (rates_are_words rates (All-tail IsProperRate rate rates proper)))

  -- a word that is written out, and others behind it
  keyword : (word : List ℕ) (words : List (List ℕ)) → 0 < length word → list_all is_plain word ≡ true → All IsWord words
      → All IsWord (word ∷ words)
  keyword word words some passes others = cons word words (written_word word some passes) others

  alone : (word : List ℕ) → IsWord word → All IsWord (word ∷ [])
  alone word is = cons word [] is (All-nil IsWord)

  pub are_words : (l : Line) → IsProperLine l → All IsWord (line_words l)
  are_words (interest p q rates) proper =
      keyword (codes "interest") (fraction_word p q ∷ rate_words rates) (omega arith) refl
      (cons (fraction_word p q) (rate_words rates) (fraction_is_word p q proper.0 proper.1)
      (rates_are_words rates proper.2))
  are_words (life name table age) proper =
      keyword (codes "life") (name ∷ table ∷ age ∷ []) (omega arith) refl
      (cons name (table ∷ age ∷ []) (name_word name proper.0.0)
      (cons table (age ∷ []) (name_word table proper.1) (alone age (number_word age proper.2))))
  are_words (ties rule.Declared) proper =
      keyword (codes "ties") (codes "declared" ∷ []) (omega arith) refl
      (alone (codes "declared") (written_word (codes "declared") (omega arith) refl))
  are_words (ties rule.Even) proper =
      keyword (codes "ties") (codes "even" ∷ []) (omega arith) refl
      (alone (codes "even") (written_word (codes "even") (omega arith) refl))
  are_words (pay amount s) proper =
      keyword (codes "pay") (amount ∷ symbol_bytes s ∷ []) (omega arith) refl
      (cons amount (symbol_bytes s ∷ []) (number_word amount proper.0)
      (alone (symbol_bytes s) (symbol_word s proper.1)))
  are_words (premium body) proper =
      keyword (codes "premium") (body_bytes body ∷ []) (omega arith) refl
      (alone (body_bytes body) (status_word body proper))
  are_words (reserve time names) proper =
      keyword (codes "reserve") (time ∷ names) (omega arith) refl
      (cons time names (number_word time proper.0) (All-weaker IsLongName IsWord name_word names proper.1))

-- a plain byte is no blank
not_blank : (b : ℕ) → IsPlain b → is_blank b ≡ false
not_blank b plain = rw (ne_eqb b 32 plain.not_space, ne_eqb b 9 plain.not_tab) refl

-- a word that is kept
kept : (word : List ℕ) (words : List (List ℕ)) → 0 < length word
    → filter is_some (word ∷ words) ≡ word ∷ filter is_some words
kept [] words some = absurd (omega arith)
kept (b ∷ word) words some = refl

split_words : (word : List ℕ) (words : List (List ℕ)) → All IsWord (word ∷ words)
    → slice_split is_blank (join_with_byte 32 (word ∷ words)) ≡ word ∷ words
split_words word [] are =
    slice_split_none is_blank word (All-weaker IsPlain (λ b. is_blank b ≡ false) not_blank word
    (All-head IsWord word [] are).plain)
split_words word (next ∷ words) are =
    slice_split_at is_blank word 32 (join_with_byte 32 (next ∷ words))
    (All-weaker IsPlain (λ b. is_blank b ≡ false) not_blank word (All-head IsWord word (next ∷ words) are).plain)
    refl
    ∙ ap (λ ws. word ∷ ws) (split_words next words (All-tail IsWord word (next ∷ words) are))

all_kept : (words : List (List ℕ)) → All IsWord words → filter is_some words ≡ words
all_kept [] are = refl
all_kept (word ∷ words) are =
    kept word words (All-head IsWord word words are).some
    ∙ ap (λ ws. word ∷ ws) (all_kept words (All-tail IsWord word words are))

-- words with a space between each two are the words of that text
words_back : (word : List ℕ) (words : List (List ℕ)) → All IsWord (word ∷ words)
    → words_of (join_with_byte 32 (word ∷ words)) ≡ word ∷ words
words_back word words are = ap (filter is_some) (split_words word words are) ∙ all_kept (word ∷ words) are

-- so are those of a line
pub line_words_back : (l : Line) → IsProperLine l → words_of (line_text l) ≡ line_words l
line_words_back l proper = go l (are_words l proper)
  where
    go : (l : Line) → All IsWord (line_words l) → words_of (line_text l) ≡ line_words l
    go (interest p q rates) are = words_back (codes "interest") (fraction_word p q ∷ rate_words rates) are
    go (life name table age) are = words_back (codes "life") (name ∷ table ∷ age ∷ []) are
    go (ties r) are = words_back (codes "ties") (rule_word r ∷ []) are
    go (pay amount s) are = words_back (codes "pay") (amount ∷ symbol_bytes s ∷ []) are
    go (premium body) are = words_back (codes "premium") (body_bytes body ∷ []) are
    go (reserve time names) are = words_back (codes "reserve") (time ∷ names) are

-- a byte that ends no line
pub record IsInLine (b : ℕ) : Type 0 where
  pub not_feed : b ≢ 10
  pub not_return : b ≢ 13

in_line : (b : ℕ) → IsPlain b → IsInLine b
in_line b plain = record { not_feed = plain.not_feed; not_return = plain.not_return }

joined_in_line : (words : List (List ℕ)) → All IsWord words → All IsInLine (join_with_byte 32 words)
joined_in_line [] are = All-nil IsInLine
joined_in_line (word ∷ []) are = All-weaker IsPlain IsInLine in_line word (All-head IsWord word [] are).plain
joined_in_line (word ∷ next ∷ words) are =
    All-append IsInLine word (32 ∷ join_with_byte 32 (next ∷ words))
    (All-weaker IsPlain IsInLine in_line word (All-head IsWord word (next ∷ words) are).plain)
    (All-cons IsInLine 32 _ (record {
      not_feed = λ e. omega arith;
      not_return = λ e. omega arith;
    }) (joined_in_line (next ∷ words) (All-tail IsWord word (next ∷ words) are)))

-- the text of a proper line has no byte that ends a line
pub text_in_line : (l : Line) → IsProperLine l → All IsInLine (line_text l)
text_in_line l proper = joined_in_line (line_words l) (are_words l proper)

-- and it has a byte
text_some : (l : Line) → 0 < length (line_text l)
text_some (interest p q rates) = omega arith
text_some (life name table age) = omega arith
text_some (ties r) = omega arith
text_some (pay amount s) = omega arith
text_some (premium body) = omega arith
text_some (reserve time names) = omega arith

-- it begins with no byte-order mark
no_mark : (l : Line) (ls : List Line) → without_mark (lines_text (l ∷ ls)) ≡ lines_text (l ∷ ls)
no_mark (interest p q rates) ls = refl
no_mark (life name table age) ls = refl
no_mark (ties r) ls = refl
no_mark (pay amount s) ls = refl
no_mark (premium body) ls = refl
no_mark (reserve time names) ls = refl

split_lines : (ls : List Line) → All (λ l. All IsInLine (line_text l)) ls
    → slice_split is_line_feed (lines_text ls) ≡ map line_text ls ++ [] ∷ []
split_lines [] are = refl
split_lines (l ∷ ls) are =
    let here =
    All-weaker IsInLine (λ b. is_line_feed b ≡ false) (λ b h. ne_eqb b 10 h.not_feed) (line_text l)
    (All-head (λ l. All IsInLine (line_text l)) l ls are) in
    ap (slice_split is_line_feed) (append_assoc (line_text l) (codes "\n") (lines_text ls))
    ∙ slice_split_at is_line_feed (line_text l) 10 (lines_text ls) here refl
    ∙ ap (λ ts. line_text l ∷ ts) (split_lines ls (All-tail (λ l. All IsInLine (line_text l)) l ls are))

-- the empty piece behind the last line feed is dropped
end_dropped : (texts : List (List ℕ)) → All (λ text. 0 < length text) texts
    → without_empty_end (texts ++ [] ∷ []) ≡ texts
end_dropped [] some = refl
end_dropped ([] ∷ texts) some = absurd (omega (arith, All-head (λ text. 0 < length text) [] texts some))
end_dropped ((b ∷ text) ∷ texts) some =
    ap (λ ts. (b ∷ text) ∷ ts) (end_dropped texts (All-tail (λ text. 0 < length text) (b ∷ text) texts some))

-- there is no carriage return to drop
no_return : (text : List ℕ) → All IsInLine text → without_return text ≡ text
no_return [] are = refl
no_return (b ∷ []) are = rw (ne_eqb b 13 (All-head IsInLine b [] are).not_return) refl
no_return (b ∷ next ∷ rest) are = ap (λ bs. b ∷ bs) (no_return (next ∷ rest) (All-tail IsInLine b (next ∷ rest) are))

no_returns : (ls : List Line) → All (λ l. All IsInLine (line_text l)) ls
    → map without_return (map line_text ls) ≡ map line_text ls
no_returns [] are = refl
no_returns (l ∷ ls) are =
    ap₂ (λ t ts. t ∷ ts) (no_return (line_text l) (All-head (λ l. All IsInLine (line_text l)) l ls are))
    (no_returns ls (All-tail (λ l. All IsInLine (line_text l)) l ls are))

some_texts : (ls : List Line) → All (λ text. 0 < length text) (map line_text ls)
some_texts [] = All-nil (λ text. 0 < length text)
some_texts (l ∷ ls) = All-cons (λ text. 0 < length text) (line_text l) (map line_text ls) (text_some l) (some_texts ls)

-- the lines of the text of some lines are their texts
pub lines_back : (ls : List Line) → All (λ l. All IsInLine (line_text l)) ls
    → lines_of (lines_text ls) ≡ map line_text ls
lines_back ls are = ap (λ bs. map without_return (without_empty_end (slice_split is_line_feed bs))) (unmarked ls)
    ∙ ap (λ ts. map without_return (without_empty_end ts)) (split_lines ls are)
    ∙ ap (map without_return) (end_dropped (map line_text ls) (some_texts ls)) ∙ no_returns ls are
  where
    unmarked : (ls : List Line) → without_mark (lines_text ls) ≡ lines_text ls
    unmarked [] = refl
    unmarked (l ∷ ls) = no_mark l ls
