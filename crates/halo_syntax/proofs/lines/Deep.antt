-- How deep round brackets nest in what is written in a line whose brackets do not open too far.
use Rattle.std.proofs.Common.{◌≡◌, ◌≢◌, ℕ, zero, suc, ◌+◌, ◌-◌, ◌<◌, ◌≤◌, ◌==◌, Bool, true, List, [], ◌∷◌, ◌++◌, Option, Some, None, ap, sym, subst, refl, arith, cond, length, take}
use Rattle.std.specs.Prelude.{All, IfSome, codes, not, ◌&&◌}
use Rattle.std.specs.List.{filter, list_all}
use Rattle.std.specs.Char.{is_ascii_alphabetic}
use Rattle.std.proofs.lemmas.Bool.{ne_eqb}
use Rattle.std.proofs.lemmas.List.{length-append, take-append-le}
use Rattle.std.proofs.lemmas.List.Elements.{All-append, All-cons, All-head, All-tail, All-weaker}
use Rattle.std.proofs.lemmas.List.Sums.{AllPass-from_list_all}
use Rattle.halo_status.specs.declared.pay.Kind.{Kind}
use Rattle.halo_status.specs.declared.pay.Kind.TheVariants.{Insurance, Immediate, Due}
use Rattle.halo_text.specs.Name.{is_name_byte}
use Rattle.halo_text.specs.Number.{IsDigit, IsNumber}
use Rattle.halo_lex.specs.Lexeme.{IsLongName}
use Rattle.halo_symbol.specs.Bytes.{head_text, kind_text}
use Rattle.halo_symbol.proofs.Then.{body_alone, body_then, causes_then, content_then, defer_then, marked_then, members_then, node_then, other_names_then, symbol_alone, symbol_then}
use Rattle.halo_symbol.specs.Characters.{angle_close, angle_open, bar_text, brace_close, brace_open, caret, colon, comma, letter_D, letter_I, round_close, round_open, slash, square_close, square_open, stroke}
use Rattle.halo_symbol.specs.Nesting.{nest, nest_body, nest_members}
use Rattle.halo_symbol.specs.Proper.{AreProper, AreProperNames, IsPlainName, IsProper, IsProperBody, IsProperSymbol, IsProperVary}
use Rattle.halo_symbol.specs.Symbol.{Mark, Names, Symbol, Vary, decreasing, increasing, level}
use Rattle.halo_symbol.specs.Tree as tree
use Rattle.halo_symbol.specs.Tree.{Body, Members, Node, and, at_least, exactly, group, last, list, one, reversion, term}
use Rattle.halo_lex.specs.Words.{is_blank}
use Rattle.halo_syntax.specs.Depth.{IsShallow, count_of}
use Rattle.halo_syntax.specs.FileLines.{words_of}
use Rattle.halo_syntax.specs.Line.{Line, interest, life, ties, pay, premium, reserve, line_words}
use Rattle.halo_syntax.specs.LineReading.{NoLine, NoLineTo, nest_line}
use Rattle.halo_syntax.specs.ProperLine.{IsProperLine, SpellsLine}
use Rattle.halo_syntax.proofs.lines.Blanks.{Begins, IsBlank, first_word}

-- up to each place of these bytes the round brackets opened exceed those closed by at most so many
record HasRoom (room : ℕ) (bytes : List ℕ) : Type 0 where
  most : (n : ℕ) → n ≤ length bytes → count_of round_open (take n bytes) ≤ count_of round_close (take n bytes) + room

-- a byte that is no round bracket
record IsNoBracket (b : ℕ) : Type 0 where
  not_open : b ≢ round_open
  not_close : b ≢ round_close

-- a first byte that is another one
count_of-other : (byte first : ℕ) (rest : List ℕ) → first ≢ byte → count_of byte (first ∷ rest) ≡ count_of byte rest
count_of-other byte first rest differs =
    ap (λ t. length (cond t (first ∷ filter (λ b. b == byte) rest) (filter (λ b. b == byte) rest)))
    (ne_eqb first byte differs)

-- the room before a byte that is no bracket is there behind it
pass_byte : (room b : ℕ) (rest : List ℕ) → IsNoBracket b → HasRoom room (b ∷ rest) → HasRoom room rest
pass_byte room b rest no_bracket has = record {
  most = λ n within.
      let opened = count_of-other round_open b (take n rest) no_bracket.not_open in
      let closed = count_of-other round_close b (take n rest) no_bracket.not_close in
      let more = has.most (suc n) (omega arith) in
      omega arith;
}

-- the same of bytes that are no brackets
pass : (room : ℕ) (bytes rest : List ℕ) → All IsNoBracket bytes → HasRoom room (bytes ++ rest) → HasRoom room rest
pass room [] rest all has = has
pass room (b ∷ bytes) rest all has =
    pass room bytes rest (All-tail IsNoBracket b bytes all)
    (pass_byte room b (bytes ++ rest) (All-head IsNoBracket b bytes all) has)

-- an opened bracket takes one of the room
open_one : (room : ℕ) (rest : List ℕ) → HasRoom room (round_open ∷ rest) → (0 < room) × HasRoom (room - 1) rest
open_one room rest has =
    let some = has.most 1 (omega arith) in
    (omega arith, record { most = λ n within. let more = has.most (suc n) (omega arith) in omega arith })

-- a closed bracket gives one back
close_one : (room : ℕ) (rest : List ℕ) → HasRoom room (round_close ∷ rest) → HasRoom (room + 1) rest
close_one room rest has = record { most = λ n within. let more = has.most (suc n) (omega arith) in omega arith }

-- a name has no brackets
name_byte_is_none : (b : ℕ) → is_name_byte b ≡ true → IsNoBracket b
name_byte_is_none b is = record {
  not_open = λ e. let same = ap is_name_byte e in cc;
  not_close = λ e. let same = ap is_name_byte e in cc;
}

name_is_none : (name : List ℕ) → IsLongName name → All IsNoBracket name
name_is_none [] is = absurd is
name_is_none (first ∷ rest) is =
    All-cons IsNoBracket first rest
    (record {
      not_open = λ e. let same = ap is_ascii_alphabetic e in cc (is.0);
      not_close = λ e. let same = ap is_ascii_alphabetic e in cc (is.0);
    })
    (All-weaker (λ b. is_name_byte b ≡ true) IsNoBracket name_byte_is_none rest is.1)

-- nor has a number
number_is_none : (digits : List ℕ) → IsNumber digits → All IsNoBracket digits
number_is_none digits is =
    All-weaker IsDigit IsNoBracket (λ b digit. record {
      not_open = λ e. omega (arith, digit.0, digit.1);
      not_close = λ e. omega (arith, digit.0, digit.1);
    }) digits is.1

-- the test for a byte that is no round bracket
abbrev is_no_bracket : ℕ → Bool
is_no_bracket b = not (b == round_open) && not (b == round_close)

-- nor have bytes that pass the test, as those of a text that is written out
text_is_none : (bytes : List ℕ) → list_all is_no_bracket bytes ≡ true → All IsNoBracket bytes
text_is_none bytes passes =
    All-weaker (λ b. is_no_bracket b ≡ true) IsNoBracket one bytes (AllPass-from_list_all is_no_bracket bytes passes)
  where
    one : (b : ℕ) → is_no_bracket b ≡ true → IsNoBracket b
    one b is =
        record {
          not_open = λ e. let same = ap is_no_bracket e in cc (is);
          not_close = λ e. let same = ap is_no_bracket e in cc (is);
        }

-- bytes that are written out, behind which the room is the same
skip : (room : ℕ) (bytes rest : List ℕ) → list_all is_no_bracket bytes ≡ true → HasRoom room (bytes ++ rest)
    → HasRoom room rest
skip room bytes rest passes has = pass room bytes rest (text_is_none bytes passes) has

-- something in brackets
bracketed : (room nests : ℕ) (bytes rest : List ℕ)
    → (HasRoom (room - 1) bytes → (nests ≤ room - 1) × HasRoom (room - 1) (round_close ∷ rest))
    → HasRoom room (round_open ∷ bytes) → (suc nests ≤ room) × HasRoom room rest
bracketed room nests bytes rest inside has =
    let opened = open_one room bytes has in
    let within = inside opened.1 in
    let same : room - 1 + 1 ≡ room = omega (arith, opened.0) in
    (omega (arith, opened.0, within.0), subst (λ r. HasRoom r rest) same (close_one (room - 1) rest within.1))

mutual
  -- brackets nest no deeper in a member than there is room, and the room behind it is the same
  node_within : (n : Node) (room : ℕ) (rest : List ℕ) → IsProper n → HasRoom room (node_then n rest)
      → (nest n ≤ room) × HasRoom room rest
  node_within (tree.life name) room rest proper has =
      (omega arith, pass room name rest (name_is_none name proper.0) has)
  node_within (term years) room rest proper has = (
    omega arith,
    skip room (angle_close ∷ []) rest refl
        (pass room years (angle_close ∷ rest) (number_is_none years proper) (skip room (angle_open ∷ []) _ refl has)),
  )
  node_within (last ms) room rest proper has =
      bracketed room (nest_members ms) (members_then ms (round_close ∷ rest)) rest
      (λ inside. members_within ms (room - 1) (round_close ∷ rest) proper inside)
      (skip room bar_text _ refl has)
  node_within (at_least rank ms) room rest proper has =
      bracketed room (nest_members ms) (members_then ms (round_close ∷ rest)) rest
      (λ inside. members_within ms (room - 1) (round_close ∷ rest) proper.1 inside)
      (skip room (slash ∷ []) _ refl (pass room rank _ (number_is_none rank proper.0) has))
  node_within (exactly rank ms) room rest proper has =
      bracketed room (nest_members ms) (members_then ms (round_close ∷ rest)) rest
      (λ inside. members_within ms (room - 1) (round_close ∷ rest) proper.1 inside)
      (skip room (square_close ∷ slash ∷ []) _ refl
      (pass room rank _ (number_is_none rank proper.0) (skip room (square_open ∷ []) _ refl has)))
  node_within (group body) room rest proper has =
      bracketed room (nest_body body) (body_then body (round_close ∷ rest)) rest
      (λ inside. body_within body (room - 1) (round_close ∷ rest) proper inside) has

  -- the same of a list
  members_within : (ms : Members) (room : ℕ) (rest : List ℕ) → AreProper ms → HasRoom room (members_then ms rest)
      → (nest_members ms ≤ room) × HasRoom room rest
  members_within (one m) room rest proper has = node_within m room rest proper has
  members_within (and m ms) room rest proper has =
      let first = node_within m room (colon ∷ members_then ms rest) proper.0 has in
      let others = members_within ms room rest proper.1 (skip room (colon ∷ []) _ refl first.1) in
      (omega (arith, first.0, others.0), others.1)

  -- the same of a body
  body_within : (body : Body) (room : ℕ) (rest : List ℕ) → IsProperBody body → HasRoom room (body_then body rest)
      → (nest_body body ≤ room) × HasRoom room rest
  body_within (list ms) room rest proper has = members_within ms room rest proper has
  body_within (reversion ms ns) room rest proper has =
      let first = members_within ms room (stroke ∷ members_then ns rest) proper.0 has in
      let second = members_within ns room rest proper.1 (skip room (stroke ∷ []) _ refl first.1) in
      (omega (arith, first.0, second.0), second.1)

-- the same of a list with a mark
marked_within : (place : ℕ) (rank : List ℕ) (ms : Members) (room : ℕ) (rest : List ℕ) → IsNumber rank → AreProper ms
    → HasRoom room (marked_then place rank ms rest) → nest_members ms ≤ room
marked_within zero rank (one m) room rest number proper has = (node_within m room (caret ∷ (rank ++ rest)) proper has).0
marked_within zero rank (and m ms) room rest number proper has =
    let first = node_within m room (caret ∷ (rank ++ (colon ∷ members_then ms rest))) proper.0 has in
    let behind =
    skip room (colon ∷ []) _ refl (pass room rank _ (number_is_none rank number)
    (skip room (caret ∷ []) _ refl first.1)) in
    let others = members_within ms room rest proper.1 behind in
    omega (arith, first.0, others.0)
marked_within (suc place) rank (one m) room rest number proper has = (node_within m room rest proper has).0
marked_within (suc place) rank (and m ms) room rest number proper has =
    let first = node_within m room (colon ∷ marked_then place rank ms rest) proper.0 has in
    let others = marked_within place rank ms room rest number proper.1 (skip room (colon ∷ []) _ refl first.1) in
    omega (arith, first.0, others)

-- the same of a body with the mark that it may have
content_within : (mark : Option Mark) (body : Body) (room : ℕ) (rest : List ℕ) → IfSome mark (λ m. IsNumber m.rank)
    → IsProperBody body → HasRoom room (content_then mark body rest) → nest_body body ≤ room
content_within None body room rest number proper has = (body_within body room rest proper has).0
content_within (Some mark) (list ms) room rest number proper has =
    marked_within mark.member mark.rank ms room rest number proper has
content_within (Some mark) (reversion ms ns) room rest number proper has =
    (body_within (reversion ms ns) room rest proper has).0

-- the letters of a kind are no brackets
kind_is_none : (kind : Kind) → All IsNoBracket (kind_text kind)
kind_is_none Insurance = text_is_none (kind_text Insurance) refl
kind_is_none Immediate = text_is_none (kind_text Immediate) refl
kind_is_none Due = text_is_none (kind_text Due) refl

-- nor are those of a head
head_is_none : (vary : Vary) (kind : Kind) → IsProperVary vary → All IsNoBracket (head_text vary kind)
head_is_none level kind proper = kind_is_none kind
head_is_none increasing kind proper =
    All-append IsNoBracket (letter_I ∷ []) (kind_text kind) (text_is_none (letter_I ∷ []) refl) (kind_is_none kind)
head_is_none (decreasing count) kind proper =
    All-append IsNoBracket (letter_D ∷ []) (count ++ kind_text kind) (text_is_none (letter_D ∷ []) refl)
    (All-append IsNoBracket count (kind_text kind) (number_is_none count proper) (kind_is_none kind))

-- the room behind a deferral is the same
pass_defer : (defer : Option (List ℕ)) (room : ℕ) (rest : List ℕ) → IfSome defer IsNumber
    → HasRoom room (defer_then defer rest) → HasRoom room rest
pass_defer None room rest number has = has
pass_defer (Some years) room rest number has =
    skip room (stroke ∷ []) rest refl (pass room years _ (number_is_none years number) has)

-- and behind the names of a set
pass_names : (names : List (List ℕ)) (room : ℕ) (rest : List ℕ) → All IsPlainName names
    → HasRoom room (other_names_then names rest) → HasRoom room rest
pass_names [] room rest all has = has
pass_names (name ∷ names) room rest all has =
    pass_names names room rest (All-tail IsPlainName name names all)
    (pass room name _ (name_is_none name (All-head IsPlainName name names all).0) (skip room (comma ∷ []) _ refl has))

-- and behind the causes
pass_causes : (causes : Option Names) (room : ℕ) (rest : List ℕ) → IfSome causes AreProperNames
    → HasRoom room (causes_then causes rest) → HasRoom room rest
pass_causes None room rest proper has = has
pass_causes (Some names) room rest proper has =
    skip room (brace_close ∷ []) rest refl
    (pass_names names.others room (brace_close ∷ rest) proper.1
    (pass room names.first _ (name_is_none names.first proper.0.0) (skip room (brace_open ∷ []) _ refl has)))

-- brackets nest no deeper in a symbol than there is room
symbol_within : (s : Symbol) (room : ℕ) (rest : List ℕ) → IsProperSymbol s → HasRoom room (symbol_then s rest)
    → nest_body s.body ≤ room
symbol_within s room rest proper has =
    let head = pass_defer s.defer room _ proper.defer has in
    let causes = pass room (head_text s.vary s.kind) _ (head_is_none s.vary s.kind proper.allowed.vary) head in
    let content = skip room (square_open ∷ []) _ refl (pass_causes s.causes room _ proper.causes causes) in
    content_within s.mark s.body room _ proper.mark proper.body content

-- a blank is no bracket
blank_is_none : (b : ℕ) → IsBlank b → IsNoBracket b
blank_is_none b is =
    record { not_open = λ e. let same = ap is_blank e in cc (is); not_close = λ e. let same = ap is_blank e in cc (is) }

-- what there is room for before some bytes
front : (room : ℕ) (bytes rest : List ℕ) → HasRoom room (bytes ++ rest) → HasRoom room bytes
front room bytes rest has =
    record {
      most = λ n within. subst (λ bs. count_of round_open bs ≤ count_of round_close bs + room)
          (take-append-le n bytes rest within) (has.most n (omega (arith, length-append bytes rest)));
    }

-- the room of a text is there in its first word and what follows it
at_word : (room : ℕ) (text word : List ℕ) (words : List (List ℕ)) (begins : Begins text word words) → HasRoom room text
    → HasRoom room (word ++ begins.after)
at_word room text word words begins has =
    pass room begins.before (word ++ begins.after)
    (All-weaker IsBlank IsNoBracket blank_is_none begins.before begins.blanks)
    (subst (HasRoom room) begins.text_is has)

-- and behind its first word, where that has no brackets
pass_word : (room : ℕ) (text word : List ℕ) (words : List (List ℕ)) → words_of text ≡ word ∷ words
    → All IsNoBracket word → HasRoom room text → (after : List ℕ) × (words_of after ≡ words) × HasRoom room after
pass_word room text word words e none has =
    let begins = first_word text word words e in
    (begins.after, begins.words_are, pass room word begins.after none (at_word room text word words begins has))

-- and in the word
in_word : (room : ℕ) (text word : List ℕ) (words : List (List ℕ)) → words_of text ≡ word ∷ words → HasRoom room text
    → HasRoom room word
in_word room text word words e has =
    let begins = first_word text word words e in front room word begins.after (at_word room text word words begins has)

-- brackets nest at most 16 deep in the line that a text is, where they do not open too far
line_within : (text : List ℕ) (l : Line) → IsShallow text → SpellsLine (words_of text) l → nest_line l ≤ 16
line_within text l shallow spells = go l spells.proper spells.words_are
  where
    has : HasRoom 16 text
    has = record { most = shallow }

    go : (l : Line) → IsProperLine l → words_of text ≡ line_words l → nest_line l ≤ 16
    go (pay amount symbol) proper e =
        let behind_pay = pass_word 16 text (codes "pay") _ e (text_is_none (codes "pay") refl) has in
        let behind_amount =
        pass_word 16 behind_pay.0 amount _ behind_pay.1 (number_is_none amount proper.0) behind_pay.2 in
        symbol_within symbol 16 [] proper.1
        (subst (HasRoom 16) (sym (symbol_alone symbol)) (in_word 16 behind_amount.0 _ [] behind_amount.1 behind_amount.2))
    go (premium status) proper e =
        let behind_premium = pass_word 16 text (codes "premium") _ e (text_is_none (codes "premium") refl) has in
        (body_within status 16 [] proper
        (subst (HasRoom 16) (sym (body_alone status)) (in_word 16 behind_premium.0 _ [] behind_premium.1 behind_premium.2))).0
    go (interest p q rates) proper e = omega arith
    go (life name table age) proper e = omega arith
    go (ties r) proper e = omega arith
    go (reserve time names) proper e = omega arith

-- so where the words of such a text are no line that nests at most 16 deep, they are no line
pub no_line_at_all : (text : List ℕ) (words : List (List ℕ)) → words ≡ words_of text → NoLine words → IsShallow text
    → (l : Line) → SpellsLine (words_of text) l → ⊥
unfolding NoLineTo
no_line_at_all text words are none shallow l spells =
    none l (line_within text l shallow spells) (subst (λ ws. SpellsLine ws l) (sym are) spells)
