-- The round brackets of a line's text open no further than they nest in its symbol or status.
use Rattle.std.proofs.Common.{◌≡◌, ◌≢◌, ℕ, zero, suc, ◌+◌, ◌≤◌, ◌==◌, Bool, true, List, [], ◌∷◌, ◌++◌, Option, Some, None, ap, subst, refl, arith, cond, length, take, append-nil}
use Rattle.std.specs.Prelude.{All, IfSome, codes, not, ◌&&◌}
use Rattle.std.specs.Char.{is_ascii_alphabetic}
use Rattle.std.specs.List.{filter, join_with_byte, list_all}
use Rattle.std.proofs.lemmas.Bool.{ne_eqb}
use Rattle.std.proofs.lemmas.List.Sums.{AllPass-from_list_all}
use Rattle.std.proofs.lemmas.List.Elements.{All-nil, All-cons, All-head, All-tail, All-append, All-weaker}
use Rattle.halo_symbol.specs.Bytes.{body_bytes, head_text, kind_text, symbol_bytes}
use Rattle.halo_symbol.proofs.Then.{body_alone, body_then, causes_then, content_then, defer_then, marked_then, members_then, node_then, other_names_then, symbol_alone, symbol_then}
use Rattle.halo_symbol.specs.Characters.{angle_close, angle_open, bar_text, brace_close, brace_open, caret, colon, comma, letter_D, letter_I, round_close, round_open, slash, square_close, square_open, stroke}
use Rattle.halo_status.specs.declared.pay.Kind.{Kind}
use Rattle.halo_status.specs.declared.pay.Kind.TheVariants.{Insurance, Immediate, Due}
use Rattle.halo_symbol.specs.Nesting.{nest, nest_body, nest_members}
use Rattle.halo_symbol.specs.Proper.{AreProper, AreProperNames, IsPlainName, IsProper, IsProperBody, IsProperSymbol, IsProperVary}
use Rattle.halo_symbol.specs.Symbol.{Mark, Names, Symbol, Vary, decreasing, increasing, level}
use Rattle.halo_symbol.specs.Tree as tree
use Rattle.halo_symbol.specs.Tree.{Body, Members, Node, and, at_least, exactly, group, last, list, one, reversion, term}
use Rattle.halo_text.specs.Name.{is_name_byte}
use Rattle.halo_text.specs.Number.{IsDigit, IsNumber}
use Rattle.halo_lex.specs.Lexeme.{IsLongName}
use Rattle.halo_syntax.specs.Depth.{IsShallow, count_of}
use Rattle.halo_syntax.specs.Line.{LaterRate, Line, fraction_word, interest, life, pay, premium, rate_words, reserve, ties}
use Rattle.halo_syntax.specs.LineReading.{nest_line}
use Rattle.halo_syntax.specs.ProperLine.{IsProperLine, IsProperRate}
use Rattle.halo_contract.specs.declared.ties.Ties.TheVariants as rule
use Rattle.halo_spell.specs.ContractText.{line_text}

-- up to each place of these bytes the round brackets opened exceed those closed by at most so many
record HasRoom (room : ℕ) (bytes : List ℕ) : Type 0 where
  most : (n : ℕ) → n ≤ length bytes → count_of round_open (take n bytes) ≤ count_of round_close (take n bytes) + room

-- a byte that is no round bracket
record IsNoBracket (b : ℕ) : Type 0 where
  not_open : b ≢ round_open
  not_close : b ≢ round_close

-- the same as a test
abbrev is_no_bracket : ℕ → Bool
is_no_bracket b = not (b == round_open) && not (b == round_close)

name_byte_is_none : (b : ℕ) → is_name_byte b ≡ true → IsNoBracket b
name_byte_is_none b is =
    record { not_open = λ e. let same = ap is_name_byte e in cc; not_close = λ e. let same = ap is_name_byte e in cc }

-- names and numbers have no brackets, nor has a text that is written out without them
name_is_none : (name : List ℕ) → IsLongName name → All IsNoBracket name
name_is_none [] is = absurd is
name_is_none (first ∷ rest) is =
    All-cons IsNoBracket first rest (record {
      not_open = λ e. let same = ap is_ascii_alphabetic e in cc (is.0);
      not_close = λ e. let same = ap is_ascii_alphabetic e in cc (is.0);
    })
    (All-weaker (λ b. is_name_byte b ≡ true) IsNoBracket name_byte_is_none rest is.1)

number_is_none : (digits : List ℕ) → IsNumber digits → All IsNoBracket digits
number_is_none digits is =
    All-weaker IsDigit IsNoBracket (λ b digit. record {
      not_open = λ e. omega (arith, digit.0, digit.1);
      not_close = λ e. omega (arith, digit.0, digit.1);
    }) digits is.1

text_is_none : (bytes : List ℕ) → list_all is_no_bracket bytes ≡ true → All IsNoBracket bytes
text_is_none bytes passes =
    All-weaker (λ b. is_no_bracket b ≡ true) IsNoBracket one bytes (AllPass-from_list_all is_no_bracket bytes passes)
  where
    one : (b : ℕ) → is_no_bracket b ≡ true → IsNoBracket b
    one b is =
        record {
          not_open = λ e. let same = ap is_no_bracket e in cc (is);
          not_close = λ e. let same = ap is_no_bracket e in cc (is);
        }

-- a first byte that is another one is not counted
count_of-other : (byte first : ℕ) (rest : List ℕ) → first ≢ byte → count_of byte (first ∷ rest) ≡ count_of byte rest
count_of-other byte first rest differs =
    ap (λ t. length (cond t (first ∷ filter (λ b. b == byte) rest) (filter (λ b. b == byte) rest)))
    (ne_eqb first byte differs)

-- nothing needs no room
no_room : (room : ℕ) → HasRoom room []
no_room room = record { most = most }
  where
    most : (n : ℕ) → n ≤ length {A = ℕ} [] → count_of round_open (take n []) ≤ count_of round_close (take n []) + room
    most zero within = omega arith
    most (suc n) within = absurd (omega arith)

-- before a byte that is no bracket there is the room that is behind it
before_byte : (room b : ℕ) (rest : List ℕ) → IsNoBracket b → HasRoom room rest → HasRoom room (b ∷ rest)
before_byte room b rest no_bracket has = record { most = most }
  where
    most : (n : ℕ) → n ≤ length (b ∷ rest)
        → count_of round_open (take n (b ∷ rest)) ≤ count_of round_close (take n (b ∷ rest)) + room
    most zero within = omega arith
    most (suc n) within =
        let opened = count_of-other round_open b (take n rest) no_bracket.not_open in
        let closed = count_of-other round_close b (take n rest) no_bracket.not_close in
        let more = has.most n (omega arith) in
        omega arith

-- the same of bytes that are no brackets
before : (room : ℕ) (bytes rest : List ℕ) → All IsNoBracket bytes → HasRoom room rest → HasRoom room (bytes ++ rest)
before room [] rest all has = has
before room (b ∷ bytes) rest all has =
    before_byte room b (bytes ++ rest) (All-head IsNoBracket b bytes all)
    (before room bytes rest (All-tail IsNoBracket b bytes all) has)

-- before an opened bracket there has to be more room, and before a closed one less
before_open : (room : ℕ) (rest : List ℕ) → HasRoom room rest → HasRoom (suc room) (round_open ∷ rest)
before_open room rest has = record { most = most }
  where
    most : (n : ℕ) → n ≤ length (round_open ∷ rest)
        → count_of round_open (take n (round_open ∷ rest)) ≤ count_of round_close (take n (round_open ∷ rest)) + suc
        room
    most zero within = omega arith
    most (suc n) within = let more = has.most n (omega arith) in omega arith

before_close : (room : ℕ) (rest : List ℕ) → HasRoom (suc room) rest → HasRoom room (round_close ∷ rest)
before_close room rest has = record { most = most }
  where
    most : (n : ℕ) → n ≤ length (round_close ∷ rest)
        → count_of round_open (take n (round_close ∷ rest)) ≤ count_of round_close (take n (round_close ∷ rest)) + room
    most zero within = omega arith
    most (suc n) within = let more = has.most n (omega arith) in omega arith

-- bytes that are written out
written : (room : ℕ) (bytes rest : List ℕ) → list_all is_no_bracket bytes ≡ true → HasRoom room rest
    → HasRoom room (bytes ++ rest)
written room bytes rest passes has = before room bytes rest (text_is_none bytes passes) has

-- something in brackets, within which there is one less
bracketed : (room nests : ℕ) (inside : List ℕ → List ℕ) (rest : List ℕ)
    → ((less : ℕ) → nests ≤ less → HasRoom less (round_close ∷ rest) → HasRoom less (inside (round_close ∷ rest)))
    → suc nests ≤ room → HasRoom room rest → HasRoom room (round_open ∷ inside (round_close ∷ rest))
bracketed zero nests inside rest within deep has = absurd (omega arith)
bracketed (suc less) nests inside rest within deep has =
    before_open less (inside (round_close ∷ rest)) (within less (omega arith) (before_close less rest has))

mutual
  -- there is room before a member that nests no deeper
  node_room : (m : Node) (room : ℕ) (rest : List ℕ) → IsProper m → nest m ≤ room → HasRoom room rest
      → HasRoom room (node_then m rest)
  node_room (tree.life name) room rest proper deep has = before room name rest (name_is_none name proper.0) has
  node_room (term years) room rest proper deep has =
      written room (angle_open ∷ []) _ refl (before room years _ (number_is_none years proper)
      (written room (angle_close ∷ []) rest refl has))
  node_room (last ms) room rest proper deep has =
      written room bar_text _ refl (bracketed room (nest_members ms) (members_then ms) rest
      (λ less d h. members_room ms less (round_close ∷ rest) proper d h) deep has)
  node_room (at_least rank ms) room rest proper deep has =
      before room rank _ (number_is_none rank proper.0)
      (written room (slash ∷ []) _ refl (bracketed room (nest_members ms) (members_then ms) rest
      (λ less d h. members_room ms less (round_close ∷ rest) proper.1 d h) deep has))
  node_room (exactly rank ms) room rest proper deep has =
      written room (square_open ∷ []) _ refl
      (before room rank _ (number_is_none rank proper.0)
      (written room (square_close ∷ slash ∷ []) _ refl
      (bracketed room (nest_members ms) (members_then ms) rest
      (λ less d h. members_room ms less (round_close ∷ rest) proper.1 d h) deep has)))
  node_room (group body) room rest proper deep has =
      bracketed room (nest_body body) (body_then body) rest
      (λ less d h. body_room body less (round_close ∷ rest) proper d h) deep has

  members_room : (ms : Members) (room : ℕ) (rest : List ℕ) → AreProper ms → nest_members ms ≤ room → HasRoom room rest
      → HasRoom room (members_then ms rest)
  members_room (one m) room rest proper deep has = node_room m room rest proper deep has
  members_room (and m ms) room rest proper deep has =
      node_room m room (colon ∷ members_then ms rest) proper.0 (omega arith)
      (written room (colon ∷ []) _ refl (members_room ms room rest proper.1 (omega arith) has))

  body_room : (body : Body) (room : ℕ) (rest : List ℕ) → IsProperBody body → nest_body body ≤ room → HasRoom room rest
      → HasRoom room (body_then body rest)
  body_room (list ms) room rest proper deep has = members_room ms room rest proper deep has
  body_room (reversion ms ns) room rest proper deep has =
      members_room ms room (stroke ∷ members_then ns rest) proper.0 (omega arith)
      (written room (stroke ∷ []) _ refl (members_room ns room rest proper.1 (omega arith) has))

marked_room : (place : ℕ) (rank : List ℕ) (ms : Members) (room : ℕ) (rest : List ℕ) → IsNumber rank → AreProper ms
    → nest_members ms ≤ room → HasRoom room rest
    → HasRoom room (marked_then place rank ms rest)
marked_room zero rank (one m) room rest number proper deep has =
    node_room m room _ proper deep (written room (caret ∷ []) _ refl
    (before room rank rest (number_is_none rank number) has))
marked_room zero rank (and m ms) room rest number proper deep has =
    node_room m room _ proper.0 (omega arith)
    (written room (caret ∷ []) _ refl
    (before room rank _ (number_is_none rank number)
    (written room (colon ∷ []) _ refl (members_room ms room rest proper.1 (omega arith) has))))
marked_room (suc place) rank (one m) room rest number proper deep has = node_room m room rest proper deep has
marked_room (suc place) rank (and m ms) room rest number proper deep has =
    node_room m room _ proper.0 (omega arith)
    (written room (colon ∷ []) _ refl (marked_room place rank ms room rest number proper.1 (omega arith) has))

content_room : (mark : Option Mark) (body : Body) (room : ℕ) (rest : List ℕ) → IfSome mark (λ m. IsNumber m.rank)
    → IsProperBody body → nest_body body ≤ room → HasRoom room rest
    → HasRoom room (content_then mark body rest)
content_room None body room rest number proper deep has = body_room body room rest proper deep has
content_room (Some mark) (list ms) room rest number proper deep has =
    marked_room mark.member mark.rank ms room rest number proper deep has
content_room (Some mark) (reversion ms ns) room rest number proper deep has =
    body_room (reversion ms ns) room rest proper deep has

kind_is_none : (kind : Kind) → All IsNoBracket (kind_text kind)
kind_is_none Insurance = text_is_none (kind_text Insurance) refl
kind_is_none Immediate = text_is_none (kind_text Immediate) refl
kind_is_none Due = text_is_none (kind_text Due) refl

head_is_none : (vary : Vary) (kind : Kind) → IsProperVary vary → All IsNoBracket (head_text vary kind)
head_is_none level kind proper = kind_is_none kind
head_is_none increasing kind proper =
    All-append IsNoBracket (letter_I ∷ []) (kind_text kind) (text_is_none (letter_I ∷ []) refl) (kind_is_none kind)
head_is_none (decreasing count) kind proper =
    All-append IsNoBracket (letter_D ∷ []) (count ++ kind_text kind) (text_is_none (letter_D ∷ []) refl)
    (All-append IsNoBracket count (kind_text kind) (number_is_none count proper) (kind_is_none kind))

defer_room : (defer : Option (List ℕ)) (room : ℕ) (rest : List ℕ) → IfSome defer IsNumber → HasRoom room rest
    → HasRoom room (defer_then defer rest)
defer_room None room rest number has = has
defer_room (Some years) room rest number has =
    before room years _ (number_is_none years number) (written room (stroke ∷ []) rest refl has)

names_room : (names : List (List ℕ)) (room : ℕ) (rest : List ℕ) → All IsPlainName names → HasRoom room rest
    → HasRoom room (other_names_then names rest)
names_room [] room rest all has = has
names_room (name ∷ names) room rest all has =
    written room (comma ∷ []) _ refl
    (before room name _ (name_is_none name (All-head IsPlainName name names all).0)
    (names_room names room rest (All-tail IsPlainName name names all) has))

causes_room : (causes : Option Names) (room : ℕ) (rest : List ℕ) → IfSome causes AreProperNames → HasRoom room rest
    → HasRoom room (causes_then causes rest)
causes_room None room rest proper has = has
causes_room (Some names) room rest proper has =
    written room (brace_open ∷ []) _ refl
    (before room names.first _ (name_is_none names.first proper.0.0)
    (names_room names.others room (brace_close ∷ rest) proper.1 (written room (brace_close ∷ []) rest refl has)))

symbol_room : (s : Symbol) (room : ℕ) (rest : List ℕ) → IsProperSymbol s → nest_body s.body ≤ room → HasRoom room rest
    → HasRoom room (symbol_then s rest)
symbol_room s room rest proper deep has =
    defer_room s.defer room _ proper.defer
    (before room (head_text s.vary s.kind) _ (head_is_none s.vary s.kind proper.allowed.vary)
    (causes_room s.causes room _ proper.causes
    (written room (square_open ∷ []) _ refl (content_room s.mark s.body room _ proper.mark proper.body deep
    (written room (square_close ∷ []) rest refl has)))))

-- words without brackets, with a space between each two
words_none : (words : List (List ℕ)) → All (All IsNoBracket) words → All IsNoBracket (join_with_byte 32 words)
words_none [] all = All-nil IsNoBracket
words_none (word ∷ []) all = All-head (All IsNoBracket) word [] all
words_none (word ∷ next ∷ words) all =
    All-append IsNoBracket word (32 ∷ join_with_byte 32 (next ∷ words))
    (All-head (All IsNoBracket) word (next ∷ words) all)
    (All-append IsNoBracket (32 ∷ []) (join_with_byte 32 (next ∷ words)) (text_is_none (32 ∷ []) refl)
    (words_none (next ∷ words) (All-tail (All IsNoBracket) word (next ∷ words) all)))

shallow_words : (words : List (List ℕ)) → All (All IsNoBracket) words → HasRoom 16 (join_with_byte 32 words)
shallow_words words all =
    subst (HasRoom 16) (append-nil (join_with_byte 32 words))
    (before 16 (join_with_byte 32 words) [] (words_none words all) (no_room 16))

fraction_none : (p q : List ℕ) → IsNumber p → IsNumber q → All IsNoBracket (fraction_word p q)
fraction_none p q p_is q_is =
    All-append IsNoBracket (p ++ codes "/") q
    (All-append IsNoBracket p (codes "/") (number_is_none p p_is) (text_is_none (codes "/") refl))
    (number_is_none q q_is)

cons : (word : List ℕ) (words : List (List ℕ)) → All IsNoBracket word → All (All IsNoBracket) words
    → All (All IsNoBracket) (word ∷ words)
cons word words first others = All-cons (All IsNoBracket) word words first others

rates_none : (rates : List LaterRate) → All IsProperRate rates → All (All IsNoBracket) (rate_words rates)
rates_none [] proper = All-nil (All IsNoBracket)
rates_none (rate ∷ rates) proper =
    let here = All-head IsProperRate rate rates proper in
    cons rate.year (fraction_word rate.p rate.q ∷ rate_words rates) (number_is_none rate.year here.year)
    (cons (fraction_word rate.p rate.q) (rate_words rates) (fraction_none rate.p rate.q here.p here.q)
    (rates_none rates (All-tail IsProperRate rate rates proper)))

-- the text of a proper line that nests at most 16 deep is shallow
pub shallow_text : (l : Line) → IsProperLine l → nest_line l ≤ 16 → IsShallow (line_text l)
shallow_text l proper deep = (go l proper deep).most
  where
    go : (l : Line) → IsProperLine l → nest_line l ≤ 16 → HasRoom 16 (line_text l)
    go (interest p q rates) proper deep =
        shallow_words (codes "interest" ∷ fraction_word p q ∷ rate_words rates)
        (cons (codes "interest") (fraction_word p q ∷ rate_words rates) (text_is_none (codes "interest") refl)
        (cons (fraction_word p q) (rate_words rates) (fraction_none p q proper.0 proper.1) (rates_none rates proper.2)))
    go (life name table age) proper deep =
        shallow_words (codes "life" ∷ name ∷ table ∷ age ∷ [])
        (cons (codes "life") (name ∷ table ∷ age ∷ []) (text_is_none (codes "life") refl)
        (cons name (table ∷ age ∷ []) (name_is_none name proper.0.0)
        (cons table (age ∷ []) (name_is_none table proper.1)
        (cons age [] (number_is_none age proper.2) (All-nil (All IsNoBracket))))))
    go (ties rule.Declared) proper deep = written 16 (codes "ties declared") [] refl (no_room 16)
    go (ties rule.Even) proper deep = written 16 (codes "ties even") [] refl (no_room 16)
    go (pay amount s) proper deep =
        let symbol = written 16 (32 ∷ []) (symbol_bytes s) refl
        (subst (HasRoom 16) (symbol_alone s) (symbol_room s 16 [] proper.1 deep (no_room 16))) in
        written 16 (codes "pay ") (amount ++ (32 ∷ symbol_bytes s)) refl
        (before 16 amount (32 ∷ symbol_bytes s) (number_is_none amount proper.0) symbol)
    go (premium body) proper deep =
        written 16 (codes "premium ") (body_bytes body) refl
        (subst (HasRoom 16) (body_alone body) (body_room body 16 [] proper deep (no_room 16)))
    go (reserve time names) proper deep =
        shallow_words (codes "reserve" ∷ time ∷ names)
        (cons (codes "reserve") (time ∷ names) (text_is_none (codes "reserve") refl)
        (cons time names (number_is_none time proper.0)
        (All-weaker IsLongName (All IsNoBracket) name_is_none names proper.1)))
