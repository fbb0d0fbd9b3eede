-- The same of whole symbols: the pieces of proper ones are taken as long as they go, and the other way round.
use Rattle.std.proofs.Common.{◌≡◌, ◌<◌, ℕ, zero, suc, true, List, [], ◌∷◌, Option, Some, None, refl, ap, arith}
use Rattle.std.specs.Prelude.{All, IfSome}
use Rattle.std.proofs.lemmas.List.Elements.{All-append, All-cons, All-head, All-nil, All-tail}
use Rattle.halo_text.specs.Name.{is_name_byte}
use Rattle.halo_text.specs.Number.{IsDigit, IsNumber}
use Rattle.halo_lex.specs.Lexeme.{BeginsWithout, is_symbol_byte}
use Rattle.halo_status.specs.declared.pay.Kind.{Kind}
use Rattle.halo_status.specs.declared.pay.Kind.TheVariants.{Insurance, Immediate, Due}
use Rattle.halo_symbol.specs.Characters.{colon, square_open, square_close, caret, brace_close}
use Rattle.halo_symbol.specs.Piece.{Piece, number, byte, piece_texts, ArePieces}
use Rattle.halo_symbol.specs.Tree.{Members, one, and, Body, list, reversion, member_count}
use Rattle.halo_symbol.specs.Symbol.{Vary, level, increasing, decreasing, Names, Mark, Symbol}
use Rattle.halo_symbol.specs.Bytes.{kind_text, head_text}
use Rattle.halo_symbol.specs.Proper.{IsPlainName, AreProper, IsProperBody, IsProperVary, AreProperNames, MayHaveMark, IsAllowed, IsProperSymbol}
use Rattle.halo_symbol.specs.Pieces.{members_pieces, marked_pieces, content_pieces, defer_pieces, other_names_pieces, causes_pieces, symbol_pieces}
use Rattle.halo_symbol.proofs.Heads.{first_byte}
use Rattle.halo_symbol.proofs.Cutting.{IsNameByte, EndsName, clash, node_are, members_are, body_are, node_proper, members_proper, body_proper}

-- a digit may stand in a name
digit_in_name : (b : ℕ) → IsDigit b → is_name_byte b ≡ true
digit_in_name b digit = grind arith

-- so may the letters of a kind
kind_in_name : (k : Kind) → All IsNameByte (kind_text k)
kind_in_name Insurance = All-cons IsNameByte 65 [] refl (All-nil IsNameByte)
kind_in_name Immediate = All-cons IsNameByte 97 [] refl (All-nil IsNameByte)
kind_in_name Due = All-cons IsNameByte 97 (100 ∷ []) refl (All-cons IsNameByte 100 [] refl (All-nil IsNameByte))

-- a head is a name other than `bar`
head_plain : (v : Vary) (k : Kind) → IsProperVary v → IsPlainName (head_text v k)
head_plain level Insurance p = ((refl, All-nil IsNameByte), λ e. absurd (omega (arith, ap first_byte e)))
head_plain level Immediate p = ((refl, All-nil IsNameByte), λ e. absurd (omega (arith, ap first_byte e)))
head_plain level Due p =
    ((refl, All-cons IsNameByte 100 [] refl (All-nil IsNameByte)), λ e. absurd (omega (arith, ap first_byte e)))
head_plain increasing k p = ((refl, kind_in_name k), λ e. absurd (omega (arith, ap first_byte e)))
head_plain (decreasing count) k p = (
  (refl, All-append IsNameByte count (kind_text k) (λ i d lt. digit_in_name _ (p.1 i d lt)) (kind_in_name k)),
  λ e.
      absurd (omega (arith, ap first_byte e)),
)

marked_are : (place : ℕ) (rank : List ℕ) (ms : Members) (rest : List Piece) → IsNumber rank → AreProper ms
    → ArePieces rest → EndsName rest
    → BeginsWithout IsDigit (piece_texts rest) → ArePieces (marked_pieces place rank ms rest)
unfolding is_symbol_byte
marked_are zero rank (one m) rest r p are ends stops =
    node_are m (byte caret ∷ number rank ∷ rest) p (refl, tt, (r, stops, are)) clash
marked_are zero rank (and m ms) rest r p are ends stops =
    node_are m (byte caret ∷ number rank ∷ byte colon ∷ members_pieces ms rest) p.0
    (refl, tt, (r, (λ digit. omega arith), (refl, tt, members_are ms rest p.1 are ends))) clash
marked_are (suc place) rank (one m) rest r p are ends stops = node_are m rest p are ends
marked_are (suc place) rank (and m ms) rest r p are ends stops =
    node_are m (byte colon ∷ marked_pieces place rank ms rest) p.0
    (refl, tt, marked_are place rank ms rest r p.1 are ends stops) clash

content_are : (mark : Option Mark) (body : Body) (rest : List Piece) → IfSome mark (λ mark. IsNumber mark.rank)
    → IsProperBody body → ArePieces rest
    → ArePieces (content_pieces mark body (byte square_close ∷ rest))
unfolding is_symbol_byte
content_are None body rest r p are = body_are body (byte square_close ∷ rest) p (refl, tt, are) clash
content_are (Some mark) (list ms) rest r p are =
    marked_are mark.member mark.rank ms (byte square_close ∷ rest) r p (refl, tt, are) clash (λ digit. omega arith)
content_are (Some mark) (reversion ms ns) rest r p are =
    body_are (reversion ms ns) (byte square_close ∷ rest) p (refl, tt, are) clash

-- a name of a set ends before the next or the bracket
name_ends : (names : List (List ℕ)) (rest : List Piece) → EndsName (other_names_pieces names (byte brace_close ∷ rest))
name_ends [] rest = clash
name_ends (text ∷ names) rest = clash

other_names_are : (names : List (List ℕ)) (rest : List Piece) → All IsPlainName names → ArePieces rest
    → ArePieces (other_names_pieces names (byte brace_close ∷ rest))
unfolding is_symbol_byte
other_names_are [] rest p are = (refl, tt, are)
other_names_are (text ∷ names) rest p are = (
  refl,
  tt,
  (
    All-head IsPlainName text names p,
    name_ends names rest,
    other_names_are names rest
        (All-tail IsPlainName text names p) are,
  ),
)

causes_are : (causes : Option Names) (rest : List Piece) → IfSome causes AreProperNames → ArePieces rest
    → ArePieces (causes_pieces causes rest)
unfolding is_symbol_byte
causes_are None rest p are = are
causes_are (Some names) rest p are =
    (refl, tt, (p.0, name_ends names.others rest, other_names_are names.others rest p.1 are))

-- a head ends before causes or the bracket
head_ends : (causes : Option Names) (rest : List Piece) → EndsName (causes_pieces causes (byte square_open ∷ rest))
head_ends None rest = clash
head_ends (Some names) rest = clash

defer_are : (defer : Option (List ℕ)) (rest : List Piece) → IfSome defer IsNumber → ArePieces rest
    → ArePieces (defer_pieces defer rest)
unfolding is_symbol_byte
defer_are None rest p are = are
defer_are (Some years) rest p are = (p, (λ digit. omega arith), (refl, tt, are))

pub symbol_are : (s : Symbol) (rest : List Piece) → IsProperSymbol s → ArePieces rest → ArePieces (symbol_pieces s rest)
unfolding is_symbol_byte
symbol_are s rest p are =
    let brackets = content_are s.mark s.body rest p.mark p.body are in
    defer_are s.defer _ p.defer (
      head_plain s.vary s.kind p.allowed.vary,
      head_ends s.causes _,
      causes_are s.causes _
          p.causes (refl, tt, brackets),
    )

marked_proper : (place : ℕ) (rank : List ℕ) (ms : Members) (rest : List Piece) → place < member_count ms
    → ArePieces (marked_pieces place rank ms rest)
    → IsNumber rank × AreProper ms × ArePieces rest
marked_proper zero rank (one m) rest lt are =
    let first = node_proper m (byte caret ∷ number rank ∷ rest) are in (first.1.2.0, first.0, first.1.2.2)
marked_proper zero rank (and m ms) rest lt are =
    let first = node_proper m (byte caret ∷ number rank ∷ byte colon ∷ members_pieces ms rest) are in
    let others = members_proper ms rest first.1.2.2.2 in
    (first.1.2.0, (first.0, others.0), others.1)
marked_proper (suc place) rank (one m) rest lt are = absurd (omega arith)
marked_proper (suc place) rank (and m ms) rest lt are =
    let first = node_proper m (byte colon ∷ marked_pieces place rank ms rest) are in
    let others = marked_proper place rank ms rest (omega arith) first.1.2 in
    (others.0, (first.0, others.1), others.2)

content_proper : (k : Kind) (mark : Option Mark) (body : Body) (rest : List Piece) → MayHaveMark k mark body
    → ArePieces (content_pieces mark body rest)
    → IfSome mark (λ mark. IsNumber mark.rank) × IsProperBody body × ArePieces rest
content_proper k None body rest may are = let whole = body_proper body rest are in (tt, whole.0, whole.1)
content_proper k (Some mark) (list ms) rest may are = marked_proper mark.member mark.rank ms rest may.1 are
content_proper k (Some mark) (reversion ms ns) rest may are = absurd may.1

other_names_proper : (names : List (List ℕ)) (rest : List Piece) → ArePieces (other_names_pieces names rest)
    → All IsPlainName names × ArePieces rest
other_names_proper [] rest are = (All-nil IsPlainName, are)
other_names_proper (text ∷ names) rest are =
    let others = other_names_proper names rest are.2.2 in (All-cons IsPlainName text names are.2.0 others.0, others.1)

causes_proper : (causes : Option Names) (rest : List Piece) → ArePieces (causes_pieces causes rest)
    → IfSome causes AreProperNames × ArePieces rest
causes_proper None rest are = (tt, are)
causes_proper (Some names) rest are =
    let others = other_names_proper names.others (byte brace_close ∷ rest) are.2.2 in ((are.2.0, others.0), others.1.2)

defer_proper : (defer : Option (List ℕ)) (rest : List Piece) → ArePieces (defer_pieces defer rest)
    → IfSome defer IsNumber × ArePieces rest
defer_proper None rest are = (tt, are)
defer_proper (Some years) rest are = (are.0, are.2.2)

pub symbol_proper : (s : Symbol) (rest : List Piece) → IsAllowed s → ArePieces (symbol_pieces s rest) → IsProperSymbol s
symbol_proper s rest allowed are =
    let defer = defer_proper s.defer _ are in
    let causes = causes_proper s.causes _ defer.1.2 in
    let content = content_proper s.kind s.mark s.body _ allowed.mark causes.1.2 in
    record { allowed = allowed; defer = defer.0; causes = causes.0; body = content.1; mark = content.0 }
