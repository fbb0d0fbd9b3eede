-- The pieces of proper symbols and statuses are taken as long as they go, and the other way round.
use Rattle.std.proofs.Common.{◌≡◌, ℕ, true, false, List, ◌∷◌, refl, arith}
use Rattle.halo_text.specs.Name.{is_name_byte}
use Rattle.halo_lex.specs.Lexeme.{BeginsWithout, is_symbol_byte}
use Rattle.halo_symbol.specs.Characters.{round_close, colon, stroke}
use Rattle.halo_symbol.specs.Piece.{Piece, byte, piece_texts, ArePieces}
use Rattle.halo_symbol.specs.Tree.{Node, life, term, last, at_least, exactly, group, Members, one, and, Body, list, reversion}
use Rattle.halo_symbol.specs.Proper.{IsProper, AreProper, IsProperBody}
use Rattle.halo_symbol.specs.Pieces.{node_pieces, members_pieces, body_pieces}

-- a byte that may stand in a name
abbrev pub IsNameByte : ℕ → Type 0
IsNameByte b = is_name_byte b ≡ true

-- what follows a name
abbrev pub EndsName : List Piece → Type 0
EndsName rest = BeginsWithout IsNameByte (piece_texts rest)

pub clash : false ≡ true → ⊥
clash e = absurd cc

mutual
  unfolding is_symbol_byte

  pub node_are : (n : Node) (rest : List Piece) → IsProper n → ArePieces rest → EndsName rest
      → ArePieces (node_pieces n rest)
  node_are (life text) rest p are ends = (p, ends, are)
  node_are (term years) rest p are ends = (refl, tt, (p, (λ digit. omega arith), (refl, tt, are)))
  node_are (last ms) rest p are ends =
      (tt, clash, (refl, tt, members_are ms (byte round_close ∷ rest) p (refl, tt, are) clash))
  node_are (at_least rank ms) rest p are ends = (
    p.0,
    (λ digit. omega arith),
    (
      refl,
      tt,
      (refl, tt, members_are ms (byte round_close ∷ rest) p.1 (refl, tt, are) clash),
    ),
  )
  node_are (exactly rank ms) rest p are ends = (
    refl,
    tt,
    (
      p.0,
      (λ digit. omega arith),
      (refl, tt, (refl, tt, (refl, tt, members_are ms (byte round_close ∷ rest) p.1 (refl, tt, are) clash))),
    ),
  )
  node_are (group body) rest p are ends = (refl, tt, body_are body (byte round_close ∷ rest) p (refl, tt, are) clash)

  pub members_are : (ms : Members) (rest : List Piece) → AreProper ms → ArePieces rest → EndsName rest
      → ArePieces (members_pieces ms rest)
  members_are (one m) rest p are ends = node_are m rest p are ends
  members_are (and m ms) rest p are ends =
      node_are m (byte colon ∷ members_pieces ms rest) p.0 (refl, tt, members_are ms rest p.1 are ends) clash

  pub body_are : (body : Body) (rest : List Piece) → IsProperBody body → ArePieces rest → EndsName rest
      → ArePieces (body_pieces body rest)
  body_are (list ms) rest p are ends = members_are ms rest p are ends
  body_are (reversion ms ns) rest p are ends =
      members_are ms (byte stroke ∷ members_pieces ns rest) p.0 (refl, tt, members_are ns rest p.1 are ends) clash

mutual
  pub node_proper : (n : Node) (rest : List Piece) → ArePieces (node_pieces n rest) → IsProper n × ArePieces rest
  node_proper (life text) rest are = (are.0, are.2)
  node_proper (term years) rest are = (are.2.0, are.2.2.2)
  node_proper (last ms) rest are =
      let in_brackets = members_proper ms (byte round_close ∷ rest) are.2.2 in (in_brackets.0, in_brackets.1.2)
  node_proper (at_least rank ms) rest are =
      let in_brackets = members_proper ms (byte round_close ∷ rest) are.2.2.2 in
      ((are.0, in_brackets.0), in_brackets.1.2)
  node_proper (exactly rank ms) rest are =
      let in_brackets = members_proper ms (byte round_close ∷ rest) are.2.2.2.2.2 in
      ((are.2.0, in_brackets.0), in_brackets.1.2)
  node_proper (group body) rest are =
      let in_brackets = body_proper body (byte round_close ∷ rest) are.2 in (in_brackets.0, in_brackets.1.2)

  pub members_proper : (ms : Members) (rest : List Piece) → ArePieces (members_pieces ms rest)
      → AreProper ms × ArePieces rest
  members_proper (one m) rest are = node_proper m rest are
  members_proper (and m ms) rest are =
      let first = node_proper m (byte colon ∷ members_pieces ms rest) are in
      let others = members_proper ms rest first.1.2 in
      ((first.0, others.0), others.1)

  pub body_proper : (body : Body) (rest : List Piece) → ArePieces (body_pieces body rest)
      → IsProperBody body × ArePieces rest
  body_proper (list ms) rest are = members_proper ms rest are
  body_proper (reversion ms ns) rest are =
      let first = members_proper ms (byte stroke ∷ members_pieces ns rest) are in
      let second = members_proper ns rest first.1.2 in
      ((first.0, second.0), second.1)
