-- How many pieces there are.
use Rattle.std.proofs.Common.{◌+◌, ◌<◌, ◌≤◌, ℕ, zero, suc, List, [], ◌∷◌, Option, Some, None, length, arith}
use Rattle.halo_symbol.specs.Characters.{round_close, colon, caret, square_open, square_close, brace_close, stroke}
use Rattle.halo_symbol.specs.Bytes.{head_text}
use Rattle.halo_symbol.specs.Piece.{Piece, name, number, byte}
use Rattle.halo_symbol.specs.Tree as plain
use Rattle.halo_symbol.specs.Tree.{life, term, last, at_least, exactly, group, one, and, list, reversion}
use Rattle.halo_symbol.specs.Symbol.{Mark, Names, Symbol}
use Rattle.halo_symbol.specs.Nesting.{nest, nest_members, nest_body}
use Rattle.halo_symbol.specs.Pieces.{node_pieces, members_pieces, body_pieces, marked_pieces, content_pieces, defer_pieces, other_names_pieces, causes_pieces, symbol_pieces}

-- the pieces of a member, a list and a body are more than their brackets nest, besides what stands behind them
mutual
  pub node_pieces-longer : (m : plain.Node) (rest : List Piece) → nest m + length rest < length (node_pieces m rest)
  node_pieces-longer (life text) rest = omega arith
  node_pieces-longer (term years) rest = omega arith
  node_pieces-longer (last ms) rest = omega (arith, members_pieces-longer ms (byte round_close ∷ rest))
  node_pieces-longer (at_least rank ms) rest = omega (arith, members_pieces-longer ms (byte round_close ∷ rest))
  node_pieces-longer (exactly rank ms) rest = omega (arith, members_pieces-longer ms (byte round_close ∷ rest))
  node_pieces-longer (group body) rest = omega (arith, body_pieces-longer body (byte round_close ∷ rest))

  pub members_pieces-longer : (ms : plain.Members) (rest : List Piece)
      → nest_members ms + length rest < length (members_pieces ms rest)
  members_pieces-longer (one m) rest = node_pieces-longer m rest
  members_pieces-longer (and m ms) rest =
      omega (arith, node_pieces-longer m (byte colon ∷ members_pieces ms rest), members_pieces-longer ms rest)

  pub body_pieces-longer : (body : plain.Body) (rest : List Piece)
      → nest_body body + length rest < length (body_pieces body rest)
  body_pieces-longer (list ms) rest = members_pieces-longer ms rest
  body_pieces-longer (reversion ms ns) rest =
      omega (arith, members_pieces-longer ms (byte stroke ∷ members_pieces ns rest), members_pieces-longer ns rest)

marked_pieces-longer : (place : ℕ) (rank : List ℕ) (ms : plain.Members) (rest : List Piece)
    → nest_members ms + length rest < length (marked_pieces place rank ms rest)
marked_pieces-longer zero rank (one m) rest = omega (arith, node_pieces-longer m (byte caret ∷ number rank ∷ rest))
marked_pieces-longer zero rank (and m ms) rest =
    omega (
      arith,
      node_pieces-longer m (byte caret ∷ number rank ∷ byte colon ∷ members_pieces ms rest),
      members_pieces-longer ms rest,
    )
marked_pieces-longer (suc place) rank (one m) rest = node_pieces-longer m rest
marked_pieces-longer (suc place) rank (and m ms) rest =
    omega (
      arith,
      node_pieces-longer m (byte colon ∷ marked_pieces place rank ms rest),
      marked_pieces-longer place rank
          ms rest,
    )

content_pieces-longer : (mark : Option Mark) (body : plain.Body) (rest : List Piece)
    → nest_body body + length rest < length (content_pieces mark body rest)
content_pieces-longer None body rest = body_pieces-longer body rest
content_pieces-longer (Some mark) (list ms) rest = marked_pieces-longer mark.member mark.rank ms rest
content_pieces-longer (Some mark) (reversion ms ns) rest = body_pieces-longer (reversion ms ns) rest

other_names_pieces-longer : (names : List (List ℕ)) (rest : List Piece)
    → length rest ≤ length (other_names_pieces names rest)
other_names_pieces-longer [] rest = omega arith
other_names_pieces-longer (text ∷ names) rest = omega (arith, other_names_pieces-longer names rest)

causes_pieces-longer : (causes : Option Names) (rest : List Piece) → length rest ≤ length (causes_pieces causes rest)
causes_pieces-longer None rest = omega arith
causes_pieces-longer (Some names) rest = omega (arith, other_names_pieces-longer names.others (byte brace_close ∷ rest))

defer_pieces-longer : (defer : Option (List ℕ)) (rest : List Piece) → length rest ≤ length (defer_pieces defer rest)
defer_pieces-longer None rest = omega arith
defer_pieces-longer (Some years) rest = omega arith

-- those of a symbol are more than the brackets of its body nest
pub symbol_pieces-longer : (s : Symbol) (rest : List Piece) → nest_body s.body < length (symbol_pieces s rest)
symbol_pieces-longer s rest =
    let content = byte square_open ∷ content_pieces s.mark s.body (byte square_close ∷ rest) in
    omega (
      arith,
      content_pieces-longer s.mark s.body (byte square_close ∷ rest),
      causes_pieces-longer s.causes content,
      defer_pieces-longer s.defer (name (head_text s.vary s.kind) ∷ causes_pieces s.causes content),
    )
