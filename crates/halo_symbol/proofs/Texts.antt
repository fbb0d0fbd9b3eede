-- The bytes of symbols and statuses are the texts of their pieces.
use Rattle.std.proofs.Common.{◌≡◌, ℕ, zero, suc, List, [], ◌∷◌, ◌++◌, Option, Some, None, refl, ap, ◌∙◌}
use Rattle.halo_symbol.specs.Characters.{round_open, round_close, comma, slash, colon, square_open, square_close, caret, brace_open, stroke, brace_close, bar_text}
use Rattle.halo_symbol.specs.Piece.{Piece, number, byte, piece_texts}
use Rattle.halo_symbol.specs.Tree.{Node, life, term, last, at_least, exactly, group, Members, one, and, Body, list, reversion}
use Rattle.halo_symbol.specs.Symbol.{Names, Mark, Symbol}
use Rattle.halo_symbol.specs.Bytes.{head_text}
use Rattle.halo_symbol.specs.Pieces.{node_pieces, members_pieces, body_pieces, marked_pieces, content_pieces, defer_pieces, other_names_pieces, causes_pieces, symbol_pieces}
use Rattle.halo_symbol.proofs.Then.{node_then, members_then, body_then, marked_then, content_then, defer_then, other_names_then, causes_then, symbol_then}

mutual
  pub node_texts : (n : Node) (rest : List Piece) → piece_texts (node_pieces n rest) ≡ node_then n (piece_texts rest)
  node_texts (life text) rest = refl
  node_texts (term years) rest = refl
  node_texts (last ms) rest =
      ap (λ bytes. bar_text ++ (round_open ∷ bytes)) (members_texts ms (byte round_close ∷ rest))
  node_texts (at_least rank ms) rest =
      ap (λ bytes. rank ++ (slash ∷ round_open ∷ bytes)) (members_texts ms (byte round_close ∷ rest))
  node_texts (exactly rank ms) rest =
      ap (λ bytes. square_open ∷ (rank ++ (square_close ∷ slash ∷ round_open ∷ bytes)))
      (members_texts ms (byte round_close ∷ rest))
  node_texts (group body) rest = ap (λ bytes. round_open ∷ bytes) (body_texts body (byte round_close ∷ rest))

  pub members_texts : (ms : Members) (rest : List Piece)
      → piece_texts (members_pieces ms rest) ≡ members_then ms (piece_texts rest)
  members_texts (one m) rest = node_texts m rest
  members_texts (and m ms) rest =
      node_texts m (byte colon ∷ members_pieces ms rest)
      ∙ ap (λ bytes. node_then m (colon ∷ bytes)) (members_texts ms rest)

  pub body_texts : (body : Body) (rest : List Piece)
      → piece_texts (body_pieces body rest) ≡ body_then body (piece_texts rest)
  body_texts (list ms) rest = members_texts ms rest
  body_texts (reversion ms ns) rest =
      members_texts ms (byte stroke ∷ members_pieces ns rest)
      ∙ ap (λ bytes. members_then ms (stroke ∷ bytes)) (members_texts ns rest)

marked_texts : (place : ℕ) (rank : List ℕ) (ms : Members) (rest : List Piece)
    → piece_texts (marked_pieces place rank ms rest) ≡ marked_then place rank ms (piece_texts rest)
marked_texts zero rank (one m) rest = node_texts m (byte caret ∷ number rank ∷ rest)
marked_texts zero rank (and m ms) rest =
    node_texts m (byte caret ∷ number rank ∷ byte colon ∷ members_pieces ms rest)
    ∙ ap (λ bytes. node_then m (caret ∷ (rank ++ (colon ∷ bytes)))) (members_texts ms rest)
marked_texts (suc place) rank (one m) rest = node_texts m rest
marked_texts (suc place) rank (and m ms) rest =
    node_texts m (byte colon ∷ marked_pieces place rank ms rest)
    ∙ ap (λ bytes. node_then m (colon ∷ bytes)) (marked_texts place rank ms rest)

content_texts : (mark : Option Mark) (body : Body) (rest : List Piece)
    → piece_texts (content_pieces mark body rest) ≡ content_then mark body (piece_texts rest)
content_texts None body rest = body_texts body rest
content_texts (Some mark) (list ms) rest = marked_texts mark.member mark.rank ms rest
content_texts (Some mark) (reversion ms ns) rest = body_texts (reversion ms ns) rest

defer_texts : (defer : Option (List ℕ)) (rest : List Piece)
    → piece_texts (defer_pieces defer rest) ≡ defer_then defer (piece_texts rest)
defer_texts None rest = refl
defer_texts (Some years) rest = refl

other_names_texts : (names : List (List ℕ)) (rest : List Piece)
    → piece_texts (other_names_pieces names rest) ≡ other_names_then names (piece_texts rest)
other_names_texts [] rest = refl
other_names_texts (text ∷ names) rest = ap (λ bytes. comma ∷ (text ++ bytes)) (other_names_texts names rest)

causes_texts : (causes : Option Names) (rest : List Piece)
    → piece_texts (causes_pieces causes rest) ≡ causes_then causes (piece_texts rest)
causes_texts None rest = refl
causes_texts (Some names) rest =
    ap (λ bytes. brace_open ∷ (names.first ++ bytes)) (other_names_texts names.others (byte brace_close ∷ rest))

pub symbol_texts : (s : Symbol) (rest : List Piece)
    → piece_texts (symbol_pieces s rest) ≡ symbol_then s (piece_texts rest)
symbol_texts s rest =
    let content = ap (λ bytes. square_open ∷ bytes) (content_texts s.mark s.body (byte square_close ∷ rest)) in
    let causes = causes_texts s.causes _ ∙ ap (causes_then s.causes) content in
    defer_texts s.defer _ ∙ ap (λ bytes. defer_then s.defer (head_text s.vary s.kind ++ bytes)) causes
