-- The pieces that symbols and statuses are written with: the grammar once more, over pieces in
-- place of bytes. Each definition
-- takes the pieces that stand behind what it writes.
use Rattle.std.specs.Prelude.{ℕ, zero, suc, List, [], ◌∷◌, Option, Some, None}
use Rattle.halo_symbol.specs.Characters.{round_open, round_close, comma, slash, colon, angle_open, angle_close, square_open, square_close, caret, brace_open, stroke, brace_close}
use Rattle.halo_symbol.specs.Piece.{Piece, name, bar, number, byte}
use Rattle.halo_symbol.specs.Tree.{Node, life, term, last, at_least, exactly, group, Members, one, and, Body, list, reversion}
use Rattle.halo_symbol.specs.Symbol.{Names, Mark, Symbol}
use Rattle.halo_symbol.specs.Bytes.{head_text}

abbrev mutual
  -- a member
  pub node_pieces : Node → List Piece → List Piece
  node_pieces (life text) rest = name text ∷ rest
  node_pieces (term years) rest = byte angle_open ∷ number years ∷ byte angle_close ∷ rest
  node_pieces (last ms) rest = bar ∷ byte round_open ∷ members_pieces ms (byte round_close ∷ rest)
  node_pieces (at_least rank ms) rest =
      number rank ∷ byte slash ∷ byte round_open ∷ members_pieces ms (byte round_close ∷ rest)
  node_pieces (exactly rank ms) rest =
      byte square_open ∷ number rank ∷ byte square_close ∷ byte slash ∷ byte round_open ∷
      members_pieces ms (byte round_close ∷ rest)
  node_pieces (group body) rest = byte round_open ∷ body_pieces body (byte round_close ∷ rest)

  -- a list
  pub members_pieces : Members → List Piece → List Piece
  members_pieces (one m) rest = node_pieces m rest
  members_pieces (and m ms) rest = node_pieces m (byte colon ∷ members_pieces ms rest)

  -- a body with no mark
  pub body_pieces : Body → List Piece → List Piece
  body_pieces (list ms) rest = members_pieces ms rest
  body_pieces (reversion ms ns) rest = members_pieces ms (byte stroke ∷ members_pieces ns rest)

-- a list with a mark on the member at a place
abbrev pub marked_pieces : ℕ → List ℕ → Members → List Piece → List Piece
marked_pieces zero rank (one m) rest = node_pieces m (byte caret ∷ number rank ∷ rest)
marked_pieces zero rank (and m ms) rest =
    node_pieces m (byte caret ∷ number rank ∷ byte colon ∷ members_pieces ms rest)
marked_pieces (suc place) rank (one m) rest = node_pieces m rest
marked_pieces (suc place) rank (and m ms) rest =
    node_pieces m (byte colon ∷ marked_pieces place rank ms rest)

-- a body with the mark that it may have
abbrev pub content_pieces : Option Mark → Body → List Piece → List Piece
content_pieces None body rest = body_pieces body rest
content_pieces (Some mark) (list ms) rest = marked_pieces mark.member mark.rank ms rest
content_pieces (Some mark) (reversion ms ns) rest = body_pieces (reversion ms ns) rest

-- a deferral, where there is one
abbrev pub defer_pieces : Option (List ℕ) → List Piece → List Piece
defer_pieces None rest = rest
defer_pieces (Some years) rest = number years ∷ byte stroke ∷ rest

-- the names behind the first of a set
abbrev pub other_names_pieces : List (List ℕ) → List Piece → List Piece
other_names_pieces [] rest = rest
other_names_pieces (text ∷ texts) rest = byte comma ∷ name text ∷ other_names_pieces texts rest

-- the set of causes, where there is one
abbrev pub causes_pieces : Option Names → List Piece → List Piece
causes_pieces None rest = rest
causes_pieces (Some names) rest =
    byte brace_open ∷ name names.first ∷ other_names_pieces names.others (byte brace_close ∷ rest)

-- a whole symbol
abbrev pub symbol_pieces : Symbol → List Piece → List Piece
symbol_pieces s rest =
    defer_pieces s.defer (name (head_text s.vary s.kind) ∷ causes_pieces s.causes
    (byte square_open ∷ content_pieces s.mark s.body (byte square_close ∷ rest)))
