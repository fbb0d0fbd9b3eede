-- Parts of symbols that do not come next.
use Rattle.std.specs.Prelude.{◌≡◌, ◌≤◌, ◌<◌, ℕ, List, ◌∷◌, Option}
use Rattle.halo_status.specs.declared.pay.Kind.{Kind}
use Rattle.halo_symbol.specs.Characters.{round_open, round_close, colon}
use Rattle.halo_symbol.specs.Piece.{Piece, byte}
use Rattle.halo_symbol.specs.Tree.{Node, Members, Body}
use Rattle.halo_symbol.specs.Symbol.{Mark, Names, Symbol}
use Rattle.halo_symbol.specs.Proper.{MayHaveCauses, MayHaveMark, IsAllowed}
use Rattle.halo_symbol.specs.Nesting.{nest, nest_members, nest_body}
use Rattle.halo_symbol.specs.Pieces.{node_pieces, members_pieces, body_pieces, defer_pieces, causes_pieces, content_pieces, symbol_pieces}
use Rattle.halo_symbol.specs.Next.{NotNext, Ends, DeferEnds, CausesEnd, ContentEnds}

-- no member of this depth comes next
unfoldable pub NoNode : ℕ → List Piece → Type 0
NoNode depth pieces =
    (m : Node) (rest : List Piece) → nest m ≤ depth → pieces ≡ node_pieces m rest → ⊥

-- no whole list of this depth comes next
unfoldable pub NoMembers : ℕ → List Piece → Type 0
NoMembers depth pieces =
    (ms : Members) (rest : List Piece) → nest_members ms ≤ depth → NotNext colon rest
    → pieces ≡ members_pieces ms rest → ⊥

-- no list in round brackets, which nest to this depth, comes next
unfoldable pub NoBracketed : ℕ → List Piece → Type 0
NoBracketed depth pieces =
    (ms : Members) (rest : List Piece) → nest_members ms < depth
    → pieces ≡ byte round_open ∷ members_pieces ms (byte round_close ∷ rest) → ⊥

-- no whole body of this depth comes next
unfoldable pub NoBody : ℕ → List Piece → Type 0
NoBody depth pieces =
    (body : Body) (rest : List Piece) → nest_body body ≤ depth → Ends body rest
    → pieces ≡ body_pieces body rest → ⊥

-- no deferral comes next, nor something that may stand without one
unfoldable pub NoDefer : List Piece → Type 0
NoDefer pieces =
    (defer : Option (List ℕ)) (rest : List Piece) → DeferEnds defer rest
    → pieces ≡ defer_pieces defer rest → ⊥

-- no causes that the kind allows come next, nor something that may stand without them
unfoldable pub NoCauses : Kind → List Piece → Type 0
NoCauses kind pieces =
    (causes : Option Names) (rest : List Piece) → MayHaveCauses kind causes → CausesEnd causes rest
    → pieces ≡ causes_pieces causes rest → ⊥

-- no whole body of this depth, with a mark that the kind allows or with none, comes next
unfoldable pub NoContent : Kind → ℕ → List Piece → Type 0
NoContent kind depth pieces =
    (mark : Option Mark) (body : Body) (rest : List Piece) → MayHaveMark kind mark body
    → nest_body body ≤ depth → ContentEnds mark body rest
    → pieces ≡ content_pieces mark body rest → ⊥

-- no symbol of this depth comes next
unfoldable pub NoSymbol : ℕ → List Piece → Type 0
NoSymbol depth pieces =
    (s : Symbol) (rest : List Piece) → IsAllowed s → nest_body s.body ≤ depth
    → pieces ≡ symbol_pieces s rest → ⊥
