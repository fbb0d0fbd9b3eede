-- What does not come next, and where the parts of a symbol end.
use Rattle.std.specs.Prelude.{◌≡◌, ℕ, List, ◌∷◌, Option, Some, None, ⊤}
use Rattle.halo_symbol.specs.Characters.{colon, caret, brace_open, stroke}
use Rattle.halo_symbol.specs.Piece.{Piece, name, number, byte}
use Rattle.halo_symbol.specs.Tree.{Body, list, reversion}
use Rattle.halo_symbol.specs.Symbol.{Mark, Names}

-- this byte does not come next
abbrev pub NotNext : ℕ → List Piece → Type 0
NotNext b pieces = (rest : List Piece) → pieces ≡ byte b ∷ rest → ⊥

-- no number comes next
abbrev pub NoNumberNext : List Piece → Type 0
NoNumberNext pieces = (digits : List ℕ) (rest : List Piece) → pieces ≡ number digits ∷ rest → ⊥

-- no name other than `bar` comes next
abbrev pub NoNameNext : List Piece → Type 0
NoNameNext pieces = (text : List ℕ) (rest : List Piece) → pieces ≡ name text ∷ rest → ⊥

-- a body ends where these pieces follow it: they do not go on with it
abbrev pub Ends : Body → List Piece → Type 0
Ends (list ms) rest = NotNext colon rest × NotNext stroke rest
Ends (reversion ms ns) rest = NotNext colon rest

-- the same of a deferral, which does not end before a number where there is none
abbrev pub DeferEnds : Option (List ℕ) → List Piece → Type 0
DeferEnds None rest = NoNumberNext rest
DeferEnds (Some years) rest = ⊤

-- the same of causes
abbrev pub CausesEnd : Option Names → List Piece → Type 0
CausesEnd None rest = NotNext brace_open rest
CausesEnd (Some names) rest = ⊤

-- the same of a body with the mark that it may have
abbrev pub ContentEnds : Option Mark → Body → List Piece → Type 0
ContentEnds None body rest = Ends body rest × NotNext caret rest
ContentEnds (Some mark) body rest = NotNext colon rest
