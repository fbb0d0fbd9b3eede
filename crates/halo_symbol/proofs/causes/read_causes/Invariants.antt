use Rattle.std.proofs.Common.{◌≡◌, ◌∷◌, ℕ, List, length, map}
use Rattle.std.specs.Borrow.{Bor}
use Rattle.halo_symbol.specs.Characters.{brace_open}
use Rattle.halo_symbol.specs.Piece.{name, byte}
use Rattle.halo_symbol.specs.Pieces.{other_names_pieces}
use Rattle.halo_symbol.proofs.causes.read_causes.Given as goal

abbrev pub invariant-loop-reader : goal.invariant-loop-reader
invariant-loop-reader l =
    l.fn.reader ≡ byte brace_open ∷ name l.first ∷ other_names_pieces
    (map (λ (other : Bor (List ℕ)). other.now) l.others.items) l.reader

abbrev pub decreases-loop-reader : goal.decreases-loop-reader
decreases-loop-reader l = length l.reader
