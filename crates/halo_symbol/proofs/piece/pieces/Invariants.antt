use Rattle.std.proofs.Common.{take, map}
use Rattle.halo_lex.specs.Cut.{lexeme_of}
use Rattle.halo_symbol.specs.PieceView.{plain_piece}
use Rattle.halo_symbol.proofs.Cuts.{ArePiecesOf}
use Rattle.halo_symbol.proofs.piece.pieces.Given as goal

abbrev pub invariant-loop-token : goal.invariant-loop-token
invariant-loop-token l =
    ArePiecesOf (map (lexeme_of l.word) (take l.token-index l.token-items)) (map plain_piece l.found.items)
