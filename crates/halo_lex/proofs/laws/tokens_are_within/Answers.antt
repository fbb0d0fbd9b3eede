use Rattle.std.proofs.Common.{length}
use Rattle.halo_lex.proofs.Tiling.{tile_within}
use Rattle.halo_lex.proofs.laws.tokens_are_within.Goals as goal

pub returns : goal.returns
returns c = λ word tokens cut. tile_within 0 tokens (length word) cut.tile
