use Rattle.halo_symbol.proofs.RefusedSymbols.{no_stroke}
use Rattle.halo_symbol.proofs.word.read_deferral.Goals as goal

pub returns-in_err-expect-clause-syntax : goal.returns-in_err-expect-clause-syntax
returns-in_err-expect-clause-syntax c failed = no_stroke _ _ _ c.in-Some.ensures c.in_err-expect.ensures.1
