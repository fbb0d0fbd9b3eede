use Rattle.std.specs.Prelude.{length}
use Rattle.halo_check.specs.DraftView.{draft_of}
use Rattle.halo_parse.proofs.Walk.{Walks}
use Rattle.halo_parse.proofs.contract_file.read_contract.Given as goal

abbrev pub invariant-loop-text : goal.invariant-loop-text
invariant-loop-text l = Walks l.tables l.bytes (draft_of l.draft) l.number l.lines

abbrev pub decreases-loop-text : goal.decreases-loop-text
decreases-loop-text l = length l.lines
