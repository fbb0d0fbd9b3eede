-- Each bit is set, or none.
use Rattle.std.proofs.Common.{sym, ◌∙◌}
use Rattle.halo_status.proofs.Words.{has_bit-all, has_bit-none}
use Rattle.halo_status.proofs.blocks.all_or_none.Goals as goal

pub returns-then-all : goal.returns-then-all
returns-then-all c = λ j h. has_bit-all j h ∙ sym c.if-all.true

pub returns-else-all : goal.returns-else-all
returns-else-all c = λ j h. has_bit-none j ∙ sym c.if-all.false
