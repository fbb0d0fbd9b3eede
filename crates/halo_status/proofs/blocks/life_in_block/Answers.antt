-- The sets of a life below 6 stand in the same places of each block, and a life from 6 on is there in a whole block or
-- in none of it.
use Rattle.std.proofs.Common.{arith, refl}
use Rattle.halo_status.proofs.Words.{life_by_block, life_by_word}
use Rattle.halo_status.proofs.blocks.life_in_block.Goals as goal

pub returns-in-0 : goal.returns-in-0
returns-in-0 c = rw c.in-0.is (life_by_word c.args.block _ 0 (omega arith) refl)

pub returns-in-1 : goal.returns-in-1
returns-in-1 c = rw c.in-1.is (life_by_word c.args.block _ 1 (omega arith) refl)

pub returns-in-2 : goal.returns-in-2
returns-in-2 c = rw c.in-2.is (life_by_word c.args.block _ 2 (omega arith) refl)

pub returns-in-3 : goal.returns-in-3
returns-in-3 c = rw c.in-3.is (life_by_word c.args.block _ 3 (omega arith) refl)

pub returns-in-4 : goal.returns-in-4
returns-in-4 c = rw c.in-4.is (life_by_word c.args.block _ 4 (omega arith) refl)

pub returns-in-5 : goal.returns-in-5
returns-in-5 c = rw c.in-5.is (life_by_word c.args.block _ 5 (omega arith) refl)

pub returns-in_default : goal.returns-in_default
returns-in_default c = life_by_block c.args.block c.all_or_none.result c.args.life
    (omega arith) (rw c.has_bit.ensures at c.all_or_none.ensures)
