-- One bit, as 16 bits keep it.
use Rattle.halo_status.proofs.Masks.{has_bit-shl}
use Rattle.halo_compile.proofs.naming.one_life.Goals as goal

pub returns-then-life-lt-PLACES : goal.returns-then-life-lt-PLACES
returns-then-life-lt-PLACES c = λ i h. has_bit-shl c.args.life i c.if-life-lt-PLACES.true
