use Rattle.halo_io.proofs.Stands.{starts-stands}
use Rattle.halo_io.proofs.sure_sink.stands_at.Goals as goal

pub returns-in-Some : goal.returns-in-Some
returns-in-Some c =
    let rest = c.in-Some.rest.now in
    starts-stands c.args.room.now c.args.piece.now rest c.args.at _
    c.in-Some.ensures.lookup.0.2 c.starts_with.ensures.value
