use Rattle.std.proofs.Common.{arith}
use Rattle.halo_io.proofs.Stands.{told-next}
use Rattle.halo_io.proofs.sure_sink.SureSinkSink.write.Goals as goal

pub returns-clause-bytes : goal.returns-clause-bytes
returns-clause-bytes c =
    let sink = c.args.self.now in
    let here = rw c.deref.ensures.value at c.stands_at.ensures.0 in
    told-next sink.room.items c.args.piece.now sink.count _ sink.tells _ (omega arith) (omega arith)
    c.saturating_add-self.ensures here
