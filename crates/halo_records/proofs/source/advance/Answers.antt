use Rattle.halo_records.proofs.Steps.{read-more, read-end}
use Rattle.halo_records.proofs.source.advance.Goals as goal

pub returns-in-Ok-clause-more : goal.returns-in-Ok-clause-more
returns-in-Ok-clause-more c = λ f.
    let h = c.in-Ok.ensures in
    read-more c.args.reader.now c.read_byte_record.new.self _ c.requires h.flexible (h.ready c.requires.trim) h.goes
    (rw f at (h.reads c.requires.trim c.requires.ready))

pub returns-in-Ok-clause-end : goal.returns-in-Ok-clause-end
returns-in-Ok-clause-end c =
    λ f. read-end c.args.reader.now c.read_byte_record.new.self _ c.requires
    (rw f at (c.in-Ok.ensures.reads c.requires.trim c.requires.ready))
