use Rattle.halo_syntax.specs.LineView.{plain_line}
use Rattle.halo_check.specs.DraftView.{draft_of}
use Rattle.halo_parse.proofs.Kept.{kept_if_ok}
use Rattle.halo_parse.proofs.add_text.add_text.Goals as goal

pub returns-in-Ok-Some-clause-kept : goal.returns-in-Ok-Some-clause-kept
returns-in-Ok-Some-clause-kept c =
    kept_if_ok c.add_line.result c.args.tables.now (draft_of c.args.draft.now) (plain_line c.in-Ok-Some.line)
    (draft_of c.add_line.new.draft) c.requires c.add_line.ensures.ok

pub returns-in-Err-clause-fault : goal.returns-in-Err-clause-fault
returns-in-Err-clause-fault c = c.in-Err.ensures.fault c.args.tables.now (draft_of c.args.draft.now)
