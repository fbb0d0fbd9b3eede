use Rattle.halo_syntax.specs.LineView.{plain_line}
use Rattle.halo_check.specs.DraftView.{draft_of}
use Rattle.halo_check.proofs.LowLives.{low_lives}
use Rattle.halo_check.proofs.Passed.{lives, within}
use Rattle.halo_check.proofs.statuses.check_statuses.Goals as goal

pub shares_nothing_added-requires : goal.shares_nothing_added-requires
shares_nothing_added-requires c =
    low_lives c.args.tables.now (draft_of c.args.draft.now) (plain_line c.args.line.now) c.args.addition.now
    c.requires.kept.few_lives (lives _ _ _ c.requires.passes) c.requires.adds

pub exists_at_start-requires : goal.exists_at_start-requires
exists_at_start-requires c =
    low_lives c.args.tables.now (draft_of c.args.draft.now) (plain_line c.args.line.now) c.args.addition.now
    c.requires.kept.few_lives (lives _ _ _ c.requires.passes) c.requires.adds

pub are_alive_then-requires-clause-within : goal.are_alive_then-requires-clause-within
are_alive_then-requires-clause-within c =
    within _ _ _ c.requires.passes
