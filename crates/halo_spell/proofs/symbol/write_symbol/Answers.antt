-- The parts make the symbol.
use Rattle.halo_spell.proofs.Symbols.{parts_written}
use Rattle.halo_spell.proofs.symbol.write_symbol.Goals as goal

pub returns : goal.returns
returns c =
    parts_written _ _ _ _ _ _ _ _ _ _ _ _ _ c.in_ok-write_defer.ensures c.in_ok-write_head.ensures
    c.in_ok-write_causes.ensures c.in_ok-push.ensures.items c.in_ok-write_content.ensures
    c.in_ok-push-2.ensures.items
