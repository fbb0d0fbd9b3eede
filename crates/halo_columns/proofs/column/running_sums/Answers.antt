use Rattle.std.proofs.Common.{◌≡◌, ◌*◌, ◌∙◌, get_or, sym, pos}
use Rattle.std.proofs.lemmas.List.{get_or_default}
use Rattle.halo_num.specs.Ends.{IsWithin}
use Rattle.halo_columns.specs.declared.entry.TheConstants.{GREATEST_DISCOUNTED}
use Rattle.halo_columns.specs.declared.column.TheConstants.{MOST_AGES}
use Rattle.halo_columns.specs.Entries.{zero_entry}
use Rattle.halo_columns.proofs.Sums.{none-summed, one-summed}
use Rattle.halo_columns.proofs.column.running_sums.Goals as goal

pub loop-entry-init : goal.loop-entry-init
loop-entry-init c =
    rw c.new-sums.ensures.items
    (none-summed c.args.column.now c.exact-sum.result c.exact-sum.ensures.lo c.exact-sum.ensures.hi)

pub loop-entry-preserved : goal.loop-entry-preserved
loop-entry-preserved c =
    let here : get_or c.args.column.now c.loop-entry.entry-index zero_entry ≡ c.entry-item.result
    = sym (c.entry-item.is ∙ get_or_default c.args.column.now c.loop-entry.entry-index c.entry-item.result zero_entry
    c.loop-entry-test.true) in
    let sized : IsWithin c.entry-item.result (pos 0) (pos (MOST_AGES * GREATEST_DISCOUNTED))
    = rw here at (c.requires.sized.each c.loop-entry.entry-index c.loop-entry-test.true) in
    rw c.in_ok-push.ensures.items
    (one-summed c.args.column.now c.loop-entry.sums.items c.loop-entry.entry-index c.loop-entry.sum c.entry-item.result
    c.add-sum.result c.loop-entry.invariant here sized c.add-sum.ensures.lo c.add-sum.ensures.hi)
