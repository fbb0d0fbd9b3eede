-- The mask so far grows by the bit of a cause that is in the set.
use Rattle.std.proofs.Common.{◌≡◌, ◌<◌, ◌∙◌, length, sym, ap, arith}
use Rattle.halo_symbol.specs.SymbolView.{plain_names}
use Rattle.halo_check.specs.Draft.{all_names, is_among}
use Rattle.halo_check.proofs.MasksOfTests.{mask_with, mask_without}
use Rattle.halo_parse.proofs.masks.mask_of_causes.Goals as goal
use Rattle.halo_parse.proofs.masks.mask_of_causes.Goals.{then-is_in_set, else-is_in_set}

pub loop-cause-preserved : goal.loop-cause-preserved
loop-cause-preserved c =
    let causes = c.args.tables.now.causes in
    let among = is_among (all_names (plain_names c.args.names.now)) in
    let tested : c.is_in_set.result ≡ among c.cause_name-name.result =
    c.is_in_set.ensures ∙ ap among c.bytes.ensures.same in
    let here : c.loop-cause.cause < length causes = omega arith in
    elim c.if-is_in_set.branch [
      | then-is_in_set w ↦
          w.mask-is ∙ mask_with among causes _ _ _ here (sym c.cause_name-name.ensures) c.loop-cause.invariant 8
          (omega arith) (sym tested ∙ w.if-is_in_set.true)
      | else-is_in_set w ↦
          w.mask-is ∙ mask_without among causes _ _ _ here (sym c.cause_name-name.ensures) c.loop-cause.invariant
          (sym tested ∙ w.if-is_in_set.false)
    ]
