use Rattle.std.proofs.Common.{◌-◌, ◌≤◌}
use Rattle.halo_syntax.specs.Forms.{place_of_form}
use Rattle.halo_check.specs.FormOrder.{IsInOrder}
use Rattle.halo_check.specs.DraftView.{draft_of}
use Rattle.halo_check.proofs.forms.is_in_order.Given as goal

abbrev pub invariant-loop-later : goal.invariant-loop-later
invariant-loop-later l = record {
  so_far : IsInOrder (draft_of l.draft) l.behind → IsInOrder (draft_of l.draft) l.fn.form;
  from : place_of_form l.fn.form ≤ place_of_form l.behind;
}

abbrev pub decreases-loop-later : goal.decreases-loop-later
decreases-loop-later l = 5 - place_of_form l.behind
