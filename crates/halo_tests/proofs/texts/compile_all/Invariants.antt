-- There is a form for each pay so far.
use Rattle.std.proofs.Common.{◌≡◌, length}
use Rattle.halo_tests.proofs.texts.compile_all.Given as goal

abbrev pub invariant-loop-pay : goal.invariant-loop-pay
invariant-loop-pay l = length l.forms.items ≡ l.pay-index
