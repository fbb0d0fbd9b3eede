-- What was written and the lines that are left make all lines.
use Rattle.std.proofs.Common.{◌≡◌, ◌++◌, ◌+◌, ◌-◌}
use Rattle.halo_sample.specs.declared.contract.TheConstants.{PAYS}
use Rattle.halo_sample.specs.Contract.{lines_from, pay_line}
use Rattle.halo_sample.proofs.contract.write_pays.Given as goal

abbrev pub invariant-loop : goal.invariant-loop
invariant-loop l =
    l.into.items ++ lines_from (λ _. pay_line) (PAYS - l.counter) (l.counter + 1) l.draws
    ≡ l.fn.into.items ++ lines_from (λ _. pay_line) PAYS 1 l.fn.draws
