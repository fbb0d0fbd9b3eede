use Rattle.std.proofs.Common.{◌+◌, arith}
use Rattle.halo_sample.specs.declared.contract.TheConstants.{PAYS}
use Rattle.halo_sample.specs.Contract.{pay_line}
use Rattle.halo_sample.proofs.OneByOne.{last-line, next-line}
use Rattle.halo_sample.proofs.contract.write_pays.Goals as goal

pub loop-preserved : goal.loop-preserved
loop-preserved c =
    rw (c.in_ok-write_pay.ensures.text, c.in_ok-write_pay.ensures.state)
    (next-line c.loop.counter PAYS c.loop.draws c.loop.into.items _ (λ _. pay_line) (c.loop.counter + 1)
    c.loop-test.true c.loop.invariant)

pub returns : goal.returns
returns c =
    last-line c.loop.counter PAYS c.loop.draws c.loop.into.items _ (λ _. pay_line) (c.loop.counter + 1)
    (omega (arith, c.loop-test.false)) c.loop.invariant
