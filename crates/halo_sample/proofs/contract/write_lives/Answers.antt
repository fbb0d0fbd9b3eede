use Rattle.std.proofs.Common.{◌+◌, ap, arith, refl, sym, ◌∙◌}
use Rattle.halo_sample.specs.declared.contract.TheConstants.{LIVES}
use Rattle.halo_sample.specs.Generator.{state_behind_two}
use Rattle.halo_sample.specs.Contract.{life_line}
use Rattle.halo_sample.proofs.Draws.{behind-none, behind-one-more}
use Rattle.halo_sample.proofs.OneByOne.{last-line, next-line}
use Rattle.halo_sample.proofs.contract.write_lives.Goals as goal

pub loop-place-init : goal.loop-place-init
loop-place-init c = record { text = refl; state = sym (behind-none c.args.draws.now) }

pub loop-place-preserved : goal.loop-place-preserved
loop-place-preserved c =
    let place = c.loop-place.place in
    record {
      text = rw (c.in_ok-write_life.ensures.text, c.in_ok-write_life.ensures.state)
          (next-line place LIVES c.loop-place.draws c.loop-place.into.items _ life_line (place + 1)
          c.loop-place-test.true c.loop-place.invariant.text);
      state = c.in_ok-write_life.ensures.state ∙ ap state_behind_two c.loop-place.invariant.state
          ∙ behind-one-more place c.args.draws.now;
    }

pub returns-clause-text : goal.returns-clause-text
returns-clause-text c =
    last-line c.loop-place.place LIVES c.loop-place.draws c.loop-place.into.items _ life_line (c.loop-place.place + 1)
    (omega (arith, c.loop-place-test.false)) c.loop-place.invariant.text
