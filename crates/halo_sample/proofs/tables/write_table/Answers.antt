use Rattle.std.proofs.Common.{◌≡◌, ◌+◌, ◌-◌, ap, arith, refl, sym, ◌∙◌}
use Rattle.halo_sample.specs.declared.tables.TheConstants.{LAST_AGE}
use Rattle.halo_sample.specs.Generator.{state_behind_two}
use Rattle.halo_sample.specs.Tables.{drawn_row, staying}
use Rattle.halo_sample.proofs.Draws.{behind-none, behind-one-more}
use Rattle.halo_sample.proofs.OneByOne.{last-of-rows, next-row}
use Rattle.halo_sample.proofs.tables.write_table.Goals as goal

pub loop-age-init : goal.loop-age-init
loop-age-init c = record { text = refl; state = sym (behind-none c.args.draws.now); alive = omega arith }

pub loop-age-preserved : goal.loop-age-preserved
loop-age-preserved c =
    let age = c.loop-age.age in
    let row : c.drawn_row-row.result ≡ drawn_row age c.loop-age.alive c.loop-age.draws = c.drawn_row-row.ensures.row in
    let left : c.loop-age.alive - (c.drawn_row-row.result.deaths + c.drawn_row-row.result.lapses)
    ≡ staying (drawn_row age c.loop-age.alive c.loop-age.draws)
    = ap (λ r. c.loop-age.alive - (r.deaths + r.lapses)) row in
    let written = rw row at c.in_ok-write_row.ensures in
    record {
      text = rw (written, left, c.drawn_row-row.ensures.state)
          (next-row age LAST_AGE c.loop-age.draws c.loop-age.into.items _ c.args.table c.loop-age.alive
          c.loop-age-test.true c.loop-age.invariant.text);
      state = c.drawn_row-row.ensures.state ∙ ap state_behind_two c.loop-age.invariant.state
          ∙ behind-one-more age c.args.draws.now;
      alive = omega (arith, c.loop-age.invariant.alive);
    }

pub returns-clause-text : goal.returns-clause-text
returns-clause-text c =
    let all = last-of-rows c.loop-age.age LAST_AGE c.loop-age.draws c.loop-age.into.items _ c.args.table
    c.loop-age.alive (omega (arith, c.loop-age-test.false)) c.loop-age.invariant.text in
    rw (← all) (rw c.last_row.ensures at c.write_row-2.ensures)
