use Rattle.std.proofs.Common.{arith, refl}
use Rattle.halo_text.specs.Number.{number}
use Rattle.halo_check.specs.Checks.{IsSome}
use Rattle.halo_check.specs.Limits.{IsRateWithin}
use Rattle.halo_syntax.specs.ProperLine.{IsProperRate}
use Rattle.halo_parse.proofs.LaterRates.{may_follow, no_later, rate_here}
use Rattle.halo_parse.proofs.addition_from.interest_from.Goals as goal

pub loop-rate-init : goal.loop-rate-init
loop-rate-init c =
    rw (c.in-Some.ensures.value, c.number_within.ensures, c.number_within-2.ensures) (no_later _ c.args.later.now refl)

pub number_within-year-requires-clause-number : goal.number_within-year-requires-clause-number
number_within-year-requires-clause-number c = (rate_here IsProperRate _ _ c.requires.proper c.loop-rate-test.true).year

pub number_within-year-requires-clause-within : goal.number_within-year-requires-clause-within
number_within-year-requires-clause-within c = (rate_here IsRateWithin _ _ c.requires.within c.loop-rate-test.true).year

pub overflow_cast-year : goal.overflow_cast-year
overflow_cast-year c =
    let within = (rate_here IsRateWithin _ _ c.requires.within c.loop-rate-test.true).year in
    omega (arith, within, c.number_within-year.ensures)

pub number_within-p-requires-clause-number : goal.number_within-p-requires-clause-number
number_within-p-requires-clause-number c = (rate_here IsProperRate _ _ c.requires.proper c.loop-rate-test.true).p

pub number_within-p-requires-clause-within : goal.number_within-p-requires-clause-within
number_within-p-requires-clause-within c = (rate_here IsRateWithin _ _ c.requires.within c.loop-rate-test.true).p

pub number_within-q-requires-clause-number : goal.number_within-q-requires-clause-number
number_within-q-requires-clause-number c = (rate_here IsProperRate _ _ c.requires.proper c.loop-rate-test.true).q

pub number_within-q-requires-clause-within : goal.number_within-q-requires-clause-within
number_within-q-requires-clause-within c = (rate_here IsRateWithin _ _ c.requires.within c.loop-rate-test.true).q

pub returns-then-is_none : goal.returns-then-is_none
returns-then-is_none c =
    let within = rate_here IsRateWithin _ _ c.requires.within c.loop-rate-test.true in
    let some = rate_here (λ rate. IsSome rate.year × IsSome rate.q) _ _ c.requires.some c.loop-rate-test.true in
    let follows =
    may_follow (record {
      year = 0;
      p = number c.args.p.now;
      q =
          number c.args.q.now;
    }) c.args.later.now c.loop-rate.rate-index c.loop-rate.interest c.loop-rate-test.true
    c.requires.few c.loop-rate.invariant c.requires.rise some.0 within.year
    (record { p_in = within.p; q_from = some.1; q_in = within.q }) in
    let found =
    c.add_from.ensures.valid.1 (rw (
      c.number_within-year.ensures,
      c.number_within-p.ensures,
      c.number_within-q.ensures,
    ) follows) in
    absurd (cc (found, c.if-is_none.ensures))
