use Rattle.std.proofs.Common.{◌≡◌, ◌-◌, ◌+◌, arith, map, refl}
use Rattle.std.proofs.lemmas.List.{length-map}
use Rattle.halo_check.specs.Limits.{IsRateWithin}
use Rattle.halo_syntax.specs.LineView.{plain_rate}
use Rattle.halo_syntax.specs.ProperLine.{IsProperRate}
use Rattle.halo_check.proofs.Each.{each_at}
use Rattle.halo_check.proofs.Years.{rising_more, year_here}
use Rattle.halo_check.proofs.checks.years_rise.Goals as goal

pub loop-place-init : goal.loop-place-init
loop-place-init c = λ i below. absurd (omega (arith, below))

pub year_of-requires-clause-proper : goal.year_of-requires-clause-proper
year_of-requires-clause-proper c =
    each_at IsProperRate plain_rate c.args.rates.now c.requires.proper c.loop-place.place _ c.loop-place-test.true

pub year_of-requires-clause-within : goal.year_of-requires-clause-within
year_of-requires-clause-within c =
    each_at IsRateWithin plain_rate c.args.rates.now c.requires.within c.loop-place.place _ c.loop-place-test.true

pub year_of-requires-in-loop-place-clause-proper : goal.year_of-requires-in-loop-place-clause-proper
year_of-requires-in-loop-place-clause-proper c =
    each_at IsProperRate plain_rate c.args.rates.now c.requires.proper (c.loop-place.place - 1) _
    (omega (arith, c.loop-place-test.true))

pub year_of-requires-in-loop-place-clause-within : goal.year_of-requires-in-loop-place-clause-within
year_of-requires-in-loop-place-clause-within c =
    each_at IsRateWithin plain_rate c.args.rates.now c.requires.within (c.loop-place.place - 1) _
    (omega (arith, c.loop-place-test.true))

pub returns-then-year_of : goal.returns-then-year_of
returns-then-year_of c =
    let back : c.loop-place.place - 1 + 1 ≡ c.loop-place.place = omega (arith, c.loop-place.auto.place) in
    let here = year_here c.args.rates.now c.loop-place.place c.loop-place-test.true in
    let before = year_here c.args.rates.now (c.loop-place.place - 1) (omega (arith, c.loop-place-test.true)) in (
      λ h. absurd cc,
      λ rise.
          let next =
          rw back at (rise (c.loop-place.place - 1)
          (rw (back, length-map c.args.rates.now plain_rate) c.loop-place-test.true)) in
          absurd (omega (
            arith,
            next,
            here,
            before,
            c.year_of.ensures,
            c.year_of-in-loop-place.ensures,
            c.if-year_of.true,
          )),
    )

pub loop-place-preserved : goal.loop-place-preserved
loop-place-preserved c =
    let back : c.loop-place.place - 1 + 1 ≡ c.loop-place.place = omega (arith, c.loop-place.auto.place) in
    let here = year_here c.args.rates.now c.loop-place.place c.loop-place-test.true in
    let before = year_here c.args.rates.now (c.loop-place.place - 1) (omega (arith, c.loop-place-test.true)) in
    rising_more (map plain_rate c.args.rates.now) c.loop-place.place c.loop-place.auto.place c.loop-place.invariant
    (omega (arith, here, before, c.year_of.ensures, c.year_of-in-loop-place.ensures, c.if-year_of.false))

pub returns : goal.returns
returns c = (
  λ h i below. c.loop-place.invariant i (omega
      (arith, below, length-map c.args.rates.now plain_rate, c.loop-place-test.false)),
  λ rise. refl,
)
