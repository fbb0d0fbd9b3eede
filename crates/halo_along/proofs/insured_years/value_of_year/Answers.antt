use Rattle.std.proofs.Common.{◌≡◌, suc, rules, arith, pos, to_z, of_z, to_z-of_z, w64}
use Rattle.std.proofs.lemmas.Int.{ints}
use Rattle.halo_along.specs.Insured.{EnclosesInsuredYear}
use Rattle.halo_along.specs.Years.{EnclosesOnePaid, width_of_one}
use Rattle.halo_along.proofs.InsuredYear.{existing-within, fall-near, multiple-modest, multiple-near, sized, year-encloses, year-narrow}
use Rattle.halo_along.proofs.insured_years.value_of_year.Goals as goal

pub mul-at_end-requires-clause-self_from : goal.mul-at_end-requires-clause-self_from
mul-at_end-requires-clause-self_from g c =
    (existing-within c.args.along.now c.args.year c.args.existing c.requires.existing).low

pub mul-at_end-requires-clause-self_in : goal.mul-at_end-requires-clause-self_in
mul-at_end-requires-clause-self_in g c =
    omega (arith, ints, (existing-within c.args.along.now c.args.year c.args.existing c.requires.existing).high)

pub sub-fall-requires-clause-self_in : goal.sub-fall-requires-clause-self_in
sub-fall-requires-clause-self_in g c =
    let now = existing-within c.args.along.now c.args.year c.args.existing c.requires.existing in
    let is = c.mul-at_end.ensures.within now.high c.year.ensures.within.high in
    record { low = omega (arith, ints, is.low); high = omega (arith, ints, is.high) }

pub sub-fall-requires-clause-o_in : goal.sub-fall-requires-clause-o_in
sub-fall-requires-clause-o_in g c =
    let then = existing-within c.args.along.now (suc c.args.year) c.args.next c.requires.next in
    record { low = omega (arith, ints, then.low); high = omega (arith, ints, then.high) }

pub scale-requires-clause-lo_in : goal.scale-requires-clause-lo_in
scale-requires-clause-lo_in g c =
    let k : to_z w64 (of_z w64 c.from.result) ≡ pos c.insured_in-paid.result = search (rules, to_z-of_z) in
    let now = existing-within c.args.along.now c.args.year c.args.existing c.requires.existing in
    let near = fall-near c.args.along.now c.args.year c.mul-at_end.result c.args.next c.sub-fall.result c.requires.next
    (c.mul-at_end.ensures.within now.high c.year.ensures.within.high) c.sub-fall.ensures.lo c.sub-fall.ensures.hi
    c.lo-lowest.ensures.order in
    multiple-modest c.sub-fall.result.lo _ c.insured_in-paid.result k c.insured_in-paid.ensures.small near.0

pub scale-requires-clause-hi_in : goal.scale-requires-clause-hi_in
scale-requires-clause-hi_in g c =
    let k : to_z w64 (of_z w64 c.from.result) ≡ pos c.insured_in-paid.result = search (rules, to_z-of_z) in
    let now = existing-within c.args.along.now c.args.year c.args.existing c.requires.existing in
    let near = fall-near c.args.along.now c.args.year c.mul-at_end.result c.args.next c.sub-fall.result c.requires.next
    (c.mul-at_end.ensures.within now.high c.year.ensures.within.high) c.sub-fall.ensures.lo c.sub-fall.ensures.hi
    c.lo-lowest.ensures.order in
    multiple-modest c.sub-fall.result.hi _ c.insured_in-paid.result k c.insured_in-paid.ensures.small near.1

pub returns-clause-year : goal.returns-clause-year
unfolding EnclosesInsuredYear EnclosesOnePaid
returns-clause-year g c =
    let k : to_z w64 (of_z w64 c.from.result) ≡ pos c.insured_in-paid.result = search (rules, to_z-of_z) in
    let along = c.args.along.now in
    let year = c.args.year in
    let paid = c.insured_in-paid.result in
    let now = existing-within along year c.args.existing c.requires.existing in
    let near = fall-near along year c.mul-at_end.result c.args.next c.sub-fall.result c.requires.next
    (c.mul-at_end.ensures.within now.high c.year.ensures.within.high) c.sub-fall.ensures.lo c.sub-fall.ensures.hi
    c.lo-lowest.ensures.order in
    λ ties. record {
      encloses = year-encloses along c.requires.along year c.requires.from c.requires.before c.year.ensures.interest
          c.args.existing c.args.next c.year.result c.mul-at_end.result c.sub-fall.result c.scale.result paid
          c.insured_in-paid.ensures.value c.mul-at_end.ensures.encloses c.year.ensures.encloses
          c.sub-fall.ensures.encloses (rw k at c.scale.ensures.encloses) c.requires.existing c.requires.next ties;
      narrow = year-narrow along c.requires.along year c.requires.from c.requires.before c.scale.result paid
          c.insured_in-paid.ensures.value
          (c.scale.ensures.narrow _ paid
          (c.sub-fall.ensures.narrow _ _
          (c.mul-at_end.ensures.narrow (width_of_one along) 1 now.high c.year.ensures.within.high
          (c.requires.existing ties).narrow c.year.ensures.narrow)
          (c.requires.next ties).narrow)
          (rw k (sized paid)));
      near = multiple-near c.sub-fall.result c.scale.result _ paid k c.insured_in-paid.ensures.small near.0 near.1
          c.scale.ensures.lo c.scale.ensures.hi;
    }
