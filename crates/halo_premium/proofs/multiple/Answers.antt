use Rattle.std.proofs.Common.{◌∙◌, pos, arith}
use Rattle.std.proofs.lemmas.Int.{ints}
use Rattle.halo_num.specs.Ends.{IsSized}
use Rattle.halo_num.proofs.CountMultiples.{greatest-multiple, least-multiple, multiple-from, signed-count}
use Rattle.halo_sums.proofs.Integers.{mul_le_pos}
use Rattle.halo_premium.proofs.multiple.Goals as goal

pub scale-requires-clause-lo_in : goal.scale-requires-clause-lo_in
scale-requires-clause-lo_in c =
    let value = c.args.value in
    let from = multiple-from value.lo c.args.amount c.requires.from in
    let most = mul_le_pos value.lo value.hi c.args.amount c.lo.ensures.order in
    rw (signed-count c.args.amount (omega (arith, c.requires.amount_in)))
    (record { low = omega (arith, ints, from); high = omega (arith, ints, most, c.requires.result_in) })

pub scale-requires-clause-hi_in : goal.scale-requires-clause-hi_in
scale-requires-clause-hi_in c =
    let value = c.args.value in
    let from = multiple-from value.lo c.args.amount c.requires.from in
    let most = mul_le_pos value.lo value.hi c.args.amount c.lo.ensures.order in
    rw (signed-count c.args.amount (omega (arith, c.requires.amount_in)))
    (record { low = omega (arith, ints, from, most); high = omega (arith, ints, c.requires.result_in) })

pub returns-clause-lo : goal.returns-clause-lo
returns-clause-lo c =
    (rw (signed-count c.args.amount (omega (arith, c.requires.amount_in))) at c.scale.ensures.lo)
    ∙ least-multiple c.args.value.lo c.args.value.hi c.args.amount c.lo.ensures.order

pub returns-clause-hi : goal.returns-clause-hi
returns-clause-hi c =
    (rw (signed-count c.args.amount (omega (arith, c.requires.amount_in))) at c.scale.ensures.hi)
    ∙ greatest-multiple c.args.value.lo c.args.value.hi c.args.amount c.lo.ensures.order

pub returns-clause-encloses : goal.returns-clause-encloses
returns-clause-encloses c n d enclosed =
    rw (signed-count c.args.amount (omega (arith, c.requires.amount_in))) at (c.scale.ensures.encloses n d enclosed)

pub returns-clause-within : goal.returns-clause-within
returns-clause-within c = record {
  low = rw (returns-clause-lo c) (multiple-from c.args.value.lo c.args.amount c.requires.from);
  high = rw (returns-clause-hi c) c.requires.result_in;
}

pub returns-clause-narrow : goal.returns-clause-narrow
returns-clause-narrow c w narrow =
    let sized : IsSized (pos c.args.amount) c.args.amount =
    record { low = omega (arith, ints); high = omega (arith, ints) } in
    c.scale.ensures.narrow w c.args.amount narrow
    (rw (signed-count c.args.amount (omega (arith, c.requires.amount_in))) sized)
