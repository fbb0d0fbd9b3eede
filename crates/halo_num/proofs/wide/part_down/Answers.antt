use Rattle.std.proofs.Common.{arith}
use Rattle.halo_num.proofs.WideProducts.{part-split}
use Rattle.halo_num.proofs.wide.part_down.Goals as goal

pub returns-clause-from : goal.returns-clause-from
returns-clause-from c =
    let number = c.split_near-number in
    let split = part-split c.args.a c.args.b number.result.ones number.result.rest number.ensures.whole in
    omega (arith, split, c.product-whole.ensures, c.product-rest.ensures, c.whole_down.ensures.from)

pub returns-clause-near : goal.returns-clause-near
returns-clause-near c =
    let number = c.split_near-number in
    let split = part-split c.args.a c.args.b number.result.ones number.result.rest number.ensures.whole in
    omega (arith, split, c.product-whole.ensures, c.product-rest.ensures, c.whole_down.ensures.near)
