use Rattle.std.proofs.Common.{arith}
use Rattle.halo_num.proofs.WideProducts.{part-split}
use Rattle.halo_num.proofs.wide.part_up.Goals as goal

pub returns-clause-to : goal.returns-clause-to
returns-clause-to c =
    let number = c.split_near-number in
    let split = part-split c.args.a c.args.b number.result.ones number.result.rest number.ensures.whole in
    omega (arith, split, c.product-whole.ensures, c.product-rest.ensures, c.whole_up.ensures.to)

pub returns-clause-near : goal.returns-clause-near
returns-clause-near c =
    let number = c.split_near-number in
    let split = part-split c.args.a c.args.b number.result.ones number.result.rest number.ensures.whole in
    omega (arith, split, c.product-whole.ensures, c.product-rest.ensures, c.whole_up.ensures.near)
