use Rattle.std.proofs.Common.{◌∙◌}
use Rattle.halo_num.proofs.WideProducts.{product-split}
use Rattle.halo_num.proofs.wide.divided_product.Goals as goal

pub returns-clause-whole : goal.returns-clause-whole
returns-clause-whole c =
    let left = c.split_factor-left in
    let right = c.split_factor-right in
    let low = c.divided_by_fine-low in
    product-split c.args.a c.args.b left.result.whole left.result.rest right.result.whole right.result.rest
    low.result.whole low.result.rest left.ensures.whole right.ensures.whole (low.ensures.whole ∙ c.product.ensures)
