use Rattle.std.proofs.Common.{◌∙◌, ap, arith}
use Rattle.std.specs.Option.{option_map}
use Rattle.std.specs.Prelude.{Some}
use Rattle.halo_status.specs.Nodes.{nodes}
use Rattle.halo_symbol.specs.StatusOf.{tree_of_content}
use Rattle.halo_symbol.specs.SymbolView.{plain_mark}
use Rattle.halo_symbol.specs.View.{plain_body}
use Rattle.halo_symbol.proofs.Shapes.{plain_body-List}
use Rattle.halo_check.specs.Limits.{any_life}
use Rattle.halo_check.proofs.node_count.nodes_of_symbol.Goals as goal

pub returns-in-Some-List : goal.returns-in-Some-List
returns-in-Some-List c =
    let arm = c.in-Some-List in
    let marked =
    ap (λ mark. nodes (tree_of_content any_life (option_map plain_mark mark) (plain_body c.args.symbol.now.body)))
    arm.is-0 in
    let listed =
    ap (λ body. nodes (tree_of_content any_life (Some (plain_mark arm.field-0-0)) body))
    (ap plain_body arm.is-1 ∙ plain_body-List arm.members) in
    omega (arith, marked, listed)
