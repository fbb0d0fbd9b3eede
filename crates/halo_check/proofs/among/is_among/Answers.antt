-- The search for a name is the test of the definition, over the names in memory.
use Rattle.std.proofs.Common.{◌∙◌, bytes_eq, rules, tests}
use Rattle.std.proofs.lemmas.Iterator.{YieldsList-from_slice}
use Rattle.std.proofs.lemmas.Iterator.Search.{any_from_yields_List}
use Rattle.halo_check.proofs.MasksOfTests.{list_any-map}
use Rattle.halo_check.proofs.among.is_among.Goals as goal

pub returns : goal.returns
returns c =
    any_from_yields_List (λ other. bytes_eq other.now c.args.name.now) _ _ c.any.result c.any.ensures.ran
    (YieldsList-from_slice c.args.names.now cc) (λ x b q k. search (rules, tests))
    ∙ list_any-map (λ other. bytes_eq other c.args.name.now) (λ other. other.now) c.args.names.now
