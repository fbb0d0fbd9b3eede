use Rattle.csv.specs.Records.{fields_of}
use Rattle.halo_table.proofs.Causes.{new_where_apart}
use Rattle.halo_table.proofs.fields.are_new_causes.Goals as goal

pub returns : goal.returns
returns c =
    let named = c.are_names.ensures.0 (c.if-not-are_names.false) in
    let is =
    new_where_apart (fields_of c.args.fields.now) c.in_ok-causes.causes.items
    c.in_ok-causes.ensures named in
    ((λ t. is.0 (c.are_apart.ensures.0 t)), (λ new. c.are_apart.ensures.1 (is.1 new)))
