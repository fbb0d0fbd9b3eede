use Rattle.std.proofs.Common.{◌≡◌, drop, map, take}
use Rattle.csv.specs.Records.{fields_of}
use Rattle.halo_table.proofs.fields.causes_of.Given as goal

abbrev pub invariant-loop-place : goal.invariant-loop-place
invariant-loop-place l =
    map (λ cause. cause.now) l.causes.items ≡ drop 3 (take l.place (fields_of l.fields))
