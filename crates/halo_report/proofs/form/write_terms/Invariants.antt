-- The terms of the sets so far are written.
use Rattle.std.proofs.Common.{◌≡◌, ◌++◌, length, map, take}
use Rattle.halo_sums.specs.Masks.{bits}
use Rattle.halo_contract.specs.PlainContract.{life_names}
use Rattle.halo_report.specs.FormText.{terms_of}
use Rattle.halo_report.proofs.form.write_terms.Given as goal

abbrev pub invariant-loop-set : goal.invariant-loop-set
invariant-loop-set g l = l.into.items
    ≡ l.fn.into.items ++ terms_of (life_names l.lives) l.poly (map (bits (length l.lives)) (take l.set-index l.sets))
