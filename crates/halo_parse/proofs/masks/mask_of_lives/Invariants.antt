use Rattle.std.proofs.Common.{◌≡◌, map, take}
use Rattle.halo_sums.specs.SetMasks.{mask_of}
use Rattle.halo_check.specs.Draft.{is_among}
use Rattle.halo_contract.specs.PlainContract.{life_names}
use Rattle.halo_parse.proofs.masks.mask_of_lives.Given as goal

abbrev pub invariant-loop-place : goal.invariant-loop-place
invariant-loop-place l =
    l.mask ≡ mask_of (take l.place (map (is_among (map (λ name. name.now) l.names)) (life_names l.lives)))
