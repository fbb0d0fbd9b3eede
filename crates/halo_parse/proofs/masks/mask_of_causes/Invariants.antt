use Rattle.std.proofs.Common.{◌≡◌, map, take}
use Rattle.halo_symbol.specs.SymbolView.{plain_names}
use Rattle.halo_sums.specs.SetMasks.{mask_of}
use Rattle.halo_check.specs.Draft.{all_names, is_among}
use Rattle.halo_parse.proofs.masks.mask_of_causes.Given as goal

abbrev pub invariant-loop-cause : goal.invariant-loop-cause
invariant-loop-cause l =
    l.mask ≡ mask_of (take l.cause (map (is_among (all_names (plain_names l.names))) l.tables.causes))
