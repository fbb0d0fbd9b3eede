use Rattle.std.proofs.Common.{◌≡◌, ◌+◌, ◌++◌}
use Rattle.std.specs.Prelude.{replicate}
use Rattle.arrayvec.specs.ArrayString.{array_string_len}
use Rattle.halo_spell.proofs.decimals.push_zeros.Given as goal

abbrev pub invariant-loop : goal.invariant-loop
invariant-loop l =
    (l.into.bytes ≡ l.fn.into.bytes ++ replicate l.counter 48)
    × (array_string_len l.into ≡ array_string_len l.fn.into + l.counter)
