-- The names of a sample's tables.
use Rattle.std.proofs.Common.{◌≢◌, ℕ, ◌^◌, ◌<◌, List, ◌++◌, codes}
use Rattle.std.specs.Fmt.{decimal}
use Rattle.std.proofs.lemmas.Fmt.{decimal_injective}

-- the name of the table with a number
abbrev pub name_at : ℕ → List ℕ
name_at table = codes "t" ++ decimal table

-- tables with two numbers have two names
pub names-differ : (a b : ℕ) → a < 2 ^ 64 → b < 2 ^ 64 → a ≢ b → name_at a ≢ name_at b
names-differ a b small_a small_b differ same = differ (decimal_injective a b small_a small_b (cc same))
