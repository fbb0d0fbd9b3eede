-- Runs of bytes of one kind.
use Rattle.std.specs.Prelude.{◌≡◌, ℕ, ◌<◌, ◌≤◌, Bool, true, false, List, length, slice_index}
use Rattle.std.specs.List.{AllWithin}

-- the bytes between two places pass the test, and the byte behind them, where there is one, does
-- not
pub record IsRun (test : ℕ → Bool) (bytes : List ℕ) (from to : ℕ) : Type 0 where
  pub forth : from ≤ to
  pub within : to ≤ length bytes
  pub pass : AllWithin (λ b. test b ≡ true) bytes from to
  pub stops : to < length bytes → test (slice_index bytes to) ≡ false
