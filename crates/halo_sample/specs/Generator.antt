-- The numbers that are drawn for a sample, each from a state that is stepped before.
use Rattle.std.specs.Prelude.{ℕ, zero, suc, ◌+◌, ◌*◌, ◌/◌, ◌%◌, ◌^◌}
use Rattle.halo_sample.specs.declared.generator.TheConstants.{INCREMENT, MULTIPLIER}

-- the state behind a state
unfoldable pub next_state : ℕ → ℕ
next_state s = (MULTIPLIER * s + INCREMENT) % 2 ^ 64

-- the number below n that is drawn in a state
unfoldable pub drawn : ℕ → ℕ → ℕ
drawn n s = next_state s / 2 ^ 33 % n

-- and the one below n that is drawn right after another
abbrev pub drawn_second : ℕ → ℕ → ℕ
drawn_second n s = drawn n (next_state s)

-- the state behind two draws, and behind so many times two draws
abbrev pub state_behind_two : ℕ → ℕ
state_behind_two s = next_state (next_state s)

unfoldable pub state_behind_pairs : ℕ → ℕ → ℕ
state_behind_pairs zero s = s
state_behind_pairs (suc count) s = state_behind_pairs count (state_behind_two s)
