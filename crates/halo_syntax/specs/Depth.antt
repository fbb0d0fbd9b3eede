-- How far the round brackets of a line open.
use Rattle.std.specs.Prelude.{ℕ, ◌+◌, ◌==◌, ◌≤◌, List, take, length}
use Rattle.std.specs.List.{filter}
use Rattle.halo_symbol.specs.Characters.{round_open, round_close}

-- how many bytes of a text are this one
abbrev pub count_of : ℕ → List ℕ → ℕ
count_of byte text = length (filter (λ b. b == byte) text)

-- up to each place of a line the round brackets opened exceed those closed by at most 16
abbrev pub IsShallow : List ℕ → Type 0
IsShallow line = (n : ℕ) → n ≤ length line
    → count_of round_open (take n line) ≤ count_of round_close (take n line) + 16
