-- A store that is written over from its first byte on.
use Rattle.std.specs.Prelude.{ℕ, ◌+◌, List, ◌++◌, length, take, drop, Result, Ok, Err}

-- the store after these bytes were written over it from a place on
abbrev pub written_over : List ℕ → ℕ → List ℕ → List ℕ
written_over store at bytes = take at store ++ bytes ++ drop (at + length bytes) store

-- how many bytes a write took
abbrev pub count_taken : {E : Type 0} → Result ℕ E → ℕ
count_taken (Ok n) = n
count_taken (Err e) = 0
