-- What the reads of a shelf give, and what a sink tells that it took.
use Rattle.std.specs.Prelude.{◌≡◌, ◌≤◌, ◌<◌, ℕ, List, [], ◌++◌, length, take, drop, ⊤}
use Rattle.std.specs.Prelude.{Result, MatchResult, IfOk, Option, None, Some}

-- at `Ok n` the first n bytes of `into` are the file's from `at` on, and n is 0 with room for a
-- byte only at the file's end or past it
abbrev pub GivesAt : {E : Type 0} → Option (List ℕ) → ℕ → Result ℕ E → List ℕ → Type 0
GivesAt None at result into = ⊤
GivesAt (Some file) at result into = IfOk result (λ n.
    (take n into ≡ take n (drop at file)) × (n ≡ 0 → 0 < length into → length file ≤ at))

-- what a sink tells has grown by these bytes: if it tells now, it told before
abbrev pub AppendsTold : Option (List ℕ) → Option (List ℕ) → List ℕ → Type 0
AppendsTold old None bytes = ⊤
AppendsTold None (Some now) bytes = ⊥
AppendsTold (Some old) (Some now) bytes = now ≡ old ++ bytes

-- a write of `piece` appended its first n bytes at `Ok n`, and nothing at `Err`
abbrev pub AppendsTaken : {E : Type 0} → Option (List ℕ) → Option (List ℕ) → Result ℕ E → List ℕ
    → Type 0
AppendsTaken old new result piece =
    MatchResult result (λ n. AppendsTold old new (take n piece)) (λ _. AppendsTold old new [])

-- what a sink tells has grown by a prefix of these bytes
abbrev pub TookPrefix : Option (List ℕ) → Option (List ℕ) → List ℕ → Type 0
TookPrefix old new bytes = (n : ℕ) × (n ≤ length bytes) × AppendsTold old new (take n bytes)
