-- Files held in memory.
use Rattle.std.specs.Global.{Global, Vec}
use Rattle.std.specs.Prelude.{ℕ, ◌-◌, min, length, List, [], ◌∷◌, if◌then◌else◌}
use Rattle.std.specs.Prelude.{Option, None, Some, String, string_bytes, bytes_eq}

-- the bytes of the first file of that name, where there is one
abbrev pub bytes_under : List (String Global × Vec ℕ) → List ℕ → Option (List ℕ)
bytes_under [] name = None
bytes_under (file ∷ files) name =
    if bytes_eq (string_bytes file.0) name then Some file.1.items else bytes_under files name

-- how many bytes a read from `at` on gives: as many as there is room for, but at most what is left
abbrev pub count_from : List ℕ → ℕ → ℕ → ℕ
count_from file at room = min room (length file - at)
