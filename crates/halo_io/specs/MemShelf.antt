-- A shelf in memory of which chosen reads fail.
use Rattle.std.specs.Prelude.{◌≡◌, ℕ, List, ◌⊎◌, Option, None, Result, Contains}
use Rattle.halo_io.specs.declared.failed.Failed.{Failed}
use Rattle.halo_io.specs.declared.mem_shelf.MemShelf.{MemShelf}
use Rattle.halo_io.specs.Counts.{raised, count_after}
use Rattle.halo_io.specs.Held.{bytes_under}

-- the bytes of the file of that name, where the shelf holds one
abbrev pub file_of : MemShelf → List ℕ → Option (List ℕ)
file_of shelf name = bytes_under shelf.files.items name

-- how often a read has failed, whatever the name
abbrev pub faults_of : MemShelf → ℕ
faults_of shelf = shelf.faults

-- the next call fails if it reads this name: its number is listed, or no file has the name
abbrev pub FailsAt : MemShelf → List ℕ → Type 0
FailsAt shelf name = Contains shelf.failing.items shelf.calls ⊎ (file_of shelf name ≡ None)

-- the shelf after a call, which uses up a number, and is counted if it failed
abbrev pub after_call : MemShelf → Result ℕ Failed → MemShelf
after_call shelf result =
    record shelf { calls = raised shelf.calls; faults = count_after shelf.faults result }
