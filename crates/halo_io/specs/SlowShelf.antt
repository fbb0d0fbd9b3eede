-- A shelf in memory that gives its files in pieces.
use Rattle.std.specs.Prelude.{ℕ, List}
use Rattle.halo_io.specs.declared.slow_shelf.SlowShelf.{SlowShelf}
use Rattle.halo_io.specs.SureShelf as sure

-- the bytes of the file of that name, where a name that the shelf does not hold is the empty file
abbrev pub file_of : SlowShelf → List ℕ → List ℕ
file_of shelf name = sure.file_of shelf.shelf name
