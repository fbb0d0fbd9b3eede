-- A shelf in memory whose reads never fail.
use Rattle.std.specs.Prelude.{ℕ, List, [], unwrap_or}
use Rattle.halo_io.specs.declared.sure_shelf.SureShelf.{SureShelf}
use Rattle.halo_io.specs.Held.{bytes_under}

-- the bytes of the file of that name, where a name that the shelf does not hold is the empty file
abbrev pub file_of : SureShelf → List ℕ → List ℕ
file_of shelf name = unwrap_or (bytes_under shelf.files.items name) []
