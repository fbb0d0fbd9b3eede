-- Loading a whole file.
use Rattle.std.specs.Prelude.{◌≡◌, ℕ, ◌<◌, List, length, ⊤, Result, Ok, Err}
use Rattle.std.specs.Global.{Vec}
use Rattle.halo_io.specs.declared.loading.LoadFault.{LoadFault}
use Rattle.halo_io.specs.declared.loading.LoadFault.TheVariants as fault

-- `Ok` gives all the bytes of the file, and `TooLong` says that they are more than the limit
abbrev pub Loads : List ℕ → ℕ → Result (Vec ℕ) LoadFault → Type 0
Loads file limit (Ok bytes) = bytes.items ≡ file
Loads file limit (Err fault.TooLong) = limit < length file
Loads file limit (Err fault.Read) = ⊤
Loads file limit (Err fault.Memory) = ⊤
