use Rattle.std.proofs.Common.{◌≡◌, drop}
use Rattle.halo_io.specs.Held.{bytes_under}
use Rattle.halo_io.proofs.held.find_bytes.Given as goal

abbrev pub invariant-loop-file : goal.invariant-loop-file
invariant-loop-file l = bytes_under l.files l.name ≡ bytes_under (drop l.file-index l.files) l.name
