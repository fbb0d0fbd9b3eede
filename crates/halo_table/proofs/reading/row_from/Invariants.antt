use Rattle.std.proofs.Common.{◌≡◌, ◌+◌, List, drop, map, take, ℕ}
use Rattle.arrayvec.specs.ArrayVec.{array_vec_len}
use Rattle.halo_text.specs.Number.{number}
use Rattle.halo_table.specs.Reading.{AreRowNumbers}
use Rattle.halo_table.proofs.reading.row_from.Given as goal

abbrev pub invariant-loop-place : goal.invariant-loop-place
invariant-loop-place l = record {
  room : array_vec_len l.leavers + 3 ≡ l.place;
  leavers : (fields : List (List ℕ)) → AreRowNumbers l.width fields l.numbers
      → l.leavers.items ≡ map number (drop 3 (take l.place fields));
}
