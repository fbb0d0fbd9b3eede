use Rattle.std.proofs.Common.{◌≡◌, ◌≤◌, ◌<◌, ◌-◌, ◌∷◌, drop, length, map}
use Rattle.csv.specs.Records.{fields_of}
use Rattle.halo_table.specs.Grouping.{grouped}
use Rattle.halo_table.specs.Reading.{AreRowNumbers}
use Rattle.halo_table.specs.Record.{record_at}
use Rattle.halo_table.specs.Seen.{seen_table}
use Rattle.halo_table.proofs.Groups.{rows_before}
use Rattle.halo_table.proofs.Walk.{ReadSoFar}
use Rattle.halo_table.proofs.reading.read_rows.Given as goal

abbrev pub invariant-rows : goal.invariant-rows
invariant-rows l =
    let all = fields_of l.fn.header ∷ l.fn.source in
    record {
      left : drop l.count all ≡ l.source;
      within : l.count ≤ length all;
      few : length all ≤ 16777216;
      last : fields_of l.last ≡ record_at all (l.count - 1);
      wide : 4 ≤ l.width;
      narrow : l.width ≤ 11;
      width : l.width ≡ length (record_at all 0);
      seen : ReadSoFar all l.count;
      before : 1 < l.count → AreRowNumbers l.width (record_at all (l.count - 1)) l.before;
      tables : map seen_table l.tables.items ≡ grouped (rows_before all l.count);
    }

abbrev pub decreases-rows : goal.decreases-rows
decreases-rows l = length l.source
