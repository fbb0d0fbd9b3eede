-- What a reserve line adds that passes all checks is a valid reserve.
use Rattle.std.proofs.Common.{◌+◌, ◌<◌, ◌≤◌, ◌^◌, ◌∙◌, ℕ, List, [], ap, subst, arith}
use Rattle.std.proofs.lemmas.List.{get_or-map, length-map}
use Rattle.std.proofs.lemmas.Option.{get_or_from_slice_get, slice_get_within}
use Rattle.halo_contract.specs.PlainContract.{life_names}
use Rattle.halo_contract.specs.ValidContract.{CanBeAlive, IsValidReserve}
use Rattle.halo_contract.specs.declared.contract.LifeLine.{LifeLine}
use Rattle.halo_table.specs.DecrementTable.{HasRow, TableFile, last_age_of}
use Rattle.halo_text.specs.Number.{number}
use Rattle.halo_check.specs.Addition.{IsKept}
use Rattle.halo_check.specs.Checks.{PassesAll}
use Rattle.halo_check.specs.Draft.{Draft, mask_of_names}
use Rattle.halo_syntax.specs.Line.{reserve}
use Rattle.halo_check.specs.declared.fault.ContractKind.TheVariants as kind
use Rattle.halo_parse.proofs.MasksOfNames.{among_of_bit, mask_of_names-lt}

-- a life with a row at its age has one at each later age up to its table's last
later_row : (tables : TableFile) (t : ℕ) (declared : LifeLine) → HasRow tables declared.life.table declared.life.age
    → declared.life.age + t ≤ last_age_of tables declared.life.table → CanBeAlive tables t declared
later_row tables t declared row to_last =
    record { table_in = row.table_in; from_first = omega (arith, row.from_first); to_last = to_last }

pub valid_reserve : (tables : TableFile) (d : Draft) (time : List ℕ) (names : List (List ℕ)) → IsKept tables d
    → PassesAll tables d (reserve time names)
    → IsValidReserve tables d.lives (record { time = number time; alive = mask_of_names (life_names d.lives) names })
valid_reserve tables d time names kept passes =
    let all = life_names d.lives in
    let name_of_line : LifeLine → List ℕ = λ line. line.name in
    let count = length-map d.lives name_of_line in
    record {
      time_in = (passes kind.Magnitude).0;
      declared = subst (λ n. mask_of_names all names < 2 ^ n) count (mask_of_names-lt all names);
      alive = λ i declared at set.
          let within = slice_get_within d.lives i declared at in
          let here = get_or_from_slice_get d.lives i declared declared at in
          let named = get_or-map name_of_line d.lives i declared [] within ∙ ap name_of_line here in
          let among = rw named at (among_of_bit all names i (omega (arith, count)) set) in
          let row = rw here at (kept.rows i declared within) in
          later_row tables (number time) declared row (rw here at (passes kind.NotAlive i declared within) among);
    }
