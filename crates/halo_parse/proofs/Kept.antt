-- What holds of the lines so far holds with one more that passes all checks.
use Rattle.std.proofs.Common.{◌≡◌, arith}
use Rattle.std.specs.Prelude.{Err, Ok, OnOk, Result}
use Rattle.std.proofs.lemmas.List.{length_push}
use Rattle.std.proofs.lemmas.List.Elements.{All-nil, All-push}
use Rattle.std.proofs.lemmas.List.Sums.{sum_by_push}
use Rattle.halo_status.specs.Pay.{PlainPay}
use Rattle.halo_table.specs.DecrementTable.{TableFile, names_of, HasRow}
use Rattle.halo_check.specs.Addition.{IsKept}
use Rattle.halo_check.specs.Checks.{PassesAll}
use Rattle.halo_check.specs.Draft.{Draft, empty_draft, pay_written, place_of, with_line}
use Rattle.halo_contract.specs.PlainContract.{life_names}
use Rattle.halo_syntax.specs.Line.{Line, interest, life, ties, pay, premium, reserve}
use Rattle.halo_contract.specs.declared.contract.LifeLine.{LifeLine}
use Rattle.halo_check.specs.declared.fault.ContractKind.TheVariants as kind
use Rattle.halo_text.specs.Number.{number}

pub kept_at_first : (tables : TableFile) → IsKept tables empty_draft
kept_at_first tables =
    record {
      few_lives = omega arith;
      rows =
          All-nil (λ (declared : LifeLine). HasRow tables declared.life.table declared.life.age);
      amounts =
          omega arith;
    }

pub kept_by_line : (tables : TableFile) (d : Draft) (l : Line) → IsKept tables d → PassesAll tables d l
    → IsKept tables (with_line tables d l)
unfolding with_line
kept_by_line tables d (interest p q rates) kept passes =
    record { few_lives = kept.few_lives; rows = kept.rows; amounts = kept.amounts }
kept_by_line tables d (life name table age) kept passes =
    let within = passes kind.Magnitude in
    let row = passes kind.NoAge in
    let declared : LifeLine =
    record { name = name; life = record { table = place_of (names_of tables.tables) table; age = number age } } in
    record {
      few_lives = omega (arith, length_push d.lives declared, within.3);
      rows =
          All-push (λ (declared : LifeLine). HasRow tables declared.life.table declared.life.age) d.lives declared
          kept.rows row;
      amounts = kept.amounts;
    }
kept_by_line tables d (ties r) kept passes =
    record { few_lives = kept.few_lives; rows = kept.rows; amounts = kept.amounts }
kept_by_line tables d (pay amount s) kept passes =
    let within = passes kind.Magnitude in
    record {
      few_lives = kept.few_lives;
      rows = kept.rows;
      amounts =
          omega (
            arith,
            sum_by_push (λ (p : PlainPay). p.amount) d.pays
                (pay_written (life_names d.lives) tables.causes amount s),
            within.3,
          );
    }
kept_by_line tables d (premium status) kept passes =
    record { few_lives = kept.few_lives; rows = kept.rows; amounts = kept.amounts }
kept_by_line tables d (reserve time names) kept passes =
    record { few_lives = kept.few_lives; rows = kept.rows; amounts = kept.amounts }

pub kept_if_ok : {E : Type 0} (r : Result Unit E) (tables : TableFile) (d : Draft) (l : Line) (next : Draft)
    → IsKept tables d → OnOk r (PassesAll tables d l × (next ≡ with_line tables d l)) → OnOk r (IsKept tables next)
kept_if_ok (Ok x) tables d l next kept more = rw more.1 (kept_by_line tables d l kept more.0)
kept_if_ok (Err e) tables d l next kept more = tt
