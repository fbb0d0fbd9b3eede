use Rattle.std.proofs.Common.{arith, refl}
use Rattle.csv.specs.Records.{fields_of}
use Rattle.halo_table.specs.DecrementTable.{names_of}
use Rattle.halo_table.specs.Faults.{StepHolds}
use Rattle.halo_table.specs.Seen.{seen_tables}
use Rattle.halo_table.specs.declared.fault.TableKind.TheVariants as kind
use Rattle.halo_table.proofs.FirstKind.{again_is, count_of_names, first_of, many_is, none_holds, off_age_is, off_survivors_is}
use Rattle.halo_table.proofs.step.read_step.Goals as goal

pub returns-then-is_again : goal.returns-then-is_again
returns-then-is_again c =
    let width = c.args.width in
    let names = names_of (seen_tables c.args.tables.now) in
    let first = c.args.is_first_row in
    let last = fields_of c.args.last.now in
    let row = fields_of c.args.row.now in
    first_of width names first last row kind.Again
    ((again_is width names first last row _ _ c.continues_table-continues.ensures
    c.if-is_again.ensures).0 refl) c.in_ok-numbers.ensures.0 (λ lt. absurd (omega arith))
    (λ lt. absurd (omega arith)) (λ lt. absurd (omega arith))
    (λ lt. absurd (omega arith))

pub returns-then-is_one_more : goal.returns-then-is_one_more
returns-then-is_one_more c =
    let width = c.args.width in
    let names = names_of (seen_tables c.args.tables.now) in
    let first = c.args.is_first_row in
    let last = fields_of c.args.last.now in
    let row = fields_of c.args.row.now in
    let no_again : StepHolds width names first last row kind.Again → ⊥ =
    (λ o. cc ((again_is width names first last row _ _ c.continues_table-continues.ensures
    c.if-is_again.ensures).1 o)) in
    first_of width names first last row kind.TooMany
    ((many_is width names first last row _ _ _ (count_of_names c.args.tables.now)
    c.continues_table-continues.ensures c.if-is_one_more.ensures).0 refl)
    c.in_ok-numbers.ensures.0 (λ _. no_again) (λ lt. absurd (omega arith))
    (λ lt. absurd (omega arith)) (λ lt. absurd (omega arith))

pub returns-then-is_off_age : goal.returns-then-is_off_age
returns-then-is_off_age c =
    let width = c.args.width in
    let names = names_of (seen_tables c.args.tables.now) in
    let first = c.args.is_first_row in
    let last = fields_of c.args.last.now in
    let row = fields_of c.args.row.now in
    let no_again : StepHolds width names first last row kind.Again → ⊥ =
    (λ o. cc ((again_is width names first last row _ _ c.continues_table-continues.ensures
    c.if-is_again.ensures).1 o)) in
    let no_many : StepHolds width names first last row kind.TooMany → ⊥ =
    (λ o. cc ((many_is width names first last row _ _ _ (count_of_names c.args.tables.now)
    c.continues_table-continues.ensures c.if-is_one_more.ensures).1 o)) in
    first_of width names first last row kind.Age
    ((off_age_is width first last row c.in_ok-numbers.numbers.numbers c.args.before.now.numbers
    _ c.requires.low c.continues_table-continues.ensures c.in_ok-numbers.ensures.1.numbers
    (λ e. (c.requires.known e).numbers)).0 (c.if-is_off_age.ensures.0 refl))
    c.in_ok-numbers.ensures.0 (λ _. no_again) (λ _. no_many)
    (λ lt. absurd (omega arith)) (λ lt. absurd (omega arith))

pub returns-then-is_off : goal.returns-then-is_off
returns-then-is_off c =
    let width = c.args.width in
    let names = names_of (seen_tables c.args.tables.now) in
    let first = c.args.is_first_row in
    let last = fields_of c.args.last.now in
    let row = fields_of c.args.row.now in
    let no_again : StepHolds width names first last row kind.Again → ⊥ =
    (λ o. cc ((again_is width names first last row _ _ c.continues_table-continues.ensures
    c.if-is_again.ensures).1 o)) in
    let no_many : StepHolds width names first last row kind.TooMany → ⊥ =
    (λ o. cc ((many_is width names first last row _ _ _ (count_of_names c.args.tables.now)
    c.continues_table-continues.ensures c.if-is_one_more.ensures).1 o)) in
    let no_age : StepHolds width names first last row kind.Age → ⊥ =
    (λ o. cc (c.if-is_off_age.ensures.1
    ((off_age_is width first last row c.in_ok-numbers.numbers.numbers
    c.args.before.now.numbers _ c.requires.low c.continues_table-continues.ensures
    c.in_ok-numbers.ensures.1.numbers (λ e. (c.requires.known e).numbers)).1 o))) in
    first_of width names first last row kind.Decrements
    ((off_survivors_is width first last row c.in_ok-numbers.numbers.numbers
    c.args.before.now.numbers _ _ _ c.requires.low c.continues_table-continues.ensures
    c.in_ok-numbers.ensures.1.numbers c.in_ok-numbers.ensures.1.leaving
    (λ e. let k = c.requires.known e in (k.numbers, k.leaving))).0
    (c.if-is_off.ensures.0 refl)) c.in_ok-numbers.ensures.0 (λ _. no_again)
    (λ _. no_many) (λ _. no_age) (λ lt. absurd (omega arith))

pub returns : goal.returns
returns c =
    let width = c.args.width in
    let names = names_of (seen_tables c.args.tables.now) in
    let first = c.args.is_first_row in
    let last = fields_of c.args.last.now in
    let row = fields_of c.args.row.now in
    let no_again : StepHolds width names first last row kind.Again → ⊥ =
    (λ o. cc ((again_is width names first last row _ _ c.continues_table-continues.ensures
    c.if-is_again.ensures).1 o)) in
    let no_many : StepHolds width names first last row kind.TooMany → ⊥ =
    (λ o. cc ((many_is width names first last row _ _ _ (count_of_names c.args.tables.now)
    c.continues_table-continues.ensures c.if-is_one_more.ensures).1 o)) in
    let no_age : StepHolds width names first last row kind.Age → ⊥ =
    (λ o. cc (c.if-is_off_age.ensures.1
    ((off_age_is width first last row c.in_ok-numbers.numbers.numbers
    c.args.before.now.numbers _ c.requires.low c.continues_table-continues.ensures
    c.in_ok-numbers.ensures.1.numbers (λ e. (c.requires.known e).numbers)).1 o))) in (
      none_holds width names first last row c.in_ok-numbers.ensures.0 no_again no_many no_age
          (λ o. cc (c.if-is_off.ensures.1 ((off_survivors_is width first last row
          c.in_ok-numbers.numbers.numbers c.args.before.now.numbers _ _ _ c.requires.low
          c.continues_table-continues.ensures c.in_ok-numbers.ensures.1.numbers
          c.in_ok-numbers.ensures.1.leaving
          (λ e. let k = c.requires.known e in (k.numbers, k.leaving))).1 o))),
      c.in_ok-numbers.ensures.1,
    )
