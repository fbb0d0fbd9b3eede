use Rattle.std.proofs.Common.{◌+◌, arith}
use Rattle.halo_columns.specs.Entries.{columns_of}
use Rattle.halo_columns.proofs.Discounted.{discounted-entry}
use Rattle.halo_columns.proofs.entry.entry.Goals as goal

pub returns-in-Survivors-clause-entry : goal.returns-in-Survivors-clause-entry
returns-in-Survivors-clause-entry c = rw c.in-Survivors.is (λ p q powers.
    let power = c.at.ensures.power q (λ k. p k + q k) 0 powers
    (omega (arith, c.requires.row.to_last, c.last_age.ensures.age, c.last_age.ensures.low)) in
    rw c.survivors.ensures.count at
    (discounted-entry (columns_of p q c.args.tables.now c.args.table) c.args.age c.survivors.result c.at.result
    c.times.result (omega (arith, c.requires.row.to_last)) power
    c.times.ensures.encloses c.times.ensures.narrow c.times.ensures.within))

pub returns-in-Leavers-clause-entry : goal.returns-in-Leavers-clause-entry
returns-in-Leavers-clause-entry c = rw c.in-Leavers.is (λ p q powers.
    let power = c.at-in-Leavers.ensures.power q (λ k. p k + q k) 0 powers
    (omega (arith, c.requires.row.to_last, c.last_age.ensures.age, c.last_age.ensures.low)) in
    rw c.leavers.ensures.count at
    (discounted-entry (columns_of p q c.args.tables.now c.args.table) (c.args.age + 1) c.leavers.result
    c.at-in-Leavers.result c.times-in-Leavers.result (omega (arith, c.requires.row.to_last)) power
    c.times-in-Leavers.ensures.encloses c.times-in-Leavers.ensures.narrow c.times-in-Leavers.ensures.within))

pub returns-in-LeaversBy-clause-entry : goal.returns-in-LeaversBy-clause-entry
returns-in-LeaversBy-clause-entry c = rw c.in-LeaversBy.is (λ p q powers.
    let power = c.at-in-LeaversBy.ensures.power q (λ k. p k + q k) 0 powers
    (omega (arith, c.requires.row.to_last, c.last_age.ensures.age, c.last_age.ensures.low)) in
    rw c.leavers-in-LeaversBy.ensures.count at
    (discounted-entry (columns_of p q c.args.tables.now c.args.table) (c.args.age + 1) c.leavers-in-LeaversBy.result
    c.at-in-LeaversBy.result c.times-in-LeaversBy.result (omega (arith, c.requires.row.to_last)) power
    c.times-in-LeaversBy.ensures.encloses c.times-in-LeaversBy.ensures.narrow c.times-in-LeaversBy.ensures.within))
