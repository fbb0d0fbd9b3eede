use Rattle.std.proofs.Common.{arith}
use Rattle.halo_columns.specs.declared.entry.TheConstants.{GREATEST_DISCOUNTED}
use Rattle.halo_columns.specs.Entries.{columns_of}
use Rattle.halo_columns.proofs.OneByOne.{all-there, none-begun, none-yet, one-begun, one-more}
use Rattle.halo_columns.proofs.column.column.Goals as goal

pub loop-younger-init : goal.loop-younger-init
loop-younger-init c =
    rw c.new-column.ensures.items (record {
      begun = none-begun GREATEST_DISCOUNTED;
      entries = λ p q powers. none-yet _ _ _ _;
    })

pub loop-younger-preserved : goal.loop-younger-preserved
loop-younger-preserved c = rw c.in_ok-push.ensures.items (record {
  begun = one-begun GREATEST_DISCOUNTED c.loop-younger.younger c.loop-younger.column.items c.entry.result
      c.loop-younger.invariant.begun c.entry.ensures.within;
  entries = λ p q powers.
      one-more (columns_of p q c.args.tables.now c.args.table) _ _ GREATEST_DISCOUNTED c.loop-younger.younger
      c.loop-younger.column.items c.entry.result (c.loop-younger.invariant.entries p q powers)
      (rw c.last_age-last.ensures.age at (c.entry.ensures.entry p q powers));
})

pub returns-clause-few : goal.returns-clause-few
returns-clause-few c =
    omega (arith, c.loop-younger.invariant.begun.count, c.loop-younger.auto.younger-end, c.last_age-last.ensures.low)

pub returns-clause-sized : goal.returns-clause-sized
returns-clause-sized c = c.loop-younger.invariant.begun.sized

pub returns-clause-entries : goal.returns-clause-entries
returns-clause-entries c p q powers =
    let last = c.last_age-last.ensures in
    let count = c.loop-younger.auto.younger-end in
    all-there (columns_of p q c.args.tables.now c.args.table) _ _ GREATEST_DISCOUNTED c.loop-younger.younger
    c.loop-younger.column.items
    (omega (arith, last.age, c.first_age-first.ensures.age, last.order, c.loop-younger-test.false, count))
    (c.loop-younger.invariant.entries p q powers)
