-- The declared lives of a valid contract have rows in its tables, and there are 1 to 12 of them.
use Rattle.std.proofs.Common.{◌≡◌, ◌+◌, ◌∙◌, ◌<◌, ℕ, List, ap, arith, length, lit<, lit≤, subst, sym}
use Rattle.std.proofs.lemmas.List.{length-map}
use Rattle.halo_table.specs.DecrementTable.{HasRow}
use Rattle.halo_table.specs.declared.lives.Life.{Life}
use Rattle.halo_contract.specs.PlainContract.{PlainContract, contract_of}
use Rattle.halo_contract.specs.declared.contract.LifeLine.{LifeLine}
use Rattle.halo_model.specs.Horizon.{life_at}
use Rattle.halo_value.proofs.OfContract.{rows-at}
use Rattle.halo_value.proofs.contract.group_of.Goals as goal

pub new-group-requires : goal.new-group-requires
new-group-requires g c =
    let tables = c.args.tables.now in
    let contract : PlainContract = contract_of c.args.contract.now in
    let count : length c.args.lives.now ≡ g.row.N =
    ap length c.requires.lives ∙ length-map contract.lives (λ (line : LifeLine). line.life) ∙ c.requires.count in
    let rows : (i : ℕ) → i < g.row.N
    → HasRow tables (life_at c.args.lives.now i).table (life_at c.args.lives.now i).age
    = λ i below. subst (λ (ls : List Life). HasRow tables (life_at ls i).table (life_at ls i).age)
    (sym c.requires.lives) (rows-at tables contract c.requires.valid g.row.N c.requires.count i below) in (
      lit< tt,
      (
        omega (arith, c.requires.valid.some_lives, c.requires.count),
        (
          omega (arith, c.requires.valid.few_lives, c.requires.count),
          (
            count,
            (
              lit≤ tt,
              (
                rows,
                λ i below alive.
                    let now : (life_at c.args.lives.now i).age + 0 ≡ (life_at c.args.lives.now i).age = omega arith in
                    rw now (rows i below),
              ),
            ),
          ),
        ),
      ),
    )
