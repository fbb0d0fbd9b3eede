-- The parts of a valid contract are what the values ask for, and its basis is that of the values.
use Rattle.std.proofs.Common.{List, map, ap, lit<, sym, subst, ◌∙◌}
use Rattle.std.specs.Prelude.{All}
use Rattle.std.proofs.lemmas.Result.{IfOk-weaker}
use Rattle.halo_status.specs.Pay.{pay_of}
use Rattle.halo_status.specs.declared.pay.Pay.{Pay}
use Rattle.halo_contract.specs.PlainContract.{PlainContract, contract_of}
use Rattle.halo_contract.specs.declared.contract.ReserveLine.{ReserveLine}
use Rattle.halo_model.specs.Basis.{Basis}
use Rattle.halo_model.specs.ContractBasis.{contract_basis, premium_status}
use Rattle.halo_lines.specs.Report.{report_of}
use Rattle.halo_value.specs.ContractValues.{EnclosesReport}
use Rattle.halo_value.specs.Reading.{CanBeRead}
use Rattle.halo_value.specs.Setting.{CanBeValued, declared}
use Rattle.halo_value.proofs.OfContract.{basis-is, pays-valued, premium-asked, reserves-read, values-are}
use Rattle.halo_value.proofs.contract.report.Goals as goal

pub group_of-group-requires : goal.group_of-group-requires
group_of-group-requires g c =
    let lives = c.deref-2.ensures.value ∙ c.in_ok-lives.ensures ∙ ap declared c.deref.ensures.value in
    (lit< tt, (c.requires.valid, (c.requires.lives, lives)))

pub values_of_pays-requires : goal.values_of_pays-requires
values_of_pays-requires g c =
    let contract : PlainContract = contract_of c.args.contract.now in
    let pays = subst (λ (ps : List Pay). All (CanBeValued g.row.N) (map pay_of ps)) (sym c.as_slice-pays.ensures.value)
    (pays-valued c.args.tables.now contract c.requires.valid g.row.N c.requires.lives) in
    let reserves = subst (All (CanBeRead g.row.N c.group_of-group.result)) (sym c.as_slice-reserves.ensures.value)
    (reserves-read c.args.tables.now contract c.requires.valid g.row.N c.requires.lives c.group_of-group.result
    c.group_of-group.ensures c.start-start.ensures.group.sound) in
    (lit< tt, (lit< tt, (c.requires.sets, (pays, reserves))))

pub values_of_premium-requires : goal.values_of_premium-requires
values_of_premium-requires g c =
    let contract : PlainContract = contract_of c.args.contract.now in
    let asked = premium-asked c.args.tables.now contract c.requires.valid g.row.N c.requires.lives in
    let reserves = subst (All (CanBeRead g.row.N c.group_of-group.result)) (sym c.as_slice-reserves.ensures.value)
    (reserves-read c.args.tables.now contract c.requires.valid g.row.N c.requires.lives c.group_of-group.result
    c.group_of-group.ensures c.start-start.ensures.group.sound) in
    (lit< tt, (lit< tt, (c.requires.sets, (asked, reserves))))

pub report_lines-requires : goal.report_lines-requires
report_lines-requires g c =
    let contract : PlainContract = contract_of c.args.contract.now in
    let basis = basis-is c.args.tables.now contract c.requires.valid g.row.N c.requires.lives c.group_of-group.result
    c.group_of-group.ensures in (
      contract_basis c.args.tables.now contract,
      (
        contract.premium,
        values-are c.args.tables.now contract c.requires.valid g.row.N c.requires.lives _ basis
            (map pay_of c.as_slice-pays.result.now) (ap (map pay_of) c.as_slice-pays.ensures.value)
            c.as_slice-reserves.result.now c.in_ok-values.values.items c.deref-3.result.now c.in_ok-due.due
            c.deref-3.ensures.value c.in_ok-values.ensures c.in_ok-due.ensures,
      ),
    )

pub returns-clause-encloses : goal.returns-clause-encloses
returns-clause-encloses g c =
    let contract : PlainContract = contract_of c.args.contract.now in
    let b : Basis = contract_basis c.args.tables.now contract in
    let status = premium_status contract in
    let basis = basis-is c.args.tables.now contract c.requires.valid g.row.N c.requires.lives c.group_of-group.result
    c.group_of-group.ensures in
    let values = values-are c.args.tables.now contract c.requires.valid g.row.N c.requires.lives _ basis
    (map pay_of c.as_slice-pays.result.now) (ap (map pay_of) c.as_slice-pays.ensures.value)
    c.as_slice-reserves.result.now c.in_ok-values.values.items c.deref-3.result.now c.in_ok-due.due
    c.deref-3.ensures.value c.in_ok-values.ensures c.in_ok-due.ensures in
    IfOk-weaker c.report_lines.result _ _
    (λ report tells.
    let told : EnclosesReport b contract.pays status contract.reserves (report_of report) =
    subst (λ (pays : List Pay). EnclosesReport b (map pay_of pays) status contract.reserves (report_of report))
    c.as_slice-pays.ensures.value
    (subst (λ (asked : List ReserveLine).
    EnclosesReport b (map pay_of c.as_slice-pays.result.now) status asked (report_of report))
    c.as_slice-reserves.ensures.value (tells b contract.premium values)) in
    record { pays = told.pays; total = told.total; premium = told.premium; reserves = told.reserves })
    c.report_lines.ensures.encloses
