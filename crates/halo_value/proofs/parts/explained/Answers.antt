-- The pays and the lives of a valid contract are what its parts ask for, and its basis is that of the parts.
use Rattle.std.proofs.Common.{List, map, ap, lit<, sym, subst, ◌∙◌}
use Rattle.std.specs.Prelude.{All}
use Rattle.std.specs.List.{AllZip}
use Rattle.std.proofs.lemmas.Result.{IfOk-weaker}
use Rattle.halo_status.specs.Pay.{pay_of}
use Rattle.halo_status.specs.declared.pay.Pay.{Pay}
use Rattle.halo_contract.specs.PlainContract.{PlainContract, contract_of}
use Rattle.halo_life.specs.PlainGroup.{PlainGroup}
use Rattle.halo_model.specs.Basis.{Basis}
use Rattle.halo_model.specs.ContractBasis.{contract_basis}
use Rattle.halo_lines.specs.Parts.{ExplainsPay, parts_of}
use Rattle.halo_value.specs.Setting.{CanBeValued, declared}
use Rattle.halo_value.proofs.OfContract.{basis-is, pays-valued}
use Rattle.halo_value.proofs.parts.explained.Goals as goal

pub group_of-group-requires : goal.group_of-group-requires
group_of-group-requires g c =
    let lives = c.deref-2.ensures.value ∙ c.in_ok-lives.ensures ∙ ap declared c.deref.ensures.value in
    (lit< tt, (c.requires.valid, (c.requires.lives, lives)))

pub parts_of_pays-requires : goal.parts_of_pays-requires
parts_of_pays-requires g c =
    let pays = subst (λ (ps : List Pay). All (CanBeValued g.row.N) (map pay_of ps)) (sym c.as_slice.ensures.value)
    (pays-valued c.args.tables.now (contract_of c.args.contract.now) c.requires.valid g.row.N c.requires.lives) in
    let start = ap (λ (group : PlainGroup). group.start) c.group_of-group.ensures in
    let alive = ap (λ (group : PlainGroup). group.alive) c.group_of-group.ensures in
    (lit< tt, (c.requires.sets, (pays, record { start = start; alive = alive })))

pub returns-clause-explains : goal.returns-clause-explains
returns-clause-explains g c =
    let contract : PlainContract = contract_of c.args.contract.now in
    let tables = c.args.tables.now in
    let basis = basis-is tables contract c.requires.valid g.row.N c.requires.lives c.group_of-group.result
    c.group_of-group.ensures in
    IfOk-weaker c.parts_of_pays.result _ _
    (λ told tells.
    let explain : Basis → List Pay → Type 0
    = λ b pays. AllZip (ExplainsPay b) (map pay_of pays) (parts_of told.items) in
    subst (explain (contract_basis tables contract)) c.as_slice.ensures.value
    (subst (λ (b : Basis). explain b c.as_slice.result.now) basis tells))
    c.parts_of_pays.ensures.explains
