-- A contract that was read can be written, and so can each of its pays.
use Rattle.std.proofs.Common.{length, map}
use Rattle.std.specs.Prelude.{All}
use Rattle.halo_status.specs.Pay.{pay_of}
use Rattle.halo_contract.specs.PlainContract.{contract_of}
use Rattle.halo_contract.specs.ValidContract.{IsValidAmong}
use Rattle.halo_check.proofs.Each.{each_at}
use Rattle.halo_spell.proofs.Spellable.{contracts_are_spellable}
use Rattle.halo_spell.proofs.tests.spelled.Goals as goal

pub spell_contract-requires : goal.spell_contract-requires
spell_contract-requires g c = contracts_are_spellable _ _ _ c.in_ok-contract.ensures

pub spell_pay-requires : goal.spell_pay-requires
spell_pay-requires g c =
    let contract = c.in_ok-contract.contract in
    let spellable = contracts_are_spellable _ _ (contract_of contract) c.in_ok-contract.ensures in
    let valid = IsValidAmong (length contract.lives.items) (length c.in_ok-tables.tables.causes) in
    let pays = c.deref-pay-items.result.now in
    let all : All valid (map pay_of pays) = rw c.deref-pay-items.ensures.value spellable.pays in
    rw (c.deref.ensures.value, c.pay-item.is)
    (each_at valid pay_of pays all c.loop-pay.pay-index c.pay-item.result c.loop-pay-test.true)
