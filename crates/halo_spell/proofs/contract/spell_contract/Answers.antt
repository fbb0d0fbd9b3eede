-- The lines of each form make all lines.
use Rattle.std.proofs.Common.{map}
use Rattle.std.specs.Option.{option_map, option_to_list}
use Rattle.halo_contract.specs.PlainContract.{life_names}
use Rattle.halo_status.specs.Pay.{pay_of}
use Rattle.halo_spell.specs.ContractText.{contract_text, interest_lines, life_line, pay_line, premium_line, reserve_line, ties_lines}
use Rattle.halo_spell.proofs.LinesLeft.{six_written}
use Rattle.halo_spell.proofs.contract.spell_contract.Goals as goal

pub returns : goal.returns
unfolding contract_text
returns c =
    let tables = c.args.tables.now in
    let contract = c.args.contract.now in
    let lives = rw c.deref.ensures.value at c.in_ok-write_lives.ensures in
    let pays = rw (c.deref-2.ensures.value, c.deref-3.ensures.value) at c.in_ok-write_pays.ensures in
    let premium = rw c.deref-4.ensures.value at c.in_ok-write_premium.ensures in
    let reserves = rw (c.deref-5.ensures.value, c.deref-6.ensures.value) at c.in_ok-write_reserves.ensures in
    let names = life_names contract.lives.items in
    six_written _ _ _ _ _ _ _ (interest_lines contract.interest) (map (life_line tables) contract.lives.items)
    (ties_lines contract.ties) (map (pay_line names tables.causes) (map pay_of contract.pays.items))
    (map (premium_line names) (option_to_list (option_map pay_of contract.premium)))
    (map (reserve_line names) contract.reserves.items) c.new-text.ensures.items c.in_ok-write_interest.ensures lives
    c.in_ok-write_ties.ensures pays premium reserves
