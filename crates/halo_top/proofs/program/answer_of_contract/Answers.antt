use Rattle.halo_parse.proofs.ValidContracts.{contracts_are_valid}
use Rattle.halo_top.proofs.program.answer_of_contract.Goals as goal

pub text_of-requires : goal.text_of-requires
text_of-requires g c =
    contracts_are_valid c.in_ok-tables.tables c.in_ok-contract.ensures.contract.0 _
    c.in_ok-contract.ensures.contract.1.writes
