-- The contract file of a sample has no fault with the tables that are drawn.
use Rattle.std.proofs.Common.{ℕ, ◌+◌, ◌*◌, List, [], ◌∷◌, ◌++◌, arith}
use Rattle.std.specs.Prelude.{codes}
use Rattle.std.specs.Fmt.{decimal}
use Rattle.halo_interest.specs.declared.rate.Rate.{Rate}
use Rattle.halo_text.specs.Number.{number}
use Rattle.halo_check.specs.Draft.{empty_draft, with_line}
use Rattle.halo_sample.specs.declared.contract.TheConstants.{LIVES, PAYS, RATES}
use Rattle.halo_sample.specs.declared.tables.TheConstants.{LAST_AGE, TABLES}
use Rattle.halo_sample.specs.Generator.{drawn, next_state, state_behind_pairs}
use Rattle.halo_sample.specs.Sample.{sample_contract}
use Rattle.halo_sampled.specs.DrawnLines.{contract_drawn, drawn_lines, interest_drawn, last_drawn, life_drawn, lines_drawn, pay_drawn}
use Rattle.halo_sampled.specs.DrawnTables.{drawn_tables}
use Rattle.halo_sampled.specs.Laws.{ContractHasNoFault}
use Rattle.halo_sampled.proofs.LastLines.{ends-last}
use Rattle.halo_sampled.proofs.LifeLines.{ends-lives, good-interest, no-lives}
use Rattle.halo_sampled.proofs.PayLines.{ends-pays, no-pays}
use Rattle.halo_sampled.proofs.SampleDrafts.{Ends, ends-line, writes-contract}
use Rattle.halo_sampled.proofs.SampleLines.{contract-is-lines}

-- the lines from any state have no fault
ends-contract : (sample s : ℕ) → Ends (drawn_tables sample) empty_draft (contract_drawn s)
unfolding with_line
ends-contract sample s =
    let behind = state_behind_pairs LIVES (next_state s) in
    let pays = lines_drawn (λ _. pay_drawn) PAYS 1 behind ++ last_drawn in
    let lives = lines_drawn life_drawn LIVES 1 (next_state s) ++ pays in
    let rates : List Rate =
    record { year = 0; p = number (decimal (1 + drawn RATES s)); q = number (codes "100") } ∷ [] in
    ends-line (drawn_tables sample) empty_draft (interest_drawn s) lives (good-interest s (drawn_tables sample))
    (ends-lives sample rates pays LIVES 0 (next_state s) [] (omega arith) no-lives
    (λ all alive. ends-pays sample rates all alive last_drawn (λ ps are. ends-last sample rates all alive ps are)
    PAYS 0 behind [] (omega arith) no-pays))

-- so the contract file of a number has none
pub contract-has-no-fault : ContractHasNoFault
contract-has-no-fault number =
    writes-contract (drawn_tables number) (sample_contract number) (drawn_lines number) (contract-is-lines number)
    (ends-contract number (state_behind_pairs (TABLES * LAST_AGE) number))
