-- The basis of a contract: its yearly interest, its lives in their tables, and its rule for ties.
use Rattle.std.specs.Prelude.{List, Option, map}
use Rattle.std.specs.Option.{option_map}
use Rattle.halo_interest.specs.declared.rate.Rate.{Rate}
use Rattle.halo_interest.specs.Rates.{rate_of}
use Rattle.halo_status.specs.Tree.{Tree}
use Rattle.halo_table.specs.DecrementTable.{TableFile}
use Rattle.halo_table.specs.declared.lives.Life.{Life}
use Rattle.halo_contract.specs.PlainContract.{PlainContract}
use Rattle.halo_contract.specs.declared.ties.Ties.{Ties}
use Rattle.halo_model.specs.Basis.{Basis}
use Rattle.halo_model.specs.FromTables.{lives_of}

-- interest by years, lives in their tables, and a rule for ties; payments are looked at up to time
-- 200
abbrev pub basis_of : TableFile → List Rate → List Life → Ties → Basis
basis_of file rates lives ties = record {
  p = λ k. (rate_of rates k).p;
  q = λ k. (rate_of rates k).q;
  last_time = 200;
  lives = lives_of file lives;
  ties = ties;
}

-- the basis of a contract with the tables of a file
abbrev pub contract_basis : TableFile → PlainContract → Basis
contract_basis file contract =
    basis_of file contract.interest (map (λ declared. declared.life) contract.lives) contract.ties

-- the status while which the premiums of a contract are paid, if a premium is asked for
abbrev pub premium_status : PlainContract → Option Tree
premium_status contract = option_map (λ pay. pay.body) contract.premium
