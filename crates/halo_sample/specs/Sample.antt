-- The sample of a number: the bytes of its two files.
use Rattle.std.specs.Prelude.{ℕ, ◌*◌, List}
use Rattle.halo_sample.specs.declared.tables.TheConstants.{LAST_AGE, TABLES}
use Rattle.halo_sample.specs.Generator.{state_behind_pairs}
use Rattle.halo_sample.specs.Tables.{tables_text}
use Rattle.halo_sample.specs.Contract.{contract_text}

-- the tables file: the first state is the number
abbrev pub sample_tables : ℕ → List ℕ
sample_tables number = tables_text number

-- the contract file: its draws come behind those of the tables, two for each age before the last
abbrev pub sample_contract : ℕ → List ℕ
sample_contract number = contract_text (state_behind_pairs (TABLES * LAST_AGE) number)
