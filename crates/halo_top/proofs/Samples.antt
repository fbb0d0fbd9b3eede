-- The sample of each number: its files have no fault, and what can be wrong with its word.
use Rattle.std.proofs.Common.{◌≡◌, ℕ, ◌≤◌, List, arith, refl, sym}
use Rattle.halo_text.specs.Number.{IsNumber, number}
use Rattle.halo_sampled.specs.DrawnTables.{drawn_tables}
use Rattle.halo_sampled.proofs.ContractOfSample.{contract-has-no-fault}
use Rattle.halo_sampled.proofs.FineRecords.{tables-have-no-fault}
use Rattle.halo_sampled.proofs.ShortFiles.{files-are-short}
use Rattle.halo_top.specs.Laws.{SamplesHaveNoFault}
use Rattle.halo_table.specs.DecrementTable.{TableFile}
use Rattle.halo_contract.specs.PlainContract.{PlainContract}
use Rattle.halo_parse.specs.Faults.{WritesContract}
use Rattle.halo_sample.specs.Sample.{sample_contract}
use Rattle.halo_top.specs.Sample.{HasNoSampleFault, SampleHolds}
use Rattle.halo_top.specs.declared.refusal.ArgumentKind.TheVariants as argument
use Rattle.halo_top.specs.declared.sample.TheConstants.{GREATEST_SAMPLE}

-- nothing is wrong with a number that is not above the greatest
pub no-sample-fault : (word : List ℕ) → IsNumber word → number word ≤ GREATEST_SAMPLE → HasNoSampleFault word
no-sample-fault word is within argument.Syntax other = other is
no-sample-fault word is within argument.Magnitude above = omega (arith, within, above.1)
no-sample-fault word is within argument.Zero h = h
no-sample-fault word is within argument.NoTable h = h

-- the files of a number hold the tables that are drawn, and what its contract file writes with them
pub sample-holds : (n : ℕ) (tables : TableFile) (contract : PlainContract) (bytes : List ℕ) → tables ≡ drawn_tables n
    → bytes ≡ sample_contract n → WritesContract tables bytes contract → SampleHolds n tables contract
sample-holds n tables contract bytes drawn file writes =
    let short = files-are-short n in
    let fine = tables-have-no-fault n in
    rw drawn (record {
      tables_in = record {
        in_order = record { short = short.0; fine = fine.0 };
        tables_are = sym fine.1;
      };
      contract_in = record { short = short.1; writes = rw (drawn, file) at writes };
    })

pub samples-have-no-fault : SamplesHaveNoFault
samples-have-no-fault n =
    let contract = contract-has-no-fault n in
    (drawn_tables n, contract.0, sample-holds n (drawn_tables n) contract.0 (sample_contract n) refl refl contract.1)
