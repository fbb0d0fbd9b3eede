-- The command `sample`: its number, and the summary of the files that the number makes.
use Rattle.std.specs.Prelude.{◌≡◌, ℕ, ◌<◌, List, length, Result, Ok, Err}
use Rattle.std.specs.Global.{Vec}
use Rattle.halo_text.specs.Number.{IsNumber, number}
use Rattle.halo_table.specs.DecrementTable.{TableFile}
use Rattle.halo_contract.specs.PlainContract.{PlainContract}
use Rattle.halo_lines.specs.Report.{EnclosesContract, PlainReport}
use Rattle.halo_report.specs.SampleText.{sample_text}
use Rattle.halo_sample.specs.Sample.{sample_contract, sample_tables}
use Rattle.halo_top.specs.Input.{HasContract, HasTables}
use Rattle.halo_top.specs.declared.refusal.ArgumentKind.{ArgumentKind}
use Rattle.halo_top.specs.declared.refusal.ArgumentKind.TheVariants as argument
use Rattle.halo_top.specs.declared.refusal.Refusal.TheVariants as refusal
use Rattle.halo_top.specs.declared.refusal.Stop.{Stop}
use Rattle.halo_top.specs.declared.refusal.Stop.TheVariants as stop
use Rattle.halo_top.specs.declared.sample.TheConstants.{GREATEST_SAMPLE}

-- this is wrong with the word: it is no number, or the number is above the greatest
abbrev pub IsSampleFault : List ℕ → ArgumentKind → Type 0
IsSampleFault word argument.Syntax = IsNumber word → ⊥
IsSampleFault word argument.Magnitude = IsNumber word × (GREATEST_SAMPLE < number word)
IsSampleFault word _ = ⊥

-- nothing is wrong with the word
abbrev pub HasNoSampleFault : List ℕ → Type 0
HasNoSampleFault word = (fault : ArgumentKind) → IsSampleFault word fault → ⊥

-- the number that the word writes, or what is wrong with it
abbrev pub ReadsSampleNumber : List ℕ → Result ℕ ArgumentKind → Type 0
ReadsSampleNumber word (Ok n) = (n ≡ number word) × HasNoSampleFault word
ReadsSampleNumber word (Err fault) = IsSampleFault word fault

-- the two files of a number hold these tables and write this contract
pub record SampleHolds (n : ℕ) (tables : TableFile) (contract : PlainContract) : Type 0 where
  pub tables_in : HasTables (sample_tables n) tables
  pub contract_in : HasContract tables (sample_contract n) contract

-- the text is the summary of the sample of a number, with a report that encloses what the contract
-- of its files is worth
pub record TellsSample (n : ℕ) (text : List ℕ) : Type 0 where
  pub tables : TableFile
  pub contract : PlainContract
  pub report : PlainReport
  pub holds : SampleHolds n tables contract
  pub encloses : EnclosesContract tables contract report
  pub text_is : text
      ≡ sample_text n (length (sample_tables n)) (length (sample_contract n)) report

-- nothing is wrong with the word, and this is the summary of its number's sample
pub record IsSampleAnswer (word text : List ℕ) : Type 0 where
  pub fine : HasNoSampleFault word
  pub told : TellsSample (number word) text

-- what `sample` writes, or what is wrong with its word; want of memory is free where nothing is
abbrev pub AnswersSample : List ℕ → Result (Vec ℕ) Stop → Type 0
AnswersSample word (Ok text) = IsSampleAnswer word text.items
AnswersSample word (Err (stop.Refused (refusal.Argument fault))) = IsSampleFault word fault
AnswersSample word (Err stop.Memory) = HasNoSampleFault word
AnswersSample word (Err _) = ⊥
