-- What words and files call for: where they are told as far as they are needed, it is one status,
-- and one answer.
use Rattle.std.specs.Prelude.{◌≡◌, ◌≢◌, ℕ, List, IfSome, Ok}
use Rattle.halo_interest.specs.declared.rate.Rate.{Rate}
use Rattle.halo_table.specs.DecrementTable.{TableFile}
use Rattle.halo_contract.specs.PlainContract.{PlainContract}
use Rattle.halo_parse.specs.WordReading.{ReadsFraction}
use Rattle.halo_top.specs.Arguments.{HasName, TellsColumns}
use Rattle.halo_top.specs.Command.{Asks, Request, of_columns, of_contract, of_sample}
use Rattle.halo_text.specs.Number.{number}
use Rattle.halo_top.specs.Input.{HasTables}
use Rattle.halo_top.specs.Sample.{SampleHolds, TellsSample}
use Rattle.halo_top.specs.Verdict.{AreWritten, CallsFor, IsTextOf, ReadsAll, Shelved}
use Rattle.halo_top.specs.declared.command.Task.{Task}
use Rattle.halo_top.specs.declared.status.TheConstants.{FINE}

-- two texts are what one task writes of the one contract in the files: for `check` they are equal,
-- for `value` both are reports that enclose what the contract is worth, for `compile` both are
-- texts of the forms of its pays, and for `explain` both tell the parts of each pay
pub record AreOfOneContract
    (t : Task) (shelf : Shelved) (tables_name contract_name text other : List ℕ) : Type 0 where
  pub tables : TableFile
  pub contract : PlainContract
  pub written : AreWritten shelf tables_name contract_name tables contract
  pub text_is : IsTextOf t tables contract text
  pub other_is : IsTextOf t tables contract other

-- two texts tell columns of the one table of this name in the file, at one interest
pub record AreOfOneTable (shelf : Shelved) (tables_name name fraction text other : List ℕ)
    : Type 0 where
  pub tables : TableFile
  pub table : ℕ
  pub interest : List Rate
  pub tables_in : IfSome (shelf.file tables_name) (λ all. HasTables all tables)
  pub named : HasName tables table name
  pub reads : ReadsFraction fraction (Ok interest)
  pub text_is : TellsColumns tables table interest text
  pub other_is : TellsColumns tables table interest other

-- two texts are summaries of the sample of one number
pub record AreOfOneSample (word text other : List ℕ) : Type 0 where
  pub text_is : TellsSample (number word) text
  pub other_is : TellsSample (number word) other

-- two texts are one answer to what is asked for
abbrev pub AreAlike : Request → Shelved → List ℕ → List ℕ → Type 0
AreAlike (of_contract t tables contract) shelf text other =
    AreOfOneContract t shelf tables contract text other
AreAlike (of_columns tables name fraction) shelf text other =
    AreOfOneTable shelf tables name fraction text other
AreAlike (of_sample word) shelf text other = AreOfOneSample word text other

-- two texts are one answer to what the words ask for
pub record AreOneAnswer (words : List (List ℕ)) (shelf : Shelved) (text other : List ℕ)
    : Type 0 where
  pub request : Request
  pub asked : Asks words request
  pub alike : AreAlike request shelf text other

-- two statuses with their texts are one: a refusal has one line
pub record AreOneCall
    (words : List (List ℕ)) (shelf : Shelved)
    (status : ℕ) (text : List ℕ) (other_status : ℕ) (other : List ℕ) : Type 0 where
  pub one_status : status ≡ other_status
  pub one_line : status ≢ FINE → text ≡ other
  pub one_answer : status ≡ FINE → AreOneAnswer words shelf text other

-- words and files call for at most one status ..
abbrev pub AnswerIsOne : Type 0
AnswerIsOne = (words : List (List ℕ)) (shelf : Shelved) → ReadsAll words shelf
    → (status : ℕ) (text : List ℕ) (other_status : ℕ) (other : List ℕ)
    → CallsFor words shelf status text → CallsFor words shelf other_status other
    → AreOneCall words shelf status text other_status other

-- .. and for at least one
abbrev pub AnswerExists : Type 0
AnswerExists = (words : List (List ℕ)) (shelf : Shelved) → ReadsAll words shelf
    → (status : ℕ) × (text : List ℕ) × CallsFor words shelf status text

-- neither file of a sample has a fault, whatever the number
abbrev pub SamplesHaveNoFault : Type 0
SamplesHaveNoFault = (n : ℕ) → (tables : TableFile) × (contract : PlainContract)
    × SampleHolds n tables contract
