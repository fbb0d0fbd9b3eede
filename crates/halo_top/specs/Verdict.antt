-- What a run has to answer: a status and a text, from the words, the files that the shelf tells,
-- and the files of which the count of faults rose.
use Rattle.std.specs.Prelude.{◌≡◌, ℕ, ◌<◌, ◌^◌, ◌⊎◌, List, length, Option, IfSome, Some, ⊤}
use Rattle.std.specs.Prelude.{Result, Ok, Err}
use Rattle.std.specs.Global.{Vec}
use Rattle.halo_io.specs.Counts.{Rose}
use Rattle.halo_records.specs.Records.{records_of}
use Rattle.halo_table.specs.DecrementTable.{TableFile}
use Rattle.halo_table.specs.Grouping.{tables_of}
use Rattle.halo_contract.specs.PlainContract.{PlainContract}
use Rattle.halo_compile.specs.declared.form.Segment.{Segment}
use Rattle.halo_lines.specs.Parts.{ExplainsContract}
use Rattle.halo_lines.specs.declared.parts.Part.{Part}
use Rattle.halo_lines.specs.Report.{EnclosesContract, PlainReport}
use Rattle.halo_report.specs.ExplainText.{explain_text}
use Rattle.halo_report.specs.FormText.{form_text}
use Rattle.halo_report.specs.ValueText.{report_text}
use Rattle.halo_spell.specs.ContractText.{contract_text}
use Rattle.halo_value.specs.Forms.{AreForms}
use Rattle.halo_top.specs.Arguments.{IsArgumentFault, TellsNamed}
use Rattle.halo_top.specs.Command.{Asks, IsCommand, Request, of_columns, of_contract, of_sample}
use Rattle.halo_top.specs.Input.{AreTables, HasContract, HasContractFault, HasTableFault, HasTables}
use Rattle.halo_top.specs.Input.{limit_of}
use Rattle.halo_top.specs.Refusal.{line_of, status_of}
use Rattle.halo_top.specs.Sample.{HasNoSampleFault, IsSampleAnswer, IsSampleFault}
use Rattle.halo_top.specs.declared.command.Task.{Task}
use Rattle.halo_top.specs.declared.command.Task.TheVariants as task
use Rattle.halo_top.specs.declared.refusal.InputFile.TheVariants as file
use Rattle.halo_top.specs.declared.refusal.Refusal.{Refusal}
use Rattle.halo_top.specs.declared.refusal.Refusal.TheVariants as refusal
use Rattle.halo_top.specs.declared.refusal.Stop.{Stop}
use Rattle.halo_top.specs.declared.refusal.Stop.TheVariants as stop
use Rattle.halo_top.specs.declared.status.TheConstants.{FINE}

-- the files as the shelf tells them, and its count of the faults of each before a run and after it
pub record Shelved : Type 0 where
  pub file : List ℕ → Option (List ℕ)
  pub before : List ℕ → ℕ
  pub now : List ℕ → ℕ

-- what a shelf tells of its files, and its counts
abbrev pub shelved : (List ℕ → Option (List ℕ)) → (List ℕ → ℕ) → (List ℕ → ℕ) → Shelved
shelved file before now = record { file = file; before = before; now = now }

-- the count of the file of this name rose
abbrev pub HasRisen : Shelved → List ℕ → Type 0
HasRisen shelf name = Rose (shelf.before name) (shelf.now name)

-- what a task writes of a contract: a report that encloses what it is worth, its canonical text,
-- the compiled forms of its pays, or the parts of each pay, enclosed
abbrev pub IsTextOf : Task → TableFile → PlainContract → List ℕ → Type 0
IsTextOf task.Value tables contract text =
    (report : PlainReport) × EnclosesContract tables contract report × (text ≡ report_text report)
IsTextOf task.Check tables contract text = text ≡ contract_text tables contract
IsTextOf task.Compile tables contract text =
    (forms : List (List (Segment (2 ^ length contract.lives))))
    × AreForms tables contract forms × (text ≡ form_text tables contract forms)
IsTextOf task.Explain tables contract text =
    (told : List (List Part)) × ExplainsContract tables contract told
    × (text ≡ explain_text tables contract told)

-- these are the tables and the contract in the files of these names, as far as they are told
pub record AreWritten
    (shelf : Shelved) (tables_name contract_name : List ℕ)
    (tables : TableFile) (contract : PlainContract) : Type 0 where
  pub tables_in : IfSome (shelf.file tables_name) (λ all. HasTables all tables)
  pub contract_in : IfSome (shelf.file contract_name) (λ all. HasContract tables all contract)

-- nothing is wrong with the files of these names, as far as they are told: they write a contract,
-- and this is what the task writes of it
pub record IsContractAnswer
    (t : Task) (shelf : Shelved) (tables_name contract_name text : List ℕ) : Type 0 where
  pub tables : TableFile
  pub contract : PlainContract
  pub written : AreWritten shelf tables_name contract_name tables contract
  pub text_is : IsTextOf t tables contract text

-- nothing is wrong with the file of this name, as far as it is told, and the arguments: this tells
-- the columns of the named table of the file
pub record IsColumnsAnswer (shelf : Shelved) (tables_name name fraction text : List ℕ)
    : Type 0 where
  pub tables : TableFile
  pub tables_in : IfSome (shelf.file tables_name) (λ all. HasTables all tables)
  pub told : TellsNamed tables name fraction text

-- nothing is wrong with what is asked for, and this is the answer
abbrev pub IsAnswer : Request → Shelved → List ℕ → Type 0
IsAnswer (of_contract t tables contract) shelf text =
    IsContractAnswer t shelf tables contract text
IsAnswer (of_columns tables name fraction) shelf text =
    IsColumnsAnswer shelf tables name fraction text
IsAnswer (of_sample number) shelf text = IsSampleAnswer number text

-- the tables file of this name is in order, where it is told
abbrev pub TablesInOrder : Shelved → List ℕ → Type 0
TablesInOrder shelf tables = IfSome (shelf.file tables) AreTables

-- a fact of the bytes of both files of these names, where they are told and the tables file is in
-- order: then it is one of the tables and of the bytes of the contract file
abbrev pub OfFiles : Shelved → List ℕ → List ℕ → (TableFile → List ℕ → Type 0) → Type 0
OfFiles shelf tables contract P = IfSome (shelf.file tables) (λ all. AreTables all
    × IfSome (shelf.file contract) (P (tables_of (records_of all))))

-- this is the first thing that is wrong with the tables file of this name, as far as it is told
abbrev pub RefusesTables : Shelved → List ℕ → Refusal → Type 0
RefusesTables shelf tables (refusal.Read file.Tables) = HasRisen shelf tables
RefusesTables shelf tables (refusal.TooLong file.Tables) =
    IfSome (shelf.file tables) (λ all. limit_of file.Tables < length all)
RefusesTables shelf tables (refusal.Table fault) =
    IfSome (shelf.file tables) (λ all. HasTableFault all fault)
RefusesTables shelf tables _ = ⊥

-- this is the first thing that is wrong with the files of these names, as far as they are told; a
-- file is read only where those before it are in order
abbrev pub RefusesContract : Shelved → List ℕ → List ℕ → Refusal → Type 0
RefusesContract shelf tables contract (refusal.Read file.Contract) =
    TablesInOrder shelf tables × HasRisen shelf contract
RefusesContract shelf tables contract (refusal.TooLong file.Contract) =
    TablesInOrder shelf tables
    × IfSome (shelf.file contract) (λ all. limit_of file.Contract < length all)
RefusesContract shelf tables contract (refusal.Contract fault) =
    OfFiles shelf tables contract (λ file bytes. HasContractFault file bytes fault)
RefusesContract shelf tables contract r = RefusesTables shelf tables r

-- this is the first thing that is wrong with the tables file of this name, as far as it is told,
-- and then with the arguments
abbrev pub RefusesColumns : Shelved → List ℕ → List ℕ → List ℕ → Refusal → Type 0
RefusesColumns shelf tables name fraction (refusal.Argument fault) = (file : TableFile)
    × IfSome (shelf.file tables) (λ all. HasTables all file)
    × IsArgumentFault file name fraction fault
RefusesColumns shelf tables name fraction r = RefusesTables shelf tables r

-- this is wrong with the number of a sample
abbrev pub RefusesSample : List ℕ → Refusal → Type 0
RefusesSample number (refusal.Argument fault) = IsSampleFault number fault
RefusesSample number _ = ⊥

-- this is the first thing that is wrong with what is asked for
abbrev pub Refuses : Request → Shelved → Refusal → Type 0
Refuses (of_contract t tables contract) shelf r = RefusesContract shelf tables contract r
Refuses (of_columns tables name fraction) shelf r = RefusesColumns shelf tables name fraction r
Refuses (of_sample number) shelf r = RefusesSample number r

-- what is asked for may take memory: what is wrong with the number of a sample is told without any
abbrev pub TakesMemory : Request → Type 0
TakesMemory (of_sample number) = HasNoSampleFault number
TakesMemory _ = ⊤

-- what is answered to what is asked for, or why nothing is; want of memory is free where memory is
-- taken
abbrev pub Answers : Request → Shelved → Result (Vec ℕ) Stop → Type 0
Answers request shelf (Ok text) = IsAnswer request shelf text.items
Answers request shelf (Err stop.Memory) = TakesMemory request
Answers request shelf (Err (stop.Refused r)) = Refuses request shelf r

-- a refusal of words and files: the words are no command, or something is wrong with what they ask
-- for
abbrev pub Refused : List (List ℕ) → Shelved → Refusal → Type 0
Refused words shelf refusal.Usage = IsCommand words → ⊥
Refused words shelf r = (request : Request) × Asks words request × Refuses request shelf r

-- an answer to words and files: the words are a command, and its files have this text as answer
abbrev pub Answered : List (List ℕ) → Shelved → List ℕ → Type 0
Answered words shelf text = (request : Request) × Asks words request × IsAnswer request shelf text

-- the status and the text that these words and files call for
abbrev pub CallsFor : List (List ℕ) → Shelved → ℕ → List ℕ → Type 0
CallsFor words shelf status text =
    ((status ≡ FINE) × Answered words shelf text)
    ⊎ ((r : Refusal) × Refused words shelf r × (status ≡ status_of r) × (text ≡ line_of r))

-- the file of this name is told, and its count of faults did not rise
pub record IsRead (shelf : Shelved) (name : List ℕ) : Type 0 where
  pub all : List ℕ
  pub told : shelf.file name ≡ Some all
  pub sure : HasRisen shelf name → ⊥

-- the files of these names are read as far as they are needed: the contract file is where the
-- tables file is in order
pub record AreBothRead (shelf : Shelved) (tables contract : List ℕ) : Type 0 where
  pub tables_read : IsRead shelf tables
  pub contract_read : AreTables tables_read.all → IsRead shelf contract

-- the files of what is asked for are read as far as they are needed
abbrev pub AreRead : Request → Shelved → Type 0
AreRead (of_contract t tables contract) shelf = AreBothRead shelf tables contract
AreRead (of_columns tables name fraction) shelf = IsRead shelf tables
AreRead (of_sample number) shelf = ⊤

-- the files that the words name, if they are a command, are read as far as they are needed
abbrev pub ReadsAll : List (List ℕ) → Shelved → Type 0
ReadsAll words shelf = (request : Request) → Asks words request → AreRead request shelf
