-- The first faulty line of a contract file, and the contract of a file without fault.
use Rattle.std.specs.Prelude.{◌≡◌, ◌≢◌, ℕ, None, ◌+◌, ◌<◌, ◌⊎◌, List, [], ◌∷◌, false, length}
use Rattle.halo_table.specs.DecrementTable.{TableFile}
use Rattle.halo_check.specs.Checks.{FailsFirst, PassesAll}
use Rattle.halo_syntax.specs.Depth.{IsShallow}
use Rattle.halo_contract.specs.PlainContract.{PlainContract}
use Rattle.halo_check.specs.Draft.{Draft, contract_made, empty_draft, with_line}
use Rattle.halo_syntax.specs.FileLines.{IsSilent, is_silent, lines_of, words_of}
use Rattle.halo_syntax.specs.Line.{Line}
use Rattle.halo_syntax.specs.ProperLine.{SpellsLine}
use Rattle.halo_check.specs.declared.fault.ContractKind.{ContractKind}
use Rattle.halo_check.specs.declared.fault.ContractKind.TheVariants as kind

-- the text says something, and its round brackets do not open too far
pub record IsReadable (text : List ℕ) : Type 0 where
  pub speaks : is_silent (words_of text) ≡ false
  pub shallow : IsShallow text

-- the text is this line, which passes all checks
pub record IsFine (tables : TableFile) (d : Draft) (text : List ℕ) (l : Line) : Type 0 where
  pub readable : IsReadable text
  pub spells : SpellsLine (words_of text) l
  pub passes : PassesAll tables d l

-- the text has this fault, which is the first one: brackets that open too far come first, then a
-- text that is no line, then the checks
abbrev pub HasFault : TableFile → Draft → List ℕ → ContractKind → Type 0
HasFault tables d text k =
    ((is_silent (words_of text) ≡ false) × (IsShallow text → ⊥) × (k ≡ kind.Magnitude))
    ⊎ (IsReadable text × ((l : Line) → SpellsLine (words_of text) l → ⊥) × (k ≡ kind.Syntax))
    ⊎ (IsReadable text × ((l : Line) × SpellsLine (words_of text) l × FailsFirst tables d l k))

-- some lines, behind those that have made a draft, have no fault, and make this draft
abbrev pub MakesDraft : TableFile → Draft → List (List ℕ) → Draft → Type 0
MakesDraft tables d [] final = final ≡ d
MakesDraft tables d (text ∷ texts) final =
    (IsSilent text × MakesDraft tables d texts final)
    ⊎ ((l : Line) × IsFine tables d text l × MakesDraft tables (with_line tables d l) texts final)

-- the line of this number is the first faulty one of some lines, which are counted from `count`,
-- and this is its first fault
abbrev pub FirstFaultOf : TableFile → Draft → ℕ → List (List ℕ) → ℕ → ContractKind → Type 0
FirstFaultOf tables d count [] number k = ⊥
FirstFaultOf tables d count (text ∷ texts) number k =
    (HasFault tables d text k × (number ≡ count))
    ⊎ (IsSilent text × FirstFaultOf tables d (count + 1) texts number k)
    ⊎ ((l : Line) × IsFine tables d text l
    × FirstFaultOf tables (with_line tables d l) (count + 1) texts number k)

-- a draft that makes a contract: there is an interest, a life and a pay
pub record IsWhole (d : Draft) : Type 0 where
  pub interest : d.interest ≢ None
  pub life : 0 < length d.lives
  pub pay : 0 < length d.pays

-- the bytes have no fault, and write this contract
pub record WritesContract (tables : TableFile) (bytes : List ℕ) (contract : PlainContract)
    : Type 0 where
  pub draft : Draft
  pub lines : MakesDraft tables empty_draft (lines_of bytes) draft
  pub whole : IsWhole draft
  pub made : contract ≡ contract_made draft

-- where no line is faulty, but the lines make no contract, that is told of the line behind the last
-- one
pub record IsMissing (tables : TableFile) (bytes : List ℕ) (number : ℕ) (k : ContractKind)
    : Type 0 where
  pub draft : Draft
  pub lines : MakesDraft tables empty_draft (lines_of bytes) draft
  pub not_whole : IsWhole draft → ⊥
  pub number_is : number ≡ length (lines_of bytes) + 1
  pub kind_is : k ≡ kind.Missing

-- the first fault of the bytes: the number of the line, from 1, and the kind
abbrev pub IsContractFault : TableFile → List ℕ → ℕ → ContractKind → Type 0
IsContractFault tables bytes number k =
    FirstFaultOf tables empty_draft 1 (lines_of bytes) number k ⊎ IsMissing tables bytes number k
