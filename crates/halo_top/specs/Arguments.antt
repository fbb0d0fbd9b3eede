-- The arguments of `columns`: the name of a table and a fraction of interest, with the tables of a
-- file.
use Rattle.std.specs.Prelude.{◌≡◌, ◌≢◌, ℕ, ◌<◌, List, length, ⊤, Result, Ok, Err}
use Rattle.std.specs.Global.{Vec}
use Rattle.halo_interest.specs.Rates.{rate_of}
use Rattle.halo_interest.specs.declared.rate.Rate.{Rate}
use Rattle.halo_table.specs.DecrementTable.{TableFile, name_of}
use Rattle.halo_columns.specs.Entries.{columns_of}
use Rattle.halo_columns.specs.Set.{ColumnLists, EnclosesColumns}
use Rattle.halo_parse.specs.WordReading.{ReadsFraction}
use Rattle.halo_check.specs.declared.fault.ContractKind.TheVariants as wrong
use Rattle.halo_report.specs.ColumnsText.{columns_text}
use Rattle.halo_top.specs.declared.refusal.ArgumentKind.{ArgumentKind}
use Rattle.halo_top.specs.declared.refusal.ArgumentKind.TheVariants as argument
use Rattle.halo_top.specs.declared.refusal.Refusal.TheVariants as refusal
use Rattle.halo_top.specs.declared.refusal.Stop.{Stop}
use Rattle.halo_top.specs.declared.refusal.Stop.TheVariants as stop

-- the table at a place, which is one of the file, has this name
pub record HasName (tables : TableFile) (table : ℕ) (name : List ℕ) : Type 0 where
  pub table_in : table < length tables.tables
  pub name_is : name_of tables table ≡ name

-- no table of the file has this name
abbrev pub HasNoTable : TableFile → List ℕ → Type 0
HasNoTable tables name = (table : ℕ) → table < length tables.tables → name_of tables table ≢ name

-- a text tells columns that enclose those of a table at an interest, each within its width
abbrev pub TellsColumns : TableFile → ℕ → List Rate → List ℕ → Type 0
TellsColumns tables table interest text = (set : ColumnLists)
    × EnclosesColumns
    (columns_of (λ k. (rate_of interest k).p) (λ k. (rate_of interest k).q) tables table) set
    × (text ≡ columns_text tables table set)

-- the columns of the table of this name, at the interest that the fraction writes
pub record TellsNamed (tables : TableFile) (name fraction text : List ℕ) : Type 0 where
  pub table : ℕ
  pub interest : List Rate
  pub named : HasName tables table name
  pub reads : ReadsFraction fraction (Ok interest)
  pub text_is : TellsColumns tables table interest text

-- what reading the fraction answers: the interest, or the first thing that is wrong with it
abbrev pub ReadsInterest : List ℕ → Result (List Rate) ArgumentKind → Type 0
ReadsInterest fraction (Ok interest) = ReadsFraction fraction (Ok interest)
ReadsInterest fraction (Err argument.Syntax) = ReadsFraction fraction (Err wrong.Syntax)
ReadsInterest fraction (Err argument.Magnitude) = ReadsFraction fraction (Err wrong.Magnitude)
ReadsInterest fraction (Err argument.Zero) = ReadsFraction fraction (Err wrong.Zero)
ReadsInterest fraction (Err argument.NoTable) = ⊥

-- this is the first thing that is wrong with the fraction and the name: the name is looked at where
-- the fraction writes an interest
abbrev pub IsArgumentFault : TableFile → List ℕ → List ℕ → ArgumentKind → Type 0
IsArgumentFault tables name fraction argument.NoTable =
    (interest : List Rate) × ReadsFraction fraction (Ok interest) × HasNoTable tables name
IsArgumentFault tables name fraction fault = ReadsInterest fraction (Err fault)

-- what `columns` writes of these tables, or what is wrong with its arguments; want of memory is
-- free
abbrev pub AnswersArguments : TableFile → List ℕ → List ℕ → Result (Vec ℕ) Stop → Type 0
AnswersArguments tables name fraction (Ok text) = TellsNamed tables name fraction text.items
AnswersArguments tables name fraction (Err (stop.Refused (refusal.Argument fault))) =
    IsArgumentFault tables name fraction fault
AnswersArguments tables name fraction (Err stop.Memory) = ⊤
AnswersArguments tables name fraction (Err _) = ⊥
