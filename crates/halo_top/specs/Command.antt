-- What the words of a command ask for.
use Rattle.std.specs.Prelude.{◌≡◌, ℕ, List, [], ◌∷◌, codes, Option, None, Some}
use Rattle.halo_top.specs.declared.command.Command.{Command}
use Rattle.halo_top.specs.declared.command.Command.TheVariants as command
use Rattle.halo_top.specs.declared.command.Task.{Task}
use Rattle.halo_top.specs.declared.command.Task.TheVariants as task

-- what a command asks for: a task on the contract in one file with the tables in another, the
-- columns of the table of a name in a file, at the interest of a fraction, or the sample of a
-- number
pub data Request : Type 0 where
  of_contract : (t : Task) (tables contract : List ℕ) → Request
  of_columns : (tables name fraction : List ℕ) → Request
  of_sample : (number : List ℕ) → Request

-- the word of a command
abbrev pub task_word : Task → List ℕ
task_word task.Value = codes "value"
task_word task.Check = codes "check"
task_word task.Compile = codes "compile"
task_word task.Explain = codes "explain"

-- `value T C`, `check T C`, `compile T C` or `explain T C`: what to write of the contract in the
-- file C, with the tables in the file T
-- `columns T NAME P/Q`: the columns of the table NAME of the file T, at the interest P/Q
-- `sample N`: the summary of the sample of N
abbrev pub request_words : Request → List (List ℕ)
request_words (of_contract t tables contract) = task_word t ∷ tables ∷ contract ∷ []
request_words (of_columns tables name fraction) =
    codes "columns" ∷ tables ∷ name ∷ fraction ∷ []
request_words (of_sample number) = codes "sample" ∷ number ∷ []

-- the words ask for this
abbrev pub Asks : List (List ℕ) → Request → Type 0
Asks words request = words ≡ request_words request

-- the words are a command that is built
abbrev pub IsCommand : List (List ℕ) → Type 0
IsCommand words = (request : Request) × Asks words request

-- what a command asks for
abbrev pub request_of : Command → Request
request_of (command.Contract c) = of_contract c.task c.tables.now c.contract.now
request_of (command.Columns c) = of_columns c.tables.now c.name.now c.fraction.now
request_of (command.Sample number) = of_sample number.now

-- the command that the words are, or none where they are no command
abbrev pub ReadsWords : List (List ℕ) → Option Command → Type 0
ReadsWords words None = IsCommand words → ⊥
ReadsWords words (Some c) = Asks words (request_of c)

-- the task that a word names, or none
abbrev pub ReadsWord : List ℕ → Option Task → Type 0
ReadsWord word None = (t : Task) → word ≡ task_word t → ⊥
ReadsWord word (Some t) = word ≡ task_word t
