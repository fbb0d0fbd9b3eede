-- What a run does: the status with which it ends, and what it writes.
use Rattle.std.specs.Prelude.{◌≡◌, ◌≢◌, ℕ, ◌⊎◌, List, Option}
use Rattle.halo_io.specs.Counts.{Rose}
use Rattle.halo_io.specs.Told.{AppendsTold, TookPrefix}
use Rattle.halo_top.specs.Command.{Asks, IsCommand, Request}
use Rattle.halo_top.specs.Verdict.{CallsFor, ReadsAll, Shelved, TakesMemory}
use Rattle.halo_top.specs.declared.no_words.NoWords.{NoWords}
use Rattle.halo_top.specs.declared.no_words.NoWords.TheVariants as none
use Rattle.halo_top.specs.declared.status.TheConstants.{NO_MEMORY, USAGE, WORDS_REFUSED, WRITE_FAILED}

-- what a sink tells that it took, and its count of faults, before a run and after it
pub record Sunk : Type 0 where
  pub taken_before : Option (List ℕ)
  pub taken_now : Option (List ℕ)
  pub faults_before : ℕ
  pub faults_now : ℕ

abbrev pub sunk : Option (List ℕ) → Option (List ℕ) → ℕ → ℕ → Sunk
sunk taken_before taken_now faults_before faults_now = record {
  taken_before = taken_before;
  taken_now = taken_now;
  faults_before = faults_before;
  faults_now = faults_now;
}

-- the count of a sink rose
abbrev pub HasFailed : Sunk → Type 0
HasFailed sink = Rose sink.faults_before sink.faults_now

-- the status and the text that words and files call for, and the text was written
pub record IsSaid (words : List (List ℕ)) (shelf : Shelved) (sink : Sunk) (status : ℕ)
    : Type 0 where
  pub text : List ℕ
  pub called : CallsFor words shelf status text
  pub written : AppendsTold sink.taken_before sink.taken_now text

-- a write failed: the sink took a prefix of a text that words and files call for
pub record IsCutOff (words : List (List ℕ)) (shelf : Shelved) (sink : Sunk) : Type 0 where
  pub failed : HasFailed sink
  pub status : ℕ
  pub text : List ℕ
  pub called : CallsFor words shelf status text
  pub taken : TookPrefix sink.taken_before sink.taken_now text

-- the words ask for something that may take memory
abbrev pub AskForMemory : List (List ℕ) → Type 0
AskForMemory words = (request : Request) × Asks words request × TakesMemory request

-- with these words, these files and this sink a run ends with this status
pub record IsRun (words : List (List ℕ)) (shelf : Shelved) (sink : Sunk) (status : ℕ)
    : Type 0 where
  -- a status that tells neither a failed write nor want of memory is called for, and its text was
  -- written
  pub answer : status ≢ WRITE_FAILED → status ≢ NO_MEMORY → IsSaid words shelf sink status
  -- a failed write is told only where one failed
  pub write_fault : status ≡ WRITE_FAILED → IsCutOff words shelf sink
  -- want of memory is told only where the words are a command, in which nothing is wrong with a
  -- sample's number
  pub memory : status ≡ NO_MEMORY → AskForMemory words
  -- where the files are read as far as they are needed and no write failed, the status is the one
  -- that is called for, or tells want of memory
  pub complete : (called : ℕ) (text : List ℕ) → ReadsAll words shelf → (HasFailed sink → ⊥)
      → CallsFor words shelf called text → (status ≡ called) ⊎ (status ≡ NO_MEMORY)
  -- words that are no command end with the usage, or with a failed write
  pub usage : (IsCommand words → ⊥) → (status ≡ USAGE) ⊎ (status ≡ WRITE_FAILED)

-- the status where the machine gives no words
abbrev pub status_of_none : NoWords → ℕ
status_of_none none.Memory = NO_MEMORY
status_of_none none.Refused = WORDS_REFUSED
