-- What a command's files answer is what the words and the files call for.
use Rattle.std.proofs.Common.{ℕ, List, Some, Ok, Err, refl, inl, inr}
use Rattle.std.specs.Global.{Vec}
use Rattle.halo_top.specs.Command.{Asks, ReadsWords, Request, of_columns, of_contract, of_sample, request_of}
use Rattle.halo_top.specs.Refusal.{line_of, status_of}
use Rattle.halo_top.specs.Run.{AskForMemory}
use Rattle.halo_top.specs.Verdict.{Answers, CallsFor, Refused, Refuses, Shelved, TakesMemory}
use Rattle.halo_top.specs.declared.command.Command.{Command}
use Rattle.halo_top.specs.declared.refusal.Refusal.{Refusal}
use Rattle.halo_top.specs.declared.refusal.Refusal.TheVariants as refusal
use Rattle.halo_top.specs.declared.refusal.Stop.TheVariants as stop
use Rattle.halo_top.specs.declared.status.TheConstants.{FINE}

-- a command is no usage
never-usage : {R : Type 0} (request : Request) (shelf : Shelved) → Refuses request shelf refusal.Usage → R
never-usage (of_contract t tables contract) shelf h = absurd h
never-usage (of_columns tables name fraction) shelf h = absurd h
never-usage (of_sample number) shelf h = absurd h

-- what something wrong with what is asked for is, as a refusal of the words
pub refused : (words : List (List ℕ)) (shelf : Shelved) (request : Request) → Asks words request
    → (r : Refusal) → Refuses request shelf r → Refused words shelf r
refused words shelf request asks refusal.Usage h = never-usage request shelf h
refused words shelf request asks (refusal.Read f) h = (request, asks, h)
refused words shelf request asks (refusal.TooLong f) h = (request, asks, h)
refused words shelf request asks (refusal.Table fault) h = (request, asks, h)
refused words shelf request asks (refusal.Contract fault) h = (request, asks, h)
refused words shelf request asks (refusal.Argument fault) h = (request, asks, h)

pub asks_for_memory : (words : List (List ℕ)) (asked : Command) → ReadsWords words (Some asked)
    → TakesMemory (request_of asked) → AskForMemory words
asks_for_memory words asked asks takes = (request_of asked, asks, takes)

module _ (words : List (List ℕ)) (shelf : Shelved) (asked : Command) (asks : ReadsWords words (Some asked)) where
  pub calls_for_text : (text : Vec ℕ)
      → Answers (request_of asked) shelf (Ok text) → CallsFor words shelf FINE text.items
  calls_for_text text answer = inl (refl, (request_of asked, asks, answer))

  pub calls_for_line : (r : Refusal) → Answers (request_of asked) shelf (Err (stop.Refused r))
      → CallsFor words shelf (status_of r) (line_of r)
  calls_for_line r refuses = inr (r, refused words shelf (request_of asked) asks r refuses, refl, refl)
