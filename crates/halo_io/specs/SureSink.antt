-- A sink that knows the bytes that its caller expects.
use Rattle.std.specs.Prelude.{◌≡◌, ◌↔◌, ℕ, ◌+◌, ◌-◌, ◌^◌, min, List, length, take, drop}
use Rattle.std.specs.Prelude.{Option, None, Some, if◌then◌else◌, IsTrue}
use Rattle.halo_io.specs.declared.sure_sink.SureSink.{SureSink}

-- the bytes taken, as long as they are those that are expected
abbrev pub taken_of : SureSink → Option (List ℕ)
taken_of sink = if sink.tells then Some (take sink.count sink.room.items) else None

-- a piece stands in the bytes at that place
abbrev pub StandsAt : List ℕ → ℕ → List ℕ → Type 0
StandsAt bytes at piece = take (length piece) (drop at bytes) ≡ piece

-- the sink after a piece: it goes on telling exactly if the piece is what is expected next
pub record IsAfterWrite (old new : SureSink) (piece : List ℕ) : Type 0 where
  pub tells : IsTrue new.tells ↔ (IsTrue old.tells × StandsAt old.room.items old.count piece)
  pub count : new.count ≡ min (old.count + length piece) (2 ^ 64 - 1)
  pub room : new.room ≡ old.room
