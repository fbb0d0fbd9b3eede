-- A store in memory of which chosen writes fail.
use Rattle.std.specs.Prelude.{◌≡◌, ◌<◌, ℕ, ◌+◌, ◌-◌, min, List, length, take, ◌⊎◌}
use Rattle.std.specs.Prelude.{Result, OnErr, IfOk, Contains, vec_len, vec_capacity}
use Rattle.halo_io.specs.declared.failed.Failed.{Failed}
use Rattle.halo_io.specs.declared.mem_sink.MemSink.{MemSink}
use Rattle.halo_io.specs.Counts.{raised, count_after}
use Rattle.halo_io.specs.Stored.{written_over, count_taken}

-- the bytes written so far
abbrev pub taken_of : MemSink → List ℕ
taken_of sink = take sink.written sink.store.items

-- how often a write has failed
abbrev pub faults_of : MemSink → ℕ
faults_of sink = sink.faults

-- how many bytes the store has left
abbrev pub room_of : MemSink → ℕ
room_of sink = vec_len sink.store - sink.written

-- the next call fails if it is given this piece: its number is listed, or the store is full
abbrev pub FailsAt : MemSink → List ℕ → Type 0
FailsAt sink piece =
    Contains sink.failing.items sink.calls ⊎ ((0 < length piece) × (room_of sink ≡ 0))

-- how many bytes a call takes: as many as the piece has, but at most what the sink takes in a
-- call, and at most what is left
abbrev pub count_of : MemSink → List ℕ → ℕ
count_of sink piece = min (min (length piece) sink.piece) (room_of sink)

-- the sink after a call: it wrote what it took over the store, and nothing if it failed
pub record IsAfterWrite (old new : MemSink) (piece : List ℕ) (result : Result ℕ Failed)
    : Type 0 where
  pub store : IfOk result (λ n.
      new.store.items ≡ written_over old.store.items old.written (take n piece))
  pub kept : OnErr result (new.store ≡ old.store)
  pub capacity : vec_capacity new.store ≡ vec_capacity old.store
  pub written : new.written ≡ old.written + count_taken result
  pub failing : new.failing ≡ old.failing
  pub piece_size : new.piece ≡ old.piece
  pub calls : new.calls ≡ raised old.calls
  pub faults : new.faults ≡ count_after old.faults result
