-- Runs of bytes of one kind, and the parts of a list that they are.
use Rattle.std.proofs.Common.{ap, ◌≡◌, ℕ, suc, ◌+◌, ◌-◌, ◌<◌, ◌≤◌, Bool, true, false, List, ◌∷◌, arith, drop, get_or, inl, inr, length, refl, ◌∙◌}
use Rattle.std.specs.Prelude.{All, slice_range}
use Rattle.std.proofs.lemmas.Bool.{both_ways, cases_lt, cases_order}
use Rattle.std.proofs.lemmas.List.{drop_all, drop_more, get_or-drop, length-drop}
use Rattle.std.proofs.lemmas.List.Edits.{get_or-between, length-between}
use Rattle.std.specs.List.{prefix_len}
use Rattle.std.proofs.lemmas.List.Sums.{prefix_len-le-length, prefix_len_passes, prefix_len_stops}
use Rattle.halo_lex.specs.Lexeme.{BeginsWithout}
use Rattle.halo_lex.specs.Run.{IsRun}

-- a run ends no earlier than another from the same place
no_earlier : (test : ℕ → Bool) (bytes : List ℕ) (from to end : ℕ) → IsRun test bytes from to → IsRun test bytes from end
    → to < end → ⊥
no_earlier test bytes from to end r s lt =
    let w = s.within in
    both_ways (test (get_or bytes to 0)) (r.stops (omega arith)) (s.pass to 0 r.forth lt)

-- a run from a place has one end
pub one_end : (test : ℕ → Bool) (bytes : List ℕ) (from to end : ℕ) → IsRun test bytes from to
    → IsRun test bytes from end → to ≡ end
one_end test bytes from to end r s = elim (cases_order to end) [
  | inl e ↦ e
  | inr h ↦
      elim h [
        | inl lt ↦ absurd (no_earlier test bytes from to end r s lt)
        | inr lt ↦ absurd
            (no_earlier test bytes from end to s r lt)
      ]
]

-- there is a run from each place on
pub some_run : (test : ℕ → Bool) (bytes : List ℕ) (from : ℕ) → from ≤ length bytes → (to : ℕ) × IsRun test bytes from to
some_run test bytes from within = (
  from + prefix_len test (drop from bytes),
  record {
    forth = omega arith;
    within =
        omega (arith, prefix_len-le-length test (drop from bytes), length-drop from bytes);
    pass =
        pass;
    stops = stops;
  },
)
  where
    pass : (k d : ℕ) → from ≤ k → k < from + prefix_len test (drop from bytes) → test (get_or bytes k d) ≡ true
    pass k d low high =
        let at : get_or (drop from bytes) (k - from) d ≡ get_or bytes k d =
        get_or-drop from bytes (k - from) d ∙ ap (λ n. get_or bytes n d) (omega arith) in
        rw at at (prefix_len_passes test (drop from bytes) (k - from) d (omega arith))

    stops : from + prefix_len test (drop from bytes) < length bytes
        → test (get_or bytes (from + prefix_len test (drop from bytes)) 0) ≡ false
    stops lt = rw get_or-drop at (prefix_len_stops test (drop from bytes) 0 (omega (arith, length-drop from bytes)))

-- a run whose first byte passes has at least one byte
pub run_some : (test : ℕ → Bool) (bytes : List ℕ) (from to : ℕ) → IsRun test bytes from to → from < length bytes
    → test (get_or bytes from 0) ≡ true → from < to
run_some test bytes from to r lt passes = elim (cases_lt from to) [
  | inl some ↦ some
  | inr le ↦
      let forth = r.forth in
      let same : to ≡ from = omega arith in
      let stops : test (get_or bytes from 0) ≡ false = rw same at r.stops lt in
      absurd (both_ways (test (get_or bytes from 0)) stops passes)
]

-- each byte of the part of a list that is a run passes
pub run_all : (test : ℕ → Bool) (bytes : List ℕ) (from to : ℕ) → IsRun test bytes from to
    → All (λ b. test b ≡ true) (slice_range bytes from to)
run_all test bytes from to r = λ k d lt.
    let forth = r.forth in
    let n = length-between bytes from to r.within in
    let below : from + k < to = omega arith in
    rw (get_or-between bytes from to k d below) (r.pass (from + k) d (omega arith) below)

-- behind a run stands no byte that passes
pub run_stops : (test : ℕ → Bool) (bytes : List ℕ) (from to : ℕ) → IsRun test bytes from to
    → BeginsWithout (λ b. test b ≡ true) (drop to bytes)
run_stops test bytes from to r = elim (cases_lt to (length bytes)) [
  | inl lt ↦ rw (drop_more bytes to 0 lt) (λ passes. both_ways (test (get_or bytes to 0)) (r.stops lt) passes)
  | inr le ↦ rw (drop_all to bytes le) tt
]

-- a part of at least one byte is its first byte and the others
pub part-cons : (bytes : List ℕ) (from to : ℕ) → from < to → from < length bytes
    → slice_range bytes from to ≡ get_or bytes from 0 ∷ slice_range bytes (from + 1) to
part-cons bytes from to lt within =
    let n : to - from ≡ suc (to - (from + 1)) = omega arith in
    rw (drop_more bytes from 0 within, n) refl
