-- The chances of the lives of a group in an array, one life more.
use Rattle.std.proofs.Common.{◌≡◌, ◌≢◌, ℕ, ◌+◌, ◌<◌, ◌≤◌, List, length, length-set, replicate, set, get_or-set_other, get_or-set_same, pos, arith, ⊎_elim}
use Rattle.std.proofs.lemmas.Bool.{cases_lt}
use Rattle.std.proofs.lemmas.Int.{ints}
use Rattle.std.proofs.lemmas.List.{get_or-replicate}
use Rattle.halo_sums.specs.Masks.{has_bit}
use Rattle.halo_num.specs.Ends.{Ends, IsWithin, fine}
use Rattle.halo_num.specs.Chance.{EnclosesChance}
use Rattle.halo_model.specs.FromTables.{lives_of}
use Rattle.halo_model.specs.Independent.{started_of, survivors_of}
use Rattle.halo_life.specs.PlainGroup.{PlainGroup}
use Rattle.halo_chance.specs.Enclosed.{EachIsChance, entry_at}
use Rattle.halo_along.specs.Lives.{EncloseSurvival}

-- so many times 0 are chances
pub no-chances : (n : ℕ) (i : Ends) → i.lo ≡ pos 0 → i.hi ≡ pos 0 → n ≤ length (replicate n i)
    → EachIsChance n (replicate n i)
no-chances n i low high room = record {
  room = room;
  each = λ k below. rw (get_or-replicate n k i (record { lo = pos 0; hi = pos 0 }) below) (record {
    low = omega (arith, ints, low);
    high = omega (arith, ints, high);
  });
}

-- and so are chances with one put at a place
pub chance-put : (n : ℕ) (entries : List Ends) (place : ℕ) (i : Ends)
    → place < n → IsWithin i (pos 0) (pos fine) → EachIsChance n entries → EachIsChance n (set entries place i)
chance-put n entries place i below within are = record {
  room = omega (arith, length-set {A = Ends}, are.room);
  each = λ k low. ⊎_elim
      (λ (before : k < place). let other : k ≢ place = omega arith in rw get_or-set_other (are.each k low))
      (λ (from : place ≤ k). ⊎_elim
      (λ (after : place < k). let other : k ≢ place = omega arith in rw get_or-set_other (are.each k low))
      (λ (upto : k ≤ place).
      let here : k ≡ place = omega arith in
      let room : place < length entries = omega (arith, are.room) in
      rw (here, get_or-set_same) within)
      (cases_lt place k))
      (cases_lt k place);
}

module _ (group : PlainGroup) (t : ℕ) where
  pub no-survivals : (entries : List Ends) → EncloseSurvival group t 0 entries
  unfolding EncloseSurvival
  no-survivals entries i below = absurd (omega arith)

  pub survival-put : (count : ℕ) (entries : List Ends) (r : Ends) → count < length entries
      → EnclosesChance (survivors_of (λ j. t) (has_bit group.alive) (lives_of group.file group.lives) count)
      (started_of group.start (has_bit group.alive) (lives_of group.file group.lives) count) 1 r
      → EncloseSurvival group t count entries → EncloseSurvival group t (count + 1) (set entries count r)
  unfolding EncloseSurvival
  survival-put count entries r room is before i below = ⊎_elim
      (λ (earlier : i < count).
      let other : i ≢ count = omega arith in rw get_or-set_other (before i earlier))
      (λ (from : count ≤ i). let here : i ≡ count = omega arith in rw (here, get_or-set_same) is)
      (cases_lt i count)

  -- each of them is enclosed
  pub survival-each : (count : ℕ) (entries : List Ends) → EncloseSurvival group t count entries → (i : ℕ) → i < count
      → EnclosesChance (survivors_of (λ j. t) (has_bit group.alive) (lives_of group.file group.lives) i)
      (started_of group.start (has_bit group.alive) (lives_of group.file group.lives) i) 1 (entry_at entries i)
  unfolding EncloseSurvival
  survival-each count entries are i below = are i below
