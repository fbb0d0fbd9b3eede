-- The sets within some lives are marked one after the other, 64 sets of lives at a time.
use Rattle.std.proofs.Common.{◌≡◌, ℕ, suc, ◌/◌, ◌%◌, ◌+◌, ◌*◌, ◌<◌, ◌≤◌, arith, ap, ◌∙◌, ⊎_elim, List, get_or, Bool, true, false}
use Rattle.std.proofs.lemmas.Bool.{cases_lt}
use Rattle.halo_sums.specs.Masks.{has_bit}
use Rattle.halo_sums.specs.Within.{is_within}
use Rattle.halo_sums.proofs.Within.{within-below}
use Rattle.halo_status.specs.Pay.{PlainPay}
use Rattle.halo_status.specs.View.{is_on}
use Rattle.halo_model.specs.Coefficient.{exists_by_mark, view_of}
use Rattle.halo_compile.specs.Marks.{MarksBlock, MarksExistence}

module _ (pay : PlainPay) (t named : ℕ) where
  -- whether the pay exists on the set of a mask
  abbrev pub exists_on : ℕ → Bool
  exists_on k = exists_by_mark pay.mark pay.body (has_bit k) (is_on (view_of pay.kind) t)

  -- the sets up to one of them are marked, and its block is at hand
  pub record IsMarkedTo (set marks : ℕ) (marked : List Bool) : Type 0 where
    pub within : is_within set named ≡ true
    pub block : MarksBlock pay t (set / 64) marks
    pub done : (k : ℕ) → k ≤ set → is_within k named ≡ true → get_or marked k false ≡ exists_on k

  -- the mark of a set in its block
  pub mark_in_block : (k marks : ℕ) → MarksBlock pay t (k / 64) marks → has_bit marks (k % 64) ≡ exists_on k
  mark_in_block k marks is =
      let whole : 64 * (k / 64) + k % 64 ≡ k = omega arith in
      is (k % 64) (omega arith) ∙ ap exists_on whole

  pub marked_first : (marks : ℕ) (marked : List Bool) → is_within 0 named ≡ true → MarksBlock pay t 0 marks
      → get_or marked 0 false ≡ has_bit marks 0 → IsMarkedTo 0 marks marked
  marked_first marks marked none is e = record {
    within = none;
    block = is;
    done = λ k low _. let first : k ≡ 0 = omega arith in rw first (e ∙ mark_in_block 0 marks is);
  }

  -- one set more
  pub marked_next : (set next marks more : ℕ) (marked now : List Bool) → IsMarkedTo set marks marked
      → is_within next named ≡ true → ((k : ℕ) → is_within k named ≡ true → set < k → next ≤ k)
      → MarksBlock pay t (next / 64) more → ((k : ℕ) → k < next → get_or now k false ≡ get_or marked k false)
      → set < next → get_or now next false ≡ has_bit more (next % 64) → IsMarkedTo next more now
  marked_next set next marks more marked now before within first is kept later e = record {
    within = within;
    block = is;
    done = λ k low inside. ⊎_elim
        (λ (early : k < suc set). kept k (omega arith) ∙ before.done k (omega arith) inside)
        (λ (late : suc set ≤ k). let same : k ≡ next = omega (arith, first k inside late) in
        rw same (e ∙ mark_in_block next more is))
        (cases_lt k (suc set));
  }

  -- all of them
  pub marked_last : (marks : ℕ) (marked : List Bool) → IsMarkedTo named marks marked
      → MarksExistence pay t named marked
  marked_last marks marked all k inside = all.done k (within-below k named inside) inside
