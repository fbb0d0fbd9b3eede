-- Members, one more at a time, on the sets of a block.
use Rattle.std.proofs.Common.{◌≡◌, ℕ, zero, suc, ◌+◌, ◌<◌, ◌≤◌, arith, refl, ap, sym, ◌∙◌, Bool, true, false, ◌&&◌, ◌||◌, cond, nat_le, List, [], ◌∷◌, length, get_or, take, drop, replicate, add-one}
use Rattle.std.proofs.Math.Bool.{and_assoc, or_assoc}
use Rattle.std.specs.List.{list_all, list_any}
use Rattle.std.specs.Prelude.{bit_and, bit_or}
use Rattle.std.proofs.lemmas.Bool.Decides.{nat_tests}
use Rattle.halo_sums.specs.Masks.{has_bit}
use Rattle.halo_status.specs.declared.status.Status.{Status}
use Rattle.halo_status.specs.Blocks.{fewer_at}
use Rattle.halo_status.specs.Exists.{exists, each_exists}
use Rattle.halo_sums.specs.Sums.{count_true}
use Rattle.halo_status.specs.StatusTree.{tree_of, trees_in}
use Rattle.halo_status.proofs.Masks.{has_bit-or}
use Rattle.halo_status.proofs.Walk.{left_at}
use Rattle.halo_status.proofs.Words.{has_bit-all, has_bit-and, has_bit-none}
use Rattle.halo_status.proofs.Counts.{count_true-le-length, length-each_exists}

count_true-more : (b : Bool) (bs : List Bool) → count_true (b ∷ bs) ≡ cond b 1 0 + count_true bs
count_true-more true bs = omega arith
count_true-more false bs = omega arith

-- one more is at least so many where that was so already, or where one less was and the one more exists
step : (k c : ℕ) (b : Bool) → (nat_le (suc k) c || (nat_le k c && b)) ≡ nat_le (suc k) (c + cond b 1 0)
step k c true = grind (arith, nat_tests)
step k c false = grind (arith, nat_tests)

none_asked : (c : ℕ) (b : Bool) → (nat_le 0 c || b) ≡ true
none_asked c b = grind (arith, nat_tests)

always : (c : ℕ) (b : Bool) → true ≡ nat_le 0 (c + cond b 1 0)
always c b = grind (arith, nat_tests)

-- so the counts of a word
pub counted_more : (counts : List ℕ) (member k c j : ℕ) (b : Bool)
    → has_bit member j ≡ b → ((i : ℕ) → i ≤ k → has_bit (get_or counts i 0) j ≡ nat_le i c)
    → has_bit (bit_or (get_or counts k 0) (bit_and (fewer_at counts k) member)) j ≡ nat_le k (c + cond b 1 0)
counted_more counts member zero c j b is found = has_bit-or (get_or counts 0 0) (bit_and 0 member) j
    ∙ ap (λ x. x || has_bit (bit_and 0 member) j) (found 0 (omega arith))
    ∙ none_asked c (has_bit (bit_and 0 member) j) ∙ always c b
counted_more counts member (suc k) c j b is found =
    has_bit-or (get_or counts (suc k) 0) (bit_and (get_or counts k 0) member) j
    ∙ ap (λ x. x || has_bit (bit_and (get_or counts k 0) member) j) (found (suc k) (omega arith))
    ∙ ap (λ x. nat_le (suc k) c || x) (has_bit-and (get_or counts k 0) member j
    ∙ ap (λ x. x && has_bit member j) (found k (omega arith)) ∙ ap (λ x. nat_le k c && x) is)
    ∙ step k c b

zeros : (n k : ℕ) → get_or {A = ℕ} (replicate n 0) k 0 ≡ 0
zeros zero k = refl
zeros (suc n) zero = refl
zeros (suc n) (suc k) = zeros n k

none_yet : (k : ℕ) → nat_le (suc k) 0 ≡ false
none_yet k = grind (arith, nat_tests)

-- before any member, at least 0 exist
pub first_counts : (k j : ℕ) → j < 64 → has_bit (get_or (18446744073709551615 ∷ replicate 17 0) k 0) j ≡ nat_le k 0
first_counts zero j h = has_bit-all j h
first_counts (suc k) j h = ap (λ n. has_bit n j) (zeros 17 k) ∙ has_bit-none j ∙ sym (none_yet k)

beyond : (xs : List ℕ) (k : ℕ) → length xs ≤ k → get_or xs k 0 ≡ 0
beyond [] k h = refl
beyond (x ∷ xs) zero h = absurd (omega arith)
beyond (x ∷ xs) (suc k) h = beyond xs k (omega arith)

too_many : (k c : ℕ) → c < k → nat_le k c ≡ false
too_many k c h = grind (arith, nat_tests)

-- no list has as many members as there are counts
pub past_counts : (alive on : ℕ → Bool) (ss : List Status) (counts : List ℕ) (k j : ℕ)
    → length ss ≤ 16 → length counts ≡ 18 → 18 ≤ k
    → has_bit (get_or counts k 0) j ≡ nat_le k (count_true (each_exists alive on (trees_in ss)))
past_counts alive on ss counts k j short room h =
    ap (λ n. has_bit n j) (beyond counts k (omega arith)) ∙ has_bit-none j
    ∙ sym (too_many k _
    (omega (arith, count_true-le-length (each_exists alive on (trees_in ss)), length-each_exists alive on ss)))

pub all_seen : (ss : List Status) (k : ℕ) → length ss ≤ k → take k ss ≡ ss
all_seen [] zero h = refl
all_seen [] (suc k) h = refl
all_seen (s ∷ ss) zero h = absurd (omega arith)
all_seen (s ∷ ss) (suc k) h = ap (λ zs. s ∷ zs) (all_seen ss k (omega arith))

module _ (alive on : ℕ → Bool) where
  -- with the member at hand, those seen are one more
  seen_more : (ss : List Status) (k : ℕ) (s : Status) → k < length ss → s ≡ get_or ss k s
      → count_true (each_exists alive on (trees_in (take (suc k) ss)))
      ≡ count_true (each_exists alive on (trees_in (take k ss))) + cond (exists alive on (tree_of s)) 1 0
  seen_more [] k s h e = absurd (omega arith)
  seen_more (x ∷ ss) zero s h e = ap (λ y. count_true (exists alive on (tree_of y) ∷ [])) (sym e)
      ∙ count_true-more (exists alive on (tree_of s)) [] ∙ omega arith
  seen_more (x ∷ ss) (suc k) s h e =
      count_true-more (exists alive on (tree_of x)) (each_exists alive on (trees_in (take (suc k) ss)))
      ∙ omega (
        arith,
        seen_more ss k s (omega arith) e,
        count_true-more (exists alive on (tree_of x)) (each_exists alive on (trees_in (take k ss))),
      )

  module _ (ss : List Status) (k : ℕ) (s : Status) (here : k < length ss) (is : s ≡ get_or ss k s) where
    pub seen_at : count_true (each_exists alive on (trees_in (take (k + 1) ss)))
        ≡ count_true (each_exists alive on (trees_in (take k ss))) + cond (exists alive on (tree_of s)) 1 0
    seen_at = rw add-one (seen_more ss k s here is)

    pub all_more : (all more j : ℕ) (whole : Bool) → has_bit more j ≡ exists alive on (tree_of s)
        → (has_bit all j && list_all (λ b. b) (each_exists alive on (trees_in (drop k ss)))) ≡ whole
        → (has_bit (bit_and all more) j && list_all (λ b. b) (each_exists alive on (trees_in (drop (k + 1) ss))))
        ≡ whole
    all_more all more j whole exists_s found =
        rw (has_bit-and all more j, exists_s, and_assoc) (rw (left_at ss k s here is) at found)

    pub any_more : (any more j : ℕ) (whole : Bool) → has_bit more j ≡ exists alive on (tree_of s)
        → (has_bit any j || list_any (λ b. b) (each_exists alive on (trees_in (drop k ss)))) ≡ whole
        → (has_bit (bit_or any more) j || list_any (λ b. b) (each_exists alive on (trees_in (drop (k + 1) ss)))) ≡ whole
    any_more any more j whole exists_s found =
        rw (has_bit-or any more j, exists_s, or_assoc) (rw (left_at ss k s here is) at found)
