-- The text of the members of a list from a place on.
use Rattle.std.proofs.Common.{◌≡◌, ◌≢◌, ℕ, zero, suc, ◌+◌, ◌<◌, ◌≤◌, List, [], ◌∷◌, ◌++◌, append_assoc, append-nil, Option, Some, None, true, nat_eq, drop, length, arith, ap, sym, ◌∙◌, refl, add-one, drop-cons, eq-eqb}
use Rattle.std.specs.Fmt.{decimal}
use Rattle.std.specs.Option.{option_map}
use Rattle.std.specs.Prelude.{slice_get}
use Rattle.std.proofs.lemmas.Bool.{ne_eqb}
use Rattle.std.proofs.lemmas.Option.{get_or_from_slice_get}
use Rattle.halo_status.specs.StatusTree.{tree_of, trees_in}
use Rattle.halo_status.specs.declared.pay.Mark.{Mark}
use Rattle.halo_status.specs.declared.status.Status.{Status}
use Rattle.halo_symbol.specs.Bytes.{content_bytes, marked_bytes, members_bytes, node_bytes}
use Rattle.halo_symbol.specs.Characters.{caret, colon}
use Rattle.halo_symbol.specs.Tree.{Node, list}
use Rattle.halo_spell.specs.Canonical.{canonical_mark, canonical_members, canonical_node, canonical_row}
use Rattle.halo_spell.specs.StatusText.{mark_bytes_at, separator_at}

-- the members of a list, the first of which stands at a place
abbrev pub left_from : List (List ℕ) → Option Mark → ℕ → List Status → List ℕ
left_from names mark place [] = []
left_from names mark place (s ∷ ss) =
    separator_at place ++ (node_bytes (canonical_node names (tree_of s)) ++
    (mark_bytes_at mark place ++ left_from names mark (suc place) ss))

-- the members that are left at a place are the one there and those behind it
pub one_left : (names : List (List ℕ)) (mark : Option Mark) (ms : List Status) (k : ℕ) (s : Status) → k < length ms
    → slice_get ms k ≡ Some s
    → left_from names mark k (drop k ms) ≡ separator_at k ++
    (node_bytes (canonical_node names (tree_of s)) ++
    (mark_bytes_at mark k ++ left_from names mark (k + 1) (drop (k + 1) ms)))
one_left names mark ms k s within at =
    let here : drop k ms ≡ s ∷ drop (suc k) ms =
    drop-cons ms k s within ∙ ap (λ m. m ∷ drop (suc k) ms) (get_or_from_slice_get ms k s s at) in
    rw (here, add-one)

-- once the one there is written, those behind it are left
pub written_more : (a b c d before member mark left all : List ℕ) → b ≡ a ++ before → c ≡ b ++ member → d ≡ c ++ mark
    → a ++ (before ++ (member ++ (mark ++ left))) ≡ all → d ++ left ≡ all
written_more a b c d before member mark left all e f g h = rw (g, f, e) (simp append_assoc h)

module _ (names : List (List ℕ)) where
  -- a list without a mark
  unmarked : (first : Node) (ss : List Status) (k : ℕ)
      → members_bytes (canonical_row names first (trees_in ss))
      ≡ node_bytes first ++ left_from names None (suc k) ss
  unmarked first [] k = sym (append-nil (node_bytes first))
  unmarked first (s ∷ ss) k =
      ap (λ bs. node_bytes first ++ colon ∷ bs) (unmarked (canonical_node names (tree_of s)) ss (suc k))

  -- behind the marked member there is no mark
  behind_mark : (mark : Mark) (ss : List Status) (k : ℕ) → mark.member < k
      → left_from names (Some mark) k ss ≡ left_from names None k ss
  behind_mark mark [] k passed = refl
  behind_mark mark (s ∷ ss) k passed =
      let other : mark.member ≢ k = omega arith in
      rw (ne_eqb mark.member k other) (ap (λ bs. separator_at k ++
      (node_bytes (canonical_node names (tree_of s)) ++ bs)) (behind_mark mark ss (suc k) (omega arith)))

  -- a list with a mark on the member so many places behind its first one, which stands at place k
  marked : (mark : Mark) (first : Node) (ss : List Status) (j k : ℕ) → mark.member ≡ k + j
      → marked_bytes j (decimal mark.rank) (canonical_row names first (trees_in ss))
      ≡ node_bytes first ++ (mark_bytes_at (Some mark) k ++ left_from names (Some mark) (suc k) ss)
  marked mark first [] zero k at =
      let same : nat_eq mark.member k ≡ true = eq-eqb mark.member k (omega arith) in
      rw same (ap (λ bs. node_bytes first ++ caret ∷ bs) (sym (append-nil (decimal mark.rank))))
  marked mark first (s ∷ ss) zero k at =
      let same : nat_eq mark.member k ≡ true = eq-eqb mark.member k (omega arith) in
      let behind =
      ap (λ bs. decimal mark.rank ++ colon ∷ bs) (unmarked (canonical_node names (tree_of s)) ss (suc k))
      ∙ ap (λ bs. decimal mark.rank ++ bs) (sym (behind_mark mark (s ∷ ss) (suc k) (omega arith))) in
      rw same (ap (λ bs. node_bytes first ++ caret ∷ bs) behind)
  marked mark first [] (suc j) k at =
      let other : mark.member ≢ k = omega arith in
      rw (ne_eqb mark.member k other) (sym (append-nil (node_bytes first)))
  marked mark first (s ∷ ss) (suc j) k at =
      let other : mark.member ≢ k = omega arith in
      rw (ne_eqb mark.member k other) (ap (λ bs. node_bytes first ++ colon ∷ bs)
      (marked mark (canonical_node names (tree_of s)) ss j (suc k) (omega arith)))

  -- all members of a list
  pub all_left : (mark : Option Mark) (ms : List Status) → 1 ≤ length ms
      → left_from names mark 0 ms ≡ content_bytes (option_map canonical_mark mark)
      (list (canonical_members names (trees_in ms)))
  all_left mark [] some = absurd (omega arith)
  all_left None (s ∷ ss) some = sym (unmarked (canonical_node names (tree_of s)) ss 0)
  all_left (Some mark) (s ∷ ss) some =
      sym (marked mark (canonical_node names (tree_of s)) ss mark.member 0 (omega arith))
