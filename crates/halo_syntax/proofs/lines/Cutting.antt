-- Lines, cut at line feeds.
use Rattle.std.proofs.Common.{◌≡◌, ◌≢◌, ℕ, ◌+◌, ◌<◌, ◌≤◌, ◌==◌, List, [], ◌∷◌, ◌++◌, cond, ap, ap₂, ◌∙◌, refl, sym, subst, arith, length, take, drop, map, inl, inr}
use Rattle.std.specs.List.{position_or_len, slice_split, after_first, before_first}
use Rattle.std.proofs.lemmas.Bool.{cases_Bool, cases_lt, eqb-true}
use Rattle.std.proofs.lemmas.List.{drop_all, take_all}
use Rattle.std.proofs.lemmas.List.Splits.{length-slice_split, slice_split_first, slice_split_none}
use Rattle.std.proofs.lemmas.List.Sums.{fails_before_first}
use Rattle.halo_syntax.specs.FileLines.{is_line_feed, without_empty_end, without_return}
use Rattle.halo_syntax.specs.LinesLeft.{lines_left}

-- the carriage return at a line's end is dropped
pub without_return-at : (front : List ℕ) → without_return (front ++ 13 ∷ []) ≡ front
without_return-at [] = refl
without_return-at (byte ∷ []) = refl
without_return-at (byte ∷ next ∷ front) = ap (λ rest. byte ∷ rest) (without_return-at (next ∷ front))

-- a line that ends with no carriage return stays
pub without_return-none : (line : List ℕ) → ((front : List ℕ) → line ≢ front ++ 13 ∷ []) → without_return line ≡ line
without_return-none [] none = refl
without_return-none (byte ∷ []) none = elim (cases_Bool (byte == 13)) [
  | inl same ↦ absurd (none [] (ap (λ b. b ∷ []) (eqb-true byte 13 same)))
  | inr other ↦ ap (λ t. cond t [] (byte ∷ [])) other
]
without_return-none (byte ∷ next ∷ rest) none =
    ap (λ l. byte ∷ l) (without_return-none (next ∷ rest) (λ front e. none (byte ∷ front) (ap (λ l. byte ∷ l) e)))

-- only the last piece can be the empty one that is dropped
without_empty_end-more : (piece : List ℕ) (pieces : List (List ℕ)) → 0 < length pieces
    → without_empty_end (piece ∷ pieces) ≡ piece ∷ without_empty_end pieces
without_empty_end-more piece [] some = absurd (omega arith)
without_empty_end-more [] (next ∷ pieces) some = refl
without_empty_end-more (byte ∷ piece) (next ∷ pieces) some = refl

-- the one piece of some bytes is not dropped
without_empty_end-one : (piece : List ℕ) → 0 < length piece → without_empty_end (piece ∷ []) ≡ piece ∷ []
without_empty_end-one [] some = absurd (omega arith)
without_empty_end-one (byte ∷ piece) some = refl

-- the first line ends before the first line feed, where there is one
lines_left-first : (bytes : List ℕ) → position_or_len is_line_feed bytes < length bytes
    → lines_left bytes ≡ without_return (before_first is_line_feed bytes) ∷ lines_left (after_first is_line_feed bytes)
lines_left-first bytes within =
    let behind = slice_split is_line_feed (after_first is_line_feed bytes) in
    let some : 0 < length behind = omega (arith, length-slice_split is_line_feed (after_first is_line_feed bytes)) in
    ap (λ pieces. map without_return (without_empty_end pieces)) (slice_split_first is_line_feed bytes 0 within)
    ∙ ap (map without_return) (without_empty_end-more (before_first is_line_feed bytes) behind some)

-- some bytes without line feed are one line
lines_left-one : (bytes : List ℕ) → 0 < length bytes → length bytes ≤ position_or_len is_line_feed bytes
    → lines_left bytes ≡ without_return bytes ∷ []
lines_left-one bytes some none =
    ap (λ pieces. map without_return (without_empty_end pieces))
    (slice_split_none is_line_feed bytes (λ k d lt. fails_before_first is_line_feed bytes k d (omega arith)))
    ∙ ap (map without_return) (without_empty_end-one bytes some)

-- the first of the lines that are left, and those behind it
pub lines_left-next : (bytes : List ℕ) (end : ℕ) → 0 < length bytes → end ≡ position_or_len is_line_feed bytes
    → lines_left bytes ≡ without_return (take end bytes) ∷ lines_left (drop (end + 1) bytes)
lines_left-next bytes end some is = elim (cases_lt (position_or_len is_line_feed bytes) (length bytes)) [
  | inl within ↦
      subst (λ n. lines_left bytes ≡ without_return (take n bytes) ∷ lines_left (drop (n + 1) bytes)) (sym is)
      (lines_left-first bytes within)
  | inr none ↦
      lines_left-one bytes some none
      ∙ ap₂ (λ line left. without_return line ∷ lines_left left) (sym (take_all end bytes (omega arith)))
      (sym (drop_all (end + 1) bytes (omega arith)))
]
