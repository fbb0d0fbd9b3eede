-- How many lines a file has.
use Rattle.std.proofs.Common.{◌≤◌, ◌+◌, ℕ, Bool, true, false, List, [], ◌∷◌, bytes_eq, cond, drop, length, take, arith}
use Rattle.std.specs.List.{onto_first, slice_split}
use Rattle.std.proofs.lemmas.List.{length-drop, length-map}
use Rattle.halo_syntax.specs.FileLines.{byte_order_mark, is_line_feed, lines_of, without_empty_end, without_mark, without_return}

pieces_few : (p : ℕ → Bool) (xs : List ℕ) → length (slice_split p xs) ≤ length xs + 1
pieces_few p [] = omega arith
pieces_few p (x ∷ xs) =
    let more : length (slice_split p (x ∷ xs)) ≤ length xs + 1 + 1 = go (p x) (slice_split p xs) (pieces_few p xs) in
    omega (arith, more)
  where
    go : (b : Bool) (parts : List (List ℕ)) → length parts ≤ length xs + 1
        → length (cond b ([] ∷ parts) (onto_first x parts)) ≤ length xs + 1 + 1
    go true parts few = omega (arith, few)
    go false [] few = omega arith
    go false (part ∷ parts) few = omega (arith, few)

end_fewer : (pieces : List (List ℕ)) → length (without_empty_end pieces) ≤ length pieces
end_fewer [] = omega arith
end_fewer ([] ∷ []) = omega arith
end_fewer ((b ∷ bs) ∷ []) = omega arith
end_fewer (piece ∷ next ∷ pieces) = let rest = end_fewer (next ∷ pieces) in go piece rest
  where
    go : (piece : List ℕ) → length (without_empty_end (next ∷ pieces)) ≤ length (next ∷ pieces)
        → length (without_empty_end (piece ∷ next ∷ pieces)) ≤ length (piece ∷ next ∷ pieces)
    go [] rest = omega (arith, rest)
    go (b ∷ bs) rest = omega (arith, rest)

mark_shorter : (bytes : List ℕ) → length (without_mark bytes) ≤ length bytes
mark_shorter bytes = go (bytes_eq (take 3 bytes) byte_order_mark)
  where
    go : (b : Bool) → length (cond b (drop 3 bytes) bytes) ≤ length bytes
    go true = omega (arith, length-drop 3 bytes)
    go false = omega arith

pub lines_few : (bytes : List ℕ) → length (lines_of bytes) ≤ length bytes + 1
lines_few bytes =
    omega (
      arith,
      length-map (without_empty_end (slice_split is_line_feed (without_mark bytes))) without_return,
      end_fewer (slice_split is_line_feed (without_mark bytes)),
      pieces_few is_line_feed (without_mark bytes),
      mark_shorter bytes,
    )
