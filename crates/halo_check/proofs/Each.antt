-- Facts of each element of a list that is seen through a function, gathered from the front.
use Rattle.std.proofs.Common.{◌≡◌, ◌<◌, ◌≤◌, ◌+◌, ◌∙◌, ℕ, List, length, map, subst, take, sym}
use Rattle.std.specs.List.{AllWithin}
use Rattle.std.specs.Prelude.{All, slice_index_or}
use Rattle.std.proofs.lemmas.List.{length-map, get_or-map, get_or_default, map_more, take_all}
use Rattle.std.proofs.lemmas.List.Elements.{All-nil, All-push, AllWithin-more}

module _ {X Y : Type 0} (P : Y → Type 0) (f : X → Y) (xs : List X) where
  pub each_none : All P (map f (take 0 xs))
  each_none = All-nil P

  pub each_more : (k : ℕ) (d : X) → k < length xs → P (f (slice_index_or xs k d)) → All P (map f (take k xs))
      → All P (map f (take (k + 1) xs))
  each_more k d lt here before =
      subst (All P) (sym (map_more f xs k d lt))
      (All-push P (map f (take k xs)) (f (slice_index_or xs k d)) before here)

  pub each_done : (n : ℕ) → length xs ≤ n → All P (map f (take n xs)) → All P (map f xs)
  each_done n all before = subst (λ ys. All P (map f ys)) (take_all n xs all) before

  -- where P holds of each, it holds of the one at a place
  pub each_at : All P (map f xs) → (k : ℕ) (d : X) → k < length xs → P (f (slice_index_or xs k d))
  each_at all k d lt = subst P (get_or-map f xs k d (f d) lt) (all k (f d) (rw (length-map xs f) lt))

  -- and where it fails of one, it does not hold of each
  pub not_each : (k : ℕ) (d : X) → k < length xs → (P (f (slice_index_or xs k d)) → ⊥) → All P (map f xs) → ⊥
  not_each k d lt fails all = fails (each_at all k d lt)

-- a fact of the first elements and of the one behind them is one of them all
pub each_item : {X : Type 0} (P : X → Type 0) (xs : List X) (k : ℕ) (x : X) → k < length xs → x ≡ slice_index_or xs k x
    → AllWithin P xs 0 k → P x → AllWithin P xs 0 (k + 1)
each_item P xs k x lt at before here =
    AllWithin-more P xs 0 k before (λ d. subst P (at ∙ get_or_default xs k x d lt) here)
