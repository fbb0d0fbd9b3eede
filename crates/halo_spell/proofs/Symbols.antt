-- The text of a symbol is that of its parts.
use Rattle.std.proofs.Common.{◌≡◌, ℕ, List, [], ◌∷◌, ◌++◌, append_assoc}

-- parts that are written one after the other are written behind each other
pub parts_written : (a b c d e f g defer head causes content : List ℕ) (first last : ℕ) → b ≡ a ++ defer → c ≡ b ++ head
    → d ≡ c ++ causes → e ≡ d ++ first ∷ [] → f ≡ e ++ content → g ≡ f ++ last ∷ []
    → g ≡ a ++ (defer ++ (head ++ (causes ++ (first ∷ (content ++ last ∷ [])))))
parts_written a b c d e f g defer head causes content first last h i j k l m = rw (m, l, k, j, i, h) (simp append_assoc)
