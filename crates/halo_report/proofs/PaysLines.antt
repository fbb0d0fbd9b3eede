-- The lines of pays, one behind the other.
use Rattle.std.proofs.Common.{◌≡◌, ℕ, suc, ◌+◌, ◌<◌, List, ◌++◌, append_assoc, add-one, ap, drop, drop-cons, get_or, length, map, sym, ◌∙◌, refl}
use Rattle.std.proofs.lemmas.List.{get_or-map, get_or_default}
use Rattle.std.specs.Prelude.{slice_index_or}
use Rattle.halo_status.specs.Pay.{pay_of}
use Rattle.halo_status.specs.declared.pay.Pay.{Pay}
use Rattle.halo_report.specs.PaysText.{pays_lines, symbol_line}

-- what stands at a place is there whatever stands past the end
pub read-at : {A : Type 0} (xs : List A) (place : ℕ) (x d : A) → place < length xs → x ≡ slice_index_or xs place x
    → get_or xs place d ≡ x
read-at xs place x d within this = sym (this ∙ get_or_default xs place x d within)

-- and so it is in a list that is seen through a function
pub read-mapped : {A B : Type 0} (f : A → B) (xs : List A) (place : ℕ) (x : A) (d : B) → place < length xs
    → x ≡ slice_index_or xs place x → get_or (map f xs) place d ≡ f x
read-mapped f xs place x d within this = get_or-map f xs place x d within ∙ ap f (sym this)

module _ (lives causes : List (List ℕ)) (lines_at : ℕ → List ℕ) (pays : List Pay) where
  -- the line of a pay and the lines of its place, and those of the pays behind it
  pays_lines-drop : (place : ℕ) (pay : Pay) → place < length pays → pay ≡ slice_index_or pays place pay
      → pays_lines lives causes lines_at place (map pay_of (drop place pays))
      ≡ symbol_line lives causes (suc place) (pay_of pay) ++ lines_at place
      ++ pays_lines lives causes lines_at (suc place) (map pay_of (drop (suc place) pays))
  pays_lines-drop place pay more this =
      let here : slice_index_or pays place pay ≡ pay = sym this in
      rw (drop-cons pays place pay more, here) refl

  -- where the line of a pay is written, and then the lines of its place
  pub next-pay : (place : ℕ) (pay : Pay) (before symbol now all : List ℕ)
      → place < length pays → pay ≡ slice_index_or pays place pay
      → symbol ≡ before ++ symbol_line lives causes (place + 1) (pay_of pay)
      → now ≡ symbol ++ lines_at place
      → before ++ pays_lines lives causes lines_at place (map pay_of (drop place pays)) ≡ all
      → now ++ pays_lines lives causes lines_at (place + 1) (map pay_of (drop (place + 1) pays)) ≡ all
  next-pay place pay before symbol now all more this named written so_far =
      let line = symbol_line lives causes (suc place) (pay_of pay) in
      let others = pays_lines lives causes lines_at (suc place) (map pay_of (drop (suc place) pays)) in
      rw (
        written,
        named,
        add-one,
        append_assoc before line (lines_at place),
        append_assoc before (line ++ lines_at place) others,
      )
      (rw (pays_lines-drop place pay more this) at so_far)
