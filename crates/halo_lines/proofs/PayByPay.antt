-- The pay at a place and its value, and the lines of the pays up to it.
use Rattle.std.proofs.Common.{◌≡◌, ℕ, Bool, zero, suc, ◌+◌, ◌<◌, ◌≤◌, ◌++◌, List, [], ◌∷◌, drop, get_or, length, map, take, arith, ap, sym, ◌∙◌}
use Rattle.std.specs.List.{AllZip}
use Rattle.std.proofs.lemmas.List.{get_or-map, map-append, map_more, take-append-drop}
use Rattle.halo_sums.specs.Sums.{sum_over}
use Rattle.halo_sums.proofs.Sums.{sum_over-append}
use Rattle.halo_num.specs.Ends.{Ends}
use Rattle.halo_premium.specs.declared.TheConstants.{GREATEST_AMOUNT}
use Rattle.halo_status.specs.Pay.{PlainPay, pay_of}
use Rattle.halo_status.specs.declared.pay.Pay.{Pay}
use Rattle.halo_model.specs.Basis.{Basis}
use Rattle.halo_model.specs.Enclosed.{EnclosesOne}
use Rattle.halo_lines.specs.Values.{AreValues, HaveRoom, IsSmall}

-- two lists that match are matched at each place, and by one pair more
zip-at : {A B : Type 0} (R : A → B → Type 0) (xs : List A) (ys : List B) (k : ℕ) (d : A) (e : B)
    → AllZip R xs ys → k < length ys → R (get_or xs k d) (get_or ys k e)
zip-at R [] [] k d e all within = absurd (omega arith)
zip-at R (x ∷ xs) (y ∷ ys) zero d e all within = all.0
zip-at R (x ∷ xs) (y ∷ ys) (suc k) d e all within = zip-at R xs ys k d e all.1 (omega arith)
zip-at R [] (y ∷ ys) k d e all within = absurd all
zip-at R (x ∷ xs) [] k d e all within = absurd all

pub zip-push : {A B : Type 0} (R : A → B → Type 0) (xs : List A) (ys : List B) (x : A) (y : B)
    → AllZip R xs ys → R x y → AllZip R (xs ++ x ∷ []) (ys ++ y ∷ [])
zip-push R [] [] x y all new = (new, tt)
zip-push R (a ∷ xs) (b ∷ ys) x y all new = (all.0, zip-push R xs ys x y all.1 new)
zip-push R [] (b ∷ ys) x y all new = absurd all
zip-push R (a ∷ xs) [] x y all new = absurd all

-- the amounts of some pays, of one more, and of the first ones
abbrev pub amounts : List PlainPay → ℕ
amounts pays = sum_over pays (λ pay. pay.amount)

pub amounts-more : (pays : List PlainPay) (pay : PlainPay) → amounts (pays ++ pay ∷ []) ≡ amounts pays + pay.amount
amounts-more pays pay = sum_over-append pays (pay ∷ []) (λ p. p.amount) ∙ omega arith

amounts-first : {X : Type 0} (f : X → PlainPay) (xs : List X) (n : ℕ) → amounts (map f (take n xs)) ≤ amounts (map f xs)
amounts-first f xs n =
    let parts : map f (take n xs) ++ map f (drop n xs) ≡ map f xs
    = sym (map-append f (take n xs) (drop n xs)) ∙ ap (map f) (take-append-drop n xs) in
    omega
    (arith, ap amounts parts, sum_over-append (map f (take n xs)) (map f (drop n xs)) (λ (p : PlainPay). p.amount))

-- what is known of the pay at a place and of its value
pub record IsPayAt (pays : List Pay) (values : List Ends) (place : ℕ) (pay : Pay) (value : Ends) : Type 0 where
  pub listed : map pay_of (take (place + 1) pays) ≡ map pay_of (take place pays) ++ pay_of pay ∷ []
  pub small : IsSmall value
  pub few : amounts (map pay_of (take place pays)) + pay.amount ≤ GREATEST_AMOUNT
  pub enclosed : (b : Basis) (T : ℕ) (S : ℕ → Bool) → AreValues b T S (map pay_of pays) values
      → EnclosesOne b (pay_of pay) T S value

pub pay-at : (pays : List Pay) (values : List Ends) (place : ℕ) (d : Pay) (value : Ends)
    → HaveRoom (map pay_of pays) values → length values ≡ length pays → place < length pays
    → value ≡ get_or values place value → IsPayAt pays values place (get_or pays place d) value
pay-at pays values place d value has same within value_at =
    let pay : Pay = get_or pays place d in
    let before = map pay_of (take place pays) in
    let listed : map pay_of (take (place + 1) pays) ≡ before ++ pay_of pay ∷ [] = map_more pay_of pays place d within in
    let first = amounts-first pay_of pays (place + 1) in
    let mapped : get_or (map pay_of pays) place (pay_of d) ≡ pay_of pay =
    get_or-map pay_of pays place d (pay_of d) within in
    let there : get_or values place value ≡ value = sym value_at in
    record {
      listed = listed;
      small = rw there at (has.small place value (omega (arith, same)));
      few = omega (arith, first, ap amounts listed, amounts-more before (pay_of pay), has.amounts);
      enclosed = λ b T S are. rw (mapped, there) at
          (zip-at
          (λ p v. EnclosesOne b p T S v) (map pay_of pays) values place (pay_of d) value are (omega (arith, same)));
    }
