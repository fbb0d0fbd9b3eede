-- An interest is told by its fractions: the rest of its places are known.
use Rattle.std.proofs.Common.{◌≡◌, ℕ, ◌-◌, ◌≤◌, ◌++◌, List, length, take, replicate, arith, refl}
use Rattle.std.proofs.lemmas.List.{length-take-le, take-append-drop}
use Rattle.halo_interest.specs.declared.interest.Interest.TheInside.{Inside}
use Rattle.halo_interest.specs.declared.rate.Rate.{Rate}
use Rattle.halo_interest.specs.Rates.{no_interest}
use Rattle.halo_interest.specs.Kept.{IsKept}

-- the places are the fractions, and no interest in the rest
places_back : (places : List Rate) (count : ℕ) → IsKept places count
    → take count places ++ replicate (8 - length (take count places)) no_interest ≡ places
places_back places count k =
    let fits : count ≤ length places = omega (arith, k.full, k.within)
    in rw (length-take-le count places fits, ← k.unused) (take-append-drop count places)

-- the number of fractions is the count
pub count_back : (places : List Rate) (count : ℕ)
    → IsKept places count → length (take count places) ≡ count
count_back places count k = length-take-le count places (omega (arith, k.full, k.within))

-- an interest's parts
abbrev pub inside_of : List Rate → ℕ → Inside
inside_of rates count = record { rates = rates; count = count }

-- equal parts make an equal interest
parts_back : (a b : List Rate) (m n : ℕ) → a ≡ b → m ≡ n → inside_of a m ≡ inside_of b n
parts_back a b m n e f = rw (e, f) refl

-- the fractions give the interest back
pub interest_back : (a : Inside) → IsKept a.rates a.count → record {
  rates = take a.count a.rates ++ replicate (8 - length (take a.count a.rates)) no_interest;
  count = length (take a.count a.rates);
} ≡ a
interest_back a k = parts_back _ a.rates _ a.count
    (places_back a.rates a.count k) (count_back a.rates a.count k)
