-- The places of an interest as it is made and as it grows.
use Rattle.std.proofs.Common.{◌≡◌, ℕ, ◌+◌, ◌-◌, ◌<◌, ◌≤◌, ◌++◌, [], ◌∷◌, List, length, take, set, get_or, replicate, arith, refl, ⊎_elim, sym, ◌∙◌, length-append, length-set}
use Rattle.std.proofs.lemmas.Bool.{cases_lt}
use Rattle.std.proofs.lemmas.List.{length-take-le, take_more_set, drop-set-lt, drop-drop, drop-replicate, get_or_append_left, get_or_default, get_or-take}
use Rattle.std.proofs.Math.Seq.{get_or-append_seam}
use Rattle.halo_interest.specs.declared.rate.Rate.{Rate}
use Rattle.halo_interest.specs.Rates.{IsFraction, IsInterest, CanFollow, no_interest, rate_at}
use Rattle.halo_interest.specs.Kept.{IsKept}
use Rattle.halo_interest.specs.Back.{count_back}

-- one fraction is an interest
one_rate : (r : Rate) → r.year ≡ 0 → IsFraction r.p r.q → IsInterest (r ∷ [])
one_rate r e f =
    record {
      some = omega arith;
      room = omega arith;
      start = e;
      fractions = λ i l. let z : i ≡ 0 = omega arith in rw z f;
      years = λ i l. let z : i ≡ 0 = omega arith in rw z (omega arith);
      increasing = λ i l. absurd (omega arith);
    }

-- it is kept in the first place
pub kept_first : (r : Rate) → r.year ≡ 0 → IsFraction r.p r.q → IsKept (set (replicate 8 no_interest) 0 r) 1
kept_first r e f = record { full = refl; within = omega arith; interest = one_rate r e f; unused = refl }

-- a fraction that may follow makes an interest of one more
followed : (rates : List Rate) (r : Rate) → IsInterest rates → CanFollow rates r.year r.p r.q
    → IsInterest (rates ++ r ∷ [])
followed rates r a f =
    let n = length rates
    in let len : length (rates ++ r ∷ []) ≡ n + 1 = length-append rates (r ∷ [])
    in let old : (i : ℕ) → i < n → rate_at (rates ++ r ∷ []) i ≡ rate_at rates i =
    λ i l. get_or_append_left rates (r ∷ []) no_interest i l
    in let new : rate_at (rates ++ r ∷ []) n ≡ r = get_or-append_seam rates r [] no_interest
    in record {
      some = omega arith;
      room = omega (arith, f.room);
      start = rw (old 0 a.some) a.start;
      fractions = λ i l.
          ⊎_elim
          (λ (q : i < n). rw (old i q) (a.fractions i q))
          (λ (q : n ≤ i). let e : i ≡ n = omega arith in rw (e, new) f.fraction)
          (cases_lt i n);
      years = λ i l.
          ⊎_elim
          (λ (q : i < n). rw (old i q) (a.years i q))
          (λ (q : n ≤ i). let e : i ≡ n = omega arith in rw (e, new) f.year_in)
          (cases_lt i n);
      increasing = λ i l.
          ⊎_elim
          (λ (q : i + 1 < n). rw (old i (omega arith), old (i + 1) q) (a.increasing i q))
          (λ (q : n ≤ i + 1).
          let e : i + 1 ≡ n = omega arith
          in let b : i ≡ n - 1 = omega arith
          in rw (old i (omega arith), e, new, b) f.later)
          (cases_lt (i + 1) n);
    }

-- it is kept in the next place
pub kept_more : (places : List Rate) (count : ℕ) (r : Rate) → IsKept places count
    → CanFollow (take count places) r.year r.p r.q → IsKept (set places count r) (count + 1)
kept_more places count r k f =
    let len : length (take count places) ≡ count = length-take-le count places (omega (arith, k.full, k.within))
    in let room : count < 8 = omega (arith, f.room)
    in let fits : count < length places = omega (arith, k.full)
    in record {
      full = simp length-set k.full;
      within = omega arith;
      interest = rw (take_more_set places count r fits) (followed (take count places) r k.interest f);
      unused =
          rw (
            drop-set-lt (count + 1) places count r (omega arith),
            ← drop-drop 1 count places,
            k.unused,
            drop-replicate
                1 (8 - count) no_interest,
          ) (let e : 8 - count - 1 ≡ 8 - (count + 1) = omega arith in rw e refl);
    }

-- a place within the count holds the fraction there
pub place_kept : (places : List Rate) (count i : ℕ) (d : Rate) → IsKept places count → i < length (take count places)
    → get_or places i d ≡ rate_at (take count places) i
place_kept places count i d k l =
    let len = count_back places count k
    in let fits : i < length places = omega (arith, k.full, k.within)
    in let within : i < count = omega (arith, len)
    in get_or_default places i d no_interest fits ∙ sym (get_or-take count places i no_interest within)

-- and it holds a fraction of interest
pub fraction_kept : (places : List Rate) (count i : ℕ) (d : Rate) → IsKept places count → i < length (take count places)
    → IsFraction (get_or places i d).p (get_or places i d).q
fraction_kept places count i d k l = rw (place_kept places count i d k l) (k.interest.fractions i l)
