-- The fractions of an interest line, one after the other.
use Rattle.std.proofs.Common.{◌≡◌, ◌<◌, ◌≤◌, ◌+◌, ◌-◌, ◌∙◌, ℕ, zero, suc, List, [], ◌∷◌, ◌++◌, length, map, take, get_or, ap, sym, arith, refl}
use Rattle.std.specs.Prelude.{All}
use Rattle.std.proofs.lemmas.List.{get_or_at, length-map, length_push, map-append, map_more, take_all}
use Rattle.halo_text.specs.Number.{number}
use Rattle.halo_interest.specs.Rates.{CanFollow, IsFraction, no_interest, rate_at}
use Rattle.halo_interest.specs.declared.rate.Rate.{Rate}
use Rattle.halo_check.specs.Checks.{YearsRise}
use Rattle.halo_check.specs.Draft.{rate_from}
use Rattle.halo_syntax.specs.Line as plain
use Rattle.halo_syntax.specs.LineView.{plain_rate}
use Rattle.halo_syntax.specs.declared.line.LaterRate.{LaterRate}
use Rattle.halo_check.proofs.Each.{each_at}
use Rattle.halo_check.proofs.Years.{no_rate, year_here}

-- what holds of each fraction holds of the one at a place
pub rate_here : (P : plain.LaterRate → Type 0) (rates : List LaterRate) (k : ℕ) → All P (map plain_rate rates)
    → k < length rates → P (plain_rate (get_or rates k no_rate))
rate_here P rates k all lt = each_at P plain_rate rates all k no_rate lt

-- the fraction of a later rate
abbrev pub fraction_of : LaterRate → Rate
fraction_of rate = rate_from (plain_rate rate)

-- the year of the fraction before a place, 0 for the first later one
abbrev pub year_before : List LaterRate → ℕ → ℕ
year_before rates zero = 0
year_before rates (suc k) = number (get_or rates k no_rate).year.now

-- an interest of a first fraction and so many later ones
pub record HasRates (first : Rate) (rates : List LaterRate) (k : ℕ) (interest : List Rate) : Type 0 where
  pub is : interest ≡ first ∷ map rate_from (map plain_rate (take k rates))
  pub count : length interest ≡ k + 1
  pub last : (rate_at interest k).year ≡ year_before rates k

pub no_later : (first : Rate) (rates : List LaterRate) → first.year ≡ 0 → HasRates first rates 0 (first ∷ [])
no_later first rates start = record { is = refl; count = refl; last = start }

pub one_later : (first : Rate) (rates : List LaterRate) (k : ℕ) (interest more : List Rate) → k < length rates
    → HasRates first rates k interest
    → more ≡ interest ++ fraction_of (get_or rates k no_rate) ∷ [] → HasRates first rates (k + 1) more
one_later first rates k interest more lt has e = record {
  is =
      e ∙ ap (λ rs. rs ++ fraction_of (get_or rates k no_rate) ∷ []) has.is
      ∙ sym (ap (λ rs. first ∷ map rate_from rs) (map_more plain_rate rates k no_rate lt)
      ∙ ap (λ rs. first ∷ rs) (map-append rate_from (map plain_rate (take k rates))
      (plain_rate (get_or rates k no_rate) ∷ [])));
  count = ap length e ∙ length_push interest (fraction_of (get_or rates k no_rate)) ∙ omega (arith, has.count);
  last =
      ap (λ rs. (rate_at rs (k + 1)).year) e ∙ ap (λ (r : Rate). r.year)
      (get_or_at interest (fraction_of (get_or rates k no_rate)) [] no_interest (k + 1) has.count)
      ∙ next (k + 1) refl;
}
  where
    next : (n : ℕ) → n ≡ k + 1 → number (get_or rates k no_rate).year.now ≡ year_before rates n
    next zero e = absurd (omega (arith, e))
    next (suc m) e = let same : m ≡ k = omega (arith, e) in rw same refl

pub all_later : (first : Rate) (rates : List LaterRate) (k : ℕ) (interest : List Rate) → length rates ≤ k
    → HasRates first rates k interest → interest ≡ first ∷ map rate_from (map plain_rate rates)
all_later first rates k interest all has =
    has.is ∙ ap (λ rs. first ∷ map rate_from (map plain_rate rs)) (take_all k rates all)

-- the next fraction may follow
pub may_follow : (first : Rate) (rates : List LaterRate) (k : ℕ) (interest : List Rate) → k < length rates
    → length rates < 8 → HasRates first rates k interest → YearsRise (map plain_rate rates)
    → 1 ≤ number (get_or rates k no_rate).year.now → number (get_or rates k no_rate).year.now ≤ 199
    → IsFraction (number (get_or rates k no_rate).p.now) (number (get_or rates k no_rate).q.now)
    → CanFollow interest (number (get_or rates k no_rate).year.now) (number (get_or rates k no_rate).p.now)
    (number (get_or rates k no_rate).q.now)
may_follow first rates k interest lt few has rise some within fraction = record {
  fraction = fraction;
  year_in = within;
  later = rw at (rw has.last (below k lt some));
  room = omega (arith, has.count, lt, few);
}
  where
    at : length interest - 1 ≡ k
    at = omega (arith, has.count)

    below : (n : ℕ) → n < length rates → 1 ≤ number (get_or rates n no_rate).year.now
        → year_before rates n < number (get_or rates n no_rate).year.now
    below zero lt some = omega (arith, some)
    below (suc m) lt some =
        let next : m + 1 ≡ suc m = omega arith in
        let up = rise m (rw (length-map rates plain_rate) (omega (arith, lt))) in
        omega (arith, rw next at up, year_here rates m (omega (arith, lt)), year_here rates (suc m) lt)
