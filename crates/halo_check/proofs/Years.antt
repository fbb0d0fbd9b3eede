-- The years of the fractions of an interest line.
use Rattle.std.proofs.Common.{◌≡◌, ◌<◌, ◌≤◌, ◌+◌, ◌-◌, ◌∙◌, ℕ, List, [], length, map, get_or, ap, arith, inl, inr}
use Rattle.std.proofs.lemmas.List.{get_or-map, length-map}
use Rattle.std.proofs.lemmas.Bool.{cases_lt}
use Rattle.halo_text.specs.Number.{number}
use Rattle.halo_check.specs.Checks.{year_at}
use Rattle.halo_syntax.specs.Line as plain
use Rattle.halo_syntax.specs.LineView.{plain_rate}
use Rattle.halo_syntax.specs.declared.line.LaterRate.{LaterRate}

-- the fraction that is read past the end
abbrev pub no_rate : LaterRate
no_rate =
    record {
      year = record { ref_ptr = (0, 0); now = [] };
      p = record { ref_ptr = (0, 0); now = [] };
      q = record { ref_ptr = (0, 0); now = [] };
    }

-- the year at a place is that of the fraction there in memory
pub year_here : (rates : List LaterRate) (k : ℕ) → k < length rates
    → year_at (map plain_rate rates) k ≡ number (get_or rates k no_rate).year.now
year_here rates k lt =
    ap number
    (get_or-map (λ (rate : plain.LaterRate). rate.year) (map plain_rate rates) k (plain_rate no_rate) []
    (rw (length-map rates plain_rate) lt)
    ∙ ap (λ (rate : plain.LaterRate). rate.year) (get_or-map plain_rate rates k no_rate (plain_rate no_rate) lt))

-- years that rise before a place rise up to it where its year is above the one before
pub rising_more : (rates : List plain.LaterRate) (n : ℕ) → 1 ≤ n
    → ((i : ℕ) → i + 1 < n → year_at rates i < year_at rates (i + 1)) → year_at rates (n - 1) < year_at rates n
    → (i : ℕ) → i + 1 < n + 1 → year_at rates i < year_at rates (i + 1)
rising_more rates n some before here i below = elim (cases_lt (i + 1) n) [
  | inl lt ↦ before i lt
  | inr le ↦ let last : i ≡ n - 1 = omega arith in let next : n - 1 + 1 ≡ n = omega arith in rw (last, next) here
]
