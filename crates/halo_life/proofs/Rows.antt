-- The set of the lives that have a row, one life more.
use Rattle.std.proofs.Common.{◌≡◌, ◌≢◌, ℕ, ◌+◌, ◌*◌, ◌%◌, ◌^◌, ◌<◌, ◌≤◌, Bool, true, false, ◌||◌, nat_eq, nat_lt, arith, ap, sym, ◌∙◌, ⊎_elim, refl}
use Rattle.std.specs.Prelude.{bit_or}
use Rattle.std.proofs.lemmas.Bool.{cases_lt}
use Rattle.std.proofs.lemmas.Bool.Decides.{nat_tests}
use Rattle.halo_sums.specs.Masks.{has_bit}
use Rattle.halo_status.proofs.Masks.{has_bit-or, has_bit-shl}

-- of the lives below a number exactly those that hold are in the set of a mask, and no life from there on
pub record AreRows (holds : ℕ → Bool) (count mask : ℕ) : Type 0 where
  pub each : (k : ℕ) → k < count → has_bit mask k ≡ holds k
  pub none : (k : ℕ) → count ≤ k → has_bit mask k ≡ false

beside : (a : Bool) (k i : ℕ) → k ≢ i → (a || nat_eq k i) ≡ a
beside true k i h = refl
beside false k i h = grind (arith, nat_tests)

at : (a : Bool) (k : ℕ) → (a || nat_eq k k) ≡ true
at true k = refl
at false k = grind (arith, nat_tests)

pub row-more : (holds : ℕ → Bool) (count mask : ℕ) → count < 16
    → holds count ≡ true → AreRows holds count mask → AreRows holds (count + 1) (bit_or mask (1 * 2 ^ count % 65536))
row-more holds count mask few is rows = record {
  each = λ k below. ⊎_elim
      (λ (before : k < count). joined k ∙ beside (has_bit mask k) k count (omega arith) ∙ rows.each k before)
      (λ (not_before : count ≤ k). let here : k ≡ count = omega arith in
      rw here (joined count ∙ at (has_bit mask count) count ∙ sym is))
      (cases_lt k count);
  none = λ k above. joined k ∙ beside (has_bit mask k) k count (omega arith) ∙ rows.none k (omega arith);
}
  where
    joined : (k : ℕ) → has_bit (bit_or mask (1 * 2 ^ count % 65536)) k ≡ (has_bit mask k || nat_eq k count)
    joined k = has_bit-or mask (1 * 2 ^ count % 65536) k ∙ ap (λ b. has_bit mask k || b) (has_bit-shl count k few)

pub row-less : (holds : ℕ → Bool) (count mask : ℕ)
    → holds count ≡ false → AreRows holds count mask → AreRows holds (count + 1) mask
row-less holds count mask is rows = record {
  each = λ k below. ⊎_elim
      (λ (before : k < count). rows.each k before)
      (λ (not_before : count ≤ k). let here : k ≡ count = omega arith in
      rw here (rows.none count (omega arith) ∙ sym is))
      (cases_lt k count);
  none = λ k above. rows.none k (omega arith);
}

pub no-rows : (holds : ℕ → Bool) (mask : ℕ) → ((k : ℕ) → has_bit mask k ≡ false) → AreRows holds 0 mask
no-rows holds mask empty = record { each = λ k below. absurd (omega arith); none = λ k above. empty k }

-- a count that is more than 0
pub is-some : (m n : ℕ) → m ≡ n → 0 < m → nat_lt 0 n ≡ true
is-some m n e h = grind (arith, nat_tests)

pub is-none : (m n : ℕ) → m ≡ n → m ≤ 0 → nat_lt 0 n ≡ false
is-none m n e h = grind (arith, nat_tests)
