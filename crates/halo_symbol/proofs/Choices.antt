-- What comes next is decided.
use Rattle.std.proofs.Common.{◌≡◌, ◌⊎◌, ℕ, List, [], ◌∷◌, ap, arith, inl, inr, refl}
use Rattle.std.proofs.lemmas.Bool.{cases_eq}
use Rattle.halo_symbol.specs.Piece.{Piece, name, bar, number, byte}
use Rattle.halo_symbol.specs.Next.{NotNext, NoNumberNext, NoNameNext}
use Rattle.halo_symbol.proofs.Unique.{first_code}

-- this byte comes next or does not
pub byte_next : (b : ℕ) (ts : List Piece) → ((us : List Piece) × (ts ≡ byte b ∷ us)) ⊎ NotNext b ts
byte_next b [] = inr (λ us e. absurd cc)
byte_next b (byte a ∷ ts) = elim (cases_eq a b) [
  | inl same ↦ inl (ts, ap (λ (c : ℕ). byte c ∷ ts) same)
  | inr differ ↦ inr (λ us e. differ (omega (arith, ap first_code e)))
]
byte_next b (name text ∷ ts) = inr (λ us e. absurd (omega (arith, ap first_code e)))
byte_next b (bar ∷ ts) = inr (λ us e. absurd (omega (arith, ap first_code e)))
byte_next b (number digits ∷ ts) = inr (λ us e. absurd (omega (arith, ap first_code e)))

-- a number comes next or none does
pub number_next : (ts : List Piece)
    → ((digits : List ℕ) × (us : List Piece) × (ts ≡ number digits ∷ us)) ⊎ NoNumberNext ts
number_next (number digits ∷ ts) = inl (digits, ts, refl)
number_next [] = inr (λ digits us e. absurd cc)
number_next (name text ∷ ts) = inr (λ digits us e. absurd (omega (arith, ap first_code e)))
number_next (bar ∷ ts) = inr (λ digits us e. absurd (omega (arith, ap first_code e)))
number_next (byte b ∷ ts) = inr (λ digits us e. absurd (omega (arith, ap first_code e)))

-- a name comes next or none does
pub name_next : (ts : List Piece) → ((text : List ℕ) × (us : List Piece) × (ts ≡ name text ∷ us)) ⊎ NoNameNext ts
name_next (name text ∷ ts) = inl (text, ts, refl)
name_next [] = inr (λ text us e. absurd cc)
name_next (number digits ∷ ts) = inr (λ text us e. absurd (omega (arith, ap first_code e)))
name_next (bar ∷ ts) = inr (λ text us e. absurd (omega (arith, ap first_code e)))
name_next (byte b ∷ ts) = inr (λ text us e. absurd (omega (arith, ap first_code e)))
