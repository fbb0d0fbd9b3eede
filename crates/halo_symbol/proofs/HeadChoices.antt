-- A name is a head or is none.
use Rattle.std.proofs.Common.{◌≡◌, ◌⊎◌, ℕ, List, [], ◌∷◌, ◌++◌, length, ap, ap₂, arith, inl, inr, refl, subst, sym}
use Rattle.std.specs.Prelude.{All}
use Rattle.std.proofs.lemmas.Bool.{cases_eq, cases_lt}
use Rattle.std.proofs.lemmas.List.Elements.{All-cons, All-head, All-nil}
use Rattle.halo_text.specs.Number.{IsDigit, IsNumber}
use Rattle.halo_lex.specs.Lexeme.{BeginsWithout}
use Rattle.halo_status.specs.declared.pay.Kind.{Kind}
use Rattle.halo_status.specs.declared.pay.Kind.TheVariants.{Insurance, Immediate, Due}
use Rattle.halo_symbol.specs.Characters.{letter_D, letter_I}
use Rattle.halo_symbol.specs.Symbol.{Vary, level, increasing, decreasing}
use Rattle.halo_symbol.specs.Bytes.{head_text, kind_text}
use Rattle.halo_symbol.specs.Proper.{IsProperVary}
use Rattle.halo_symbol.proofs.Heads.{first_byte, tail, kind_text-first, no_kind}

-- two texts are the same or are not
pub same_text : (xs ys : List ℕ) → (xs ≡ ys) ⊎ (xs ≡ ys → ⊥)
same_text [] [] = inl refl
same_text [] (y ∷ ys) = inr (λ e. absurd cc)
same_text (x ∷ xs) [] = inr (λ e. absurd cc)
same_text (x ∷ xs) (y ∷ ys) = elim (cases_eq x y) [
  | inr differ ↦ inr (λ e. differ cc)
  | inl first ↦
      elim (same_text xs ys) [
        | inr differ ↦ inr (λ e. differ (tail e))
        | inl rest ↦ inl
            (ap₂ (λ (b : ℕ) (bs : List ℕ). b ∷ bs) first rest)
      ]
]

-- the kind that letters are, or that they are none
abbrev KindChoice : List ℕ → Type 0
KindChoice letters = ((k : Kind) × (letters ≡ kind_text k)) ⊎ ((k : Kind) → letters ≡ kind_text k → ⊥)

kind_choice : (letters : List ℕ) → KindChoice letters
kind_choice letters = elim (same_text letters (kind_text Insurance)) [
  | inl same ↦ inl (Insurance, same)
  | inr no_insurance ↦ elim (same_text letters (kind_text Immediate)) [
    | inl same ↦ inl (Immediate, same)
    | inr no_immediate ↦ elim (same_text letters (kind_text Due)) [
      | inl same ↦ inl (Due, same)
      | inr no_due ↦ inr (no_kind_of no_insurance no_immediate no_due)
    ]
  ]
]
  where
    no_kind_of : (letters ≡ kind_text Insurance → ⊥) → (letters ≡ kind_text Immediate → ⊥)
        → (letters ≡ kind_text Due → ⊥) → (k : Kind) → letters ≡ kind_text k → ⊥
    no_kind_of a b c Insurance = a
    no_kind_of a b c Immediate = b
    no_kind_of a b c Due = c

-- the digits in front, as far as they go
record DigitsFirst (bytes : List ℕ) : Type 0 where
  digits : List ℕ
  rest : List ℕ
  whole : bytes ≡ digits ++ rest
  all : All IsDigit digits
  stops : BeginsWithout IsDigit rest

digit_choice : (b : ℕ) → IsDigit b ⊎ (IsDigit b → ⊥)
digit_choice b = elim (cases_lt b 48) [
  | inl low ↦ inr (λ digit. omega arith)
  | inr above ↦ elim (cases_lt 57 b) [ inl high ↦ inr (λ digit. omega arith) | inr below ↦ inl (above, below) ]
]

digits_first : (bytes : List ℕ) → DigitsFirst bytes
digits_first [] = record { digits = []; rest = []; whole = refl; all = All-nil IsDigit; stops = tt }
digits_first (b ∷ bytes) = elim (digit_choice b) [
  | inr other ↦ record { digits = []; rest = b ∷ bytes; whole = refl; all = All-nil IsDigit; stops = other }
  | inl digit ↦
      let more = digits_first bytes in
      record {
        digits = b ∷ more.digits;
        rest = more.rest;
        whole = ap (λ bs. b ∷ bs) more.whole;
        all = All-cons IsDigit b more.digits digit more.all;
        stops = more.stops;
      }
]

-- a head that a text is
pub record AHead (text : List ℕ) : Type 0 where
  pub vary : Vary
  pub kind : Kind
  pub proper : IsProperVary vary
  pub is : text ≡ head_text vary kind

abbrev pub NoHead : List ℕ → Type 0
NoHead text = (v : Vary) (k : Kind) → IsProperVary v → text ≡ head_text v k → ⊥

-- behind `D` a digit has to come
no_digits : (rest : List ℕ) → BeginsWithout IsDigit rest → NoHead (letter_D ∷ rest)
no_digits rest stops level k p e = kind_text-first k letter_D rest (omega arith) (omega arith) (sym e)
no_digits rest stops increasing k p e = absurd (omega (arith, ap first_byte e))
no_digits rest stops (decreasing []) k p e = let some = p.0 in absurd (omega arith)
no_digits [] stops (decreasing (n ∷ ns)) k p e = absurd (omega (arith, ap length (tail e)))
no_digits (b ∷ rest) stops (decreasing (n ∷ ns)) k p e =
    let first : b ≡ n = ap first_byte (tail e) in
    stops (subst IsDigit (sym first) (All-head IsDigit n ns p.1))

-- a head by the digits behind `D`
decreasing_by : (digits rest : List ℕ) → All IsDigit digits → BeginsWithout IsDigit rest
    → AHead (letter_D ∷ (digits ++ rest)) ⊎ NoHead (letter_D ∷ (digits ++ rest))
decreasing_by [] rest all stops = inr (no_digits rest stops)
decreasing_by (b ∷ digits) rest all stops =
    let count : IsNumber (b ∷ digits) = (omega arith, all) in
    elim (kind_choice rest) [
      | inl kind ↦
          inl (record {
            vary = decreasing (b ∷ digits);
            kind = kind.0;
            proper = count;
            is = ap (λ (bs : List ℕ). letter_D ∷ b ∷ (digits ++ bs)) kind.1;
          })
      | inr none ↦ inr (no_kind (b ∷ digits) rest count stops none)
    ]

-- no head begins with another byte than `I` and `D`, where the text is no kind
no_other_head : (b : ℕ) (bytes : List ℕ) → ((k : Kind) → b ∷ bytes ≡ kind_text k → ⊥) → (b ≡ letter_I → ⊥)
    → (b ≡ letter_D → ⊥) → NoHead (b ∷ bytes)
no_other_head b bytes none no_I no_D level k p e = none k e
no_other_head b bytes none no_I no_D increasing k p e = no_I (ap first_byte e)
no_other_head b bytes none no_I no_D (decreasing n) k p e = no_D (ap first_byte e)

-- none begins with `I`, where no kind stands behind it
no_increasing : (bytes : List ℕ) → ((k : Kind) → bytes ≡ kind_text k → ⊥) → NoHead (letter_I ∷ bytes)
no_increasing bytes none level k p e = kind_text-first k letter_I bytes (omega arith) (omega arith) (sym e)
no_increasing bytes none increasing k p e = none k (tail e)
no_increasing bytes none (decreasing n) k p e = absurd (omega (arith, ap first_byte e))

-- no head is empty
no_empty : NoHead []
no_empty level Insurance p e = absurd cc
no_empty level Immediate p e = absurd cc
no_empty level Due p e = absurd cc
no_empty increasing k p e = absurd cc
no_empty (decreasing n) k p e = absurd cc

-- a text is a head or is none
pub head_choice : (text : List ℕ) → AHead text ⊎ NoHead text
head_choice [] = inr no_empty
head_choice (b ∷ bytes) =
    let Choice : List ℕ → Type 0 = λ text. AHead text ⊎ NoHead text in
    elim (kind_choice (b ∷ bytes)) [
      | inl kind ↦ inl (record { vary = level; kind = kind.0; proper = tt; is = kind.1 })
      | inr none ↦ elim (cases_eq b letter_I) [
        | inl same ↦ subst (λ c. Choice (c ∷ bytes)) (sym same) (elim (kind_choice bytes) [
          | inl kind ↦
              inl (record {
                vary = increasing;
                kind = kind.0;
                proper = tt;
                is = ap (λ (bs : List ℕ). letter_I ∷ bs) kind.1;
              })
          | inr no_kind_here ↦ inr (no_increasing bytes no_kind_here)
        ])
        | inr no_I ↦ elim (cases_eq b letter_D) [
          | inl same ↦
              let first = digits_first bytes in
              subst (λ c. Choice (c ∷ bytes)) (sym same)
              (subst (λ bs. Choice (letter_D ∷ bs)) (sym first.whole)
              (decreasing_by first.digits first.rest first.all first.stops))
          | inr no_D ↦ inr (no_other_head b bytes none no_I no_D)
        ]
      ]
    ]
