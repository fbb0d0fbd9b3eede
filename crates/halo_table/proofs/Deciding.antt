-- Facts that can be told from their contrary, and the first place where one holds.
use Rattle.std.proofs.Common.{◌≡◌, ℕ, zero, suc, ◌<◌, ◌≤◌, ◌⊎◌, List, [], ◌∷◌, Bool, true, false, arith, get_or, inl, inr, length, refl}
use Rattle.std.specs.Prelude.{All, Contains, bytes_eq, codes}
use Rattle.std.specs.Bool.{Decides}
use Rattle.std.specs.Char.{is_ascii_alphabetic}
use Rattle.std.proofs.Math.Bool.{Bool-discrete}
use Rattle.std.proofs.Math.Decide.{map_dec, dec_le, dec_lt}
use Rattle.std.proofs.Math.Logic.Dec
use Rattle.std.proofs.lemmas.List.Elements.{All-cons, All-head, All-nil, All-tail}
use Rattle.std.proofs.lemmas.Slice.Eq.{bytes_eq-Decides}
use borrow.Author.Count.{below_more}
use Rattle.halo_text.specs.Name.{IsName, is_name_byte}
use Rattle.halo_text.specs.Number.{IsDigit, IsNumber}
use Rattle.halo_table.specs.Record.{IsHeader, IsNewCause, field}

-- what can be decided and is absurd to deny holds
pub stable : {P : Type 0} → Dec P → ((P → ⊥) → ⊥) → P
stable (yes holds) h = holds
stable (no fails) h = absurd (h fails)

-- what a test decides
decided : {P : Type 0} (test : Bool) → Decides test P → Dec P
decided true d = yes (d.0 refl)
decided false d = no (λ h. cc (d.1 h))

-- one of two facts
pub dec_or : {P Q : Type 0} → Dec P → Dec Q → Dec (P ⊎ Q)
dec_or (yes p) e = yes (inl p)
dec_or (no p) (yes q) = yes (inr q)
dec_or (no p) (no q) = no (λ h. elim h [ inl x ↦ p x | inr x ↦ q x ])

-- a fact under a premise
pub dec_if : {P Q : Type 0} → Dec P → Dec Q → Dec (P → Q)
dec_if (yes p) (yes q) = yes (λ x. q)
dec_if (yes p) (no q) = no (λ h. q (h p))
dec_if (no p) e = yes (λ x. absurd (p x))

-- two texts are equal
pub dec_bytes : (xs ys : List ℕ) → Dec (xs ≡ ys)
dec_bytes xs ys = decided (bytes_eq xs ys) (bytes_eq-Decides xs ys)

-- the first of n places where a fact holds, or it holds at none of them
pub first_place : (P : ℕ → Type 0) → ((i : ℕ) → Dec (P i)) → (n : ℕ)
    → ((i : ℕ) × (i < n) × P i × ((j : ℕ) → j < i → P j → ⊥)) ⊎ ((j : ℕ) → j < n → P j → ⊥)
first_place P d zero = inr (λ j lt h. absurd (omega arith))
first_place P d (suc n) = elim (first_place P d n) [
  | inl (i, lt, h, before) ↦ inl (i, omega arith, h, before)
  | inr none ↦
      elim (d n) [
        | yes h ↦ inl (n, omega arith, h, none)
        | no fails ↦ inr
            (λ j lt. below_more (λ k. P k → ⊥) n none fails j (omega arith))
      ]
]

-- it holds at one of n places
pub dec_some : (P : ℕ → Type 0) → ((i : ℕ) → Dec (P i)) → (n : ℕ) → Dec ((i : ℕ) × (i < n) × P i)
dec_some P d n =
    elim (first_place P d n) [
      | inl (i, lt, h, before) ↦ yes (i, lt, h)
      | inr none ↦ no
          (λ (i, lt, h). none i lt h)
    ]

-- it holds at each of n places
dec_each : (P : ℕ → Type 0) → ((i : ℕ) → Dec (P i)) → (n : ℕ) → Dec ((i : ℕ) → i < n → P i)
dec_each P d n = elim (first_place (λ i. P i → ⊥) (λ i. Dec.not (d i)) n) [
  | inl (i, lt, fails, before) ↦ no (λ h. fails (h i lt))
  | inr none ↦ yes (λ i lt. stable (d i) (none i lt))
]

-- it holds of each element
dec_all : (P : ℕ → Type 0) → ((x : ℕ) → Dec (P x)) → (xs : List ℕ) → Dec (All P xs)
dec_all P d [] = yes (All-nil P)
dec_all P d (x ∷ xs) =
    map_dec (λ h. All-cons P x xs h.0 h.1) (λ h. (All-head P x xs h, All-tail P x xs h))
    (Dec.and (d x) (dec_all P d xs))

-- a text is one of some texts
pub dec_contains : (texts : List (List ℕ)) (text : List ℕ) → Dec (Contains texts text)
dec_contains texts text =
    dec_some (λ i. get_or texts i text ≡ text) (λ i. dec_bytes (get_or texts i text) text)
    (length texts)

-- a text is a name
pub dec_name : (text : List ℕ) → Dec (IsName text)
dec_name text = map_dec
    (λ h. record { some = h.0; short = h.1.0; letter = h.1.1.0; bytes = h.1.1.1 })
    (λ n. (n.some, (n.short, (n.letter, n.bytes))))
    (Dec.and (dec_lt 0 (length text)) (Dec.and (dec_le (length text) 32)
    (Dec.and (Bool-discrete (is_ascii_alphabetic (get_or text 0 0)) true)
    (dec_all (λ byte. is_name_byte byte ≡ true)
    (λ byte. Bool-discrete (is_name_byte byte) true) text))))

-- a text is a number
pub dec_number : (text : List ℕ) → Dec (IsNumber text)
dec_number text =
    Dec.and (dec_lt 0 (length text)) (dec_all IsDigit
    (λ byte. Dec.and (dec_le 48 byte) (dec_le byte 57)) text)

-- a cause is new
dec_new_cause : (fields : List (List ℕ)) (j : ℕ) → Dec (IsNewCause fields j)
dec_new_cause fields j = map_dec
    (λ h. record { name = h.0; apart = (λ i low lt. h.1 i lt low) })
    (λ n. (n.name, (λ i lt low. n.apart i low lt)))
    (Dec.and (dec_name (field fields j))
    (dec_each (λ i. 3 ≤ i → field fields i ≡ field fields j → ⊥)
    (λ i. dec_if (dec_le 3 i) (Dec.not (dec_bytes (field fields i) (field fields j)))) j))

-- a record is as record 1 has to be
pub dec_header : (fields : List (List ℕ)) → Dec (IsHeader fields)
dec_header fields = map_dec
    (λ h. record {
      some_cause = h.0;
      table = h.1.0;
      age = h.1.1.0;
      survivors = h.1.1.1.0;
      causes = (λ j low lt. h.1.1.1.1 j lt low);
    })
    (λ x. (x.some_cause, (x.table, (x.age, (x.survivors, (λ j lt low. x.causes j low lt))))))
    (Dec.and (dec_le 4 (length fields))
    (Dec.and (dec_bytes (field fields 0) (codes "table"))
    (Dec.and (dec_bytes (field fields 1) (codes "age"))
    (Dec.and (dec_bytes (field fields 2) (codes "l"))
    (dec_each (λ j. 3 ≤ j → IsNewCause fields j)
    (λ j. dec_if (dec_le 3 j) (dec_new_cause fields j)) (length fields))))))
