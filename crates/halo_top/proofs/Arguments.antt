-- The name and the fraction of `columns` have one verdict.
use Rattle.std.proofs.Common.{◌≡◌, ◌≢◌, ◌⊎◌, ◌∙◌, ℕ, zero, suc, ◌<◌, ◌≤◌, ◌^◌, arith, refl, sym, ap, inl, inr}
use Rattle.std.proofs.Common.{List, [], ◌∷◌, length, get_or}
use Rattle.std.specs.Prelude.{Result, Ok, Err}
use Rattle.std.proofs.Math.Decide.{dec_le}
use Rattle.std.proofs.Math.ListN.{get_or-map}
use Rattle.std.proofs.lemmas.Bool.{cases_lt}
use Rattle.std.proofs.lemmas.List.{length-map}
use Rattle.halo_text.specs.Number.{number}
use Rattle.halo_interest.specs.Rates.{level}
use Rattle.halo_interest.specs.declared.rate.Rate.{Rate}
use Rattle.halo_table.specs.DecrementTable.{DecrementTable, TableFile, empty_table, name_of, names_of}
use Rattle.halo_table.specs.Sound.{IsSound}
use Rattle.halo_table.proofs.Deciding.{dec_bytes}
use Rattle.halo_syntax.specs.LineReading.{IsFraction}
use Rattle.halo_parse.specs.WordReading.{IsFractionWithin, ReadsFraction}
use Rattle.halo_syntax.proofs.lines.Slashes.{fraction_one}
use Rattle.halo_syntax.proofs.lines.WordChoices.{fraction_choice}
use Rattle.halo_top.specs.Arguments.{HasName, HasNoTable, IsArgumentFault, ReadsInterest, TellsNamed}
use Rattle.halo_top.specs.declared.refusal.ArgumentKind.{ArgumentKind}
use Rattle.halo_top.specs.declared.refusal.ArgumentKind.TheVariants as argument

module _ (word : List ℕ) where
  -- a word is one fraction
  one-fraction : (p q r s : List ℕ) → IsFraction word p q → IsFraction word r s → (p ≡ r) × (q ≡ s)
  one-fraction p q r s is also = fraction_one p q r s is.p_is also.p_is (sym is.word_is ∙ also.word_is)

  too-large : {R : Type 0} (p q r s : List ℕ) → IsFraction word p q → (10 ^ 9 < number p) ⊎ (10 ^ 9 < number q)
      → IsFractionWithin word r s → R
  too-large p q r s is (inl above) within =
      let one = one-fraction p q r s is within.fraction in
      absurd (omega (arith, above, within.p_in, ap number one.0))
  too-large p q r s is (inr above) within =
      let one = one-fraction p q r s is within.fraction in
      absurd (omega (arith, above, within.q_in, ap number one.1))

  zero-or-some : {R : Type 0} (p q r s : List ℕ) → IsFractionWithin word p q → number q ≡ 0
      → IsFractionWithin word r s → 1 ≤ number s → R
  zero-or-some p q r s is none also some =
      let one = one-fraction p q r s is.fraction also.fraction in absurd (omega (arith, none, some, ap number one.1))

  -- a fraction is read in one way
  pub one-reading : (a b : Result (List Rate) ArgumentKind) → ReadsInterest word a → ReadsInterest word b → a ≡ b
  one-reading (Ok a) (Ok b) (p, q, h, m, is) (r, s, k, n, also) =
      let one = one-fraction p q r s h.fraction k.fraction in
      ap Ok (is ∙ ap (λ p. level (number p) (number q)) one.0 ∙ ap (λ q. level (number r) (number q)) one.1 ∙ sym also)
  one-reading (Ok a) (Err argument.Syntax) (p, q, h, m, is) none = absurd (none p q h.fraction)
  one-reading (Ok a) (Err argument.Magnitude) (p, q, h, m, is) (r, s, k, above) = too-large r s p q k above h
  one-reading (Ok a) (Err argument.Zero) (p, q, h, m, is) (r, s, k, n) = zero-or-some r s p q k n h m
  one-reading (Ok a) (Err argument.NoTable) h also = absurd also
  one-reading (Err argument.Syntax) (Ok b) none (r, s, k, n, also) = absurd (none r s k.fraction)
  one-reading (Err argument.Syntax) (Err argument.Syntax) h also = refl
  one-reading (Err argument.Syntax) (Err argument.Magnitude) none (r, s, k, above) = absurd (none r s k)
  one-reading (Err argument.Syntax) (Err argument.Zero) none (r, s, k, n) = absurd (none r s k.fraction)
  one-reading (Err argument.Syntax) (Err argument.NoTable) h also = absurd also
  one-reading (Err argument.Magnitude) (Ok b) (p, q, h, above) (r, s, k, n, also) = too-large p q r s h above k
  one-reading (Err argument.Magnitude) (Err argument.Syntax) (p, q, h, above) none = absurd (none p q h)
  one-reading (Err argument.Magnitude) (Err argument.Magnitude) h also = refl
  one-reading (Err argument.Magnitude) (Err argument.Zero) (p, q, h, above) (r, s, k, n) = too-large p q r s h above k
  one-reading (Err argument.Magnitude) (Err argument.NoTable) h also = absurd also
  one-reading (Err argument.Zero) (Ok b) (p, q, h, m) (r, s, k, n, also) = zero-or-some p q r s h m k n
  one-reading (Err argument.Zero) (Err argument.Syntax) (p, q, h, m) none = absurd (none p q h.fraction)
  one-reading (Err argument.Zero) (Err argument.Magnitude) (p, q, h, m) (r, s, k, above) = too-large r s p q k above h
  one-reading (Err argument.Zero) (Err argument.Zero) h also = refl
  one-reading (Err argument.Zero) (Err argument.NoTable) h also = absurd also
  one-reading (Err argument.NoTable) b h also = absurd h

  -- and it is read in some way
  pub a-reading : (a : Result (List Rate) ArgumentKind) × ReadsInterest word a
  a-reading = elim (fraction_choice word) [
    | inr none ↦ (Err argument.Syntax, none)
    | inl (p, q, is) ↦ elim (dec_le (number p) (10 ^ 9)) [
      | no above ↦ (Err argument.Magnitude, (p, q, is, inl (omega (arith, above))))
      | yes p_in ↦ elim (dec_le (number q) (10 ^ 9)) [
        | no above ↦ (Err argument.Magnitude, (p, q, is, inr (omega (arith, above))))
        | yes q_in ↦
            let within : IsFractionWithin word p q = record { fraction = is; p_in = p_in; q_in = q_in } in
            elim (dec_le 1 (number q)) [
              | no none ↦ (Err argument.Zero, (p, q, within, omega (arith, none)))
              | yes some ↦ (Ok (level (number p) (number q)), (p, q, within, some, refl))
            ]
      ]
    ]
  ]

module _ (tables : TableFile) (name fraction : List ℕ) where
  -- a fault of the arguments is one of the fraction, or the name is no table's
  fault-cases : (k : ArgumentKind) → IsArgumentFault tables name fraction k
      → ((interest : List Rate) × (k ≡ argument.NoTable) × ReadsFraction fraction (Ok interest)
      × HasNoTable tables name) ⊎ ReadsInterest fraction (Err k)
  fault-cases argument.NoTable (interest, reads, none) = inl (interest, refl, reads, none)
  fault-cases argument.Syntax h = inr h
  fault-cases argument.Magnitude h = inr h
  fault-cases argument.Zero h = inr h

  pub one-argument-fault : (a b : ArgumentKind) → IsArgumentFault tables name fraction a
      → IsArgumentFault tables name fraction b → a ≡ b
  one-argument-fault a b h also = elim (fault-cases a h) [
    | inl (i, is, reads, none) ↦ elim (fault-cases b also) [
      | inl (j, is_too, reads_too, none_too) ↦ is ∙ sym is_too
      | inr other ↦ cc (one-reading fraction (Ok i) (Err b) reads other)
    ]
    | inr reading ↦ elim (fault-cases b also) [
      | inl (j, is, reads, none) ↦ cc (one-reading fraction (Err a) (Ok j) reading reads)
      | inr other ↦ cc (one-reading fraction (Err a) (Err b) reading other)
    ]
  ]

  pub told-or-fault : {R : Type 0} (text : List ℕ) (k : ArgumentKind) → TellsNamed tables name fraction text
      → IsArgumentFault tables name fraction k → R
  told-or-fault text k told h = elim (fault-cases k h) [
    | inl (i, is, reads, none) ↦ absurd (none told.table told.named.table_in told.named.name_is)
    | inr reading ↦ cc (one-reading fraction (Ok told.interest) (Err k) told.reads reading)
  ]

-- a name is that of one table of a sound file
pub one-table : (file : TableFile) → IsSound file → (name : List ℕ) (i j : ℕ) → HasName file i name
    → HasName file j name → i ≡ j
one-table file sound name i j a b = elim (cases_lt i j) [
  | inl below ↦ absurd (apart i j below b.table_in (a.name_is ∙ sym b.name_is))
  | inr from ↦ elim (cases_lt j i) [
    | inl below ↦ absurd (apart j i below a.table_in (b.name_is ∙ sym a.name_is))
    | inr same ↦ omega arith
  ]
]
  where
    name-at : (k : ℕ) → get_or (names_of file.tables) k [] ≡ name_of file k
    name-at k = get_or-map (λ (t : DecrementTable). t.name) file.tables k empty_table

    apart : (k l : ℕ) → k < l → l < length file.tables → name_of file k ≢ name_of file l
    apart k l below within same = sound.tables_apart k l below
        (rw (length-map file.tables (λ (t : DecrementTable). t.name)) within)
        (name-at k ∙ same ∙ sym (name-at l))

-- a name is that of a table, or of none
named-or-none : (name : List ℕ) (tables : List DecrementTable)
    → ((k : ℕ) × (k < length tables) × ((get_or tables k empty_table).name ≡ name))
    ⊎ ((k : ℕ) → k < length tables → (get_or tables k empty_table).name ≢ name)
named-or-none name [] = inr (λ k below. absurd (omega arith))
named-or-none name (t ∷ tables) = elim (dec_bytes t.name name) [
  | yes is ↦ inl (0, omega arith, is)
  | no other ↦ elim (named-or-none name tables) [
    | inl (k, below, is) ↦ inl (suc k, omega arith, is)
    | inr none ↦ inr (neither t tables other none)
  ]
]
  where
    neither : (t : DecrementTable) (tables : List DecrementTable) → t.name ≢ name
        → ((k : ℕ) → k < length tables → (get_or tables k empty_table).name ≢ name)
        → (k : ℕ) → k < length (t ∷ tables) → (get_or (t ∷ tables) k empty_table).name ≢ name
    neither t tables other none zero below = other
    neither t tables other none (suc k) below = none k (omega arith)

pub a-table-or-none : (file : TableFile) (name : List ℕ) → ((k : ℕ) × HasName file k name) ⊎ HasNoTable file name
a-table-or-none file name = elim (named-or-none name file.tables) [
  | inl (k, below, is) ↦ inl (k, record { table_in = below; name_is = is })
  | inr none ↦ inr none
]
