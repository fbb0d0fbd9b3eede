-- What a word is, is decided.
use Rattle.std.proofs.Common.{◌≡◌, ◌⊎◌, ℕ, ◌<◌, Bool, true, List, [], ◌∷◌, ◌++◌, ap, sym, ◌∙◌, subst, refl, arith, inl, inr, length}
use Rattle.std.specs.Prelude.{All, codes}
use Rattle.std.specs.Char.{is_ascii_alphabetic}
use Rattle.std.proofs.lemmas.Bool.{both_ways, cases_Bool, cases_eq, cases_lt}
use Rattle.std.proofs.lemmas.List.{append_assoc}
use Rattle.std.proofs.lemmas.List.Elements.{All-cons, All-head, All-nil, All-tail}
use Rattle.halo_text.specs.Name.{is_name_byte}
use Rattle.halo_text.specs.Number.{IsDigit, IsNumber}
use Rattle.halo_lex.specs.Lexeme.{IsLongName}
use Rattle.halo_symbol.proofs.HeadChoices.{same_text}
use Rattle.halo_symbol.specs.Characters.{bar_text, slash}
use Rattle.halo_symbol.specs.Proper.{IsPlainName}
use Rattle.halo_syntax.specs.Line.{rule_word}
use Rattle.halo_syntax.specs.LineReading.{IsFraction, NoFraction}
use Rattle.halo_contract.specs.declared.ties.Ties.{Ties}
use Rattle.halo_contract.specs.declared.ties.Ties.TheVariants.{Declared, Even}
use Rattle.halo_syntax.proofs.lines.Slashes.{IsNoSlash, cut_one, number_has_none}

-- a fact, or that it does not hold
abbrev pub Decided : Type 0 → Type 0
Decided P = P ⊎ (P → ⊥)

-- two facts
pub both : {P Q : Type 0} → Decided P → Decided Q → Decided (P × Q)
both (inl p) (inl q) = inl (p, q)
both (inl p) (inr no_q) = inr (λ pair. no_q pair.1)
both (inr no_p) q = inr (λ pair. no_p pair.0)

-- a fact of each of a list
pub all_choice : {X : Type 0} (P : X → Type 0) → ((x : X) → Decided (P x)) → (xs : List X) → Decided (All P xs)
all_choice P choice [] = inl (All-nil P)
all_choice P choice (x ∷ xs) = elim (choice x) [
  | inr none ↦ inr (λ all. none (All-head P x xs all))
  | inl first ↦
      elim (all_choice P choice xs) [
        | inr none ↦ inr (λ all. none (All-tail P x xs all))
        | inl rest ↦ inl
            (All-cons P x xs first rest)
      ]
]

-- a test
test_choice : (b : Bool) → Decided (b ≡ true)
test_choice b = elim (cases_Bool b) [ inl is ↦ inl is | inr other ↦ inr (λ is. both_ways b other is) ]

-- a digit
digit_choice : (b : ℕ) → Decided (IsDigit b)
digit_choice b = elim (cases_lt b 48) [
  | inl low ↦ inr (λ digit. omega arith)
  | inr above ↦ elim (cases_lt 57 b) [ inl high ↦ inr (λ digit. omega arith) | inr below ↦ inl (above, below) ]
]

-- a number
pub number_choice : (word : List ℕ) → Decided (IsNumber word)
number_choice word = both (some_choice word) (all_choice IsDigit digit_choice word)
  where
    some_choice : (word : List ℕ) → Decided (0 < length word)
    some_choice [] = inr (λ some. omega arith)
    some_choice (b ∷ word) = inl (omega arith)

-- a name
pub name_choice : (word : List ℕ) → Decided (IsLongName word)
name_choice [] = inr (λ is. is)
name_choice (first ∷ rest) =
    both (test_choice (is_ascii_alphabetic first))
    (all_choice (λ b. is_name_byte b ≡ true) (λ b. test_choice (is_name_byte b)) rest)

-- a name other than `bar`
pub plain_name_choice : (word : List ℕ) → Decided (IsPlainName word)
plain_name_choice word =
    both (name_choice word) (elim (same_text word bar_text)
    [ inl same ↦ inr (λ other. other same) | inr other ↦ inl other ])

-- a rule for ties
pub rule_choice : (word : List ℕ)
    → ((rule : Ties) × (word ≡ rule_word rule)) ⊎ ((rule : Ties) → word ≡ rule_word rule → ⊥)
rule_choice word = elim (same_text word (rule_word Declared)) [
  | inl same ↦ inl (Declared, same)
  | inr no_declared ↦
      elim (same_text word (rule_word Even)) [
        | inl same ↦ inl (Even, same)
        | inr no_even ↦ inr
            (no_rule no_declared no_even)
      ]
]
  where
    no_rule : (word ≡ rule_word Declared → ⊥) → (word ≡ rule_word Even → ⊥) → (rule : Ties) → word ≡ rule_word rule → ⊥
    no_rule a b Declared = a
    no_rule a b Even = b

-- a slash, the first one, or none
slash_choice : (word : List ℕ) → ((p q : List ℕ) × (word ≡ p ++ (slash ∷ q)) × All IsNoSlash p) ⊎ All IsNoSlash word
slash_choice [] = inr (All-nil IsNoSlash)
slash_choice (b ∷ word) = elim (cases_eq b slash) [
  | inl same ↦ inl ([], word, ap (λ c. c ∷ word) same, All-nil IsNoSlash)
  | inr other ↦ elim (slash_choice word) [
    | inl cut ↦ inl (b ∷ cut.0, cut.1, ap (λ rest. b ∷ rest) cut.2, All-cons IsNoSlash b cut.0 other cut.3)
    | inr none ↦ inr (All-cons IsNoSlash b word other none)
  ]
]

-- a word with a slash has no part without one around it
no_slash : (p q : List ℕ) → All IsNoSlash (p ++ (slash ∷ q)) → ⊥
no_slash [] q all = All-head IsNoSlash slash q all refl
no_slash (b ∷ p) q all = no_slash p q (All-tail IsNoSlash b (p ++ (slash ∷ q)) all)

-- a fraction
pub fraction_choice : (word : List ℕ) → ((p q : List ℕ) × IsFraction word p q) ⊎ NoFraction word
fraction_choice word = elim (slash_choice word) [
  | inr none ↦ inr (λ p q is. no_slash p q (subst (All IsNoSlash) (is.word_is ∙ append_assoc p (codes "/") q) none))
  | inl cut ↦ elim (both (number_choice cut.0) (number_choice cut.1)) [
    | inl numbers ↦
        inl (
          cut.0,
          cut.1,
          record {
            p_is = numbers.0;
            q_is = numbers.1;
            word_is = cut.2 ∙ sym (append_assoc cut.0 (codes "/") cut.1);
          },
        )
    | inr none ↦ inr (λ p q is.
        let same =
        cut_one cut.0 p cut.1 q cut.3 (number_has_none p is.p_is)
        (sym cut.2 ∙ is.word_is ∙ append_assoc p (codes "/") q) in
        none (subst IsNumber (sym same.0) is.p_is, subst IsNumber (sym same.1) is.q_is))
  ]
]
