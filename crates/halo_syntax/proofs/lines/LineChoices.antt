-- Words spell a line, or they spell none.
use Rattle.std.proofs.Common.{◌≡◌, ◌≢◌, ◌⊎◌, ℕ, List, [], ◌∷◌, ap, ap₂, sym, subst, refl, arith, inl, inr, length}
use Rattle.std.specs.Prelude.{All}
use Rattle.std.proofs.lemmas.List.Elements.{All-cons, All-nil, All-tail}
use Rattle.halo_text.specs.Number.{IsNumber}
use Rattle.halo_lex.specs.Lexeme.{IsLongName}
use Rattle.halo_symbol.proofs.HeadChoices.{same_text}
use Rattle.halo_symbol.proofs.WordChoices.{status_or_none, symbol_or_none}
use Rattle.halo_symbol.specs.Proper.{IsPlainName}
use Rattle.halo_syntax.specs.Line.{LaterRate, Line, interest, life, ties, pay, premium, reserve, line_words, rate_words}
use Rattle.halo_syntax.specs.LineReading.{NoLineTo, NoRates, keyword, nest_line}
use Rattle.halo_syntax.specs.ProperLine.{IsProperRate, SpellsLine}
use Rattle.halo_syntax.specs.declared.form.Form.{Form}
use Rattle.halo_syntax.specs.declared.form.Form.TheVariants as form
use Rattle.halo_syntax.proofs.lines.NoLines.{behind, first_is, no_interest, no_keyword, no_life, no_pay, no_premium, no_reserve, no_ties}
use Rattle.halo_syntax.proofs.Rates.{no_rates_of_one, no_rates_of_two}
use Rattle.halo_syntax.proofs.lines.WordChoices.{all_choice, both, fraction_choice, name_choice, number_choice, plain_name_choice, rule_choice}

-- words that spell a line, or none
abbrev LineChoice : List (List ℕ) → Type 0
LineChoice words = ((l : Line) × SpellsLine words l) ⊎ ((l : Line) → SpellsLine words l → ⊥)

-- words that are no line of any depth are no line
never : (words : List (List ℕ)) → ((depth : ℕ) → NoLineTo depth words) → (l : Line) → SpellsLine words l → ⊥
unfolding NoLineTo
never words none l spells = none (nest_line l) l (omega arith) spells

-- the words behind `life`
life_choice : (words : List (List ℕ)) → LineChoice (keyword form.Life ∷ words)
life_choice (name ∷ table ∷ age ∷ []) =
    elim (both (plain_name_choice name) (both (name_choice table) (number_choice age))) [
      | inl are ↦ inl (life name table age, record { proper = (are.0, are.1.0, are.1.1); words_are = refl })
      | inr none ↦ inr (never _ (λ depth. no_life depth _ (λ n t a plain long number e.
          none (
            subst IsPlainName (sym (first_is e)) plain,
            (
              subst IsLongName (sym (first_is (behind e))) long,
              subst IsNumber (sym (first_is (behind (behind e))))
                  number,
            ),
          ))))
    ]
life_choice words = inr (never _ (λ depth. no_life depth _ (λ n t a plain long number e. omega (arith, ap length e))))

-- those behind `ties`
ties_choice : (words : List (List ℕ)) → LineChoice (keyword form.Ties ∷ words)
ties_choice (word ∷ []) = elim (rule_choice word) [
  | inl is ↦ inl (ties is.0, record { proper = tt; words_are = ap (λ w. keyword form.Ties ∷ w ∷ []) is.1 })
  | inr none ↦ inr (never _ (λ depth. no_ties depth _ (λ rule e. none rule (first_is e))))
]
ties_choice words = inr (never _ (λ depth. no_ties depth _ (λ rule e. omega (arith, ap length e))))

-- those behind `pay`
pay_choice : (words : List (List ℕ)) → LineChoice (keyword form.Pay ∷ words)
pay_choice (amount ∷ word ∷ []) = elim (number_choice amount) [
  | inr none ↦
      inr (never _ (λ depth. no_pay depth _ (λ a symbol deep is proper e. none (subst IsNumber (sym (first_is e)) is))))
  | inl is ↦ elim (symbol_or_none word) [
    | inl read ↦
        inl (
          pay amount read.0,
          record {
            proper = (is, read.1.proper);
            words_are = ap (λ w. keyword form.Pay ∷ amount ∷ w ∷ []) read.1.bytes;
          },
        )
    | inr none ↦
        inr (never _ (λ depth. no_pay depth _ (λ a symbol deep number proper e. none symbol (record {
          proper = proper;
          bytes = first_is (behind e);
        }))))
  ]
]
pay_choice words = inr (never _ (λ depth. no_pay depth _ (λ a symbol deep is proper e. omega (arith, ap length e))))

-- those behind `premium`
premium_choice : (words : List (List ℕ)) → LineChoice (keyword form.Premium ∷ words)
premium_choice (word ∷ []) = elim (status_or_none word) [
  | inl read ↦
      inl (
        premium read.0,
        record {
          proper = read.1.proper;
          words_are = ap (λ w. keyword form.Premium ∷ w ∷ []) read.1.bytes;
        },
      )
  | inr none ↦
      inr (never _ (λ depth. no_premium depth _ (λ status deep proper e. none status (record {
        proper = proper;
        bytes = first_is e;
      }))))
]
premium_choice words = inr (never _ (λ depth. no_premium depth _ (λ status deep proper e. omega (arith, ap length e))))

-- those behind `reserve`
reserve_choice : (words : List (List ℕ)) → LineChoice (keyword form.Reserve ∷ words)
reserve_choice [] = inr (never _ (λ depth. no_reserve depth _ (λ time names is all e. omega (arith, ap length e))))
reserve_choice (time ∷ names) = elim (both (number_choice time) (all_choice IsLongName name_choice names)) [
  | inl are ↦ inl (reserve time names, record { proper = (are.0, are.1); words_are = refl })
  | inr none ↦
      inr (never _ (λ depth. no_reserve depth _
      (λ t ns is all e. none (subst IsNumber (sym (first_is e)) is, subst (All IsLongName) (sym (behind e)) all))))
]

-- pairs of a year and a fraction, or none
rates_choice : (words : List (List ℕ))
    → ((rates : List LaterRate) × All IsProperRate rates × (words ≡ rate_words rates)) ⊎ NoRates words
rates_choice [] = inl ([], All-nil IsProperRate, refl)
rates_choice (word ∷ []) = inr (no_rates_of_one (word ∷ []) refl)
rates_choice (year ∷ word ∷ words) = elim (number_choice year) [
  | inr none ↦ inr (no_rates_of_two year word words (λ rate is. none (subst IsNumber (sym is.year_is) is.proper.year)))
  | inl is ↦ elim (fraction_choice word) [
    | inr none ↦
        inr (no_rates_of_two year word words (λ rate is. none rate.p rate.q (record {
          p_is = is.proper.p;
          q_is = is.proper.q;
          word_is = is.fraction_is;
        })))
    | inl read ↦ elim (rates_choice words) [
      | inl rest ↦
          let rate : LaterRate = record { year = year; p = read.0; q = read.1 } in
          inl (
            rate ∷ rest.0,
            All-cons IsProperRate rate rest.0 (record {
              year = is;
              p = read.2.p_is;
              q = read.2.q_is;
            }) rest.1,
            ap₂ (λ w ws. year ∷ w ∷ ws) read.2.word_is rest.2,
          )
      | inr none ↦ inr (not_more none)
    ]
  ]
]
  where
    not_more : NoRates words → NoRates (year ∷ word ∷ words)
    not_more none [] proper e = omega (arith, ap length e)
    not_more none (rate ∷ rates) proper e = none rates (All-tail IsProperRate rate rates proper) (behind (behind e))

-- the words behind `interest`
interest_choice : (words : List (List ℕ)) → LineChoice (keyword form.Interest ∷ words)
interest_choice [] =
    inr (never _ (λ depth. no_interest depth _ (λ p q rates is_p is_q proper e. omega (arith, ap length e))))
interest_choice (word ∷ words) = elim (fraction_choice word) [
  | inr none ↦
      inr (never _ (λ depth. no_interest depth _ (λ p q rates is_p is_q proper e. none p q (record {
        p_is = is_p;
        q_is = is_q;
        word_is = first_is e;
      }))))
  | inl read ↦ elim (rates_choice words) [
    | inl rest ↦ inl (
      interest read.0 read.1 rest.0,
      record {
        proper = (read.2.p_is, read.2.q_is, rest.1);
        words_are = ap₂ (λ w ws. keyword form.Interest ∷ w ∷ ws) read.2.word_is rest.2;
      },
    )
    | inr none ↦
        inr (never _ (λ depth. no_interest depth _ (λ p q rates is_p is_q proper e. none rates proper (behind e))))
  ]
]

-- the words behind the word of a form
form_choice : (f : Form) (words : List (List ℕ)) → LineChoice (keyword f ∷ words)
form_choice form.Interest words = interest_choice words
form_choice form.Life words = life_choice words
form_choice form.Ties words = ties_choice words
form_choice form.Pay words = pay_choice words
form_choice form.Premium words = premium_choice words
form_choice form.Reserve words = reserve_choice words

-- the form that a word stands for, or none
keyword_choice : (word : List ℕ) → ((f : Form) × (word ≡ keyword f)) ⊎ ((f : Form) → word ≢ keyword f)
keyword_choice word = elim (same_text word (keyword form.Interest)) [
  | inl same ↦ inl (form.Interest, same)
  | inr no_interest ↦
      elim (same_text word (keyword form.Life)) [
        | inl same ↦ inl (form.Life, same)
        | inr no_life ↦
            elim (same_text word (keyword form.Ties)) [
              | inl same ↦ inl (form.Ties, same)
              | inr no_ties ↦
                  elim (same_text word (keyword form.Pay)) [
                    | inl same ↦ inl (form.Pay, same)
                    | inr no_pay ↦
                        elim (same_text word (keyword form.Premium)) [
                          | inl same ↦ inl (form.Premium, same)
                          | inr no_premium ↦
                              elim (same_text word (keyword form.Reserve)) [
                                | inl same ↦ inl (form.Reserve, same)
                                | inr no_reserve ↦
                                    inr (none no_interest no_life no_ties no_pay no_premium no_reserve)
                              ]
                        ]
                  ]
            ]
      ]
]
  where
    none : word ≢ keyword form.Interest → word ≢ keyword form.Life → word ≢ keyword form.Ties → word ≢ keyword form.Pay
        → word ≢ keyword form.Premium → word ≢ keyword form.Reserve
        → (f : Form) → word ≢ keyword f
    none a b c d e g form.Interest = a
    none a b c d e g form.Life = b
    none a b c d e g form.Ties = c
    none a b c d e g form.Pay = d
    none a b c d e g form.Premium = e
    none a b c d e g form.Reserve = g

-- words spell a line, or they spell none
pub line_choice : (words : List (List ℕ)) → LineChoice words
line_choice [] = inr (λ l spells. go l spells.words_are)
  where
    go : (l : Line) → [] ≡ line_words l → ⊥
    go (ties r) e = omega (arith, ap length e)
    go l e = omega (arith, ap length e)
line_choice (first ∷ words) = elim (keyword_choice first) [
  | inl is ↦ subst (λ word. LineChoice (word ∷ words)) (sym is.1) (form_choice is.0 words)
  | inr none ↦ inr (never _ (λ depth. no_keyword depth first words none))
]
