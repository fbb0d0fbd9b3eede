-- Pairs of a year and a fraction, one after the other.
use Rattle.std.proofs.Common.{◌≡◌, ℕ, ◌*◌, List, [], ◌∷◌, ◌++◌, ap, ap₂, refl, sym, ◌∙◌, arith, length}
use Rattle.std.proofs.lemmas.List.{append_assoc}
use Rattle.std.proofs.lemmas.List.Elements.{All-head, All-tail}
use Rattle.halo_syntax.specs.Line.{LaterRate, fraction_word, rate_words}
use Rattle.halo_syntax.specs.LineReading.{IsRate, NoRates}
use Rattle.halo_syntax.specs.ProperLine.{IsProperRate}
use Rattle.halo_syntax.proofs.lines.NoLines.{behind, first_is}

-- each pair is two words
length-rate_words : (rates : List LaterRate) → length (rate_words rates) ≡ 2 * length rates
length-rate_words [] = refl
length-rate_words (rate ∷ rates) = omega (arith, length-rate_words rates)

-- one pair more
rate_words-push : (rates : List LaterRate) (rate : LaterRate)
    → rate_words (rates ++ rate ∷ []) ≡ rate_words rates ++ rate.year ∷ fraction_word rate.p rate.q ∷ []
rate_words-push [] rate = refl
rate_words-push (first ∷ rates) rate =
    ap (λ words. first.year ∷ fraction_word first.p first.q ∷ words) (rate_words-push rates rate)

-- one more pair is read behind some
pub one_rate_more : (words left rest : List (List ℕ)) (rates : List LaterRate) (rate : LaterRate)
    (year fraction : List ℕ)
    → words ≡ rate_words rates ++ left → left ≡ year ∷ fraction ∷ rest → IsRate year fraction rate
    → words ≡ rate_words (rates ++ rate ∷ []) ++ rest
one_rate_more words left rest rates rate year fraction read two is =
    read
    ∙ ap (λ l. rate_words rates ++ l) (two ∙ ap₂ (λ y f. y ∷ f ∷ rest) is.year_is is.fraction_is)
    ∙ sym (ap (λ l. l ++ rest) (rate_words-push rates rate) ∙ append_assoc (rate_words rates) _ rest)

-- behind pairs stand pairs, where all are pairs
pub no_rates_behind : (rates : List LaterRate) (left : List (List ℕ)) → NoRates left
    → NoRates (rate_words rates ++ left)
no_rates_behind [] left none all proper e = none all proper e
no_rates_behind (rate ∷ rates) left none [] proper e = absurd (omega (arith, ap length e))
no_rates_behind (rate ∷ rates) left none (first ∷ all) proper e =
    no_rates_behind rates left none all (All-tail IsProperRate first all proper) (behind (behind e))

-- one word is no pair
pub no_rates_of_one : (words : List (List ℕ)) → length words ≡ 1 → NoRates words
no_rates_of_one words one rates proper e = absurd (omega (arith, ap length e, length-rate_words rates))

-- two words that are no pair begin none
pub no_rates_of_two : (year fraction : List ℕ) (words : List (List ℕ))
    → ((rate : LaterRate) → IsRate year fraction rate → ⊥) → NoRates (year ∷ fraction ∷ words)
no_rates_of_two year fraction words none [] proper e = absurd (omega (arith, ap length e))
no_rates_of_two year fraction words none (rate ∷ rates) proper e =
    none rate (record {
      proper = All-head IsProperRate rate rates proper;
      year_is = first_is e;
      fraction_is = first_is (behind e);
    })
