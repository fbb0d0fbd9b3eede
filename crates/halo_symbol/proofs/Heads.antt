-- Heads of symbols are told by their letters.
use Rattle.std.proofs.Common.{◌≡◌, ℕ, List, [], ◌∷◌, ◌++◌, ◌<◌, refl, sym, ap, arith}
use Rattle.halo_text.specs.Number.{IsDigit, IsNumber}
use Rattle.halo_lex.specs.Lexeme as lexeme
use Rattle.halo_lex.specs.Lexeme.{BeginsWithout}
use Rattle.halo_lex.proofs.Lexing.{lexeme_one}
use Rattle.halo_status.specs.declared.pay.Kind.{Kind}
use Rattle.halo_status.specs.declared.pay.Kind.TheVariants.{Insurance, Immediate, Due}
use Rattle.halo_symbol.specs.Characters.{letter_D}
use Rattle.halo_symbol.specs.Symbol.{Vary, level, increasing, decreasing}
use Rattle.halo_symbol.specs.Bytes.{head_text, kind_text}
use Rattle.halo_symbol.specs.Proper.{IsProperVary}

-- the first byte, and 0 where there is none
abbrev pub first_byte : List ℕ → ℕ
first_byte [] = 0
first_byte (b ∷ bytes) = b

-- the bytes behind the first
pub tail : {a b : ℕ} {r s : List ℕ} → a ∷ r ≡ b ∷ s → r ≡ s
tail e = cc

-- a kind is told by its letters
kind_one : (k l : Kind) → kind_text k ≡ kind_text l → k ≡ l
kind_one Insurance Insurance e = refl
kind_one Immediate Immediate e = refl
kind_one Due Due e = refl
kind_one Immediate Due e = absurd cc
kind_one Due Immediate e = absurd cc
kind_one k l e = absurd (omega (arith, ap first_byte e))

-- the letters of a kind begin with no digit
kind_text-no_digit : (k : Kind) → BeginsWithout IsDigit (kind_text k)
kind_text-no_digit Insurance = λ digit. omega arith
kind_text-no_digit Immediate = λ digit. omega arith
kind_text-no_digit Due = λ digit. omega arith

-- digits are taken as long as they go
counts_one : (m n r s : List ℕ) → IsNumber m → IsNumber n → BeginsWithout IsDigit r → BeginsWithout IsDigit s
    → m ++ r ≡ n ++ s → (m ≡ n) × (r ≡ s)
counts_one m n r s h k u v e = let one = lexeme_one (lexeme.number m) (lexeme.number n) r s h k u v e in (cc, one.1)

-- they begin with `A` or `a`, and so with no byte between these
pub kind_text-first : (k : Kind) (b : ℕ) (rest : List ℕ) → 65 < b → b < 97 → kind_text k ≡ b ∷ rest → ⊥
kind_text-first Insurance b rest low high e = absurd (omega (arith, ap first_byte e))
kind_text-first Immediate b rest low high e = absurd (omega (arith, ap first_byte e))
kind_text-first Due b rest low high e = absurd (omega (arith, ap first_byte e))

-- a head is told by its text
pub head_one : (v w : Vary) (k l : Kind) → IsProperVary v → IsProperVary w → head_text v k ≡ head_text w l
    → (v ≡ w) × (k ≡ l)
head_one level level k l p q e = (refl, kind_one k l e)
head_one level increasing k l p q e = absurd (kind_text-first k _ _ (omega arith) (omega arith) e)
head_one level (decreasing n) k l p q e = absurd (kind_text-first k _ _ (omega arith) (omega arith) e)
head_one increasing level k l p q e = absurd (kind_text-first l _ _ (omega arith) (omega arith) (sym e))
head_one increasing increasing k l p q e = (refl, kind_one k l (tail e))
head_one increasing (decreasing n) k l p q e = absurd (omega (arith, ap first_byte e))
head_one (decreasing m) level k l p q e = absurd (kind_text-first l _ _ (omega arith) (omega arith) (sym e))
head_one (decreasing m) increasing k l p q e = absurd (omega (arith, ap first_byte e))
head_one (decreasing m) (decreasing n) k l p q e =
    let count = counts_one m n (kind_text k) (kind_text l) p q (kind_text-no_digit k) (kind_text-no_digit l) (tail e) in
    (ap decreasing count.0, kind_one k l count.1)

-- behind `D` and digits the letters of a kind have to come
pub no_kind : (m rest : List ℕ) → IsNumber m → BeginsWithout IsDigit rest → ((kind : Kind) → rest ≡ kind_text kind → ⊥)
    → (v : Vary) (k : Kind) → IsProperVary v → letter_D ∷ (m ++ rest) ≡ head_text v k → ⊥
no_kind m rest p stops none level k q e = kind_text-first k _ _ (omega arith) (omega arith) (sym e)
no_kind m rest p stops none increasing k q e = absurd (omega (arith, ap first_byte e))
no_kind m rest p stops none (decreasing n) k q e =
    none k (counts_one m n rest (kind_text k) p q stops (kind_text-no_digit k) (tail e)).1
