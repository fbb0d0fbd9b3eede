-- Numbers, one digit more.
use Rattle.std.proofs.Common.{◌≡◌, ℕ, ◌+◌, ◌*◌, ◌<◌, List, length, get_or, take, arith}
use Rattle.std.specs.Prelude.{All}
use Rattle.std.proofs.lemmas.List.Elements.{All-get_or, All-more}
use Rattle.std.proofs.lemmas.Int.Digits.{digits_value_more}
use Rattle.std.proofs.lemmas.Str.{digit_value_digit}
use Rattle.halo_text.specs.Number.{IsDigit, number}

-- the number with one digit more
pub number_more : (text : List ℕ) (i : ℕ) → i < length text → IsDigit (get_or text i 0)
    → number (take (i + 1) text) + 48 ≡ number (take i text) * 10 + get_or text i 0
number_more text i h d =
    let a = digits_value_more 10 text i h in
    let b = digit_value_digit (get_or text i 0) d in
    omega arith

-- one digit more behind digits
pub all_more : (text : List ℕ) (i : ℕ) → i < length text → All IsDigit (take i text) → IsDigit (get_or text i 0)
    → All IsDigit (take (i + 1) text)
all_more text i h a d = All-more IsDigit text i 0 h a d

-- each byte of digits is a digit
pub not_all : (text : List ℕ) (i : ℕ) → i < length text → All IsDigit text → IsDigit (get_or text i 0)
not_all text i h a = All-get_or IsDigit text i 0 h a

pub ruleset digits = (number_more, all_more, not_all)
