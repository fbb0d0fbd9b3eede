-- Numbers: one or more decimal digits. Leading zeros are allowed.
use Rattle.std.specs.Prelude.{◌≡◌, ℕ, ◌<◌, ◌≤◌, List, length, All, Result, Ok, Err}
use Rattle.std.specs.Str.Parse.{digits_value}
use Rattle.halo_text.specs.declared.number.NumberFault.{NumberFault}
use Rattle.halo_text.specs.declared.number.NumberFault.TheVariants as fault

-- a decimal digit, `0` (48) to `9` (57)
abbrev pub IsDigit : ℕ → Type 0
IsDigit byte = (48 ≤ byte) × (byte ≤ 57)

-- one or more decimal digits
abbrev pub IsNumber : List ℕ → Type 0
IsNumber text = (0 < length text) × All IsDigit text

-- the whole number that digits write in base ten
abbrev pub number : List ℕ → ℕ
number text = digits_value 10 text

-- what reading a number answers: the number where it is at most the limit, and else what is wrong
-- with the text
abbrev pub ReadsNumber : List ℕ → ℕ → Result ℕ NumberFault → Type 0
ReadsNumber text limit (Ok value) = IsNumber text × (value ≡ number text) × (value ≤ limit)
ReadsNumber text limit (Err fault.NotNumber) = IsNumber text → ⊥
ReadsNumber text limit (Err fault.Above) = IsNumber text × (limit < number text)
