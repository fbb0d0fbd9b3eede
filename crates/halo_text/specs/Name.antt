-- Names: a letter, and then letters, digits and `_`.
use Rattle.std.specs.Prelude.{◌≡◌, ℕ, ◌<◌, ◌≤◌, ◌||◌, ◌==◌, true, Bool, List, length, get_or, All}
use Rattle.std.specs.Char.{is_ascii_alphabetic, is_ascii_alphanumeric}

-- a byte that may stand in a name: a letter, a digit or `_` (95)
abbrev pub is_name_byte : ℕ → Bool
is_name_byte byte = is_ascii_alphanumeric byte || (byte == 95)

-- a name: 1 to 32 bytes, a letter first, and each byte one that may stand in a name
pub record IsName (text : List ℕ) : Type 0 where
  pub some : 0 < length text
  pub short : length text ≤ 32
  pub letter : is_ascii_alphabetic (get_or text 0 0) ≡ true
  pub bytes : All (λ byte. is_name_byte byte ≡ true) text
