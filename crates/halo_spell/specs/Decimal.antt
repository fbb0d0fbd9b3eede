-- How numbers are printed.
use Rattle.std.specs.Prelude.{ℕ, suc, ◌-◌, ◌/◌, ◌%◌, ◌^◌, List, ◌++◌, codes, length, replicate, ℤ, pos, negsuc}
use Rattle.std.specs.Fmt.{decimal}

-- a number below 10^9 in nine digits
abbrev pub nine_digits : ℕ → List ℕ
nine_digits n = replicate (9 - length (decimal n)) 48 ++ decimal n

-- a size in units of 10^-9: the whole part without leading zeros, a point, and nine digits
abbrev pub decimal_of_size : ℕ → List ℕ
decimal_of_size n = decimal (n / 10 ^ 9) ++ codes "." ++ nine_digits (n % 10 ^ 9)

-- a whole number of units of 10^-9, with `-` before a negative one
abbrev pub decimal_of : ℤ → List ℕ
decimal_of (pos n) = decimal_of_size n
decimal_of (negsuc n) = codes "-" ++ decimal_of_size (suc n)
