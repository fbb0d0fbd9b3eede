-- How long the digits of a printed number are.
use Rattle.std.proofs.Common.{ℕ, ◌/◌, ◌^◌, ◌<◌, ◌≤◌, length, arith, lit<}
use Rattle.std.specs.Fmt.{decimal}
use Rattle.std.proofs.lemmas.Fmt.{length-decimal-le, length-decimal-le_wide}

pub short_rest : (n : ℕ) → n < 10 ^ 9 → length (decimal n) ≤ 9
short_rest n small = length-decimal-le 9 n (lit< tt) small (omega arith)

pub short_whole : (n : ℕ) → n ≤ 10 ^ 36 → length (decimal (n / 10 ^ 9)) ≤ 28
short_whole n size = length-decimal-le_wide 28 (n / 10 ^ 9) (lit< tt) (omega arith) (omega arith)
