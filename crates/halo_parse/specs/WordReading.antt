-- What reading a word by itself tells: a number within a limit, or a fraction of interest.
use Rattle.std.specs.Prelude.{◌≡◌, ℕ, ◌^◌, ◌<◌, ◌≤◌, ◌⊎◌, List, Result, Ok, Err}
use Rattle.halo_interest.specs.Rates.{level}
use Rattle.halo_interest.specs.declared.rate.Rate.{Rate}
use Rattle.halo_text.specs.Number.{IsNumber, number}
use Rattle.halo_check.specs.Checks.{IsSome}
use Rattle.halo_check.specs.Limits.{IsUpTo}
use Rattle.halo_syntax.specs.LineReading.{IsFraction, NoFraction}
use Rattle.halo_check.specs.declared.fault.ContractKind.{ContractKind}
use Rattle.halo_check.specs.declared.fault.ContractKind.TheVariants as kind
use Rattle.halo_check.specs.declared.limits.TheConstants.{GREATEST_PART}

-- what reading a number answers: the number where it is at most the limit, and else the fault of
-- the word
abbrev pub ReadsLimited : List ℕ → ℕ → Result ℕ ContractKind → Type 0
ReadsLimited word limit (Ok value) = IsNumber word × (value ≡ number word) × (value ≤ limit)
ReadsLimited word limit (Err kind.Syntax) = IsNumber word → ⊥
ReadsLimited word limit (Err kind.Magnitude) = IsNumber word × (limit < number word)
ReadsLimited word limit (Err _) = ⊥

-- the word is a fraction of two numbers of at most 10^9
pub record IsFractionWithin (word p q : List ℕ) : Type 0 where
  pub fraction : IsFraction word p q
  pub p_in : IsUpTo GREATEST_PART p
  pub q_in : IsUpTo GREATEST_PART q

-- what reading a fraction answers: the interest P/Q of all years, or the first fault of the word:
-- it is no fraction, P or Q is above 10^9, Q is 0
abbrev pub ReadsFraction : List ℕ → Result (List Rate) ContractKind → Type 0
ReadsFraction word (Ok interest) = (p : List ℕ) × (q : List ℕ)
    × IsFractionWithin word p q × IsSome q × (interest ≡ level (number p) (number q))
ReadsFraction word (Err kind.Syntax) = NoFraction word
ReadsFraction word (Err kind.Magnitude) = (p : List ℕ) × (q : List ℕ)
    × IsFraction word p q × ((GREATEST_PART < number p) ⊎ (GREATEST_PART < number q))
ReadsFraction word (Err kind.Zero) = (p : List ℕ) × (q : List ℕ)
    × IsFractionWithin word p q × (number q ≡ 0)
ReadsFraction word (Err _) = ⊥
