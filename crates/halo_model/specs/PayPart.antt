-- The parts of a pay, one for each line of its explanation: what each coefficient of an annuity's
-- form adds to its value, and what falls on each event of an insurance.
use Rattle.std.specs.Prelude.{◌≡◌, ℕ, zero, suc, ◌*◌, ◌++◌, ◌≤◌, Bool, true, false, List, filter, flat_map, length, map, ℤ, pos, negsuc, ◌*ℤ◌}
use Rattle.halo_sums.specs.Sums.{int_sum_over, numbers_from}
use Rattle.halo_sums.specs.SetsInOrder.{sets_in_order}
use Rattle.halo_num.specs.Ends.{Ends, HasWidth}
use Rattle.halo_num.specs.Enclosure.{Encloses}
use Rattle.halo_num.specs.declared.nano.Nano.{Nano}
use Rattle.halo_status.specs.Tree.{Tree}
use Rattle.halo_status.specs.Naming.{names_life, names_term}
use Rattle.halo_status.specs.Pay.{PlainPay}
use Rattle.halo_status.specs.ValidPay.{IsValidPay}
use Rattle.halo_status.specs.declared.pay.Kind.{Kind}
use Rattle.halo_status.specs.declared.pay.Kind.TheVariants.{Insurance, Due, Immediate}
use Rattle.halo_contract.specs.Premium.{all_lives}
use Rattle.halo_model.specs.Basis.{Basis, taken}
use Rattle.halo_model.specs.Coefficient.{form}
use Rattle.halo_model.specs.Counts.{measures_of, width_count}
use Rattle.halo_model.specs.Enclosed.{of_one}
use Rattle.halo_model.specs.Horizon.{horizon}
use Rattle.halo_model.specs.Life.{AreLives}
use Rattle.halo_model.specs.Line.{IsLine, IsPrinted}
use Rattle.halo_model.specs.Order.{rank_in}
use Rattle.halo_model.specs.Part.{end_part, leaving_part}
use Rattle.halo_model.specs.PartLaws.{EndBy}
use Rattle.halo_model.specs.RunPart.{run_part}
use Rattle.halo_model.specs.Segment.{AreSegments, Run}
use Rattle.halo_model.specs.Value.{denominator, numerator}
use Rattle.halo_model.specs.Widths.{printed_pay_width}

-- a part: what the coefficient of a set of lives adds in a run of times, what falls on the leaving
-- of a life, or on the end of a term of so many years
pub data PayPart : Type 0 where
  by_set : Run → List Bool → PayPart
  on_life : ℕ → PayPart
  on_term : ℕ → PayPart

-- at the start with all lives alive it is worth part_numerator / denominator
abbrev pub part_numerator : Basis → PlainPay → PayPart → ℤ
part_numerator b pay (by_set run s) = run_part b pay run s
part_numerator b pay (on_life a) =
    int_sum_over (taken b) (λ order. leaving_part b pay (rank_in order) 0 all_lives a)
part_numerator b pay (on_term n) =
    int_sum_over (taken b) (λ order. end_part b pay (rank_in order) 0 all_lives n)

-- whether a coefficient is not 0
abbrev pub is_some : ℤ → Bool
is_some (pos zero) = false
is_some (pos (suc n)) = true
is_some (negsuc n) = true

-- the parts of an annuity in a run of times: one for each of some sets whose coefficient is not 0
abbrev pub parts_by_sets : PlainPay → Run → List (List Bool) → List PayPart
parts_by_sets pay run sets = map (by_set run) (filter (λ s. is_some (form pay run.first s)) sets)

-- for all sets of n lives, in canonical order
abbrev pub run_parts : PlainPay → ℕ → Run → List PayPart
run_parts pay n run = parts_by_sets pay run (sets_in_order n)

-- and in some runs, one after the other
abbrev pub annuity_parts : PlainPay → ℕ → List Run → List PayPart
annuity_parts pay n runs = flat_map (run_parts pay n) runs

-- the parts of an insurance that fall on lives: one for each of some lives that its body names
abbrev pub parts_on_lives : Tree → List ℕ → List PayPart
parts_on_lives body lives = map on_life (filter (λ a. names_life a body) lives)

-- and on terms: one for each of some lengths of which it names a term
abbrev pub parts_on_terms : Tree → List ℕ → List PayPart
parts_on_terms body lengths = map on_term (filter (λ n. names_term n body) lengths)

-- the parts of an insurance: on all lives in the declared order, and then on terms of all lengths
abbrev pub insurance_parts : Basis → PlainPay → List PayPart
insurance_parts b pay = parts_on_lives pay.body (numbers_from 0 (length b.lives))
    ++ parts_on_terms pay.body (numbers_from 1 b.last_time)

-- these are the parts of an annuity, by the segments of its form
abbrev pub AreAnnuityParts : Basis → PlainPay → List PayPart → Type 0
AreAnnuityParts b pay parts =
    (runs : List Run) × AreSegments pay (length b.lives) (horizon b.lives pay.body) runs
    × (parts ≡ annuity_parts pay (length b.lives) runs)

-- the parts of a pay of some kind
abbrev pub ArePartsByKind : Kind → Basis → PlainPay → List PayPart → Type 0
ArePartsByKind Insurance b pay parts = parts ≡ insurance_parts b pay
ArePartsByKind Due b pay parts = AreAnnuityParts b pay parts
ArePartsByKind Immediate b pay parts = AreAnnuityParts b pay parts

abbrev pub ArePartsOf : Basis → PlainPay → List PayPart → Type 0
ArePartsOf b pay parts = ArePartsByKind pay.kind b pay parts

-- i encloses what a part of a pay of amount 1 is worth, within the count of the pay
pub record EnclosesPayPart (b : Basis) (pay : PlainPay) (part : PayPart) (i : Ends) : Type 0 where
  pub encloses : Encloses i (part_numerator b (of_one pay) part) (denominator b 0 all_lives)
  pub narrow : HasWidth i (width_count (measures_of b pay))

-- the line of a part
abbrev pub IsPartLine : Basis → PlainPay → PayPart → Nano → Type 0
IsPartLine b pay part ends = IsLine ends
    (part_numerator b pay part) (denominator b 0 all_lives) (printed_pay_width b pay)

-- an interval is so many times another
pub record IsMultiple (i : Ends) (amount : ℕ) (multiple : Ends) : Type 0 where
  pub encloses : (n : ℤ) (d : ℕ) → Encloses i n d → Encloses multiple (n *ℤ pos amount) d
  pub narrow : (w : ℕ) → HasWidth i w → HasWidth multiple (w * amount)

-- a part is worth the amount times what it is worth with amount 1, and it has its line once that is
-- printed
abbrev pub PartHasLine : Type 0
PartHasLine = (b : Basis) (pay : PlainPay) (part : PayPart) (i multiple : Ends) (ends : Nano)
    → EnclosesPayPart b pay part i → IsMultiple i pay.amount multiple
    → IsPrinted multiple ends → IsPartLine b pay part ends

-- the parts of a pay that a contract may have add up to its value
abbrev pub PartsAddUp : Type 0
PartsAddUp = (b : Basis) → AreLives b.lives → EndBy b.last_time b.lives
    → (pay : PlainPay) → IsValidPay pay → horizon b.lives pay.body ≤ b.last_time
    → (parts : List PayPart) → ArePartsOf b pay parts
    → int_sum_over parts (part_numerator b pay) ≡ pos (numerator b pay 0 all_lives)
