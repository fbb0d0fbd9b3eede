-- What is enclosed has its line, once it is printed.
use Rattle.std.proofs.Common.{◌≡◌, ℕ, ◌+◌, arith, Some, None, ℤ}
use Rattle.std.proofs.lemmas.Int.{ints}
use Rattle.halo_num.specs.Ends.{Ends, HasWidth}
use Rattle.halo_num.specs.Enclosure.{Encloses}
use Rattle.halo_num.specs.declared.nano.Nano.{Nano}
use Rattle.halo_model.specs.Line.{IsLine, IsPrinted, PayHasLine, PremiumHasLine, ReserveHasLine, TotalHasLine}
use Rattle.halo_contract.specs.Premium.{all_lives}
use Rattle.halo_model.specs.Value.{numerator, total_numerator}
use Rattle.halo_model.specs.Widths.{pay_width, printed_pay_width, printed_premium_width, printed_reserve_width, printed_total_width, printed_width}

pub line : (i : Ends) (ends : Nano) (n : ℤ) (d w : ℕ)
    → Encloses i n d → HasWidth i w → IsPrinted i ends → IsLine ends n d (printed_width w)
line i ends n d w encloses narrow printed =
    record { encloses = printed.encloses n d encloses; narrow = omega (arith, ints, printed.narrow w narrow) }

pub total-has-line : TotalHasLine
unfolding printed_total_width
total-has-line b pays i ends all printed = line i ends _ _ _ all.encloses all.narrow printed

pub pay-has-line : PayHasLine
unfolding printed_pay_width total_numerator
pay-has-line b pay i ends all printed =
    let worth : numerator b pay 0 all_lives + 0 ≡ numerator b pay 0 all_lives = omega arith in
    let width : pay_width b pay + 0 ≡ pay_width b pay = omega arith in
    line i ends _ _ _ (rw worth at all.encloses) (rw width at all.narrow) printed

pub premium-has-line : PremiumHasLine
unfolding printed_premium_width
premium-has-line b pays status i ends all printed = line i ends _ _ _ all.encloses all.narrow printed

pub reserve-has-line : ReserveHasLine
unfolding printed_total_width printed_reserve_width
reserve-has-line b pays None T S i ends all printed = line i ends _ _ _ all.encloses all.narrow printed
reserve-has-line b pays (Some status) T S i ends all printed = line i ends _ _ _ all.encloses all.narrow printed
