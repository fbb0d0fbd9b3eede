-- The parts of an annuity: what the coefficient of a set of lives adds in a run of times, at the
-- start with all lives alive.
use Rattle.std.specs.Prelude.{◌≡◌, ◌≢◌, ℕ, suc, ◌-◌, ◌*◌, ◌≤◌, Bool, List, length, None, ℤ, pos, ◌*ℤ◌}
use Rattle.halo_sums.specs.Sums.{int_sum_over, numbers_from, sum_over}
use Rattle.halo_sums.specs.Sets.{in_set, sets}
use Rattle.halo_status.specs.Nodes.{HasPositiveRanks, HasShortLists}
use Rattle.halo_status.specs.Pay.{PlainPay}
use Rattle.halo_status.specs.declared.pay.Kind.TheVariants.{Insurance}
use Rattle.halo_model.specs.Life.{AreLives}
use Rattle.halo_model.specs.Outcome.{joint_survivors}
use Rattle.halo_model.specs.Basis.{Basis, discounted, taken}
use Rattle.halo_model.specs.Coefficient.{form}
use Rattle.halo_model.specs.Horizon.{horizon}
use Rattle.halo_model.specs.Segment.{AreSegments, Run, last_time_of_form}
use Rattle.halo_contract.specs.Premium.{all_lives}
use Rattle.halo_model.specs.Value.{numerator}
use Rattle.halo_model.specs.Backward.{outside, paid_at}

-- the times of a run
abbrev pub times_of : Run → List ℕ
times_of run = numbers_from run.first (suc run.last - run.first)

-- what an annuity pays at time t, discounted to the start, times the survivors of a set of lives at
-- t, and of the other lives at the start
abbrev pub paid_to_set : Basis → PlainPay → List Bool → ℕ → ℕ
paid_to_set b pay s t =
    paid_at pay 0 t * (discounted b 0 t
    * (joint_survivors t (in_set s) b.lives * joint_survivors 0 (outside all_lives s) b.lives))

-- The part of the coefficient of a set in a run of times is run_part / denominator, the denominator
-- at the start with all lives alive: the coefficient times what is paid to the set at the times of
-- the run, once for each order taken.
unfoldable pub run_part : Basis → PlainPay → Run → List Bool → ℤ
run_part b pay run s = pos (length (taken b))
    *ℤ (form pay run.first s *ℤ pos (sum_over (times_of run) (paid_to_set b pay s)))

-- the parts of all sets in all segments of an annuity add up to its value
abbrev pub RunPartsAddUp : Type 0
RunPartsAddUp = (b : Basis) → AreLives b.lives → (pay : PlainPay)
    → pay.kind ≢ Insurance → pay.mark ≡ None → HasShortLists pay.body → HasPositiveRanks pay.body
    → last_time_of_form pay.kind (horizon b.lives pay.body) ≤ b.last_time
    → (runs : List Run) → AreSegments pay (length b.lives) (horizon b.lives pay.body) runs
    → int_sum_over runs (λ run. int_sum_over (sets (length b.lives)) (run_part b pay run))
    ≡ pos (numerator b pay 0 all_lives)
