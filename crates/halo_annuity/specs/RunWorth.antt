-- What a set of lives is paid at the times of a run, over the years backward.
use Rattle.std.specs.Prelude.{ℕ, suc, ◌+◌, ◌*◌, ◌<◌, ◌&&◌, cond, nat_le, List, Bool, pos}
use Rattle.halo_sums.specs.Sets.{in_set}
use Rattle.halo_sums.specs.Masks.{bits}
use Rattle.halo_num.specs.Ends.{Ends, HasWidth, IsWithin, fine}
use Rattle.halo_num.specs.Enclosure.{Encloses}
use Rattle.halo_status.specs.Pay.{PlainPay}
use Rattle.halo_model.specs.Basis.{Basis}
use Rattle.halo_model.specs.Outcome.{joint_survivors}
use Rattle.halo_contract.specs.declared.ties.Ties.{Ties}
use Rattle.halo_model.specs.Segment.{Run}
use Rattle.halo_model.specs.Backward.{paid_at}
use Rattle.halo_contract.specs.Premium.{all_lives}
use Rattle.halo_model.specs.RunPart.{run_part}
use Rattle.halo_model.specs.Value.{denominator}
use Rattle.halo_compile.specs.Form.{run_of, segment_at}
use Rattle.halo_compile.specs.declared.task.Task.{Task}
use Rattle.halo_compile.specs.OfTask.{basis_of_task, pay_of_task}
use Rattle.halo_annuity.specs.Worth.{EnclosesSet}

-- the run of the times from one to another
abbrev pub run_from : ℕ → ℕ → Run
run_from first last = record { first = first; last = last }

-- so many times what an annuity valued at time 0 pays, at the times of a run, and nothing at others
abbrev pub paid_in : PlainPay → Run → ℕ → ℕ → ℕ
paid_in pay run times t =
    cond (nat_le run.first t && nat_le t run.last) (paid_at pay 0 t * times) 0

-- i encloses what a set is paid so many times in the run, in so many years from t on
abbrev pub EnclosesRun : {n m : ℕ} → Task n m → Run → ℕ → ℕ → ℕ → ℕ → Ends → Type 0
EnclosesRun {n} task run times mask t years i = (ties : Ties) →
    let paid = paid_in (pay_of_task task) run times in
    EnclosesSet (basis_of_task task ties) n paid (bits n mask) t years i

-- i encloses what the coefficient of a set in the segment at a place adds to the value of the
-- annuity of 1 at time 0 with all lives alive
abbrev pub EnclosesPart : {n m : ℕ} → Task n m → ℕ → ℕ → Ends → Type 0
EnclosesPart {n} task place mask i = (ties : Ties) →
    let b = basis_of_task task ties in
    let run = run_of (segment_at task.form.now place) in
    Encloses i (run_part b (pay_of_task task) run (bits n mask)) (denominator b 0 all_lives)

-- i encloses the discount factor of year t times the chance of a set of n lives, all alive at t, to
-- survive it
pub record EnclosesDiscountedSurvival (b : Basis) (n : ℕ) (s : List Bool) (t : ℕ) (i : Ends)
    : Type 0 where
  pub encloses : 0 < joint_survivors t (in_set s) b.lives →
      Encloses i
      (pos (b.q t * joint_survivors (suc t) (in_set s) b.lives))
      ((b.p t + b.q t) * joint_survivors t (in_set s) b.lives)
  pub narrow : HasWidth i (2 * n + 2)
  pub within : IsWithin i (pos 0) (pos fine)
