-- What sets of lives are paid at some times of an annuity, by their pure endowments.
use Rattle.std.specs.Prelude.{ℕ, suc, ◌+◌, ◌-◌, ◌*◌, Bool, List}
use Rattle.halo_sums.specs.Masks.{bits}
use Rattle.halo_sums.specs.Sets.{in_set}
use Rattle.halo_sums.specs.Sums.{numbers_from, sum_over}
use Rattle.halo_num.specs.Ends.{Ends}
use Rattle.halo_contract.specs.declared.ties.Ties.{Ties}
use Rattle.halo_status.specs.Pay.{PlainPay}
use Rattle.halo_model.specs.Basis.{Basis, accumulated, discounted}
use Rattle.halo_model.specs.Backward.{paid_at}
use Rattle.halo_model.specs.Outcome.{joint_survivors}
use Rattle.halo_model.specs.Segment.{Run}
use Rattle.halo_life.specs.Lists.{Lists, entry}
use Rattle.halo_compile.specs.Form.{run_of, segment_at}
use Rattle.halo_compile.specs.NamedSets.{AreNamed}
use Rattle.halo_compile.specs.OfTask.{basis_of_task, pay_of_task}
use Rattle.halo_compile.specs.declared.task.Task.{Task}
use Rattle.halo_annuity.specs.Worth.{EnclosesSetWorth}

-- What a set of lives is paid at some times of an annuity valued at time 0, each payment made if
-- all of the set are alive then. It is told in the parts of which 1 has the survivors of the set
-- at time 0 times the interest of all years.
-- Σ b_t · ₜE_xy, where b_t is paid at time t
abbrev pub paid_to_lives : Basis → PlainPay → List Bool → List ℕ → ℕ
paid_to_lives b pay s times = sum_over times
    (λ t. paid_at pay 0 t * (discounted b 0 t * joint_survivors t (in_set s) b.lives))

-- i encloses what a set of n lives is paid at some times up to a last one; a payment widens it by
-- at most 3 for each year up to there and 2 for each life
abbrev pub EnclosesPayments : Basis → ℕ → PlainPay → List ℕ → ℕ → List Bool → Ends → Type 0
EnclosesPayments b n pay times last s i = EnclosesSetWorth
    (paid_to_lives b pay s times)
    (joint_survivors 0 (in_set s) b.lives * accumulated b 0)
    (sum_over times (paid_at pay 0))
    (sum_over times (paid_at pay 0) * (3 * last + 2 * n))
    i

-- the entries of `minus` of all sets of named lives enclose what they are paid at the times of a
-- run before time t
abbrev pub ArePaidBefore : {n m : ℕ} → Task n m → Run → ℕ → Lists → Type 0
ArePaidBefore {n} task run t lists = (ties : Ties) (mask : ℕ) →
    let pay = pay_of_task task in
    AreNamed pay.body mask → EnclosesPayments (basis_of_task task ties) n pay
    (numbers_from run.first (t - run.first)) run.last (bits n mask) (entry lists.minus mask)

-- and at all times of the segment at a place
abbrev pub ArePaidInSegment : {n m : ℕ} → Task n m → ℕ → Lists → Type 0
ArePaidInSegment task place lists =
    let run = run_of (segment_at task.form.now place) in
    ArePaidBefore task run (suc run.last) lists
