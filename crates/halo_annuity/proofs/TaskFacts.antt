-- What a valid task says of its numbers, its lives and its pay.
use Rattle.std.proofs.Common.{◌≡◌, ◌^◌, ℕ, ◌+◌, ◌*◌, ◌<◌, ◌≤◌, List, length, Bool, cond, false, arith, refl, ap, ⊎_elim}
use Rattle.std.proofs.Math.Nat.{mul-le-mul_right}
use Rattle.std.proofs.lemmas.Bool.{cases_lt}
use Rattle.std.proofs.lemmas.Nat.{mul-le}
use Rattle.halo_status.specs.Tree.{Tree}
use Rattle.halo_status.specs.Nodes.{HasPositiveRanks}
use Rattle.halo_status.specs.Pay.{PlainPay, pay_of}
use Rattle.halo_status.specs.ValidPay.{IsValidPay}
use Rattle.halo_status.specs.declared.pay.Kind.{Kind}
use Rattle.halo_status.specs.declared.pay.Kind.TheVariants.{Insurance, Due, Immediate}
use Rattle.halo_model.specs.Life.{PlainLife}
use Rattle.halo_model.specs.Horizon.{horizon}
use Rattle.halo_model.specs.Payment.{payment}
use Rattle.halo_model.specs.Segment.{first_time, last_time_of_form}
use Rattle.halo_model.specs.Backward.{may_pay, paid_at, years_passed}
use Rattle.halo_model.proofs.HorizonIsLeast.{horizon-is-least}
use Rattle.halo_life.specs.Lists.{Lists}
use Rattle.halo_life.specs.Total.{AreModestAt}
use Rattle.halo_compile.specs.Form.{segment_at}
use Rattle.halo_compile.specs.NamedSets.{AreNamed}
use Rattle.halo_compile.specs.ValidTask.{IsTask}
use Rattle.halo_compile.specs.declared.form.Segment.{Segment}
use Rattle.halo_compile.specs.declared.task.Task.{Task}
use Rattle.halo_compile.proofs.Times.{segment-in-form}
use Rattle.halo_model.proofs.RanksAsk.{ranks-ask}
use Rattle.halo_annuity.proofs.Counting.{never-before}

-- the horizon is at least a year, and the last time of the form within it
pub some-years : (lives : List PlainLife) (body : Tree) → 1 ≤ horizon lives body
some-years lives body = ((horizon-is-least lives body (horizon lives body)).0 (omega arith)).one

pub last-in : (kind : Kind) (years : ℕ) → last_time_of_form kind years ≤ years
last-in Insurance years = omega arith
last-in Due years = omega arith
last-in Immediate years = omega arith

-- a segment of the form has times, all of them within the horizon
pub segment-in-time : {n m : ℕ} (task : Task n m) → IsTask task → (place : ℕ) → place < length task.form.now
    → ((segment_at task.form.now place).from ≤ (segment_at task.form.now place).to)
    × ((segment_at task.form.now place).to ≤ task.horizon)
segment-in-time {n} task is place there =
    let run = segment-in-form (pay_of task.pay.now) n task.horizon place task.form.now is.form there in
    (run.some, omega (arith, run.to, last-in task.pay.now.kind task.horizon))

-- two segments that are one have the same times
pub same-times : {m : ℕ} {r s : Segment m} → r ≡ s → (r.from ≡ s.from) × (r.to ≡ s.to)
same-times e = (ap (λ s. s.from) e, ap (λ s. s.to) e)

-- where something is paid the form has begun
cond-none : (may : Bool) (n : ℕ) → may ≡ false → cond may n 0 ≡ 0
cond-none may n e = rw e refl

pub form-begun : (pay : PlainPay) (T t : ℕ) → (paid_at pay T t ≡ 0 → ⊥) → first_time pay.kind ≤ t
form-begun pay T t some = ⊎_elim
    (λ (before : t < first_time pay.kind). absurd (some (cond-none (may_pay pay.kind pay.defer T t)
    (payment pay (years_passed pay.kind pay.defer t)) (never-before pay.kind pay.defer T t before))))
    (λ (begun : first_time pay.kind ≤ t). begun)
    (cases_lt t (first_time pay.kind))

-- a valid pay asks for some members in each list
pub positive-ranks : (pay : PlainPay) → IsValidPay pay → HasPositiveRanks pay.body
positive-ranks pay valid = ranks-ask pay.body valid.ranks

-- with as many sets as there are of the lives of a task, the values of the sets of named lives are modest
pub modest-sets : (m n : ℕ) (body : Tree) (lists : Lists) → m ≡ 2 ^ n
    → ((mask : ℕ) → mask < 2 ^ n → AreNamed body mask → AreModestAt mask lists)
    → (mask : ℕ) → mask < m → AreNamed body mask → AreModestAt mask lists
modest-sets m n body lists sets modest mask below = modest mask (omega (arith, below, sets))

-- a pass over some of the years of a horizon makes few enough products
pub pass-cost : (years horizon named sets : ℕ) → years ≤ horizon
    → 4 * sets * years ≤ 8 * (horizon + 1) * (named + 1) * sets
pass-cost years horizon named sets h =
    let some : 1 * sets ≤ (named + 1) * sets = mul-le-mul_right sets (omega arith) in
    let all : sets * years ≤ (named + 1) * sets * (horizon + 1) =
    mul-le sets years ((named + 1) * sets) (horizon + 1) (omega (arith, some)) (omega arith) in
    omega (arith, all)
