-- What a task asks for: a pay of amount 1 on a basis, with lives that have survivors.
use Rattle.std.specs.Prelude.{◌≡◌, ℕ, ◌<◌, true}
use Rattle.halo_sums.specs.Masks.{has_bit}
use Rattle.halo_status.specs.Pay.{PlainPay, pay_of}
use Rattle.halo_model.specs.Basis.{Basis}
use Rattle.halo_model.specs.Enclosed.{of_one}
use Rattle.halo_contract.specs.declared.ties.Ties.{Ties}
use Rattle.halo_model.specs.ContractBasis.{basis_of}
use Rattle.halo_life.specs.PlainGroup.{survivors_in}
use Rattle.halo_compile.specs.declared.task.Task.{Task}

-- the pay of a task, with amount 1
abbrev pub pay_of_task : {n m : ℕ} → Task n m → PlainPay
pay_of_task task = of_one (pay_of task.pay.now)

-- the lives and the interest of a task, with a rule for ties
abbrev pub basis_of_task : {n m : ℕ} → Task n m → Ties → Basis
basis_of_task task ties =
    basis_of task.group.now.file task.interest.now task.group.now.lives ties

-- the lives of a set that there are have survivors at time t: each has a row at its age then
abbrev pub HaveSurvivorsAt : {n m : ℕ} → Task n m → ℕ → ℕ → Type 0
HaveSurvivorsAt {n} task t alive =
    (i : ℕ) → i < n → has_bit alive i ≡ true → 0 < survivors_in task.group.now t i
