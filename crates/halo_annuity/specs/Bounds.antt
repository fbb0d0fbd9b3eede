-- How wide an enclosure of a task's annuity of 1 may be, and between which numbers it lies, by
-- either rule for ties.
use Rattle.std.specs.Prelude.{ℕ, ◌*◌, neg_ℤ, pos}
use Rattle.halo_num.specs.Ends.{Ends, HasWidth, IsWithin, fine}
use Rattle.halo_model.specs.Counts.{Measures, measures_of, most_worth, width_count}
use Rattle.halo_contract.specs.declared.ties.Ties.{Ties}
use Rattle.halo_compile.specs.declared.task.Task.{Task}
use Rattle.halo_compile.specs.OfTask.{basis_of_task, pay_of_task}

-- the measures of the annuity: its horizon, the weight of its form, its greatest factor and others
abbrev pub measures_of_task : {n m : ℕ} → Task n m → Ties → Measures
measures_of_task task ties = measures_of (basis_of_task task ties) (pay_of_task task)

-- i is no wider than the count of the annuity
abbrev pub IsWithinCount : {n m : ℕ} → Task n m → Ends → Type 0
IsWithinCount task i = (ties : Ties) → HasWidth i (width_count (measures_of_task task ties))

-- i lies from 0 to the most that the annuity can be worth
abbrev pub IsWithinMost : {n m : ℕ} → Task n m → Ends → Type 0
IsWithinMost task i = (ties : Ties) →
    IsWithin i (pos 0) (pos (most_worth task.pay.now.kind (measures_of_task task ties) * fine))

-- i is at most as large as the weight of the form times that, above 0 or below
abbrev pub IsWithinWeightedMost : {n m : ℕ} → Task n m → Ends → Type 0
IsWithinWeightedMost task i = (ties : Ties) →
    let measures = measures_of_task task ties in
    let most = measures.weight * most_worth task.pay.now.kind measures * fine in
    IsWithin i (neg_ℤ (pos most)) (pos most)
