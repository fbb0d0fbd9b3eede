-- The last time of the form of a task.
use Rattle.std.specs.Prelude.{ℕ}
use Rattle.halo_model.specs.Segment.{last_time_of_form}
use Rattle.halo_compile.specs.declared.task.Task.{Task}

-- the last time of the form of a task
abbrev pub last_of_task : {n m : ℕ} → Task n m → ℕ
last_of_task task = last_time_of_form task.pay.now.kind task.horizon
