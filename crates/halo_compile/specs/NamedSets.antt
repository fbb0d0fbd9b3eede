-- Sets of the lives that a body names, and the products of a pass over the years on all of them.
use Rattle.std.specs.Prelude.{◌≡◌, ℕ, ◌+◌, ◌*◌, ◌^◌, ◌&&◌, true}
use Rattle.halo_sums.specs.Masks.{has_bit}
use Rattle.halo_status.specs.Naming.{names_life}
use Rattle.halo_status.specs.Pay.{pay_of}
use Rattle.halo_status.specs.Tree.{Tree}
use Rattle.halo_model.specs.Counts.{lives_named}
use Rattle.halo_compile.specs.declared.task.Task.{Task}

-- each life of a set is one that a body names
abbrev pub AreNamed : Tree → ℕ → Type 0
AreNamed body mask = (i : ℕ) → has_bit mask i ≡ true → names_life i body ≡ true

-- a set is that of the lives of another that a body names
abbrev pub IsNamedPart : Tree → ℕ → ℕ → Type 0
IsNamedPart body alive part = (i : ℕ) → has_bit part i ≡ (has_bit alive i && names_life i body)

-- how many lives the body of a task names
abbrev pub named_of_task : {n m : ℕ} → Task n m → ℕ
named_of_task {n} task = lives_named n (pay_of task.pay.now).body

-- the most products of a pass over the years on all sets of these lives, by either rule for ties
abbrev pub products_of_pass : {n m : ℕ} → Task n m → ℕ
products_of_pass task = 8 * (task.horizon + 1) * (named_of_task task + 1) * 2 ^ named_of_task task
