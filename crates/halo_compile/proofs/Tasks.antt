-- What a valid task says of its lives: how many they are, that they keep the rule of their tables, and that somebody
-- survives of them.
use Rattle.std.proofs.Common.{◌≡◌, ℕ, suc, ◌+◌, ◌-◌, ◌^◌, ◌<◌, ◌≤◌, List, [], ◌∷◌, length, Bool, cond, true, false, arith, refl}
use Rattle.std.proofs.Math.Nat.{mul-pos, pow-le-pow_right}
use Rattle.std.proofs.lemmas.List.{length-map}
use Rattle.std.proofs.lemmas.List.Elements.{All-from_get_or}
use Rattle.halo_table.specs.DecrementTable.{TableFile, survivors_at, HasRow}
use Rattle.halo_table.specs.declared.lives.Life.{Life}
use Rattle.halo_model.specs.FromTables.{life_of, lives_of}
use Rattle.halo_model.specs.Horizon.{life_at}
use Rattle.halo_model.specs.Life.{AreLives, after_first}
use Rattle.halo_model.specs.Outcome.{joint_survivors}
use Rattle.halo_model.proofs.FromTables.{lives_of-AreLives}
use Rattle.halo_model.proofs.Positive.{some-interest}
use Rattle.halo_life.specs.PlainGroup.{IsGroup, PlainGroup}
use Rattle.halo_sums.specs.Masks.{has_bit}
use Rattle.halo_interest.specs.Rates.{IsInterest, rate_of}
use Rattle.halo_interest.proofs.InForce.{in_force_is}
use Rattle.halo_model.specs.Basis.{accumulated}
use Rattle.halo_contract.specs.declared.ties.Ties.TheVariants.{Declared}
use Rattle.halo_compile.specs.OfTask.{HaveSurvivorsAt, basis_of_task}
use Rattle.halo_compile.specs.declared.task.Task.{Task}

-- there are few sets
pub few-sets : (n m : ℕ) → m ≡ 2 ^ n → n ≤ 12 → m ≤ 4096
few-sets n m e few = let p : 2 ^ n ≤ 2 ^ 12 = pow-le-pow_right (omega arith) few in omega (arith, e, p)

-- the lives of a group keep the rule of their tables
pub group-lives : (n : ℕ) (g : PlainGroup) → IsGroup n g → AreLives (lives_of g.file g.lives)
group-lives n g is =
    lives_of-AreLives g.file is.sound g.lives (All-from_get_or (λ life. HasRow g.file life.table life.age) g.lives
    (record { table = 0; age = 0 }) (λ i h. is.rows i (omega (arith, h, is.count))))

pub count-lives : (g : PlainGroup) → length (lives_of g.file g.lives) ≡ length g.lives
count-lives g = length-map g.lives (λ life. life_of g.file life.table life.age)

-- somebody survives of lives of whom each has survivors
pub some-survive : (file : TableFile) (T : ℕ) (U : ℕ → Bool) (lives : List Life) → ((i : ℕ)
    → i < length lives → U i ≡ true → 0 < survivors_at file (life_at lives i).table ((life_at lives i).age + T))
    → 0 < joint_survivors T U (lives_of file lives)
some-survive file T U [] h = omega arith
some-survive file T U (x ∷ lives) h = mul-pos (first (U 0) (h 0 (omega arith)))
    (some-survive file T (after_first U) lives (λ i below. h (suc i) (omega (arith, below))))
  where
    first : (is : Bool) → (is ≡ true → 0 < survivors_at file x.table (x.age + T))
        → 0 < cond is (survivors_at file x.table (x.age + T)) 1
    first true k = k refl
    first false k = omega arith

module _ {n m : ℕ} (task : Task n m) where
  -- the living of a set have survivors together
  pub survivors-there : IsGroup n task.group.now → (t alive : ℕ) → HaveSurvivorsAt task t alive
      → 0 < joint_survivors t (has_bit alive) (lives_of task.group.now.file task.group.now.lives)
  survivors-there group t alive there =
      some-survive task.group.now.file t (has_bit alive) task.group.now.lives
      (λ i below. there i (omega (arith, below, group.count)))

  -- 1 is worth something with the interest of the task
  pub interest-there : IsInterest task.interest.now → (t : ℕ)
      → 0 < accumulated (basis_of_task task Declared) t
  interest-there interest t = some-interest
      (λ k. (rate_of task.interest.now k).p) (λ k. (rate_of task.interest.now k).q)
      (200 - t) t (λ k from below. omega (arith, (in_force_is task.interest.now interest k).q_from))
