-- The values that a pass has read: none at first, and as far as it has come.
use Rattle.std.proofs.Common.{◌≡◌, ℕ, suc, ◌+◌, ◌<◌, ◌++◌, List, length, take, drop, subst, arith}
use Rattle.std.specs.Prelude.{All}
use Rattle.std.proofs.Math.Seq.{take-append_seam}
use Rattle.halo_num.specs.Ends.{Ends}
use Rattle.halo_interest.specs.declared.powers.TheConstants.{LAST_TIME}
use Rattle.halo_contract.specs.declared.contract.ReserveLine.{ReserveLine}
use Rattle.halo_model.specs.Horizon.{life_at}
use Rattle.halo_life.specs.PlainGroup.{IsGroup, PlainGroup, survivors_in}
use Rattle.halo_compile.specs.declared.task.Task.{Task}
use Rattle.halo_compile.proofs.Living.{row-survives}
use Rattle.halo_value.specs.Reading.{AreReadFrom, CanBeRead}

-- no reserve is later than the last time
pub none-later : {n m : ℕ} (task : Task n m) (reserves : List ReserveLine) (values : List Ends)
    → All (CanBeRead n task.group.now) reserves → AreReadFrom task reserves (suc LAST_TIME) values
none-later task reserves values all place within from =
    absurd (omega (arith, (all place (record { time = 0; alive = 0 }) within).time_in, from))

-- the same from the same time on in the same list
pub read-as : {n m : ℕ} (task : Task n m) (reserves : List ReserveLine) (a b : ℕ) (xs ys : List Ends)
    → a ≡ b → xs ≡ ys → AreReadFrom task reserves a xs → AreReadFrom task reserves b ys
read-as task reserves a b xs ys time list is =
    subst (λ (t : ℕ). AreReadFrom task reserves t ys) time
    (subst (λ (values : List Ends). AreReadFrom task reserves a values) list is)

-- a list that was written back whole
pub written-back : (k : ℕ) (xs ys : List Ends) → length xs ≡ k → take k (xs ++ drop (length xs) ys) ≡ xs
written-back k xs ys e = rw (← e) (take-append_seam xs (drop (length xs) ys))

-- at the start each life has survivors
pub start-survives : (n : ℕ) (g : PlainGroup) → IsGroup n g → (i : ℕ) → i < n → 0 < survivors_in g 0 i
start-survives n g is i below =
    let row = is.rows i below in
    row-survives g.file is.sound (life_at g.lives i).table ((life_at g.lives i).age + 0)
    (record {
      table_in = row.table_in;
      from_first = omega (arith, row.from_first);
      to_last = omega (
        arith,
        row.to_last,
      );
    })
