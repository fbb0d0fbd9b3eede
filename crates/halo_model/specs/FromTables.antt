-- The lives of a contract, as the tables of a file tell them.
use Rattle.std.specs.Prelude.{ℕ, ◌+◌, ◌-◌, List, length, map}
use Rattle.halo_table.specs.DecrementTable.{TableFile, last_age_of, leavers_at, survivors_at}
use Rattle.halo_table.specs.declared.lives.Life.{Life}
use Rattle.halo_model.specs.Life.{PlainLife}

-- a life of some age in the table at a place: time t is its age plus t
abbrev pub life_of : TableFile → ℕ → ℕ → PlainLife
life_of file table age = record {
  years_left = last_age_of file table + 1 - age;
  causes = length file.causes;
  survivors = λ t. survivors_at file table (age + t);
  leavers = λ k j. leavers_at file table (age + k) j;
}

-- the lives of a contract, in the declared order
abbrev pub lives_of : TableFile → List Life → List PlainLife
lives_of file lives = map (λ life. life_of file life.table life.age) lives
