-- Some lives at a time, of which some are alive.
use Rattle.std.specs.Prelude.{◌≡◌, ℕ, ◌+◌, ◌<◌, ◌≤◌, Bool, true, false, cond, List, length}
use Rattle.halo_sums.specs.Masks.{has_bit}
use Rattle.halo_interest.specs.declared.powers.TheConstants.{LAST_TIME}
use Rattle.halo_table.specs.DecrementTable.{TableFile, survivors_at, HasRow}
use Rattle.halo_table.specs.Sound.{IsSound}
use Rattle.halo_table.specs.declared.lives.Life.{Life}
use Rattle.halo_model.specs.FromTables.{life_of}
use Rattle.halo_model.specs.Horizon.{life_at}
use Rattle.halo_model.specs.Life.{leavers_by}
use Rattle.halo_contract.specs.declared.ties.Ties.{Ties}
use Rattle.halo_contract.specs.declared.ties.Ties.TheVariants.{Even, Declared}
use Rattle.halo_life.specs.declared.group.TheConstants.{MOST_LIVES}

-- the tables, the lives in the declared order, a time, the mask of those that are alive then, and
-- the rule for those who leave in one year
pub record PlainGroup : Type 0 where
  pub file : TableFile
  pub lives : List Life
  pub start : ℕ
  pub alive : ℕ
  pub ties : Ties

-- whether all orders are taken, each with equal chance
abbrev pub is_even : Ties → Bool
is_even Declared = false
is_even Even = true

-- the rule for ties, by whether it is the even one
abbrev pub ties_of : Bool → Ties
ties_of even = cond even Even Declared

-- a life has a row at its age at a time
abbrev pub HasRowAt : TableFile → List Life → ℕ → ℕ → Type 0
HasRowAt file lives t i = HasRow file (life_at lives i).table ((life_at lives i).age + t)

-- n lives at a time; each has a row at its age, and each that is alive at its age then
pub record IsGroup (n : ℕ) (g : PlainGroup) : Type 0 where
  pub some : 1 ≤ n
  pub few : n ≤ MOST_LIVES
  pub count : length g.lives ≡ n
  pub time : g.start ≤ LAST_TIME
  pub sound : IsSound g.file
  pub rows : (i : ℕ) → i < n → HasRow g.file (life_at g.lives i).table (life_at g.lives i).age
  pub alive_rows : (i : ℕ) → i < n → has_bit g.alive i ≡ true
      → HasRowAt g.file g.lives g.start i

-- the survivors of a life at a time: l_(x+t)
abbrev pub survivors_in : PlainGroup → ℕ → ℕ → ℕ
survivors_in g t i = survivors_at g.file (life_at g.lives i).table ((life_at g.lives i).age + t)

-- those who leave as a life does in year k by one of some causes: d_(x+k)
abbrev pub leavers_of_life : PlainGroup → (ℕ → Bool) → ℕ → ℕ → ℕ
leavers_of_life g causes k i =
    leavers_by causes (life_of g.file (life_at g.lives i).table (life_at g.lives i).age) k

-- the chances of a life are told in parts of its survivors at the group's time, and of 1 for a life
-- that is not alive then: that it is alive at time t, and that it leaves in year k
-- ₜp_x = l_(x+t) / l_x and ₖ|q_x = d_(x+k) / l_x, from the start of the contract
abbrev pub started : PlainGroup → ℕ → ℕ
started g i = cond (has_bit g.alive i) (survivors_in g g.start i) 1

abbrev pub surviving : PlainGroup → ℕ → ℕ → ℕ
surviving g t i = cond (has_bit g.alive i) (survivors_in g t i) 0

abbrev pub leaving : PlainGroup → (ℕ → Bool) → ℕ → ℕ → ℕ
leaving g causes k i = cond (has_bit g.alive i) (leavers_of_life g causes k i) 0
