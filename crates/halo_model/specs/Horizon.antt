-- The horizon of a status: the years after which it cannot change.
use Rattle.std.specs.Prelude.{◌↔◌, IsTrue, ℕ, ◌<◌, ◌≤◌, max, List, get_or, length}
use Rattle.halo_status.specs.Tree.{Tree, Trees, life, term, joint, last, at_least, exactly, after, none, more}
use Rattle.halo_status.specs.Naming.{any_names_life, any_names_term, names_life, names_term}
use Rattle.halo_table.specs.DecrementTable.{TableFile, HasRow}
use Rattle.halo_table.specs.declared.lives.Life.{Life}
use Rattle.halo_model.specs.Life.{PlainLife}

-- for how many years the table of life i goes on, 0 for a life that there is not
abbrev pub years_left_of : List PlainLife → ℕ → ℕ
years_left_of lives i = (get_or lives i (record {
  years_left = 0;
  causes = 0;
  survivors = λ t. 0;
  leavers = λ k j. 0;
})).years_left

-- the longest of the years that the lives of a status have left and of its terms, 0 where it has
-- neither
abbrev mutual
  pub longest : (ℕ → ℕ) → Tree → ℕ
  longest years_left (life i) = years_left i
  longest years_left (term n) = n
  longest years_left (joint members) = longest_of years_left members
  longest years_left (last members) = longest_of years_left members
  longest years_left (at_least r members) = longest_of years_left members
  longest years_left (exactly r members) = longest_of years_left members
  longest years_left (after s t) = max (longest years_left s) (longest years_left t)

  pub longest_of : (ℕ → ℕ) → Trees → ℕ
  longest_of years_left none = 0
  longest_of years_left (more s members) =
      max (longest years_left s) (longest_of years_left members)

-- the horizon of a status of some lives: the longest of these years, at least 1
unfoldable pub horizon : List PlainLife → Tree → ℕ
horizon lives body = max 1 (longest (years_left_of lives) body)

-- a life of a contract by its number
abbrev pub life_at : List Life → ℕ → Life
life_at lives i = get_or lives i (record { table = 0; age = 0 })

-- each life that a status names is one of some lives, and has a row at its age
abbrev pub HasRows : TableFile → List Life → Tree → Type 0
HasRows file lives body = (i : ℕ) → IsTrue (names_life i body)
    → (i < length lives) × HasRow file (life_at lives i).table (life_at lives i).age

-- each term of a status has at most 200 years
abbrev pub HasShortTerms : Tree → Type 0
HasShortTerms body = (n : ℕ) → IsTrue (names_term n body) → n ≤ 200

-- the same of the members of a status
abbrev pub HaveRows : TableFile → List Life → Trees → Type 0
HaveRows file lives members = (i : ℕ) → IsTrue (any_names_life i members)
    → (i < length lives) × HasRow file (life_at lives i).table (life_at lives i).age

abbrev pub HaveShortTerms : Trees → Type 0
HaveShortTerms members = (n : ℕ) → IsTrue (any_names_term n members) → n ≤ 200

-- a number of years that is at least 1, as many as each life that a status names has left, and as
-- long as each of its terms
pub record Covers (lives : List PlainLife) (body : Tree) (years : ℕ) : Type 0 where
  pub one : 1 ≤ years
  pub each_life : (i : ℕ) → IsTrue (names_life i body) → years_left_of lives i ≤ years
  pub each_term : (n : ℕ) → IsTrue (names_term n body) → n ≤ years

-- the horizon is the least number of years that covers a status
abbrev pub HorizonIsLeast : Type 0
HorizonIsLeast = (lives : List PlainLife) (body : Tree) (years : ℕ)
    → (horizon lives body ≤ years) ↔ Covers lives body years
