-- The chances of a year of one life, from its table, and the numbers of all lives in a year.
use Rattle.std.proofs.Common.{◌≡◌, ◌≢◌, ℕ, zero, suc, ◌+◌, ◌*◌, ◌<◌, ◌≤◌, arith, refl, ap, sym, ◌∙◌, List, [], ◌∷◌, length, get_or, set, get_or-set_other, get_or-set_same, Option, Bool, true, false, cond, pos, ◌+ℤ◌, ◌*ℤ◌, ◌≤ℤ◌, ⊎_elim}
use Rattle.std.proofs.lemmas.Bool.{cases_lt}
use Rattle.std.proofs.lemmas.Int.{ints}
use Rattle.std.proofs.lemmas.List.{get_or-map, get_or_past, length-map}
use Rattle.halo_sums.specs.Masks.{has_bit}
use Rattle.halo_sums.specs.Sets.{in_set}
use Rattle.halo_sums.specs.Sums.{product_over}
use Rattle.halo_sums.proofs.Integers.{add_mul, le_of_mul_pos}
use Rattle.halo_num.specs.Enclosure.{Encloses}
use Rattle.halo_num.specs.Ends.{Ends, fine}
use Rattle.halo_table.specs.declared.lives.Life.{Life}
use Rattle.halo_model.specs.Chance.{asked}
use Rattle.halo_model.specs.EvenTies.{YearNumbers, lives_in}
use Rattle.halo_model.specs.FromTables.{life_of, lives_of}
use Rattle.halo_model.specs.Horizon.{life_at}
use Rattle.halo_model.specs.Life.{PlainLife}
use Rattle.halo_model.specs.OrderLaws.{no_life, year_numbers}
use Rattle.halo_model.specs.Outcome.{joint_survivors}
use Rattle.halo_model.proofs.FromTables.{life_of-IsLife}
use Rattle.halo_model.proofs.Leavers.{year-splits}
use Rattle.halo_model.proofs.LeavingsOfASet.{next-lives}
use Rattle.halo_life.specs.Lists.{nothing}
use Rattle.halo_life.specs.PlainGroup.{IsGroup, PlainGroup, leavers_of_life, survivors_in}
use Rattle.halo_life.specs.YearOfLives.{EnclosesYear, year_at}
use Rattle.halo_life.specs.declared.year.YearOfLife.{YearOfLife}

-- a life of a group
module _ (n : ℕ) (g : PlainGroup) (group : IsGroup n g) where
  abbrev lives : List PlainLife
  lives = lives_of g.file g.lives

  pub group-splits : (causes : ℕ → Bool) (k i : ℕ)
      → i < n → leavers_of_life g causes k i + survivors_in g (suc k) i ≤ survivors_in g k i
  group-splits causes k i low =
      let x = life_at g.lives i in
      let row = group.rows i low in
      year-splits causes
      (life_of g.file x.table x.age) (life_of-IsLife g.file group.sound x.table x.age row.table_in row.from_first) k

  pub life-is : (i : ℕ)
      → i < n → get_or lives i no_life ≡ life_of g.file (life_at g.lives i).table (life_at g.lives i).age
  life-is i low = get_or-map (λ (life : Life). life_of g.file life.table life.age) g.lives i
      (record { table = 0; age = 0 }) no_life (omega (arith, low, group.count))

  pub length-lives : length lives ≡ n
  length-lives = length-map g.lives (λ (life : Life). life_of g.file life.table life.age) ∙ group.count

  -- the numbers of a year of the lives, of whom some count if they leave by some causes
  module _ (k counted : ℕ) (causes : Option ℕ) where
    abbrev numbers : YearNumbers
    numbers = year_numbers (has_bit counted) (asked causes) lives k

    -- no more leave and stay than are alive; and of no life nobody does
    pub numbers-split : (i : ℕ) → numbers.leaving i + numbers.staying i ≤ numbers.alive i
    numbers-split i = ⊎_elim
        (λ (low : i < n). rw (life-is i low) (each (has_bit counted i) _ _ _ (group-splits (asked causes) k i low)))
        (λ (high : n ≤ i). let gone : get_or lives i no_life ≡ no_life = get_or_past lives i no_life
        (omega (arith, length-lives)) in rw gone (nobody (has_bit counted i)))
        (cases_lt i n)
      where
        each : (counts : Bool) (l s a : ℕ) → l + s ≤ a → cond counts l 0 + s ≤ a
        each true l s a h = h
        each false l s a h = omega (arith, h)

        nobody : (counts : Bool) → cond counts 0 0 + 0 ≤ 0
        nobody true = omega arith
        nobody false = omega arith

    -- the chances of a life are those of its numbers
    pub year-of-numbers : (i : ℕ) → i < n → (year : YearOfLife)
        → EnclosesYear (cond (has_bit counted i) (leavers_of_life g (asked causes) k i) 0)
        (survivors_in g (suc k) i) (survivors_in g k i) year
        → EnclosesYear (numbers.leaving i) (numbers.staying i) (numbers.alive i) year
    year-of-numbers i low year h = rw (life-is i low) h

-- the survivors of a joint life are the product of those of its lives
joint-of-set : (t : ℕ) (lives : List PlainLife) (s : List Bool) → length s ≡ length lives
    → joint_survivors t (in_set s) lives
    ≡ product_over (lives_in (length lives) (in_set s)) (λ i. (get_or lives i no_life).survivors t)
joint-of-set t [] s same = refl
joint-of-set t (x ∷ lives) [] same = absurd (omega arith)
joint-of-set t (x ∷ lives) (true ∷ s) same =
    ap (λ m. x.survivors t * m) (joint-of-set t lives s (omega arith)
    ∙ sym (next-lives (in_set (true ∷ s)) (length lives) 0 (λ i. (get_or (x ∷ lives) i no_life).survivors t)))
joint-of-set t (x ∷ lives) (false ∷ s) same =
    omega arith ∙ joint-of-set t lives s (omega arith)
    ∙ sym (next-lives (in_set (false ∷ s)) (length lives) 0 (λ i. (get_or (x ∷ lives) i no_life).survivors t))

pub joint-is : (n t : ℕ) (lives : List PlainLife) (s : List Bool) → length lives ≡ n → length s ≡ n
    → joint_survivors t (in_set s) lives
    ≡ product_over (lives_in n (in_set s)) (λ i. (get_or lives i no_life).survivors t)
joint-is n t lives s count same = joint-of-set t lives s (same ∙ sym count)
    ∙ ap (λ k. product_over (lives_in k (in_set s)) (λ i. (get_or lives i no_life).survivors t)) count

-- two parts of a whole have lower ends of at most 1 together
pub parts-together : (a b : Ends) (n m d : ℕ) → (d ≡ 0 → a ≡ nothing)
    → (d ≡ 0 → b ≡ nothing) → n + m ≤ d → Encloses a (pos n) d → Encloses b (pos m) d → (a.lo +ℤ b.lo) ≤ℤ pos fine
parts-together a b n m zero none_a none_b parts p q = rw (none_a refl, none_b refl) (omega (arith, ints))
parts-together a b n m (suc d) none_a none_b parts p q =
    let e : ((a.lo +ℤ b.lo) *ℤ pos (suc d)) ≤ℤ (pos fine *ℤ pos (suc d)) =
    rw (add_mul a.lo b.lo (pos (suc d))) (omega (arith, ints, p.low, q.low, parts)) in
    le_of_mul_pos (a.lo +ℤ b.lo) (pos fine) (suc d) (omega arith) e

pub counted-less : (counts : Bool) (n : ℕ) → cond counts n 0 ≤ n
counted-less true n = omega arith
counted-less false n = omega arith

-- the chances of one life more in its place
pub stored : (P : ℕ → YearOfLife → Type 0) (lives : List YearOfLife) (at place : ℕ) (year : YearOfLife)
    → place ≡ at → at < length lives
    → ((i : ℕ) → i < at → P i (year_at lives i))
    → P at year → (i : ℕ) → i < at + 1 → P i (year_at (set lives place year) i)
stored P lives at place year is room before here i low = rw is (⊎_elim
    (λ (h : i < at). let other : i ≢ at = omega arith in rw get_or-set_other (before i h))
    (λ (h : at ≤ i). let e : i ≡ at = omega arith in rw (e, get_or-set_same) here)
    (cases_lt i at))
