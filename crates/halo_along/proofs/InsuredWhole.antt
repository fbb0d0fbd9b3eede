-- What an insurance pays in the years to its horizon encloses its value, within its count and its bounds.
use Rattle.std.proofs.Common.{◌≡◌, ℕ, ◌+◌, ◌*◌, ◌-◌, ◌^◌, ◌≤◌, List, [], ◌∷◌, length, Bool, None, pos, ◌*ℤ◌, arith, refl, ap, sym, ◌∙◌}
use Rattle.std.specs.Prelude.{All}
use Rattle.std.proofs.Math.Nat.{mul-le-mul_right, pow-succ', pow-zero}
use Rattle.std.proofs.lemmas.Nat.{mul-le, pow_pos}
use Rattle.std.proofs.lemmas.List.Elements.{All-from_get_or, All-get_or, All-head, All-tail}
use Rattle.halo_sums.specs.Masks.{has_bit}
use Rattle.halo_sums.proofs.Integers.{mul_comm}
use Rattle.halo_num.specs.Ends.{Ends, HasWidth}
use Rattle.halo_num.specs.Enclosure.{Encloses}
use Rattle.halo_num.proofs.Enclosures.{encloses_at}
use Rattle.halo_status.specs.Pay.{PlainPay, pay_of}
use Rattle.halo_status.specs.declared.pay.Kind.{Kind}
use Rattle.halo_status.specs.declared.pay.Kind.TheVariants.{Insurance, Due, Immediate}
use Rattle.halo_table.specs.DecrementTable.{HasRow, TableFile, empty_table, last_age_of}
use Rattle.halo_table.specs.Sound.{IsSound, IsSoundTable}
use Rattle.halo_table.specs.declared.lives.Life.{Life}
use Rattle.halo_contract.specs.declared.ties.Ties.{Ties}
use Rattle.halo_contract.specs.declared.ties.Ties.TheVariants.{Declared, Even}
use Rattle.halo_model.specs.Basis.{Basis, accumulated, taken}
use Rattle.halo_model.specs.Counts.{Measures, greatest_factor, measures_of, most_worth, order_share, width_count}
use Rattle.halo_model.specs.Enclosed.{of_one}
use Rattle.halo_model.specs.FromTables.{lives_of}
use Rattle.halo_model.specs.Horizon.{horizon}
use Rattle.halo_model.specs.Life.{AreLives}
use Rattle.halo_model.specs.Outcome.{joint_survivors}
use Rattle.halo_model.specs.PartLaws.{EndBy}
use Rattle.halo_model.specs.Value.{denominator, numerator}
use Rattle.halo_model.proofs.Bounded.{insurance-is-bounded}
use Rattle.halo_model.proofs.RanksAsk.{ranks-ask}
use Rattle.halo_life.specs.PlainGroup.{IsGroup, PlainGroup}
use Rattle.halo_compile.proofs.Sums.{wider}
use Rattle.halo_compile.proofs.Tasks.{group-lives}
use Rattle.halo_along.specs.Along.{IsTreeTask, basis_of_tree_task}
use Rattle.halo_along.specs.Insured.{EnclosesInsuredYears, insured_value_of_years}
use Rattle.halo_along.specs.Years.{present_whole}
use Rattle.halo_along.specs.declared.tree_task.TreeTask.{TreeTask}
use Rattle.halo_along.proofs.Counting.{greatest-some, some-nodes}
use Rattle.halo_along.proofs.Insured.{insurance-by-years-to-horizon}
use Rattle.halo_along.proofs.OneLeaving.{unit-valid}

-- the tables of lives that have rows end by time 200: no age is above 150
table-ends : (file : TableFile) → IsSound file → (x : Life) → HasRow file x.table x.age
    → last_age_of file x.table + 1 - x.age ≤ 200
table-ends file sound x row =
    let table = All-get_or (IsSoundTable (length file.causes)) file.tables x.table empty_table row.table_in
    sound.tables in
    omega (arith, table.ages)

lives-end : (file : TableFile) → IsSound file → (lives : List Life)
    → All (λ life. HasRow file life.table life.age) lives → EndBy 200 (lives_of file lives)
lives-end file sound [] rows = tt
lives-end file sound (x ∷ lives) rows = (
  table-ends file sound x (All-head (λ life. HasRow file life.table life.age) x lives rows),
  lives-end file sound lives (All-tail (λ life. HasRow file life.table life.age) x lives rows),
)

pub group-ends : (n : ℕ) (g : PlainGroup) → IsGroup n g → EndBy 200 (lives_of g.file g.lives)
group-ends n g is = lives-end g.file is.sound g.lives
    (All-from_get_or (λ life. HasRow g.file life.table life.age) g.lives (record { table = 0; age = 0 })
    (λ i h. is.rows i (omega (arith, h, is.count))))

-- the orders of the lives make a value no narrower
pub share-some : (ties : Ties) (kind : Kind) (named : ℕ) → 1 ≤ order_share ties kind named
share-some Even Insurance named = omega (arith, pow_pos (named + 1))
share-some Even Due named = omega arith
share-some Even Immediate named = omega arith
share-some Declared Insurance named = omega arith
share-some Declared Due named = omega arith
share-some Declared Immediate named = omega arith

-- the count has room for the values of existence of each year of the horizon
insured-count-has-room : (m : Measures) (years : ℕ) → years ≤ m.horizon → 1 ≤ m.nodes → 1 ≤ m.weight → 1 ≤ m.share
    → years * ((2 * (3 * m.horizon + 2 * m.nodes + 1) + 2) * m.factor) ≤ width_count m
unfolding width_count
insured-count-has-room m years few some weighty shared = omega (arith, of_years, weighed, times, room)
  where
    span : ℕ
    span = m.horizon + m.named + 3

    square : ℕ
    square = (m.nodes + 1) ^ 2

    -- of one year, by the nodes and the horizon
    one : 2 * (3 * m.horizon + 2 * m.nodes + 1) + 2 ≤ 6 * (square * span)
    one =
        let two : 2 * (m.nodes + 1) ≤ (m.nodes + 1) * (m.nodes + 1) = mul-le-mul_right (m.nodes + 1) (omega arith) in
        let is : square ≡ (m.nodes + 1) * (m.nodes + 1) = squared (m.nodes + 1) in
        let all : 2 * (m.nodes + 1) * span ≤ square * span = mul-le-mul_right span (omega (arith, two, is)) in
        omega (arith, all)
      where
        squared : (n : ℕ) → n ^ 2 ≡ n * n
        squared n = pow-succ' n 1 ∙ ap (λ z. n * z) (pow-succ' n 0 ∙ ap (λ z. n * z) (pow-zero n) ∙ omega arith)

    part : ℕ
    part = (m.horizon + 1) * (6 * (square * span) * m.factor)

    of_years : years * ((2 * (3 * m.horizon + 2 * m.nodes + 1) + 2) * m.factor) ≤ part
    of_years = mul-le years _ (m.horizon + 1) _ (omega arith) (mul-le-mul_right m.factor one)

    weighed : 1 * part ≤ m.weight * part
    weighed = mul-le-mul_right part weighty

    times : 1 * (m.weight * part) ≤ m.share * (m.weight * part)
    times = mul-le-mul_right (m.weight * part) shared

    room : m.share * (m.weight * part)
        ≤ 6 * square * m.weight * (m.horizon + 1) * span * m.factor * m.share
    room = omega arith

pub most-is : (kind : Kind) → kind ≡ Insurance → (m : Measures) → most_worth kind m ≡ m.factor
unfolding most_worth
most-is kind e m = rw e refl

module _ {n : ℕ} (along : TreeTask n) (is : IsTreeTask along) (group : IsGroup n along.group.now)
    (kind : along.pay.now.kind ≡ Insurance) (ties : Ties) where
  abbrev b : Basis
  b = basis_of_tree_task along ties

  abbrev pay : PlainPay
  pay = pay_of along.pay.now

  abbrev start : ℕ
  start = along.group.now.start

  abbrev living : ℕ → Bool
  living = has_bit along.group.now.alive

  lives : AreLives b.lives
  lives = group-lives n along.group.now group

  -- no wider than its count
  pub insured-narrow : (i : Ends) → EnclosesInsuredYears along (along.horizon - start) i
      → HasWidth i (width_count (measures_of b pay))
  unfolding EnclosesInsuredYears
  insured-narrow i years = wider i _ _
      (rw is.horizon_is (insured-count-has-room (measures_of b pay) (horizon b.lives pay.body - start) (omega arith)
      (some-nodes pay.body) (greatest-some _) (share-some ties pay.kind _)))
      (years ties).narrow

  -- and at most its greatest factor
  pub insured-above : (most : ℕ) → most ≡ greatest_factor along.pay.now.vary along.horizon
      → numerator b (of_one pay) start living ≤ most * denominator b start living
  insured-above most e =
      let bound : 1 * greatest_factor along.pay.now.vary (horizon b.lives pay.body) ≡ most =
      omega (arith, e, ap (greatest_factor along.pay.now.vary) is.horizon_is) in
      rw (← bound)
      (insurance-is-bounded b lives (group-ends n along.group.now group) (of_one pay) (unit-valid pay is.valid kind)
      start living)

  pub most-of-insurance : most_worth pay.kind (measures_of b pay) ≡ greatest_factor along.pay.now.vary along.horizon
  most-of-insurance = most-is pay.kind kind (measures_of b pay)
      ∙ ap (greatest_factor along.pay.now.vary) (sym is.horizon_is)

  -- what the years to the horizon pay is what the insurance is worth
  pub insured-encloses : along.pay.now.mark ≡ None → along.pay.now.causes ≡ None
      → (i : Ends) → EnclosesInsuredYears along (along.horizon - start) i
      → Encloses i (pos (numerator b (of_one pay) start living)) (denominator b start living)
  unfolding EnclosesInsuredYears denominator
  insured-encloses plain any_cause i years =
      encloses_at i (insured_value_of_years b (of_one pay) start living (along.horizon - start))
      (pos (numerator b (of_one pay) start living)) (present_whole b start living)
      (length (taken b) * (joint_survivors start living b.lives * accumulated b start)) (length (taken b))
      (years ties).encloses
      (insurance-by-years-to-horizon b lives (group-ends n along.group.now group) (of_one pay) kind plain any_cause
      (is.valid.lasting kind) is.valid.lists (ranks-ask pay.body is.valid.ranks) start living
      group.time (omega (arith, is.horizon_is, is.horizon_in))
      ∙ ap (λ (h : ℕ). pos (length (taken b)) *ℤ insured_value_of_years b (of_one pay) start living (h - start))
      (sym is.horizon_is)
      ∙ mul_comm (pos (length (taken b))) _)
      (omega arith)
