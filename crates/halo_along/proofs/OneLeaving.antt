-- The discount factor times the chance that a life leaves times what the status on which a pay waits loses with it
-- encloses the value of 1 paid if a payment falls on that leaving.
use Rattle.std.proofs.Common.{◌≡◌, ◌⊎◌, ℕ, zero, suc, ◌+◌, ◌*◌, ◌-◌, ◌<◌, ◌≤◌, List, [], ◌∷◌, length, set, Bool, true, false, cond, ℤ, pos, ◌*ℤ◌, ◌≤ℤ◌, nat_lt, arith, refl, ⊎_elim, inl, inr}
use Rattle.std.specs.Prelude.{IsTrue}
use Rattle.std.proofs.Math.IntN.{*ℤ-zero}
use Rattle.std.proofs.Math.Nat.{mul-pos}
use Rattle.std.proofs.lemmas.Bool.{cases_lt}
use Rattle.std.proofs.lemmas.Int.{ints}
use Rattle.halo_sums.specs.Masks.{has_bit}
use Rattle.halo_sums.proofs.Integers.{le_of_mul_pos, mul_le_pos}
use Rattle.halo_num.specs.Chance.{EnclosesChance}
use Rattle.halo_num.specs.Ends.{Ends, fine}
use Rattle.halo_num.specs.Enclosure.{Encloses}
use Rattle.halo_interest.specs.Rates.{IsInterest}
use Rattle.halo_interest.proofs.InForce.{in_force_is}
use Rattle.halo_status.specs.Naming.{NamesLivesBelow, names_life}
use Rattle.halo_status.specs.Nodes.{nodes}
use Rattle.halo_status.specs.Pay.{PlainPay, pay_of}
use Rattle.halo_status.specs.Tree.{Tree}
use Rattle.halo_status.specs.ValidPay.{IsValidPay}
use Rattle.halo_status.specs.View.{is_on}
use Rattle.halo_status.specs.declared.pay.Kind.TheVariants.{Insurance}
use Rattle.halo_status.specs.declared.view.View.TheVariants.{Due}
use Rattle.halo_contract.specs.declared.ties.Ties.TheVariants.{Declared}
use Rattle.halo_model.specs.Basis.{Basis, discounted}
use Rattle.halo_model.specs.ByTree.{weight_of, whole_of}
use Rattle.halo_model.specs.Chance.{IsValidInsurance, OfMarked, asked}
use Rattle.halo_model.specs.Enclosed.{of_one}
use Rattle.halo_model.specs.Expectation.{HasYear, looked_at}
use Rattle.halo_model.specs.FromTables.{lives_of}
use Rattle.halo_model.specs.Independent.{started_of, survivors_of}
use Rattle.halo_model.specs.Life.{AreLives, PlainLife}
use Rattle.halo_model.specs.PartsByTree.{leavers_of, put_for, waiting}
use Rattle.halo_model.specs.SetValue.{can_fall_on_life}
use Rattle.halo_model.proofs.Independent.{survivors_of-le}
use Rattle.halo_model.proofs.Leavers.{leavers_by-past}
use Rattle.halo_model.proofs.Losses.{pay-loss-is-not-negative}
use Rattle.halo_model.proofs.NoFall.{of-marked}
use Rattle.halo_model.proofs.Outside.{no-chance-on-leaving-outside}
use Rattle.halo_model.proofs.Positive.{some-interest}
use Rattle.halo_model.proofs.Waiting.{waiting-named}
use Rattle.halo_life.specs.PlainGroup.{IsGroup, PlainGroup}
use Rattle.halo_life.proofs.AlongTree.{started-is}
use Rattle.halo_compile.proofs.Living.{living-survive}
use Rattle.halo_compile.proofs.Sums.{wider}
use Rattle.halo_compile.proofs.Tasks.{count-lives, group-lives}
use Rattle.halo_chance.specs.Enclosed.{AreEnclosed, EachIsChance, entry_at, life_widths}
use Rattle.halo_chance.specs.Loss.{EnclosesLoss, loss_of}
use Rattle.halo_chance.specs.Present.{discount_to, discount_whole}
use Rattle.halo_chance.proofs.Enclosing.{whole-positive}
use Rattle.halo_chance.proofs.Losses.{enclosed-put}
use Rattle.halo_chance.proofs.Present.{leaving-present}
use Rattle.halo_along.specs.Along.{IsTreeTask, basis_of_tree_task}
use Rattle.halo_along.specs.Leavings.{EncloseLookedAt, EnclosesOneLeaving, declared_rank, width_of_event}
use Rattle.halo_along.specs.Years.{IsDiscount, present_whole}
use Rattle.halo_along.specs.declared.tree_task.TreeTask.{TreeTask}
use Rattle.halo_along.proofs.Waits.{loss-width}

-- a life has a year in its table, or nobody leaves as it does then
year-or-none : (causes : ℕ → Bool) (a k : ℕ) (lives : List PlainLife) → AreLives lives → a < length lives
    → HasYear a k lives ⊎ ((HasYear a k lives → ⊥) × (leavers_of causes k lives a ≡ 0))
year-or-none causes a k [] rule within = absurd (omega (arith, within))
year-or-none causes zero k (x ∷ lives) rule within = ⊎_elim
    (λ here. inl here)
    (λ past. inr ((λ here. absurd (omega (arith, here, past))), leavers_by-past causes x rule.0 k past))
    (cases_lt k x.years_left)
year-or-none causes (suc a) k (x ∷ lives) rule within = year-or-none causes a k lives rule.1 (omega (arith, within))

-- each life of a group that is alive has survivors then
pub some-started : (n : ℕ) (g : PlainGroup) → IsGroup n g → (i : ℕ) → i < n
    → 0 < started_of g.start (has_bit g.alive) (lives_of g.file g.lives) i
some-started n g is i below =
    rw (started-is g.file g.start (has_bit g.alive) g.lives i (omega (arith, below, is.count)))
    (at-least-one (has_bit g.alive i) _ (living-survive n g is i below))
  where
    at-least-one : (alive : Bool) (l : ℕ) → (alive ≡ true → 0 < l) → 0 < cond alive l 1
    at-least-one true l h = h refl
    at-least-one false l h = omega arith

-- an interval that encloses 0 in some parts does so in all
none-in-all : (i : Ends) (d e : ℕ) → 0 < d → Encloses i (pos 0) d → Encloses i (pos 0) e
none-in-all i d e some is = record {
  low = at-most i.lo e (le_of_mul_pos i.lo (pos 0) d some (omega (arith, ints, is.low)));
  high = at-least i.hi e (le_of_mul_pos (pos 0) i.hi d some (omega (arith, ints, is.high)));
}
  where
    at-most : (z : ℤ) (e : ℕ) → z ≤ℤ pos 0 → (z *ℤ pos e) ≤ℤ (pos 0 *ℤ pos fine)
    at-most z e h = omega (arith, ints, mul_le_pos z (pos 0) e h)

    at-least : (z : ℤ) (e : ℕ) → pos 0 ≤ℤ z → (pos 0 *ℤ pos fine) ≤ℤ (z *ℤ pos e)
    at-least z e h = omega (arith, ints, mul_le_pos (pos 0) z e h)

-- with amount 1 an insurance is valid as well
pub unit-valid : (pay : PlainPay) → IsValidPay pay → pay.kind ≡ Insurance → IsValidInsurance (of_one pay)
unit-valid pay is kind = record {
  valid = record {
    amount_from = omega arith;
    amount_in = omega arith;
    defer_in = is.defer_in;
    vary = is.vary;
    lengths = is.lengths;
    lists = is.lists;
    few_nodes = is.few_nodes;
    ranks = is.ranks;
    lasting = is.lasting;
    causes = is.causes;
    mark = is.mark;
  };
  kind = kind;
}

module _ {n : ℕ} (along : TreeTask n) (is : IsTreeTask along) (group : IsGroup n along.group.now)
    (interest : IsInterest along.interest.now) (kind : along.pay.now.kind ≡ Insurance) where
  abbrev b : Basis
  b = basis_of_tree_task along Declared

  abbrev pay : PlainPay
  pay = of_one (pay_of along.pay.now)

  abbrev tree : Tree
  tree = waiting pay.mark pay.body

  abbrev start : ℕ
  start = along.group.now.start

  abbrev living : ℕ → Bool
  living = has_bit along.group.now.alive

  abbrev started : ℕ → ℕ
  started = started_of start living b.lives

  pub lives-are : AreLives b.lives
  lives-are = group-lives n along.group.now group

  pub named-below : NamesLivesBelow (length b.lives) pay.body
  named-below i named = omega (arith, is.lives i named, count-lives along.group.now, group.count)

  -- the discount factors of some years have parts
  pub some-discount : (t : ℕ) → 0 < discount_whole b start t
  some-discount t = some-interest b.p b.q (t - start) start
      (λ j since within. omega (arith, (in_force_is along.interest.now interest j).q_from))

  -- the entries of lives enclose the chances of those on which the pay waits
  pub waited-enclosed : (there : ℕ → ℕ) (entries : List Ends)
      → ((i : ℕ) → i < n → EnclosesChance (there i) (started i) 1 (entry_at entries i))
      → AreEnclosed there started (λ i. 1) entries (λ i. names_life i tree)
  waited-enclosed there entries each = record {
    some = λ i named.
        some-started n along.group.now group i (waiting-named n pay.mark pay.body is.lives i named);
    each = λ i named. each i (waiting-named n pay.mark pay.body is.lives i named);
  }

  module _ (a : ℕ) (low : a < n) (falls : can_fall_on_life (pay_of along.pay.now) a ≡ true)
      (alive : has_bit along.group.now.alive a ≡ true) (k : ℕ) (deferred : along.pay.now.defer ≤ k)
      (from : along.group.now.start ≤ k) (before : k < along.horizon) where
    abbrev rank : ℕ → ℕ
    rank = declared_rank (length b.lives)

    abbrev there : ℕ → ℕ
    there = survivors_of (looked_at rank a k) living b.lives

    abbrev leavers : ℕ
    leavers = leavers_of (asked pay.causes) k b.lives a

    abbrev lost : ℕ
    lost = loss_of there started (is_on Due k) a tree

    abbrev whole : ℕ
    whole = whole_of (put_for a 1 started) tree

    marked : OfMarked pay.mark pay.body (λ s. IsTrue (names_life a s))
    marked = of-marked pay.mark pay.body (names_life a) falls

    looked : (c : Bool) → start ≤ cond c (suc k) k
    looked true = omega arith
    looked false = from

    not-negative : weight_of (put_for a 0 there) (put_for a 1 started) (is_on Due k) tree
        ≤ weight_of (put_for a 1 there) (put_for a 1 started) (is_on Due k) tree
    not-negative = pay-loss-is-not-negative pay.mark pay.body (is.valid.lasting kind) is.once there started
        (survivors_of-le (looked_at rank a k) start (λ j. looked (nat_lt (rank j) (rank a))) living b.lives lives-are)
        (is_on Due k) a marked

    module _ (entries : List Ends) (chances : EachIsChance 12 entries)
        (looked_at : EncloseLookedAt along.group.now a k n entries) where
      enclosed : AreEnclosed there started (λ i. 1) entries (λ i. names_life i tree)
      unfolding EncloseLookedAt
      enclosed = waited-enclosed there entries looked_at

      some-whole : 0 < whole
      some-whole =
          let sure : Ends = record { lo = pos (1 * fine); hi = pos (1 * fine) } in
          whole-positive (put_for a 1 there) (put_for a 1 started) (put_for a 0 (λ i. 1)) (set entries a sure) tree
          (enclosed-put there started (λ i. 1) entries (λ i. names_life i tree) a 1 sure (omega arith)
          (omega (arith, chances.room, low, group.few)) refl refl enclosed)

      pub one-leaving : (discount loss leave falling product : Ends)
          → IsDiscount along (suc k) discount
          → EnclosesLoss entries (is_on Due k) a tree loss
          → EnclosesChance leavers (started a) 1 leave
          → ((m k d e v w : ℕ) → EnclosesChance m d v leave → EnclosesChance k e w loss
          → EnclosesChance (m * k) (d * e) (v + w + 1) falling)
          → ((m k d e v w : ℕ) → EnclosesChance m d v discount → EnclosesChance k e w falling
          → EnclosesChance (m * k) (d * e) (v + w + 1) product)
          → EnclosesOneLeaving along a k product
      unfolding EnclosesLoss EnclosesOneLeaving
      one-leaving discount loss leave falling product is_discount is_loss is_leave times product-is = record {
        encloses = ⊎_elim
            (λ (year : HasYear a k b.lives).
            leaving-present b lives-are pay (unit-valid (pay_of along.pay.now) is.valid kind) is.once named-below rank
            start a k deferred from (omega (arith, before, is.horizon_in)) marked living alive year product
            (some-started n along.group.now group a low) some-whole all.encloses)
            (λ (past : (HasYear a k b.lives → ⊥) × (leavers ≡ 0)).
            rw (
              no-chance-on-leaving-outside pay rank start a k living b.lives (λ here since due year. past.0 year),
              *ℤ-zero (pos (discounted b start (suc k))),
            )
            (none-in-all product (discount_whole b start (suc k) * (started a * whole)) (present_whole b start living)
            (mul-pos (some-discount (suc k)) (mul-pos (some-started n along.group.now group a low) some-whole))
            (rw (none-leaves past.1) at all.encloses)))
            (year-or-none (asked pay.causes) a k b.lives lives-are
            (omega (arith, low, count-lives along.group.now, group.count)));
        narrow = wider product _ (width_of_event along)
            (omega (arith, loss-width a pay.mark pay.body, before)) all.narrow;
        within = record { low = all.within.low; high = omega (arith, ints, all.within.high) };
      }
        where
          all : EnclosesChance (discount_to b start (suc k) * (leavers * lost))
              (discount_whole b start (suc k) * (started a * whole))
              (3 * (suc k - start)
              + (1 + 2 * (life_widths (put_for a 0 (λ i. 1)) tree + nodes tree) + 1) + 1) product
          all = product-is _ _ _ _ _ _ is_discount
              (times _ _ _ _ _ _ is_leave (is_loss there started (λ i. 1) enclosed not-negative))

          none-leaves : leavers ≡ 0 → discount_to b start (suc k) * (leavers * lost) ≡ 0
          none-leaves none = rw none (omega arith)
