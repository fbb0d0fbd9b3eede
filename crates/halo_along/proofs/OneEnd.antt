-- The discount factor times what the status on which a pay waits loses with the terms that end encloses the value of 1
-- paid if a payment falls on their end.
use Rattle.std.proofs.Common.{◌≡◌, ℕ, suc, ◌+◌, ◌*◌, ◌-◌, ◌<◌, ◌≤◌, List, length, Bool, true, false, ◌&&◌, Option, None, Some, nat_le, nat_lt, arith, refl}
use Rattle.std.specs.Prelude.{IsTrue}
use Rattle.std.proofs.lemmas.Int.{ints}
use Rattle.halo_sums.specs.Masks.{has_bit}
use Rattle.halo_num.specs.Chance.{EnclosesChance}
use Rattle.halo_num.specs.Ends.{Ends}
use Rattle.halo_interest.specs.Rates.{IsInterest}
use Rattle.halo_status.specs.Naming.{names_life, names_term}
use Rattle.halo_status.specs.Nodes.{nodes}
use Rattle.halo_status.specs.Pay.{PlainPay, pay_of}
use Rattle.halo_status.specs.Tree.{Tree}
use Rattle.halo_status.specs.declared.pay.Kind.TheVariants.{Insurance}
use Rattle.halo_contract.specs.declared.ties.Ties.TheVariants.{Declared}
use Rattle.halo_model.specs.Basis.{Basis}
use Rattle.halo_model.specs.ByTree.{weight_of, whole_of}
use Rattle.halo_model.specs.Chance.{OfMarked}
use Rattle.halo_model.specs.Enclosed.{of_one}
use Rattle.halo_model.specs.Event.{ends}
use Rattle.halo_model.specs.Independent.{started_of, survivors_of}
use Rattle.halo_model.specs.PartsByTree.{waiting}
use Rattle.halo_model.specs.Payment.{by_cause}
use Rattle.halo_model.specs.SetValue.{can_fall_on_term, failing_part, holds_of}
use Rattle.halo_model.proofs.Independent.{survivors_of-le}
use Rattle.halo_model.proofs.NoFall.{of-marked}
use Rattle.halo_life.specs.PlainGroup.{IsGroup}
use Rattle.halo_compile.proofs.Sums.{wider}
use Rattle.halo_chance.specs.Ending.{EnclosesEndLoss, end_loss_of}
use Rattle.halo_chance.specs.Enclosed.{AreEnclosed, life_widths}
use Rattle.halo_chance.specs.Present.{discount_to, discount_whole}
use Rattle.halo_chance.proofs.EndLosses.{pay-end-loss-is-not-negative}
use Rattle.halo_chance.proofs.Enclosing.{whole-positive}
use Rattle.halo_chance.proofs.Present.{end-present}
use Rattle.halo_along.specs.Along.{IsTreeTask, basis_of_tree_task}
use Rattle.halo_along.specs.Contingent.{EnclosesOneEnd}
use Rattle.halo_along.specs.Leavings.{declared_rank, width_of_event}
use Rattle.halo_along.specs.Lives.{EncloseSurvival}
use Rattle.halo_along.specs.Years.{IsDiscount}
use Rattle.halo_along.specs.declared.tree_task.TreeTask.{TreeTask}
use Rattle.halo_along.proofs.OneLeaving.{lives-are, named-below, unit-valid, waited-enclosed}
use Rattle.halo_along.proofs.Waits.{end-loss-width}

-- a pay that pays on the end of a term asks for no causes, and its marked member names the term
both : (x y : Bool) → (x && y) ≡ true → (x ≡ true) × (y ≡ true)
both true true e = (refl, refl)
both true false e = absurd (cc)
both false y e = absurd (cc)

any-cause : (causes : Option ℕ) (n : ℕ) → by_cause causes (ends n) ≡ true → causes ≡ None
any-cause None n e = refl
any-cause (Some causes) n e = absurd (cc)

module _ {n : ℕ} (along : TreeTask n) (is : IsTreeTask along) (group : IsGroup n along.group.now)
    (interest : IsInterest along.interest.now) (kind : along.pay.now.kind ≡ Insurance)
    (k : ℕ) (falls : can_fall_on_term (pay_of along.pay.now) (suc k) ≡ true) (deferred : along.pay.now.defer ≤ k)
    (from : along.group.now.start ≤ k) (before : k < along.horizon) where
  abbrev b : Basis
  b = basis_of_tree_task along Declared

  abbrev pay : PlainPay
  pay = of_one (pay_of along.pay.now)

  abbrev tree : Tree
  tree = waiting pay.mark pay.body

  abbrev start : ℕ
  start = along.group.now.start

  abbrev living : ℕ → Bool
  living = has_bit along.group.now.alive

  abbrev there : ℕ → ℕ
  there = survivors_of (λ j. suc k) living b.lives

  abbrev started : ℕ → ℕ
  started = started_of start living b.lives

  abbrev lost : ℕ
  lost = end_loss_of there started (suc k) tree

  abbrev whole : ℕ
  whole = whole_of started tree

  asked-and-named : (by_cause pay.causes (ends (suc k)) ≡ true)
      × (holds_of (failing_part pay.mark pay.body) (names_term (suc k)) ≡ true)
  asked-and-named = both (by_cause pay.causes (ends (suc k))) _ falls

  marked : OfMarked pay.mark pay.body (λ s. IsTrue (names_term (suc k) s))
  marked = of-marked pay.mark pay.body (names_term (suc k)) asked-and-named.1

  not-negative : weight_of there started (λ m. nat_lt (suc k) m) tree
      ≤ weight_of there started (λ m. nat_le (suc k) m) tree
  not-negative = pay-end-loss-is-not-negative pay (unit-valid (pay_of along.pay.now) is.valid kind) there started
      (survivors_of-le (λ j. suc k) start (λ j. omega (arith, from)) living b.lives
      (lives-are along is group interest kind))
      (suc k) marked

  pub one-end : (entries : List Ends) (discount loss product : Ends)
      → EncloseSurvival along.group.now (suc k) n entries
      → IsDiscount along (suc k) discount
      → EnclosesEndLoss entries (suc k) tree loss
      → ((m k d e v w : ℕ) → EnclosesChance m d v discount → EnclosesChance k e w loss
      → EnclosesChance (m * k) (d * e) (v + w + 1) product)
      → EnclosesOneEnd along k product
  unfolding EncloseSurvival EnclosesEndLoss EnclosesOneEnd
  one-end entries discount loss product survivals is_discount is_loss times = record {
    encloses = end-present b (lives-are along is group interest kind) pay
        (unit-valid (pay_of along.pay.now) is.valid kind) is.once (named-below along is group interest kind)
        (any-cause pay.causes (suc k) asked-and-named.0) (declared_rank (length b.lives)) start (suc k) (omega arith)
        (omega (arith, deferred)) (omega (arith, from)) (omega (arith, before, is.horizon_in)) marked living product
        (whole-positive there started (λ i. 1) entries tree enclosed) all.encloses;
    narrow = wider product _ (width_of_event along)
        (omega (arith, end-loss-width pay.mark pay.body, before)) all.narrow;
    within = record { low = all.within.low; high = omega (arith, ints, all.within.high) };
  }
    where
      enclosed : AreEnclosed there started (λ i. 1) entries (λ i. names_life i tree)
      enclosed = waited-enclosed along is group interest kind there entries survivals

      all : EnclosesChance (discount_to b start (suc k) * lost) (discount_whole b start (suc k) * whole)
          (3 * (suc k - start) + 2 * (life_widths (λ i. 1) tree + nodes tree) + 1) product
      all = times _ _ _ _ _ _ is_discount (is_loss there started (λ i. 1) enclosed not-negative)
