-- The parts of a value of a pay whose body is read once, along the tree: laws.
use Rattle.std.specs.Prelude.{◌≡◌, ℕ, zero, suc, ◌-◌, ◌<◌, ◌≤◌, Bool, IsTrue, nat_le, nat_lt, List, [], ◌∷◌, length, Option, Some, None, pos, ◌-ℤ◌, ◌*ℤ◌}
use Rattle.halo_sums.specs.Sums.{indicator}
use Rattle.halo_status.specs.Tree.{Tree, Trees, joint, last, exactly, none, more, member_at, member_count}
use Rattle.halo_status.specs.Naming.{NamesLivesBelow, names_life, names_term}
use Rattle.halo_status.specs.Nodes.{IsLasting}
use Rattle.halo_status.specs.ReadOnce.{IsReadOnce}
use Rattle.halo_status.specs.View.{is_on}
use Rattle.halo_status.specs.Pay.{PlainPay}
use Rattle.halo_status.specs.declared.pay.Mark.{Mark}
use Rattle.halo_status.specs.declared.view.View.TheVariants.{Due}
use Rattle.halo_model.specs.EvenTies.{without}
use Rattle.halo_model.specs.Life.{AreLives, PlainLife, after_first, leavers_by}
use Rattle.halo_model.specs.Outcome.{joint_survivors}
use Rattle.halo_model.specs.Basis.{Basis}
use Rattle.halo_model.specs.Event.{ends}
use Rattle.halo_model.specs.Payment.{falls_on, members_of}
use Rattle.halo_model.specs.Coefficient.{view_of}
use Rattle.halo_model.specs.Expectation.{HasYear, expected, looked_at}
use Rattle.halo_model.specs.Chance.{IsValidInsurance, OfMarked, asked, paid_on_leaving}
use Rattle.halo_model.specs.Part.{existing_weight}
use Rattle.halo_model.specs.ByTreeLaws.{AreChances}
use Rattle.halo_model.specs.ByTree.{weight_of, whole_of}
use Rattle.halo_model.specs.Independent.{started_of, survivors_of}

-- the members but the one at a place
abbrev pub others_of : Trees → ℕ → Trees
others_of none place = none
others_of (more s ms) zero = ms
others_of (more s ms) (suc place) = more s (others_of ms place)

-- a member together with exactly so many others that it fails at its rank if it fails next
abbrev pub waiting_member : Mark → Trees → Option Tree → Tree
waiting_member mark ms None = last none
waiting_member mark ms (Some s) =
    joint (more s (more (exactly (member_count ms - mark.rank) (others_of ms mark.member)) none))

-- the status on whose failure a pay waits: its body, or its marked member at its rank
abbrev pub waiting : Option Mark → Tree → Tree
waiting None body = body
waiting (Some mark) body =
    waiting_member mark (members_of body) (member_at (members_of body) mark.member)

-- f, with m for life a
abbrev pub put_for : ℕ → ℕ → (ℕ → ℕ) → ℕ → ℕ
put_for zero m f zero = m
put_for zero m f (suc i) = f (suc i)
put_for (suc a) m f zero = f zero
put_for (suc a) m f (suc i) = put_for a m (after_first f) i

-- those who leave as life a in year k by one of some causes
abbrev pub leavers_of : (ℕ → Bool) → ℕ → List PlainLife → ℕ → ℕ
leavers_of causes k [] a = 0
leavers_of causes k (x ∷ lives) zero = leavers_by causes x k
leavers_of causes k (x ∷ lives) (suc a) = leavers_of causes k lives a

-- the weight with which the status of a pay exists at time t
abbrev pub ExistingByTree : Type 0
ExistingByTree = (b : Basis) → AreLives b.lives
    → (pay : PlainPay) → IsReadOnce pay.body → NamesLivesBelow (length b.lives) pay.body
    → (T t : ℕ) → T ≤ t → (S : ℕ → Bool)
    → pos (whole_of (started_of T S b.lives) (waiting pay.mark pay.body))
    *ℤ existing_weight b pay T S t
    ≡ pos (weight_of (survivors_of (λ i. t) S b.lives)
    (started_of T S b.lives) (is_on (view_of pay.kind) t) (waiting pay.mark pay.body))
    *ℤ pos (joint_survivors T S b.lives)

-- On the leaving of life a in year k: those who leave, times what the weight of the status loses
-- with life a, where it is surely there and surely not. The lives that come before a are looked at
-- at k + 1 and the others at k.
abbrev pub ChanceOnLeavingByTree : Type 0
ChanceOnLeavingByTree = (pay : PlainPay) → IsValidInsurance pay
    → IsReadOnce pay.body → (rank : ℕ → ℕ) (T a k : ℕ) → pay.defer ≤ k → T ≤ k
    → OfMarked pay.mark pay.body (λ s. IsTrue (names_life a s))
    → (S : ℕ → Bool) → IsTrue (S a) → (lives : List PlainLife)
    → AreLives lives → HasYear a k lives → NamesLivesBelow (length lives) pay.body
    → pos (whole_of (put_for a 1 (started_of T S lives)) (waiting pay.mark pay.body))
    *ℤ expected T S lives (λ o. indicator (paid_on_leaving pay rank T a k o))
    ≡ pos (leavers_of (asked pay.causes) k lives a)
    *ℤ ((pos (weight_of (put_for a 1 (survivors_of (looked_at rank a k) S lives))
    (put_for a 1 (started_of T S lives)) (is_on Due k) (waiting pay.mark pay.body))
    -ℤ pos (weight_of (put_for a 0 (survivors_of (looked_at rank a k) S lives))
    (put_for a 1 (started_of T S lives)) (is_on Due k) (waiting pay.mark pay.body)))
    *ℤ pos (joint_survivors T (without S a) lives))

-- On the end of a term of n years: what the weight of the status loses with the term, where the
-- lives are looked at at n.
abbrev pub ChanceOnEndByTree : Type 0
ChanceOnEndByTree = (pay : PlainPay) → IsValidInsurance pay → IsReadOnce pay.body
    → pay.causes ≡ None → (rank : ℕ → ℕ) (T n : ℕ) → 0 < n → pay.defer ≤ n - 1 → T ≤ n - 1
    → OfMarked pay.mark pay.body (λ s. IsTrue (names_term n s))
    → (S : ℕ → Bool) (lives : List PlainLife)
    → AreLives lives → NamesLivesBelow (length lives) pay.body
    → pos (whole_of (started_of T S lives) (waiting pay.mark pay.body))
    *ℤ expected T S lives (λ o. indicator (falls_on pay rank T o (ends n)))
    ≡ (pos (weight_of (survivors_of (λ i. n) S lives)
    (started_of T S lives) (λ m. nat_le n m) (waiting pay.mark pay.body))
    -ℤ pos (weight_of (survivors_of (λ i. n) S lives)
    (started_of T S lives) (λ m. nat_lt n m) (waiting pay.mark pay.body)))
    *ℤ pos (joint_survivors T S lives)

-- A lasting status is not less likely where life a is surely there than where it is surely not.
abbrev pub LossIsNotNegative : Type 0
LossIsNotNegative = (n d : ℕ → ℕ)
    → AreChances n d → (on : ℕ → Bool) (a : ℕ) (s : Tree) → IsLasting s
    → weight_of (put_for a 0 n) (put_for a 1 d) on s
    ≤ weight_of (put_for a 1 n) (put_for a 1 d) on s

-- Nor is the status less likely on which an insurance waits, where life a stands in the marked
-- member if there is a mark.
abbrev pub PayLossIsNotNegative : Type 0
PayLossIsNotNegative = (mark : Option Mark) (body : Tree)
    → IsLasting body → IsReadOnce body → (n d : ℕ → ℕ) → AreChances n d → (on : ℕ → Bool) (a : ℕ)
    → OfMarked mark body (λ s. IsTrue (names_life a s))
    → weight_of (put_for a 0 n) (put_for a 1 d) on (waiting mark body)
    ≤ weight_of (put_for a 1 n) (put_for a 1 d) on (waiting mark body)

-- Nor is a lasting status less likely just before the end of a term of k years than just after it.
abbrev pub EndLossIsNotNegative : Type 0
EndLossIsNotNegative = (n d : ℕ → ℕ) → AreChances n d → (k : ℕ) (s : Tree)
    → IsLasting s → weight_of n d (λ m. nat_lt k m) s ≤ weight_of n d (λ m. nat_le k m) s
