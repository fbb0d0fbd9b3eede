-- The status on which a pay waits: its nodes, the lives that it names, and how wide what it loses may be.
use Rattle.std.proofs.Common.{◌≡◌, ℕ, zero, suc, ◌+◌, ◌*◌, ◌≤◌, Option, Some, None, arith, refl}
use Rattle.halo_status.specs.Tree.{Tree, Trees, life, term, joint, last, at_least, exactly, after, none, more, member_at}
use Rattle.halo_status.specs.Nodes.{nodes, nodes_in}
use Rattle.halo_status.specs.declared.pay.Mark.{Mark}
use Rattle.halo_model.specs.Life.{after_first}
use Rattle.halo_model.specs.PartsByTree.{others_of, put_for, waiting, waiting_member}
use Rattle.halo_model.specs.Payment.{members_of}
use Rattle.halo_chance.specs.Enclosed.{life_widths, life_widths_in}
use Rattle.halo_along.proofs.Counting.{some-nodes}

module _ (w : ℕ → ℕ) (few : (i : ℕ) → w i ≤ 1) where
  mutual
    -- lives at most 1 wide are together no wider than there are nodes
    pub widths-in-nodes : (s : Tree) → life_widths w s ≤ nodes s
    widths-in-nodes (life i) = few i
    widths-in-nodes (term m) = omega arith
    widths-in-nodes (joint ms) = omega (arith, widths-of-members ms)
    widths-in-nodes (last ms) = omega (arith, widths-of-members ms)
    widths-in-nodes (at_least r ms) = omega (arith, widths-of-members ms)
    widths-in-nodes (exactly r ms) = omega (arith, widths-of-members ms)
    widths-in-nodes (after s t) = omega (arith, widths-in-nodes s, widths-in-nodes t)

    widths-of-members : (ms : Trees) → life_widths_in w ms ≤ nodes_in ms
    widths-of-members none = omega arith
    widths-of-members (more s ms) = omega (arith, widths-in-nodes s, widths-of-members ms)

-- nor are they wider with one that is sure
put-small : (a : ℕ) (w : ℕ → ℕ) → ((i : ℕ) → w i ≤ 1) → (i : ℕ) → put_for a 0 w i ≤ 1
put-small zero w few zero = omega arith
put-small zero w few (suc i) = few (suc i)
put-small (suc a) w few zero = few 0
put-small (suc a) w few (suc i) = put-small a (after_first w) (λ j. few (suc j)) i

-- a member and the others have the nodes of the list
nodes-split : (ms : Trees) (place : ℕ) (s : Tree)
    → member_at ms place ≡ Some s → nodes s + nodes_in (others_of ms place) ≡ nodes_in ms
nodes-split none place s e = absurd (cc)
nodes-split (more m ms) zero s e = let q : m ≡ s = grind arith in rw q refl
nodes-split (more m ms) (suc place) s e = omega (arith, nodes-split ms place s e)

members-nodes : (body : Tree) → nodes_in (members_of body) + 1 ≤ nodes body
members-nodes (life i) = omega arith
members-nodes (term m) = omega arith
members-nodes (joint ms) = omega arith
members-nodes (last ms) = omega arith
members-nodes (at_least r ms) = omega arith
members-nodes (exactly r ms) = omega arith
members-nodes (after s t) = omega (arith, some-nodes s, some-nodes t)

-- a pay waits on a status of at most one node more than its body
waiting-nodes : (mark : Option Mark) (body : Tree) → nodes (waiting mark body) ≤ nodes body + 1
waiting-nodes None body = omega arith
waiting-nodes (Some mark) body = go (member_at (members_of body) mark.member) refl
  where
    go : (found : Option Tree) → member_at (members_of body) mark.member ≡ found
        → nodes (waiting_member mark (members_of body) found) ≤ nodes body + 1
    go None e = omega (arith, some-nodes body)
    go (Some s) e = omega (arith, nodes-split (members_of body) mark.member s e, members-nodes body)

-- how wide what it loses with a life may be, and with a term
pub loss-width : (a : ℕ) (mark : Option Mark) (body : Tree)
    → 2 * (life_widths (put_for a 0 (λ i. 1)) (waiting mark body) + nodes (waiting mark body)) ≤ 4 * nodes body + 4
loss-width a mark body = omega (
  arith,
  widths-in-nodes (put_for a 0 (λ i. 1)) (put-small a (λ i. 1) (λ i. omega arith)) (waiting mark body),
  waiting-nodes mark body,
)

pub end-loss-width : (mark : Option Mark) (body : Tree)
    → 2 * (life_widths (λ i. 1) (waiting mark body) + nodes (waiting mark body)) ≤ 4 * nodes body + 4
end-loss-width mark body =
    omega (arith, widths-in-nodes (λ i. 1) (λ i. omega arith) (waiting mark body), waiting-nodes mark body)
