-- What the chance of a status costs, part by part.
use Rattle.std.proofs.Common.{◌≡◌, ℕ, suc, ◌+◌, ◌*◌, ◌^◌, ◌≤◌, arith, ap, ◌∙◌, List, [], ◌∷◌, length, zero, Some, sym}
use Rattle.std.proofs.Math.Nat.{pow-succ', pow-zero}
use Rattle.halo_status.specs.declared.status.Status.{Status}
use Rattle.halo_status.specs.Tree.{Tree, Trees, life, term, joint, last, at_least, exactly, after, none, more, member_at}
use Rattle.halo_status.specs.Nodes.{nodes, nodes_in}
use Rattle.halo_status.specs.StatusTree.{tree_of, trees_in}
use Rattle.halo_model.specs.PartsByTree.{others_of}
use Rattle.halo_chance.specs.Cost.{CostsMembers, CostsTree}

squared : (n : ℕ) → n ^ 2 ≡ n * n
squared n = pow-succ' n 1 ∙ ap (λ z. n * z) (pow-succ' n 0 ∙ ap (λ z. n * z) (pow-zero n) ∙ omega arith)

pub cost-leaf : (old : ℕ) → CostsTree old old 1
unfolding CostsTree
cost-leaf old most h = omega arith

pub cost-list : (old new all : ℕ) → CostsMembers old new all all → CostsTree old new (1 + all)
unfolding CostsTree CostsMembers
cost-list old new all c most h = omega (arith, c most (omega arith))

pub cost-after : (old first then new s t : ℕ) → CostsTree old first s → CostsTree first then t → new ≡ then + 1
    → CostsTree old new (1 + s + t)
unfolding CostsTree
cost-after old first then new s t a b e most h = omega (arith, a most (omega arith), b most (omega arith))

pub cost-none : (old all : ℕ) → CostsMembers old old 0 all
unfolding CostsMembers
cost-none old all most h = omega arith

pub cost-nothing : (old count all : ℕ) → CostsMembers old old count all
unfolding CostsMembers
cost-nothing old count all most h = omega arith

pub cost-member : (old before member new count rest all : ℕ) → CostsMembers old before rest all
    → CostsTree before member count → new ≤ member + 2 * (all + 1) → count ≤ all
    → CostsMembers old new (count + rest) all
unfolding CostsTree CostsMembers
cost-member old before member new count rest all a b h small most k = omega (arith, a most k, b most (omega arith))

pub cost-whole : (old new count : ℕ) → CostsTree old new count → new ≤ old + 2 * (count + 1) ^ 2
unfolding CostsTree
cost-whole old new count c = let h = c count (omega arith) in rw (squared (count + 1)) (omega (arith, h))

-- each node counts
pub nodes-positive : (s : Tree) → 1 ≤ nodes s
nodes-positive (life i) = omega arith
nodes-positive (term m) = omega arith
nodes-positive (joint ms) = omega arith
nodes-positive (last ms) = omega arith
nodes-positive (at_least r ms) = omega arith
nodes-positive (exactly r ms) = omega arith
nodes-positive (after s t) = omega arith

pub length-nodes : (ms : List Status) → length ms ≤ nodes_in (trees_in ms)
length-nodes [] = omega arith
length-nodes (s ∷ ms) = omega (arith, length-nodes ms, nodes-positive (tree_of s))

-- a member and the others have the nodes of the list
nodes-split : (ms : Trees) (place : ℕ) (s : Tree) → member_at ms place ≡ Some s
    → nodes s + nodes_in (others_of ms place) ≡ nodes_in ms
nodes-split none place s e = absurd (cc)
nodes-split (more m ms) zero s e = let q : m ≡ s = grind arith in rw q (omega arith)
nodes-split (more m ms) (suc place) s e = omega (arith, nodes-split ms place s e)

pub cost-mark : (old others marked new : ℕ) (ms : Trees) (place : ℕ) (s : Tree) → member_at ms place ≡ Some s
    → CostsMembers old others (nodes_in (others_of ms place)) (nodes_in ms) → CostsTree others marked (nodes s)
    → new ≡ marked + 1 → new ≤ old + 2 * (nodes (joint ms) + 1) ^ 2
unfolding CostsTree CostsMembers
cost-mark old others marked new ms place s e a b next =
    let all = nodes_in ms + 1 in
    let split = nodes-split ms place s e in
    let one = a all (omega arith) in
    let two = b all (omega (arith, split)) in
    let shares : all * nodes s + all * nodes_in (others_of ms place) ≡ all * nodes_in ms =
    rw (sym split) (omega arith) in
    rw (squared (nodes (joint ms) + 1)) (omega (arith, one, two, shares, next))

-- the loss of the marked member costs at most what the loss of a status does
pub cost-mark-loss : (old others marked new : ℕ) (ms : Trees) (place : ℕ) (s : Tree) → member_at ms place ≡ Some s
    → CostsMembers old others (nodes_in (others_of ms place)) (nodes_in ms)
    → marked ≤ others + 4 * (nodes s + 1) ^ 2
    → new ≡ marked + 1 → new ≤ old + 4 * (nodes (joint ms) + 1) ^ 2
unfolding CostsMembers
cost-mark-loss old others marked new ms place s e a b next =
    let one = a (nodes_in ms + 1) (omega arith) in
    let two = rw (squared (nodes s + 1)) at b in
    rw (squared (nodes (joint ms) + 1))
    (apart (nodes s) (nodes_in (others_of ms place)) (nodes_in ms) (nodes-split ms place s e) one two)
  where
    apart : (x y all : ℕ) → x + y ≡ all → others ≤ old + 2 * (all + 1) * y
        → marked ≤ others + 4 * ((x + 1) * (x + 1)) → new ≤ old + 4 * ((1 + all + 1) * (1 + all + 1))
    apart x y all split one two = rw (sym split) (omega (arith, rw (sym split) at one, two, next))
