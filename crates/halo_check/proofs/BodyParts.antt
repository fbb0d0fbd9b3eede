-- The parts of bodies in memory.
use Rattle.std.proofs.Common.{◌≡◌, ◌↔◌, ◌+◌, List, [], ◌∷◌, arith, length, refl}
use Rattle.std.specs.List.{All}
use Rattle.std.proofs.lemmas.List.Elements.{All-nil, All-cons, All-head, All-tail}
use Rattle.halo_symbol.specs.Proper.{AreProper, IsProper}
use Rattle.halo_symbol.specs.Tree as plain
use Rattle.halo_symbol.specs.Tree.{life, term, last, at_least, exactly, group, member_count}
use Rattle.halo_symbol.specs.View.{members_of, plain_node}
use Rattle.halo_symbol.specs.declared.tree.Node.{Node}
use Rattle.halo_check.specs.Parts.{AtEach, AtEachMember}

-- some members in memory are proper
abbrev pub AllProper : List Node → Type 0
AllProper ms = All (λ m. IsProper (plain_node m)) ms

-- each of some members in memory has these facts
abbrev pub AllHave : (plain.Node → Type 0) → (plain.Members → Type 0) → List Node → Type 0
AllHave P Q ms = All (λ m. AtEach P Q (plain_node m)) ms

-- what holds at each part of a member holds of the member itself
pub AtEach-itself : (P : plain.Node → Type 0) (Q : plain.Members → Type 0) (m : plain.Node) → AtEach P Q m → P m
AtEach-itself P Q (life name) h = h
AtEach-itself P Q (term years) h = h
AtEach-itself P Q (last ms) h = h.0
AtEach-itself P Q (at_least rank ms) h = h.0
AtEach-itself P Q (exactly rank ms) h = h.0
AtEach-itself P Q (group body) h = h.0

pub member_count-members_of : (first : plain.Node) (ms : List Node) → member_count (members_of first ms) ≡ 1 + length ms
member_count-members_of first [] = refl
member_count-members_of first (m ∷ ms) = omega (arith, member_count-members_of (plain_node m) ms)

-- the members of a list are the first and those behind it
pub AreProper-members_of : (first : plain.Node) (ms : List Node) → AreProper (members_of first ms)
    → IsProper first × AllProper ms
AreProper-members_of first [] h = (h, All-nil (λ m. IsProper (plain_node m)))
AreProper-members_of first (m ∷ ms) h =
    let rest = AreProper-members_of (plain_node m) ms h.1 in
    (h.0, All-cons (λ m. IsProper (plain_node m)) m ms rest.0 rest.1)

pub AtEachMember-members_of : (P : plain.Node → Type 0) (Q : plain.Members → Type 0) (first : plain.Node)
    (ms : List Node)
    → AtEachMember P Q (members_of first ms) ↔ (AtEach P Q first × AllHave P Q ms)
AtEachMember-members_of P Q first [] = ((λ h. (h, All-nil (λ m. AtEach P Q (plain_node m)))), (λ h. h.0))
AtEachMember-members_of P Q first (m ∷ ms) =
    let Has : Node → Type 0 = λ m. AtEach P Q (plain_node m) in
    let rest = AtEachMember-members_of P Q (plain_node m) ms in (
      (λ h. let (here, behind) = rest.0 h.1 in (h.0, All-cons Has m ms here behind)),
      (λ h. (h.0, rest.1 (All-head Has m ms h.1, All-tail Has m ms h.1))),
    )
