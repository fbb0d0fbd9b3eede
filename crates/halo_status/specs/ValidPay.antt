-- Which pays are valid: those that a contract may have.
use Rattle.std.specs.Prelude.{◌≡◌, ◌≢◌, ℕ, ◌≤◌, ◌<◌, ◌^◌, ⊤, IfSome, IsTrue, Some}
use Rattle.halo_status.specs.Tree.{Tree, Trees, term, joint, at_least, exactly, member_count, member_at}
use Rattle.halo_status.specs.Naming.{names_life, names_term}
use Rattle.halo_status.specs.Nodes.{nodes, AtEachNode, HasShortLists, IsLasting}
use Rattle.halo_status.specs.Pay.{PlainPay}
use Rattle.halo_status.specs.declared.pay.Kind.TheVariants.{Insurance}
use Rattle.halo_status.specs.declared.pay.Vary.{Vary}
use Rattle.halo_status.specs.declared.pay.Vary.TheVariants.{Decreasing}
use Rattle.halo_status.specs.declared.pay.Mark.{Mark}

-- a number of years that a term or a decreasing pay may have
abbrev pub IsLength : ℕ → Type 0
IsLength n = (1 ≤ n) × (n ≤ 200)

-- a term has such a length
abbrev pub HasLength : Tree → Type 0
HasLength (term n) = IsLength n
HasLength _ = ⊤

-- a rank among so many members
abbrev pub IsRank : ℕ → ℕ → Type 0
IsRank r members = (1 ≤ r) × (r ≤ members)

-- the number asked of the members is a rank among them
abbrev pub HasRank : Tree → Type 0
HasRank (at_least r ms) = IsRank r (member_count ms)
HasRank (exactly r ms) = IsRank r (member_count ms)
HasRank _ = ⊤

-- no life and no term is named by both
pub record SharesNothing (s t : Tree) : Type 0 where
  pub lives : (i : ℕ) → IsTrue (names_life i s) → IsTrue (names_life i t) → ⊥
  pub terms : (n : ℕ) → IsTrue (names_term n s) → IsTrue (names_term n t) → ⊥

-- no two members at different places name one life or one term
abbrev pub AreApart : Trees → Type 0
AreApart ms = (p q : ℕ) (s t : Tree)
    → p ≢ q → member_at ms p ≡ Some s → member_at ms q ≡ Some t → SharesNothing s t

-- what a mark on a member of a list, as a contingent insurance has it, needs: the member, its rank,
-- and members that share nothing
pub record IsValidMark (mark : Mark) (members : Trees) : Type 0 where
  pub member : mark.member < member_count members
  pub rank : IsRank mark.rank (member_count members)
  pub apart : AreApart members

-- the members of a list whose members can be marked
abbrev pub CanBeMarked : Tree → Mark → Type 0
CanBeMarked (joint ms) mark = IsValidMark mark ms
CanBeMarked _ mark = ⊥

-- the number of a decreasing pay is a length
abbrev pub HasValidVary : Vary → Type 0
HasValidVary (Decreasing n) = IsLength n
HasValidVary _ = ⊤

-- a pay that a contract may have: each number within its limit, a body and a mark that the kind
-- allows, and causes only of an insurance and then at least one
pub record IsValidPay (pay : PlainPay) : Type 0 where
  pub amount_from : 1 ≤ pay.amount
  pub amount_in : pay.amount ≤ 10 ^ 10
  pub defer_in : pay.defer ≤ 200
  pub vary : HasValidVary pay.vary
  pub lengths : AtEachNode HasLength pay.body
  pub lists : HasShortLists pay.body
  pub few_nodes : nodes pay.body ≤ 64
  pub ranks : AtEachNode HasRank pay.body
  pub lasting : pay.kind ≡ Insurance → IsLasting pay.body
  pub causes : IfSome pay.causes (λ causes. (pay.kind ≡ Insurance) × (1 ≤ causes))
  pub mark : IfSome pay.mark (λ mark. (pay.kind ≡ Insurance) × CanBeMarked pay.body mark)
