-- A pay with a mark: its body is a list, and the mark is one that the list can have.
use Rattle.std.proofs.Common.{◌≡◌, ℕ, zero, suc, ◌<◌, List, length, Some}
use Rattle.std.specs.Prelude.{IsSomeAnd}
use Rattle.halo_status.specs.Tree.{Tree, Trees, joint, none, more, member_at}
use Rattle.halo_status.specs.Nodes.{AtEachNodeIn, IsLasting, NeverReturns}
use Rattle.halo_status.specs.Pay.{PlainPay}
use Rattle.halo_status.specs.ValidPay.{IsRank, IsValidMark, IsValidPay}
use Rattle.halo_status.specs.StatusTree.{trees_in}
use Rattle.halo_status.specs.declared.pay.Mark.{Mark}
use Rattle.halo_status.specs.declared.status.Status.{Status}
use Rattle.halo_status.proofs.Lists.{member_count-trees_in}

module _ (pay : PlainPay) (mark : Mark) (list : List Status) (valid : IsValidPay pay) (has : pay.mark ≡ Some mark)
    (body : pay.body ≡ joint (trees_in list)) where
  can-be-marked : IsValidMark mark (trees_in list)
  can-be-marked = let allowed = rw has at valid.mark in rw body at allowed.1

  pub mark-within : mark.member < length list
  mark-within = rw (member_count-trees_in list) at can-be-marked.member

  pub mark-ranked : IsRank mark.rank (length list)
  mark-ranked = rw (member_count-trees_in list) at can-be-marked.rank

  pub list-lasting : AtEachNodeIn NeverReturns (trees_in list)
  list-lasting =
      let allowed = rw has at valid.mark in
      let lasting = rw body at (valid.lasting allowed.0) in
      lasting.1

-- a member that there is at a place is lasting where all members are
pub member-lasting : (ms : Trees) (place : ℕ) (P : Tree → Type 0) → IsSomeAnd (member_at ms place) P
    → AtEachNodeIn NeverReturns ms → IsSomeAnd (member_at ms place) IsLasting
member-lasting none place P h lasting = absurd h
member-lasting (more s ms) zero P h lasting = lasting.0
member-lasting (more s ms) (suc place) P h lasting = member-lasting ms place P h lasting.1
