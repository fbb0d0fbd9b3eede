-- The marked member of a valid mark shares no life and no term with the others.
use Rattle.std.proofs.Common.{◌≡◌, ◌≢◌, ℕ, refl, sym, Option, Some, None}
use Rattle.std.specs.Prelude.{IfSome, IsSomeAnd}
use Rattle.halo_status.specs.Tree.{Tree, life, term, joint, last, at_least, exactly, after, member_at}
use Rattle.halo_status.specs.Pay.{PlainPay}
use Rattle.halo_status.specs.declared.pay.Kind.TheVariants.{Insurance}
use Rattle.halo_status.specs.ValidPay.{CanBeMarked, SharesNothing}
use Rattle.halo_status.specs.declared.pay.Mark.{Mark}
use Rattle.halo_model.specs.Payment.{members_of}
use Rattle.halo_model.specs.Chance.{IsValidInsurance, OfMarked}

-- a mark of a valid pay is one that its body can have
pub valid-mark : (pay : PlainPay) → IsValidInsurance pay → IfSome pay.mark (CanBeMarked pay.body)
valid-mark pay is = go pay.mark is.valid.mark
  where
    go : (mark : Option Mark) → IfSome mark (λ m. (pay.kind ≡ Insurance) × CanBeMarked pay.body m)
        → IfSome mark (CanBeMarked pay.body)
    go None h = tt
    go (Some m) h = h.1

-- each other member shares nothing with a status that has the property
abbrev pub ApartFrom : Tree → (Tree → Type 0) → Mark → Type 0
ApartFrom body P m =
    (q : ℕ) (t : Tree) → q ≢ m.member → member_at (members_of body) q ≡ Some t → (s : Tree) × P s × SharesNothing s t

pub apart-from-marked : (mark : Option Mark) (body : Tree) → IfSome mark (CanBeMarked body) → (P : Tree → Type 0)
    → OfMarked mark body P → IfSome mark (ApartFrom body P)
apart-from-marked None body valid P has = tt
apart-from-marked (Some m) (joint ms) valid P has =
    λ q t other at. marked_is (member_at ms m.member) refl has q t other at
  where
    marked_is : (found : Option Tree) → member_at ms m.member ≡ found → IsSomeAnd found P → (q : ℕ) (t : Tree)
        → q ≢ m.member → member_at ms q ≡ Some t → (s : Tree) × P s × SharesNothing s t
    marked_is None e h q t other at = absurd h
    marked_is (Some s) e h q t other at = (s, h, valid.apart m.member q s t (λ same. other (sym same)) e at)
apart-from-marked (Some m) (life i) valid P has = absurd valid
apart-from-marked (Some m) (term n) valid P has = absurd valid
apart-from-marked (Some m) (last ms) valid P has = absurd valid
apart-from-marked (Some m) (at_least r ms) valid P has = absurd valid
apart-from-marked (Some m) (exactly r ms) valid P has = absurd valid
apart-from-marked (Some m) (after s t) valid P has = absurd valid
