-- What a status loses with a term that ends: its chance where the terms of at least so many years
-- are on, less its chance where only the longer ones are.
use Rattle.std.specs.Prelude.{ℕ, ◌+◌, ◌-◌, ◌*◌, ◌≤◌, IsTrue, List, nat_le, nat_lt}
use Rattle.halo_num.specs.Ends.{Ends}
use Rattle.halo_num.specs.Chance.{EnclosesChance}
use Rattle.halo_status.specs.Tree.{Tree}
use Rattle.halo_status.specs.Naming.{names_life, names_term}
use Rattle.halo_status.specs.Nodes.{nodes}
use Rattle.halo_status.specs.Pay.{PlainPay}
use Rattle.halo_model.specs.ByTree.{weight_of, whole_of}
use Rattle.halo_model.specs.ByTreeLaws.{AreChances}
use Rattle.halo_model.specs.Chance.{IsValidInsurance, OfMarked}
use Rattle.halo_model.specs.PartsByTree.{waiting}
use Rattle.halo_chance.specs.Enclosed.{AreEnclosed, life_widths}

-- the loss with the terms of so many years, in the parts in which the status is told
abbrev pub end_loss_of : (ℕ → ℕ) → (ℕ → ℕ) → ℕ → Tree → ℕ
end_loss_of n d years s =
    weight_of n d (λ m. nat_le years m) s - weight_of n d (λ m. nat_lt years m) s

-- i encloses that loss, for all chances of the lives that the entries enclose, where a status does
-- not exist the less with the term
unfoldable pub EnclosesEndLoss : List Ends → ℕ → Tree → Ends → Type 0
EnclosesEndLoss entries years s i =
    (n d w : ℕ → ℕ) → AreEnclosed n d w entries (λ j. names_life j s)
    → weight_of n d (λ m. nat_lt years m) s ≤ weight_of n d (λ m. nat_le years m) s
    → EnclosesChance (end_loss_of n d years s) (whole_of d s) (2 * (life_widths w s + nodes s)) i

-- The status on which an insurance waits is not less likely just before the end of a term than just
-- after it, where the term stands in the marked member if there is a mark.
abbrev pub PayEndLossIsNotNegative : Type 0
PayEndLossIsNotNegative = (pay : PlainPay) → IsValidInsurance pay
    → (n d : ℕ → ℕ) → AreChances n d → (years : ℕ)
    → OfMarked pay.mark pay.body (λ s. IsTrue (names_term years s))
    → weight_of n d (λ m. nat_lt years m) (waiting pay.mark pay.body)
    ≤ weight_of n d (λ m. nat_le years m) (waiting pay.mark pay.body)
