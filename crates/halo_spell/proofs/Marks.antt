-- Only a joint status has a mark.
use Rattle.std.proofs.Common.{◌≡◌, ◌⊎◌, ℕ, List, Option, Some, None, inl, inr, refl}
use Rattle.std.specs.Prelude.{IfSome}
use Rattle.std.specs.declared.alloc.Global.{Global}
use Rattle.std.specs.declared.boxed.Box.{Box}
use Rattle.halo_status.specs.StatusTree.{tree_of}
use Rattle.halo_status.specs.ValidPay.{CanBeMarked}
use Rattle.halo_status.specs.declared.pay.Mark.{Mark}
use Rattle.halo_status.specs.declared.status.Status.{Status, Life, Term, Last, AtLeast, Exactly, After}
use Rattle.halo_status.proofs.Shapes.{tree_of-After, tree_of-AtLeast, tree_of-Exactly, tree_of-Last, tree_of-Life, tree_of-Term}

-- a status that is not joint
abbrev pub IsOther : Status → Type 0
IsOther now =
    ((i : ℕ) × (now ≡ Life i)) ⊎ ((n : ℕ) × (now ≡ Term n)) ⊎ ((ms : List Status) × (now ≡ Last ms))
    ⊎ ((r : ℕ) × (ms : List Status) × (now ≡ AtLeast r ms))
    ⊎ ((r : ℕ) × (ms : List Status) × (now ≡ Exactly r ms))
    ⊎ ((s : Box Status Global) × (t : Box Status Global) × (now ≡ After s t))

unmarkable : (now : Status) (mark : Mark) → IsOther now → CanBeMarked (tree_of now) mark → ⊥
unmarkable now mark (inl h) can = rw (h.1, tree_of-Life h.0) at can
unmarkable now mark (inr (inl h)) can = rw (h.1, tree_of-Term h.0) at can
unmarkable now mark (inr (inr (inl h))) can = rw (h.1, tree_of-Last h.0) at can
unmarkable now mark (inr (inr (inr (inl h)))) can = rw (h.2, tree_of-AtLeast h.0 h.1) at can
unmarkable now mark (inr (inr (inr (inr (inl h))))) can = rw (h.2, tree_of-Exactly h.0 h.1) at can
unmarkable now mark (inr (inr (inr (inr (inr h))))) can = rw (h.2, tree_of-After h.0 h.1) at can

pub no_mark : (now : Status) (mark : Option Mark) → IsOther now → IfSome mark (CanBeMarked (tree_of now)) → mark ≡ None
no_mark now None other can = refl
no_mark now (Some mark) other can = absurd (unmarkable now mark other can)
