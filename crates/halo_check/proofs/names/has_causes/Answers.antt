use Rattle.std.proofs.Common.{refl, List, ℕ}
use Rattle.std.specs.Prelude.{Contains}
use Rattle.std.proofs.lemmas.List.Elements.{All-cons, All-tail}
use Rattle.halo_check.proofs.names.has_causes.Goals as goal

pub returns-then-is_cause : goal.returns-then-is_cause
returns-then-is_cause c =
    let P = (λ (name : List ℕ). Contains c.args.tables.now.causes name) in
    let others = rw c.deref.ensures.value at c.are_causes.ensures in
    rw (c.in-Pay.is, c.in-Some.is)
    (λ h. All-cons P _ _ (c.if-is_cause.ensures.0 refl) (others.0 h), λ all. others.1 (All-tail P _ _ all))
