use Rattle.std.proofs.Common.{subst, sym}
use Rattle.halo_status.specs.declared.pay.Kind.{Kind}
use Rattle.halo_value.specs.ByKind.{HoldByKind}
use Rattle.halo_value.proofs.by_kind.at_horizon.Goals as goal

pub returns-in-Insurance : goal.returns-in-Insurance
returns-in-Insurance g c t past =
    subst (λ (kind : Kind). HoldByKind kind c.args.task.now t c.at_horizon.new.work) (sym c.in-Insurance.is)
    (c.at_horizon.ensures.values t past)

pub returns-in-Immediate : goal.returns-in-Immediate
returns-in-Immediate g c t past =
    subst (λ (kind : Kind). HoldByKind kind c.args.task.now t c.at_horizon-in-Immediate.new.work)
    (sym c.in-Immediate.is) (c.at_horizon-in-Immediate.ensures.values t past)

pub returns-in-Due : goal.returns-in-Due
returns-in-Due g c t past =
    subst (λ (kind : Kind). HoldByKind kind c.args.task.now t c.at_horizon-in-Due.new.work) (sym c.in-Due.is)
    (c.at_horizon-in-Due.ensures.values t past)
