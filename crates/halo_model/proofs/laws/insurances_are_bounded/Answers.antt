use Rattle.halo_model.proofs.Bounded.{end-is-bounded, ends-are-bounded, insurance-is-bounded, leaving-is-bounded, leavings-are-bounded}
use Rattle.halo_model.proofs.laws.insurances_are_bounded.Goals as goal

pub returns-clause-whole : goal.returns-clause-whole
returns-clause-whole c = insurance-is-bounded

pub returns-clause-leaving : goal.returns-clause-leaving
returns-clause-leaving c = leaving-is-bounded

pub returns-clause-end : goal.returns-clause-end
returns-clause-end c = end-is-bounded

pub returns-clause-leaving_in_all_orders : goal.returns-clause-leaving_in_all_orders
returns-clause-leaving_in_all_orders c = leavings-are-bounded

pub returns-clause-end_in_all_orders : goal.returns-clause-end_in_all_orders
returns-clause-end_in_all_orders c = ends-are-bounded
