use Rattle.std.proofs.Common.{List, Option, sym, subst, ◌∙◌}
use Rattle.std.specs.Prelude.{IfSome}
use Rattle.std.proofs.lemmas.List.{get_or_default}
use Rattle.halo_num.specs.Ends.{Ends}
use Rattle.halo_contract.specs.Premium.{premium_pay}
use Rattle.halo_model.specs.Enclosed.{EnclosesOne}
use Rattle.halo_life.specs.Lists.{nothing}
use Rattle.halo_value.specs.ContractValues.{CanBeTakenOffAt, HasPremium}
use Rattle.halo_value.specs.Reading.{reserve_at}
use Rattle.halo_value.specs.declared.lines.Premium.{Premium}
use Rattle.halo_sums.specs.Masks.{has_bit}
use Rattle.halo_value.proofs.Premiums.{with-premium, without-premium}
use Rattle.halo_value.proofs.lines.one_reserve.Goals as goal

pub returns-in-None-clause-encloses : goal.returns-in-None-clause-encloses
returns-in-None-clause-encloses g c b pays status reserves within has benefits =
    let reserve = reserve_at reserves c.args.place in
    without-premium b pays reserves status reserve.time (has_bit reserve.alive) c.reserve_line.result
    (subst (λ (premium : Option Premium). HasPremium b pays status reserves premium) c.in-None.is has)
    (c.reserve_line.ensures.without b pays reserve.time (has_bit reserve.alive) benefits)

pub returns-in-Some-clause-encloses : goal.returns-in-Some-clause-encloses
returns-in-Some-clause-encloses g c b pays status reserves within has benefits =
    let reserve = reserve_at reserves c.args.place in
    let due : List Ends = c.in-Some.premium.due.items in
    let can : CanBeTakenOffAt c.args.place c.in-Some.premium =
    subst (λ (premium : Option Premium). IfSome premium (CanBeTakenOffAt c.args.place)) c.in-Some.is
    c.requires.premium in
    let at = c.index-due.ensures ∙ get_or_default due c.args.place c.index-due.result.now nothing can.due.read in
    with-premium b pays reserves status c.in-Some.premium c.args.place c.reserve_line-in-Some.result
    (subst (λ (premium : Option Premium). HasPremium b pays status reserves premium) c.in-Some.is has) within
    (λ s in_time premium one. c.reserve_line-in-Some.ensures.with b pays s reserve.time (has_bit reserve.alive) in_time
    benefits premium
    (subst (EnclosesOne b (premium_pay s) reserve.time (has_bit reserve.alive)) (sym at) one))
