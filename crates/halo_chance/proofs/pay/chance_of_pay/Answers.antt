-- A pay with a mark waits on its list, and one without on its body.
use Rattle.std.proofs.Common.{Some}
use Rattle.halo_status.specs.Pay.{pay_of}
use Rattle.halo_status.specs.StatusTree.{trees_in}
use Rattle.halo_status.specs.Tree.{joint}
use Rattle.halo_status.specs.View.{is_on}
use Rattle.halo_model.specs.PartsByTree.{waiting}
use Rattle.halo_chance.proofs.MarkedPays.{mark-ranked, mark-within}
use Rattle.halo_chance.proofs.Whole.{along-whole}
use Rattle.halo_chance.proofs.pay.chance_of_pay.Goals as goal

pub chance_of_mark-requires-clause-member : goal.chance_of_mark-requires-clause-member
chance_of_mark-requires-clause-member g c =
    mark-within (pay_of c.args.pay.now) c.in-Some.list.mark c.in-Some.list.members.now c.requires.valid
    c.in-Some.ensures.some.0 c.in-Some.ensures.some.1

pub chance_of_mark-requires-clause-rank : goal.chance_of_mark-requires-clause-rank
chance_of_mark-requires-clause-rank g c =
    mark-ranked (pay_of c.args.pay.now) c.in-Some.list.mark c.in-Some.list.members.now c.requires.valid
    c.in-Some.ensures.some.0 c.in-Some.ensures.some.1

pub chance_of_mark-requires-clause-named : goal.chance_of_mark-requires-clause-named
chance_of_mark-requires-clause-named g c = rw c.in-Some.ensures.some.1 at c.requires.named

pub returns-in-None-clause-along : goal.returns-in-None-clause-along
returns-in-None-clause-along g c = rw c.in-None.ensures.none c.chance.ensures.along

pub returns-in-Some-clause-along : goal.returns-in-Some-clause-along
returns-in-Some-clause-along g c =
    let list = c.in-Some.list in
    rw (c.in-Some.ensures.some.0, c.in-Some.ensures.some.1)
    (along-whole c.args.lives.now (is_on c.args.view c.args.t)
    (waiting (Some list.mark) (joint (trees_in list.members.now))) c.chance_of_mark.result
    c.chance_of_mark.ensures.chance)
