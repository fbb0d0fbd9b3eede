-- A valid pay with a mark has what its list needs.
use Rattle.std.proofs.Common.{◌≡◌, true}
use Rattle.halo_status.specs.Naming.{names_life}
use Rattle.halo_status.specs.Pay.{pay_of}
use Rattle.halo_status.specs.StatusTree.{trees_in}
use Rattle.halo_chance.proofs.MarkedPays.{list-lasting, mark-ranked, mark-within, member-lasting}
use Rattle.halo_chance.proofs.pay.pay_loss.Goals as goal

pub loss_of_mark-requires-clause-member : goal.loss_of_mark-requires-clause-member
loss_of_mark-requires-clause-member g c =
    mark-within (pay_of c.args.pay.now) c.in-Some.list.mark c.in-Some.list.members.now c.requires.valid
    c.in-Some.ensures.some.0 c.in-Some.ensures.some.1

pub loss_of_mark-requires-clause-rank : goal.loss_of_mark-requires-clause-rank
loss_of_mark-requires-clause-rank g c =
    mark-ranked (pay_of c.args.pay.now) c.in-Some.list.mark c.in-Some.list.members.now c.requires.valid
    c.in-Some.ensures.some.0 c.in-Some.ensures.some.1

pub loss_of_mark-requires-clause-named : goal.loss_of_mark-requires-clause-named
loss_of_mark-requires-clause-named g c = rw c.in-Some.ensures.some.1 at c.requires.named

pub loss_of_mark-requires-clause-once : goal.loss_of_mark-requires-clause-once
loss_of_mark-requires-clause-once g c = rw c.in-Some.ensures.some.1 at c.requires.once

pub loss_of_mark-requires-clause-lasting : goal.loss_of_mark-requires-clause-lasting
loss_of_mark-requires-clause-lasting g c =
    let list = c.in-Some.list in
    member-lasting (trees_in list.members.now) list.mark.member (λ s. names_life c.args.a s ≡ true)
    (rw (c.in-Some.ensures.some.0, c.in-Some.ensures.some.1) at c.requires.marked)
    (list-lasting (pay_of c.args.pay.now) list.mark list.members.now c.requires.valid c.in-Some.ensures.some.0
    c.in-Some.ensures.some.1)
