use Rattle.std.proofs.Common.{◌≡◌}
use Rattle.halo_annuity.proofs.paid.add_payment.Goals as goal

pub with_payments-all-requires : goal.with_payments-all-requires
with_payments-all-requires g c = record {
  before = rw c.minus.ensures c.requires.modest;
  chance = rw c.plus-endowment.ensures c.requires.endowment;
}

pub returns-clause-added : goal.returns-clause-added
returns-clause-added g c =
    let count : c.from.result ≡ c.args.paid = c.from.ensures in
    rw (c.put.ensures.minus, ← c.plus-endowment.ensures, ← c.minus.ensures, ← count) c.with_payments-all.ensures
