-- What holds of all pays holds of each.
use Rattle.std.proofs.Common.{length}
use Rattle.halo_check.proofs.Each.{each_at}
use Rattle.halo_status.specs.Pay.{pay_of}
use Rattle.halo_contract.specs.ValidContract.{IsValidAmong}
use Rattle.halo_spell.proofs.lines.write_pays.Goals as goal

pub write_pay-requires : goal.write_pay-requires
write_pay-requires c =
    let valid = IsValidAmong (length c.args.lives.now) (length c.args.tables.now.causes) in
    rw c.pay-item.is
    (each_at valid pay_of c.args.pays.now c.requires c.loop-pay.pay-index c.pay-item.result c.loop-pay-test.true)
