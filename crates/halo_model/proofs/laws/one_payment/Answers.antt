use Rattle.halo_model.proofs.OnePayment.{one-payment}
use Rattle.halo_model.proofs.laws.one_payment.Goals as goal

pub returns : goal.returns
returns c = one-payment
