use Rattle.halo_status.specs.Pay.{pay_of}
use Rattle.halo_value.proofs.ShortTerms.{short-terms}
use Rattle.halo_value.proofs.parts.parts_of_pay.Goals as goal

pub horizon-horizon-requires-clause-terms : goal.horizon-horizon-requires-clause-terms
horizon-horizon-requires-clause-terms g c n named =
    short-terms (pay_of c.args.pay.now).body c.requires.pay.valid.lengths n named
