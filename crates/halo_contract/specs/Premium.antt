-- What a premium of 1 pays.
use Rattle.std.specs.Prelude.{ℕ, Bool, None, true}
use Rattle.halo_status.specs.Pay.{PlainPay}
use Rattle.halo_status.specs.Tree.{Tree}
use Rattle.halo_status.specs.declared.pay.Kind.TheVariants.{Due}
use Rattle.halo_status.specs.declared.pay.Vary.TheVariants.{Level}

-- all lives, as they are alive at the start
abbrev pub all_lives : ℕ → Bool
all_lives i = true

-- a premium of 1 is a level annuity-due of 1 on its status: 1 each year in advance while the status
-- exists
abbrev pub premium_pay : Tree → PlainPay
premium_pay status = record {
  amount = 1;
  vary = Level;
  kind = Due;
  defer = 0;
  causes = None;
  body = status;
  mark = None;
}
