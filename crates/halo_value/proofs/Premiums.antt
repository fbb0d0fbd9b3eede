-- The line of a reserve, by whether a premium is asked for.
use Rattle.std.proofs.Common.{ℕ, ◌<◌, ◌≤◌, Bool, List, Option, Some, None, length}
use Rattle.std.specs.Prelude.{IfSome}
use Rattle.std.specs.Option.{option_map}
use Rattle.halo_sums.specs.Masks.{has_bit}
use Rattle.halo_num.specs.declared.nano.Nano.{Nano}
use Rattle.halo_status.specs.Pay.{PlainPay}
use Rattle.halo_status.specs.Tree.{Tree}
use Rattle.halo_contract.specs.Premium.{premium_pay}
use Rattle.halo_contract.specs.declared.contract.ReserveLine.{ReserveLine}
use Rattle.halo_model.specs.Basis.{Basis}
use Rattle.halo_model.specs.Enclosed.{EnclosesOne, EnclosesPremium}
use Rattle.halo_model.specs.Horizon.{horizon}
use Rattle.halo_model.specs.Line.{IsReserveLine}
use Rattle.halo_life.specs.Lists.{entry}
use Rattle.halo_lines.specs.Printable.{IsPrintable}
use Rattle.halo_lines.specs.Report.{IsPremiumLineOf}
use Rattle.halo_value.specs.ContractValues.{HasPremium}
use Rattle.halo_value.specs.Reading.{reserve_at}
use Rattle.halo_value.specs.declared.lines.Premium.{Premium}
use Rattle.halo_value.proofs.AllPays.{later-at}

module _ (b : Basis) (pays : List PlainPay) (reserves : List ReserveLine) where
  pub without-premium : (status : Option Tree) (T : ℕ) (S : ℕ → Bool) (ends : Nano)
      → HasPremium b pays status reserves None → IsReserveLine b pays None T S ends
      → IsReserveLine b pays status T S ends
  without-premium None T S ends has line = line
  without-premium (Some status) T S ends has line = absurd has

  pub with-premium : (status : Option Tree) (premium : Premium) (place : ℕ) (ends : Nano)
      → HasPremium b pays status reserves (Some premium) → place < length reserves
      → ((s : Tree) → horizon b.lives s ≤ b.last_time → EnclosesPremium b pays s premium.line.premium
      → EnclosesOne b (premium_pay s) (reserve_at reserves place).time (has_bit (reserve_at reserves place).alive)
      (entry premium.due.items place)
      → IsReserveLine b pays (Some s) (reserve_at reserves place).time (has_bit (reserve_at reserves place).alive) ends)
      → IsReserveLine b pays status (reserve_at reserves place).time (has_bit (reserve_at reserves place).alive) ends
  with-premium None premium place ends has within line = absurd has
  with-premium (Some status) premium place ends has within line =
      line status has.in_time has.encloses
      (later-at b reserves place within (premium_pay status) premium.due.items has.later)

  pub premium-line : (status : Option Tree) (premium : Option Premium) → HasPremium b pays status reserves premium
      → IsPremiumLineOf b pays status (option_map (λ (p : Premium). p.line.line) premium)
  premium-line None None has = tt
  premium-line (Some status) (Some premium) has = has.line
  premium-line None (Some premium) has = absurd has
  premium-line (Some status) None has = absurd has

pub premium-printable : (premium : Option Premium) → IfSome premium (λ (p : Premium). IsPrintable p.line.line)
    → IfSome (option_map (λ (p : Premium). p.line.line) premium) IsPrintable
premium-printable None fits = tt
premium-printable (Some premium) fits = fits
