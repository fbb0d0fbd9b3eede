-- The lines of all pays together, of the premium and of the reserves come from the values of a contract.
use Rattle.std.proofs.Common.{List, Option, length, map, ap, sym, subst, ◌∙◌, arith}
use Rattle.std.specs.Option.{option_map}
use Rattle.std.proofs.lemmas.Int.{ints}
use Rattle.std.proofs.lemmas.List.{length-map}
use Rattle.std.proofs.lemmas.Slice.Zip.{AllZip-long}
use Rattle.halo_num.specs.declared.nano.Nano.{Nano}
use Rattle.halo_status.specs.Pay.{PlainPay, pay_of}
use Rattle.halo_contract.specs.Premium.{all_lives}
use Rattle.halo_model.proofs.Printing.{total-has-line}
use Rattle.halo_lines.specs.Report.{IsPremiumLineOf}
use Rattle.halo_lines.specs.Values.{AreValues, HaveRoom}
use Rattle.halo_lines.proofs.PrintedEnds.{printed-fit}
use Rattle.halo_value.specs.PayValues.{AreValuesOf}
use Rattle.halo_value.specs.declared.pass.PayValues.{PayValues}
use Rattle.halo_value.proofs.AllPays.{can-be-added, some-divide, some-multiply, start-room, starts-are}
use Rattle.halo_value.proofs.Premiums.{premium-line, premium-printable}
use Rattle.halo_value.proofs.lines.report_lines.Goals as goal

pub reserve_lines-requires-clause-same : goal.reserve_lines-requires-clause-same
reserve_lines-requires-clause-same g c =
    AllZip-long (AreValuesOf c.requires.0 c.args.reserves.now) (map pay_of c.args.pays.now) c.args.values.now
    c.requires.1.1.of_pays
    ∙ length-map c.args.pays.now pay_of

pub pay_lines-requires-clause-same : goal.pay_lines-requires-clause-same
pay_lines-requires-clause-same g c =
    ap length (c.deref.ensures.value ∙ c.in_ok-starts.ensures)
    ∙ length-map c.args.values.now (λ (pay : PayValues). pay.start)
    ∙ AllZip-long (AreValuesOf c.requires.0 c.args.reserves.now) (map pay_of c.args.pays.now) c.args.values.now
    c.requires.1.1.of_pays
    ∙ length-map c.args.pays.now pay_of

pub pay_lines-requires-clause-room : goal.pay_lines-requires-clause-room
pay_lines-requires-clause-room g c =
    subst (HaveRoom (map pay_of c.args.pays.now)) (sym (c.deref.ensures.value ∙ c.in_ok-starts.ensures))
    (start-room c.requires.0 (map pay_of c.args.pays.now) c.requires.1.0 c.args.reserves.now c.args.values.now
    c.args.due
    c.requires.1.1)

pub benefits-all-requires-clause-same : goal.benefits-all-requires-clause-same
benefits-all-requires-clause-same g c =
    ap length (c.deref-2.ensures.value ∙ c.in_ok-starts.ensures)
    ∙ length-map c.args.values.now (λ (pay : PayValues). pay.start)
    ∙ AllZip-long (AreValuesOf c.requires.0 c.args.reserves.now) (map pay_of c.args.pays.now) c.args.values.now
    c.requires.1.1.of_pays
    ∙ length-map c.args.pays.now pay_of

pub benefits-all-requires-clause-room : goal.benefits-all-requires-clause-room
benefits-all-requires-clause-room g c =
    subst (HaveRoom (map pay_of c.args.pays.now)) (sym (c.deref-2.ensures.value ∙ c.in_ok-starts.ensures))
    (start-room c.requires.0 (map pay_of c.args.pays.now) c.requires.1.0 c.args.reserves.now c.args.values.now
    c.args.due
    c.requires.1.1)

pub premium_of-premium-requires-clause-due : goal.premium_of-premium-requires-clause-due
premium_of-premium-requires-clause-due g c =
    some-divide c.requires.0 c.args.reserves.now c.requires.1.0 c.args.due c.requires.1.1.of_premium

pub reserve_lines-requires-clause-pays : goal.reserve_lines-requires-clause-pays
reserve_lines-requires-clause-pays g c =
    can-be-added c.requires.0 (map pay_of c.args.pays.now) c.requires.1.0 c.args.reserves.now c.args.values.now
    c.args.due
    c.requires.1.1

pub reserve_lines-requires-clause-premium : goal.reserve_lines-requires-clause-premium
reserve_lines-requires-clause-premium g c place within =
    c.premium_of-premium.ensures.taken_off place
    (some-multiply c.requires.0 c.args.reserves.now c.requires.1.0 c.args.due c.requires.1.1.of_premium place within)

pub returns-clause-encloses : goal.returns-clause-encloses
returns-clause-encloses g c b premium are =
    let pays : List PlainPay = map pay_of c.args.pays.now in
    let reserves = c.args.reserves.now in
    let status = option_map (λ (pay : PlainPay). pay.body) premium in
    let starts = starts-are b reserves pays c.args.values.now are.of_pays in
    let benefits = c.benefits-all.ensures.benefits b _ all_lives
    (subst (AreValues b 0 all_lives pays) (sym (c.deref-2.ensures.value ∙ c.in_ok-starts.ensures)) starts) in
    let has = c.premium_of-premium.ensures.has b pays premium reserves benefits are.of_premium in
    let printed = c.to_nano.ensures in
    record {
      pays = c.in_ok-lines.ensures.lines b
          (subst (AreValues b 0 all_lives pays) (sym (c.deref.ensures.value ∙ c.in_ok-starts.ensures)) starts);
      total = total-has-line b pays c.benefits-all.result c.to_nano.result benefits
          (record { encloses = printed.encloses; narrow = printed.narrow });
      premium = subst (λ (line : Option Nano). IsPremiumLineOf b pays status line) (sym c.line_of.ensures)
          (premium-line b pays reserves status c.premium_of-premium.result has);
      reserves = c.in_ok-reserve_lines.ensures.encloses b status are.of_pays has;
    }

pub returns-clause-printable : goal.returns-clause-printable
returns-clause-printable g c = record {
  pays = c.in_ok-lines.ensures.printable;
  total = printed-fit c.benefits-all.result c.to_nano.result c.lo.ensures.order
      (record {
        low = omega (arith, ints, c.benefits-all.ensures.within.low);
        high = omega (arith, ints, c.benefits-all.ensures.within.high);
      })
      c.to_nano.ensures.low c.to_nano.ensures.high;
  premium = rw c.line_of.ensures (premium-printable c.premium_of-premium.result c.premium_of-premium.ensures.printable);
  reserves = c.in_ok-reserve_lines.ensures.printable;
}
