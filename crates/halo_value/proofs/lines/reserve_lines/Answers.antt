use Rattle.std.proofs.Common.{ℕ, List, map, take, sym, subst, ◌∙◌}
use Rattle.std.proofs.lemmas.List.{take_more}
use Rattle.std.proofs.lemmas.List.Elements.{All-push}
use Rattle.std.proofs.lemmas.Slice.Zip.{all_zipped_more}
use Rattle.halo_sums.specs.Masks.{has_bit}
use Rattle.halo_status.specs.Pay.{PlainPay, pay_of}
use Rattle.halo_contract.specs.declared.contract.ReserveLine.{ReserveLine}
use Rattle.halo_model.specs.Line.{IsReserveLine}
use Rattle.halo_lines.specs.Printable.{IsPrintable}
use Rattle.halo_lines.specs.Values.{AreValues, HaveRoom}
use Rattle.halo_value.specs.Reading.{reserve_at}
use Rattle.halo_value.proofs.AllPays.{later-are}
use Rattle.halo_value.proofs.lines.reserve_lines.Goals as goal

pub benefits-later-requires-clause-room : goal.benefits-later-requires-clause-room
benefits-later-requires-clause-room g c =
    subst (HaveRoom (map pay_of c.args.pays.now)) (sym (c.deref.ensures.value ∙ c.in_ok-column.ensures))
    (c.requires.pays c.loop-place.place c.loop-place-test.true).room

pub loop-place-preserved : goal.loop-place-preserved
loop-place-preserved g c =
    let pays : List PlainPay = map pay_of c.args.pays.now in
    let reserves = c.args.reserves.now in
    let place : ℕ = c.loop-place.place in
    let within = c.loop-place-test.true in
    let reserve : ReserveLine = reserve_at reserves place in
    let column = c.deref.ensures.value ∙ c.in_ok-column.ensures in
    let listed = take_more reserves place (record { time = 0; alive = 0 }) within in
    record {
      encloses = λ b status are has.
          let benefits = c.benefits-later.ensures.benefits b reserve.time (has_bit reserve.alive)
          (subst (AreValues b reserve.time (has_bit reserve.alive) pays) (sym column)
          (later-are b reserves place within pays c.args.values.now are)) in
          rw (listed, c.in_ok-push.ensures.items)
          (all_zipped_more (λ r. IsReserveLine b pays status r.time (has_bit r.alive)) (take place reserves)
          c.loop-place.lines.items reserve c.one_reserve.result (c.loop-place.invariant.encloses b status are has)
          (c.one_reserve.ensures.encloses b pays status reserves within has benefits));
      printable = rw c.in_ok-push.ensures.items
          (All-push IsPrintable c.loop-place.lines.items c.one_reserve.result c.loop-place.invariant.printable
          c.one_reserve.ensures.printable);
    }
