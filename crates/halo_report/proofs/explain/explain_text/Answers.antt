-- The lines of a pay and of its parts, and those of the pays behind it.
use Rattle.std.proofs.Common.{◌≡◌, ◌++◌, ◌<◌, [], arith, length}
use Rattle.std.specs.Prelude.{All, get_or}
use Rattle.halo_contract.specs.PlainContract.{life_names}
use Rattle.halo_contract.specs.ValidContract.{IsValidAmong}
use Rattle.halo_check.proofs.Each.{each_at}
use Rattle.halo_status.specs.Pay.{pay_of}
use Rattle.halo_lines.specs.Parts.{IsPrintablePart, parts_of}
use Rattle.halo_report.specs.ExplainText.{part_lines}
use Rattle.halo_report.proofs.PaysLines.{next-pay, read-mapped}
use Rattle.halo_report.proofs.explain.explain_text.Goals as goal

pub write_symbol_line-requires : goal.write_symbol_line-requires
write_symbol_line-requires c =
    let contract = c.args.contract.now in
    let within : c.loop-place.place < length contract.pays.items
    = omega (arith, c.loop-place-test.true, c.len-place-end.ensures) in
    rw (c.deref.ensures.value, c.index.ensures)
    (each_at (IsValidAmong (length contract.lives.items) (length c.args.tables.now.causes)) pay_of contract.pays.items
    c.requires.contract.pays c.loop-place.place c.index.result.now within)

pub write_parts-requires : goal.write_parts-requires
write_parts-requires c =
    let contract = c.args.contract.now in
    let within : c.loop-place.place < length c.args.parts.now
    = omega (arith, c.loop-place-test.true, c.len-place-end.ensures, c.requires.lists) in
    rw (c.deref-in-loop-place.ensures.value, c.deref-in-loop-place-2.ensures.value, c.index-parts-place.is)
    (each_at (All (IsPrintablePart (length contract.lives.items))) (λ list. list.items) c.args.parts.now
    c.requires.parts c.loop-place.place c.index-parts-place.result within)

pub loop-place-preserved : goal.loop-place-preserved
loop-place-preserved c =
    let contract = c.args.contract.now in
    let parts = parts_of c.args.parts.now in
    let names = life_names contract.lives.items in
    let within : c.loop-place.place < length contract.pays.items
    = omega (arith, c.loop-place-test.true, c.len-place-end.ensures) in
    let listed : get_or parts c.loop-place.place [] ≡ c.index-parts-place.result.items =
    read-mapped (λ list. list.items) c.args.parts.now c.loop-place.place c.index-parts-place.result []
    (omega (arith, within, c.requires.lists)) c.index-parts-place.is in
    let symbol = rw c.deref.ensures.value at c.in_ok-write_symbol_line.ensures in
    let written : c.write_parts.new.into.items
    ≡ c.write_symbol_line.new.into.items ++ part_lines names parts c.loop-place.place
    = rw listed
    (rw (c.deref-in-loop-place.ensures.value, c.deref-in-loop-place-2.ensures.value) at c.in_ok-write_parts.ensures) in
    next-pay names c.args.tables.now.causes (part_lines names parts) contract.pays.items c.loop-place.place
    c.index.result.now c.loop-place.text.items c.write_symbol_line.new.into.items c.write_parts.new.into.items _
    within c.index.ensures symbol written c.loop-place.invariant
