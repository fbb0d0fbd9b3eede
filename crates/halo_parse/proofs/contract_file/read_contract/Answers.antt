use Rattle.std.proofs.Common.{◌≡◌, arith, ap, inl, inr, length, refl}
use Rattle.halo_check.specs.DraftView.{draft_of}
use Rattle.halo_parse.proofs.LineCount.{lines_few}
use Rattle.halo_parse.proofs.Walk.{fault_found, walked}
use Rattle.halo_parse.proofs.contract_file.read_contract.Goals as goal

pub overflow_add-number : goal.overflow_add-number
overflow_add-number c = omega (arith, c.loop-text.invariant.count, lines_few c.args.bytes.now, c.requires)

pub returns-in-Err-Fault : goal.returns-in-Err-Fault
returns-in-Err-Fault c =
    let has = rw c.in-Err-Fault.field-0-is at c.in-Err-Fault.ensures.fault in
    rw (c.fault_at.ensures, c.in-Err-Fault.kind-is)
    (inl (fault_found c.args.tables.now c.args.bytes.now (draft_of c.loop-text.draft) c.loop-text.number
    c.in-Some.text.now c.loop-text.lines c.next.new.self c.in-Err-Fault.kind c.loop-text.invariant
    c.in-Some.ensures has))

pub returns-in-None : goal.returns-in-None
returns-in-None c =
    let none : length c.loop-text.lines ≡ 0 = ap length c.in_default.ensures in
    rw c.fault_at-in-None.ensures (inr (record {
      draft = draft_of c.loop-text.draft;
      lines =
          walked c.args.tables.now c.args.bytes.now (draft_of c.loop-text.draft) c.loop-text.number c.loop-text.lines
          c.loop-text.invariant c.in_default.ensures;
      not_whole = c.in-None.ensures.none;
      number_is = omega (arith, none, c.loop-text.invariant.count);
      kind_is = refl;
    }))
