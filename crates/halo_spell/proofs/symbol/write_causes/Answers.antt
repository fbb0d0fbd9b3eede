-- Where a cause is in the set its name is written, and else it is left out.
use Rattle.std.proofs.Common.{◌≤◌, ◌<◌, ◌++◌, ◌^◌, ap, sym, ◌∙◌, arith, length}
use Rattle.halo_spell.proofs.CausesLeft.{all_names_left, bit_is, none_left, one_written, with_name, without_name}
use Rattle.halo_spell.proofs.symbol.write_causes.Goals as goal
use Rattle.halo_spell.proofs.symbol.write_causes.Goals.{then-mask-cause-eq1+in_ok-push+in_ok-write_bytes, else-mask-cause-eq1}

pub loop-cause-preserved : goal.loop-cause-preserved
loop-cause-preserved c =
    let here : c.loop-cause.cause < length c.args.tables.now.causes =
    omega (arith, c.loop-cause-test.true, c.causes-cause-end.ensures.all) in
    elim c.if-mask-cause-eq1.branch [
      | then-mask-cause-eq1+in_ok-push+in_ok-write_bytes w ↦
          let first =
          with_name c.args.tables.now.causes c.in-Some.mask c.loop-cause.cause here
          (sym (bit_is _) ∙ w.if-mask-cause-eq1.true) in
          let name =
          w.in_ok-write_bytes.ensures ∙ ap (λ bs. w.push.new.self.items ++ bs)
          (w.bytes.ensures.same ∙ w.cause_name.ensures) in
          rw (w.into-is, w.before-is) (one_written _ _ _ _ _ _ w.in_ok-push.ensures.items name
          ∙ rw first at c.loop-cause.invariant)
      | else-mask-cause-eq1 w ↦
          let left =
          without_name c.args.tables.now.causes c.in-Some.mask c.loop-cause.cause here
          (λ one. w.if-mask-cause-eq1.false (bit_is _ ∙ one)) in
          rw (w.into-is, w.before-is) (rw left at c.loop-cause.invariant)
    ]

pub returns : goal.returns
returns c =
    let mask = c.in-Some.mask in
    let causes = c.args.tables.now.causes in
    let some : 1 ≤ mask = rw c.in-Some.is at c.requires.some in
    let known : mask < 2 ^ length causes = rw c.in-Some.is at c.requires.known in
    let past : length causes ≤ c.loop-cause.cause =
    omega (arith, c.loop-cause-test.false, c.causes-cause-end.ensures.all) in
    let left = none_left causes mask c.loop-cause.cause past in
    rw (c.in-Some.is, ← all_names_left causes mask some known, c.in_ok-push-2.ensures.items)
    (rw left at c.loop-cause.invariant)
