use Rattle.std.proofs.Common.{arith, subst, sym, ℕ}
use Rattle.std.proofs.lemmas.Int.{ints}
use Rattle.halo_num.proofs.CountMultiples.{signed-count}
use Rattle.halo_model.specs.PayPart.{IsMultiple}
use Rattle.halo_model.proofs.PartLines.{part-has-line}
use Rattle.halo_lines.proofs.parts.part_line.Goals as goal

pub returns-clause-line : goal.returns-clause-line
returns-clause-line c = λ b pay part amount is.
    let count = signed-count c.args.amount (omega (arith, c.requires.amount)) in
    let multiple : IsMultiple c.args.value c.args.amount c.scale-worth.result = record {
      encloses = λ n d enclosed. rw count at (c.scale-worth.ensures.encloses n d enclosed);
      narrow = λ w narrow. c.scale-worth.ensures.narrow w c.args.amount narrow (rw count (record {
        low = omega (arith, ints);
        high = omega (arith, ints);
      }));
    } in
    part-has-line b pay part c.args.value c.scale-worth.result c.to_nano.result is
    (subst (λ (a : ℕ). IsMultiple c.args.value a c.scale-worth.result) (sym amount) multiple)
    (record { encloses = c.to_nano.ensures.encloses; narrow = c.to_nano.ensures.narrow })
