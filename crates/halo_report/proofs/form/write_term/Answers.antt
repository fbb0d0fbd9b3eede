use Rattle.std.proofs.Common.{◌≡◌, ◌≢◌, append-nil, sym, length, arith, pos, w64}
use Rattle.std.proofs.lemmas.Int.{ints, to_z-of_z}
use Rattle.halo_sums.specs.Masks.{bits}
use Rattle.halo_contract.specs.PlainContract.{life_names}
use Rattle.halo_report.specs.CoefficientText.{set_text}
use Rattle.halo_report.proofs.Terms.{term_text-some}
use Rattle.halo_report.proofs.form.write_term.Goals as goal

pub returns-then-coefficient-eq0 : goal.returns-then-coefficient-eq0
returns-then-coefficient-eq0 c =
    let zero : c.args.coefficient ≡ pos 0 = omega (arith, ints) in
    rw zero (sym (append-nil c.args.into.now.items))

pub returns : goal.returns
returns c =
    let some : c.args.coefficient ≢ pos 0 = λ zero. absurd (omega (arith, ints)) in
    let set = set_text (life_names c.args.lives.now) (bits (length c.args.lives.now) c.args.set) in
    let passed = to_z-of_z w64 c.args.coefficient c.ranges.coefficient in
    rw (← term_text-some set c.args.coefficient some) (rw passed at c.write_coefficient.ensures)
