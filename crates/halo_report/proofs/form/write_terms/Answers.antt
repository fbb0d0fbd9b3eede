use Rattle.std.proofs.Common.{◌≡◌, ◌++◌, append_assoc, length, map, of_z, rules, take, to_z, ap, sym, ◌∙◌}
use Rattle.std.specs.Int.{w64}
use Rattle.std.specs.Prelude.{get_or, ℕ}
use Rattle.std.proofs.lemmas.Int.{to_z-of_z}
use Rattle.halo_sums.specs.Masks.{bits}
use Rattle.halo_poly.specs.Poly.{coefficient_at}
use Rattle.halo_contract.specs.PlainContract.{life_names}
use Rattle.halo_report.specs.CoefficientText.{set_text}
use Rattle.halo_report.specs.FormText.{term_text, terms_of}
use Rattle.halo_report.proofs.Terms.{one-term-more}
use Rattle.halo_report.proofs.form.write_terms.Goals as goal

pub loop-set-preserved : goal.loop-set-preserved
loop-set-preserved g c =
    let names = life_names c.args.lives.now in
    let n : ℕ = length c.args.lives.now in
    let sets = c.args.sets.now in
    let set : ℕ = get_or sets c.loop-set.set-index 0 in
    let before = terms_of names c.args.poly.now (map (bits n) (take c.loop-set.set-index sets)) in
    let term = term_text (set_text names (bits n set)) (coefficient_at c.args.poly.now set) in
    let back : to_z w64 (of_z w64 c.coefficient.result) ≡ c.coefficient.result = search (rules, to_z-of_z) in
    let few = c.requires.below c.loop-set.set-index 0 c.loop-set-test.true in
    rw (back, c.coefficient.ensures.value) at c.in_ok-write_term.ensures
    ∙ ap (λ text. text ++ term) c.loop-set.invariant ∙ append_assoc c.args.into.now.items before term
    ∙ ap (λ text. c.args.into.now.items ++ text)
    (sym (one-term-more names c.args.poly.now n sets c.loop-set.set-index 0 c.loop-set-test.true few))
