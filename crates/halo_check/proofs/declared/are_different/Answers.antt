use Rattle.std.proofs.Common.{◌<◌, ◌∙◌, ℕ, List, [], arith, get_or, length, map, sym}
use Rattle.std.proofs.lemmas.List.{get_or-map, length-map}
use Rattle.std.specs.Borrow.{Bor}
use Rattle.halo_check.proofs.Apart.{apart_more, same_again}
use Rattle.halo_check.proofs.declared.are_different.Goals as goal

pub returns-then-not-is_new : goal.returns-then-not-is_new
returns-then-not-is_new c =
    let none : Bor (List ℕ) = record { ref_ptr = (0, 0); now = [] } in
    let names = map (λ name. name.now) c.args.names.now in
    let place = c.loop-name.name-index in
    let is = sym (get_or-map (λ name. name.now) c.args.names.now place none [] c.loop-name-test.true) in
    let here : place < length names =
    omega (arith, length-map c.args.names.now (λ name. name.now), c.loop-name-test.true) in (
      (λ t. cc t),
      (λ h. absurd (same_again names place c.loop-name.earlier (get_or c.args.names.now place none)
          c.loop-name.invariant is (sym c.if-not-is_new.true ∙ c.in-Ok.ensures.added)
          (λ i before. h i place before here))),
    )

pub loop-name-preserved : goal.loop-name-preserved
loop-name-preserved c =
    let none : Bor (List ℕ) = record { ref_ptr = (0, 0); now = [] } in
    let names = map (λ name. name.now) c.args.names.now in
    let place = c.loop-name.name-index in
    let is = sym (get_or-map (λ name. name.now) c.args.names.now place none [] c.loop-name-test.true) in
    apart_more names place c.loop-name.earlier c.insert.new.self (get_or c.args.names.now place none)
    c.loop-name.invariant is (sym c.if-not-is_new.false ∙ c.in-Ok.ensures.added) c.in-Ok.ensures.updates
