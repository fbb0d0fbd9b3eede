use Rattle.std.proofs.Common.{◌<◌, ◌≡◌, ◌∙◌, [], arith, get_or, length, sym}
use Rattle.std.proofs.lemmas.List.{length-map}
use Rattle.std.proofs.lemmas.Slice.Eq.{bytes_eq-Decides}
use borrow.Author.Count.{below_more}
use Rattle.halo_contract.specs.PlainContract.{life_names}
use Rattle.halo_check.proofs.PlacesOfLives.{get_or-life_names, none_of_all, place_of-first}
use Rattle.halo_check.proofs.declared.place_of_life.Goals as goal

pub returns-then-eq-clause-some : goal.returns-then-eq-clause-some
returns-then-eq-clause-some c =
    let lives = c.args.lives.now in
    let at =
    get_or-life_names lives c.loop-place.place c.index-lives-place.result c.loop-place-test.true
    c.index-lives-place.is in
    let same = (bytes_eq-Decides c.bytes.result.now c.args.name.now).0 (sym c.if-eq.ensures) in
    let lt : c.loop-place.place < length (life_names lives) = rw length-map c.loop-place-test.true in
    let first =
    place_of-first (life_names lives) c.loop-place.place c.args.name.now lt (at ∙ sym c.bytes.ensures.same ∙ same)
    c.loop-place.invariant in
    (sym first, c.loop-place-test.true)

pub loop-place-preserved : goal.loop-place-preserved
loop-place-preserved c =
    let lives = c.args.lives.now in
    let at =
    get_or-life_names lives c.loop-place.place c.index-lives-place.result c.loop-place-test.true
    c.index-lives-place.is in
    below_more (λ k. get_or (life_names lives) k [] ≡ c.args.name.now → ⊥) c.loop-place.place c.loop-place.invariant
    (λ h. cc (c.if-eq.ensures ∙ (bytes_eq-Decides c.bytes.result.now c.args.name.now).1
    (c.bytes.ensures.same ∙ sym at ∙ h)))

pub returns-clause-none : goal.returns-clause-none
returns-clause-none c =
    let names = life_names c.args.lives.now in
    none_of_all names c.args.name.now (λ k before. c.loop-place.invariant k
    (omega (arith, before, c.loop-place-test.false, length-map c.args.lives.now (λ line. line.name))))
