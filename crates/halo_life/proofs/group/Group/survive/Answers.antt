use Rattle.std.proofs.Common.{◌≡◌, ◌<◌, ◌≤◌, length, false, true, ap, sym, ◌∙◌, arith, rules}
use Rattle.std.proofs.lemmas.Int.{ints}
use Rattle.halo_sums.specs.Masks.{has_bit}
use Rattle.halo_num.specs.Chance.{EnclosesChance}
use Rattle.halo_life.specs.PlainGroup.{survivors_in}
use Rattle.halo_life.proofs.AlongTree.{started-is, survivors-is}
use Rattle.halo_life.proofs.Sure.{whole-ratio}
use Rattle.halo_life.proofs.group.Group.survive.Goals as goal

pub returns-clause-sure : goal.returns-clause-sure
returns-clause-sure g c = λ alive now.
    let then = ap (λ t. survivors_in c.args.self.now t c.args.i) (now ∙ sym c.start.ensures.value) in
    let some : 1 ≤ c.survivors-2.result = search rules in
    whole-ratio c.ratio.result c.survivors.result c.survivors-2.result (c.survivors.ensures.value
    ∙ then ∙ sym c.survivors-2.ensures.value) some c.ratio.ensures.low c.ratio.ensures.high

pub returns-then-not-has_bit-clause-along_tree : goal.returns-then-not-has_bit-clause-along_tree
returns-then-not-has_bit-clause-along_tree g c =
    let group = c.args.self.now in
    let low : c.args.i < length group.lives = omega (arith, c.requires.life, c.alive.ensures.group.count) in
    let gone : has_bit group.alive c.args.i ≡ false = ap (λ m. has_bit m c.args.i) (sym c.alive.ensures.value)
    ∙ sym c.has_bit.ensures ∙ c.if-not-has_bit.true in
    rw (
      survivors-is group.file c.args.t (has_bit group.alive) group.lives c.args.i low,
      started-is group.file group.start (has_bit group.alive) group.lives c.args.i low,
      gone,
    ) (record {
      encloses =
          record { low = omega (arith, ints, c.exact.ensures.lo); high = omega (arith, ints, c.exact.ensures.hi) };
      narrow = record { near = omega (arith, ints, c.exact.ensures.lo, c.exact.ensures.hi) };
      within = record { low = omega (arith, ints, c.exact.ensures.lo); high = omega (arith, ints, c.exact.ensures.hi) };
    })

pub returns-clause-along_tree : goal.returns-clause-along_tree
returns-clause-along_tree g c =
    let group = c.args.self.now in
    let low : c.args.i < length group.lives = omega (arith, c.requires.life, c.alive.ensures.group.count) in
    let alive : has_bit group.alive c.args.i ≡ true = ap (λ m. has_bit m c.args.i) (sym c.alive.ensures.value)
    ∙ sym c.has_bit.ensures ∙ c.if-not-has_bit.false in
    let chance : EnclosesChance c.survivors.result c.survivors-2.result 1 c.ratio.result =
    record { encloses = c.ratio.ensures.encloses; narrow = c.ratio.ensures.narrow; within = c.ratio.ensures.within } in
    rw (
      survivors-is group.file c.args.t (has_bit group.alive) group.lives c.args.i low,
      started-is group.file group.start (has_bit group.alive) group.lives c.args.i low,
      alive,
    )
    (rw (c.survivors.ensures.value, c.survivors-2.ensures.value, c.start.ensures.value) at chance)
