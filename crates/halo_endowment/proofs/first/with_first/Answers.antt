use Rattle.std.proofs.Common.{◌≡◌, ◌∙◌, ℕ, ◌^◌, ◌<◌, ◌≤◌, List, ap, arith, get_or, length, pos, subst, sym}
use Rattle.std.proofs.lemmas.Int.{ints}
use Rattle.halo_num.specs.Ends.{Ends, IsWithin, fine}
use Rattle.halo_life.specs.Lists.{entry}
use Rattle.halo_chance.specs.Enclosed.{entry_at}
use Rattle.halo_chance.proofs.Tables.{entry-read}
use Rattle.halo_life.proofs.OneSet.{chance-without}
use Rattle.halo_life.proofs.Within.{bit-below}
use Rattle.halo_endowment.proofs.first.with_first.Goals as goal

-- the entry that is read is that of the life
read : (lives : List Ends) (life place : ℕ) (r : Ends) → place ≡ life → 12 ≤ length lives → life < 12
    → entry_at lives life ≡ get_or lives place r
read lives life place r same room low =
    ap (λ (j : ℕ). entry_at lives j) (sym same) ∙ entry-read lives place r (omega (arith, same, room, low))

pub listed : goal.listed
listed g c =
    let below : c.args.set < 2 ^ 12 = omega (arith, c.requires.below, c.requires.sets) in
    let low = bit-below 12 c.args.set c.first_of-first.result below c.first_of-first.ensures.within in
    omega (arith, c.from.ensures, low, c.requires.chances.room)

pub bounds-lives-from : goal.bounds-lives-from
bounds-lives-from g c =
    let below : c.args.set < 2 ^ 12 = omega (arith, c.requires.below, c.requires.sets) in
    let low = bit-below 12 c.args.set c.first_of-first.result below c.first_of-first.ensures.within in
    omega (arith, c.from.ensures, low)

pub mul-requires : goal.mul-requires
mul-requires g c =
    let below : c.args.set < 2 ^ 12 = omega (arith, c.requires.below, c.requires.sets) in
    let first = c.first_of-first.result in
    let there = c.first_of-first.ensures.within in
    let rest = chance-without 12 c.args.set first below there
    (λ part i. IsWithin i (pos 0) (pos fine)) c.args.work.now.plus c.without.result c.plus-others.result
    c.requires.smaller c.without.ensures.value c.without.ensures.smaller c.plus-others.ensures in
    let low = bit-below 12 c.args.set first below there in
    let chance = subst (λ (i : Ends). IsWithin i (pos 0) (pos fine)) (read c.args.lives.now first c.from.result
    c.index-lives-from.result c.from.ensures c.requires.chances.room low) (c.requires.chances.each first low) in
    record {
      self_from = rest.low;
      self_in = omega (arith, ints, rest.high);
      o_from = chance.low;
      o_in = omega (arith, ints, chance.high);
    }

pub returns-clause-within : goal.returns-clause-within
returns-clause-within g c =
    let below : c.args.set < 2 ^ 12 = omega (arith, c.requires.below, c.requires.sets) in
    let first = c.first_of-first.result in
    let there = c.first_of-first.ensures.within in
    let rest = chance-without 12 c.args.set first below there
    (λ part i. IsWithin i (pos 0) (pos fine)) c.args.work.now.plus c.without.result c.plus-others.result
    c.requires.smaller c.without.ensures.value c.without.ensures.smaller c.plus-others.ensures in
    let low = bit-below 12 c.args.set first below there in
    let chance = subst (λ (i : Ends). IsWithin i (pos 0) (pos fine)) (read c.args.lives.now first c.from.result
    c.index-lives-from.result c.from.ensures c.requires.chances.room low) (c.requires.chances.each first low) in
    c.mul.ensures.within rest.high chance.high

pub returns-clause-product : goal.returns-clause-product
returns-clause-product g c =
    let below : c.args.set < 2 ^ 12 = omega (arith, c.requires.below, c.requires.sets) in
    let first = c.first_of-first.result in
    let there = c.first_of-first.ensures.within in
    let one = read c.args.lives.now first c.from.result c.index-lives-from.result c.from.ensures
    c.requires.chances.room (bit-below 12 c.args.set first below there) in
    let rest = c.plus-others.ensures ∙ ap (λ part. entry c.args.work.now.plus part) c.without.ensures.value in
    record {
      first = first;
      there = there;
      less = rw (← c.without.ensures.value) c.without.ensures.smaller;
      product = λ k m d e v w others chance. c.mul.ensures.chance k m d e v w (rw rest others) (rw (← one) chance);
    }
