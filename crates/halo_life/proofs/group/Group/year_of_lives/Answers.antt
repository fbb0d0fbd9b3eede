use Rattle.std.proofs.Common.{◌<◌, length, arith}
use Rattle.std.proofs.lemmas.List.{length-set}
use Rattle.halo_sums.specs.Masks.{has_bit}
use Rattle.halo_model.specs.Chance.{asked}
use Rattle.halo_model.specs.EvenTies.{YearNumbers}
use Rattle.halo_model.specs.FromTables.{lives_of}
use Rattle.halo_model.specs.OrderLaws.{year_numbers}
use Rattle.halo_life.specs.YearOfLives.{EnclosesYear}
use Rattle.halo_life.proofs.YearChances.{numbers-split, stored, year-of-numbers}
use Rattle.halo_life.proofs.group.Group.year_of_lives.Goals as goal

pub loop-i-preserved : goal.loop-i-preserved
loop-i-preserved g c =
    let n = g.row.N in
    let group = c.count-i-end.ensures.group in
    let low : c.loop-i.i < n = omega (arith, c.loop-i-test.true, c.count-i-end.ensures.value) in
    let room : c.loop-i.i < length c.loop-i.lives = omega (arith, low, group.few, c.loop-i.invariant.room) in
    let numbers : YearNumbers = year_numbers
    (has_bit c.args.counted) (asked c.args.causes) (lives_of c.args.self.now.file c.args.self.now.lives) c.args.k in
    record {
      room = simp length-set c.loop-i.invariant.room;
      each = stored (λ i year. EnclosesYear (numbers.leaving i) (numbers.staying i) (numbers.alive i) year)
          c.loop-i.lives c.loop-i.i c.from.result c.year_of_life.result
          c.from.ensures room c.loop-i.invariant.each
          (year-of-numbers n c.args.self.now group c.args.k c.args.counted
          c.args.causes c.loop-i.i low c.year_of_life.result (rw c.has_bit.ensures at c.year_of_life.ensures.year));
    }

pub returns-clause-years : goal.returns-clause-years
returns-clause-years g c = record {
  parts = numbers-split g.row.N c.args.self.now c.count-i-end.ensures.group c.args.k c.args.counted c.args.causes;
  each = λ i low. c.loop-i.invariant.each i (omega (arith, c.loop-i-test.false, c.count-i-end.ensures.value));
}
