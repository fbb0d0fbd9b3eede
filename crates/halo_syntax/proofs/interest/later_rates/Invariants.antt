use Rattle.std.proofs.Common.{◌≡◌, ◌++◌, length, map}
use Rattle.std.specs.Prelude.{All}
use Rattle.halo_syntax.specs.Line.{rate_words}
use Rattle.halo_syntax.specs.LineReading.{bytes_of}
use Rattle.halo_syntax.specs.LineView.{plain_rate}
use Rattle.halo_syntax.specs.ProperLine.{IsProperRate}
use Rattle.halo_syntax.proofs.interest.later_rates.Given as goal

abbrev pub decreases-loop-left : goal.decreases-loop-left
decreases-loop-left l = length l.left

abbrev pub invariant-loop-left : goal.invariant-loop-left
invariant-loop-left l = record {
  proper : All IsProperRate (map plain_rate l.rates.items);
  read : bytes_of l.words ≡ rate_words (map plain_rate l.rates.items) ++ bytes_of l.left;
}
