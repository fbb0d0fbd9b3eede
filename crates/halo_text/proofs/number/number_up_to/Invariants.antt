use Rattle.std.proofs.Common.{◌≡◌, ◌<◌, ◌≤◌, take}
use Rattle.std.specs.Prelude.{All, MatchOption}
use Rattle.halo_text.specs.Number.{IsDigit, number}
use Rattle.halo_text.proofs.number.number_up_to.Given as goal

abbrev pub invariant-loop-byte : goal.invariant-loop-byte
invariant-loop-byte l = record {
  digits : All IsDigit (take l.byte-index l.text);
  so_far : MatchOption l.value
      (l.limit < number (take l.byte-index l.text))
      (λ value. (value ≡ number (take l.byte-index l.text)) × (value ≤ l.limit));
}
