use Rattle.std.proofs.Common.{◌≡◌, ◌<◌, ◌≤◌, length, map, take}
use Rattle.std.specs.Prelude.{All}
use Rattle.halo_syntax.specs.LineReading.{bytes_of}
use Rattle.halo_syntax.proofs.lines.Blanks.{text_at}
use Rattle.halo_syntax.proofs.words.words_in.Given as goal

abbrev pub invariant-loop-span : goal.invariant-loop-span
invariant-loop-span l = record {
  within : All (λ span. (span.from < span.to) × (span.to ≤ length l.text)) l.span-items;
  read : bytes_of l.words.items ≡ map (text_at l.text) (take l.span-index l.span-items);
}
