use Rattle.std.proofs.Common.{◌++◌, ◌-◌, ◌≤◌, length, List}
use Rattle.halo_lex.specs.Words.{AreWordsFrom}
use Rattle.halo_lex.specs.declared.line.Span.{Span}
use Rattle.halo_lex.proofs.line.words.Given as goal

abbrev pub decreases-loop-word : goal.decreases-loop-word
decreases-loop-word l = length l.line - l.behind

-- the words found and those from here on are the words of the line
abbrev pub invariant-loop-word : goal.invariant-loop-word
invariant-loop-word l = record {
  within : l.behind ≤ length l.line;
  found : (rest : List Span) → AreWordsFrom l.line l.behind rest → AreWordsFrom l.line 0 (l.found.items ++ rest);
}
