use Rattle.std.proofs.Common.{◌≡◌, ℕ, ◌+◌, ◌≤◌, take}
use Rattle.halo_symbol.specs.Characters.{round_open, round_close}
use Rattle.halo_syntax.specs.Depth.{count_of}
use Rattle.halo_syntax.proofs.depth.is_shallow.Given as goal

abbrev pub invariant-loop-byte : goal.invariant-loop-byte
invariant-loop-byte l = record {
  opened : l.opened ≡ count_of round_open (take l.byte-index l.line);
  closed : l.closed ≡ count_of round_close (take l.byte-index l.line);
  few_opened : l.opened ≤ l.byte-index;
  few_closed : l.closed ≤ l.byte-index;
  shallow : (n : ℕ) → n ≤ l.byte-index
      → count_of round_open (take n l.line) ≤ count_of round_close (take n l.line) + 16;
}
