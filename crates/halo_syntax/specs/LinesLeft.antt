-- The lines of what is left of a file.
use Rattle.std.specs.Prelude.{ℕ, List, map}
use Rattle.std.specs.List.{slice_split}
use Rattle.halo_syntax.specs.FileLines.{is_line_feed, without_empty_end, without_return}

-- the lines of bytes that no byte-order mark stands before
abbrev pub lines_left : List ℕ → List (List ℕ)
lines_left bytes = map without_return (without_empty_end (slice_split is_line_feed bytes))
