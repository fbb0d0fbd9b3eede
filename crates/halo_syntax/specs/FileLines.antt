-- The lines of a contract file, and the words of a line.
use Rattle.std.specs.Prelude.{◌≡◌, ℕ, ◌==◌, List, [], ◌∷◌, Bool, true, false, bytes_eq, drop, map, take, if◌then◌else◌}
use Rattle.std.specs.List.{filter, slice_split}
use Rattle.halo_lex.specs.Words.{is_blank}

-- the byte-order mark, EF BB BF
abbrev pub byte_order_mark : List ℕ
byte_order_mark = 239 ∷ 187 ∷ 191 ∷ []

-- the bytes behind the byte-order mark that they may begin with
abbrev pub without_mark : List ℕ → List ℕ
without_mark bytes = if bytes_eq (take 3 bytes) byte_order_mark then drop 3 bytes else bytes

-- a line feed
abbrev pub is_line_feed : ℕ → Bool
is_line_feed byte = byte == 10

-- the pieces without the last one, where that is empty
abbrev pub without_empty_end : List (List ℕ) → List (List ℕ)
without_empty_end [] = []
without_empty_end ([] ∷ []) = []
without_empty_end (piece ∷ pieces) = piece ∷ without_empty_end pieces

-- a line without the one carriage return (13) that it may end with
abbrev pub without_return : List ℕ → List ℕ
without_return [] = []
without_return (byte ∷ []) = if byte == 13 then [] else byte ∷ []
without_return (byte ∷ next ∷ rest) = byte ∷ without_return (next ∷ rest)

-- the lines of a file: what stands between its line feeds; behind the last line feed there is no
-- line where nothing stands there
abbrev pub lines_of : List ℕ → List (List ℕ)
lines_of bytes =
    map without_return (without_empty_end (slice_split is_line_feed (without_mark bytes)))

-- whether there is a byte
abbrev pub is_some : List ℕ → Bool
is_some [] = false
is_some (byte ∷ rest) = true

-- the words of a line: what stands between its blanks
abbrev pub words_of : List ℕ → List (List ℕ)
words_of line = filter is_some (slice_split is_blank line)

-- whether a line says nothing: it has no word, or its first word begins with `#` (35)
abbrev pub is_silent : List (List ℕ) → Bool
is_silent [] = true
is_silent ([] ∷ words) = false
is_silent ((first ∷ rest) ∷ words) = first == 35

-- a line that says nothing
abbrev pub IsSilent : List ℕ → Type 0
IsSilent text = is_silent (words_of text) ≡ true
