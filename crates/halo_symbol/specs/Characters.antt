-- The characters of symbols and statuses, as the bytes of their ASCII codes.
use Rattle.std.specs.Prelude.{ℕ, List, codes}

-- `(`
abbrev pub round_open : ℕ
round_open = 40

-- `)`
abbrev pub round_close : ℕ
round_close = 41

-- `,`
abbrev pub comma : ℕ
comma = 44

-- `/`
abbrev pub slash : ℕ
slash = 47

-- `:`
abbrev pub colon : ℕ
colon = 58

-- `<`
abbrev pub angle_open : ℕ
angle_open = 60

-- `>`
abbrev pub angle_close : ℕ
angle_close = 62

-- `D`, the head of a decreasing symbol
abbrev pub letter_D : ℕ
letter_D = 68

-- `I`, the head of an increasing symbol
abbrev pub letter_I : ℕ
letter_I = 73

-- `[`
abbrev pub square_open : ℕ
square_open = 91

-- `]`
abbrev pub square_close : ℕ
square_close = 93

-- `^`
abbrev pub caret : ℕ
caret = 94

-- `{`
abbrev pub brace_open : ℕ
brace_open = 123

-- `|`
abbrev pub stroke : ℕ
stroke = 124

-- `}`
abbrev pub brace_close : ℕ
brace_close = 125

-- `bar`, the one name that is no name of a life or a cause
abbrev pub bar_text : List ℕ
bar_text = codes "bar"
