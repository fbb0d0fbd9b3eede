-- The grammar of symbols and statuses: the bytes that each of them is written with.
use Rattle.std.specs.Prelude.{ℕ, zero, suc, List, [], ◌∷◌, ◌++◌, codes, Option, Some, None}
use Rattle.halo_status.specs.declared.pay.Kind.{Kind}
use Rattle.halo_status.specs.declared.pay.Kind.TheVariants.{Insurance, Immediate, Due}
use Rattle.halo_symbol.specs.Characters.{round_open, round_close, comma, slash, colon, angle_open, angle_close, letter_D, letter_I, square_open, square_close, caret, brace_open, stroke, brace_close, bar_text}
use Rattle.halo_symbol.specs.Tree.{Node, life, term, last, at_least, exactly, group, Members, one, and, Body, list, reversion}
use Rattle.halo_symbol.specs.Symbol.{Vary, level, increasing, decreasing, Names, Mark, Symbol}

-- bytes between `(` and `)`
abbrev pub in_round : List ℕ → List ℕ
in_round bytes = round_open ∷ (bytes ++ round_close ∷ [])

abbrev mutual
  -- a member
  pub node_bytes : Node → List ℕ
  node_bytes (life name) = name
  node_bytes (term years) = angle_open ∷ (years ++ angle_close ∷ [])
  node_bytes (last ms) = bar_text ++ in_round (members_bytes ms)
  node_bytes (at_least rank ms) = rank ++ slash ∷ in_round (members_bytes ms)
  node_bytes (exactly rank ms) =
      square_open ∷ (rank ++ square_close ∷ slash ∷ in_round (members_bytes ms))
  node_bytes (group body) = in_round (body_bytes body)

  -- a list, with `:` between its members
  pub members_bytes : Members → List ℕ
  members_bytes (one m) = node_bytes m
  members_bytes (and m ms) = node_bytes m ++ colon ∷ members_bytes ms

  -- a body with no mark: one list, or two with `|` between them
  pub body_bytes : Body → List ℕ
  body_bytes (list ms) = members_bytes ms
  body_bytes (reversion ms ns) = members_bytes ms ++ stroke ∷ members_bytes ns

-- a list with `^` and a rank behind the member at a place, which is one of the list's
abbrev pub marked_bytes : ℕ → List ℕ → Members → List ℕ
marked_bytes zero rank (one m) = node_bytes m ++ caret ∷ rank
marked_bytes zero rank (and m ms) = node_bytes m ++ caret ∷ (rank ++ colon ∷ members_bytes ms)
marked_bytes (suc place) rank (one m) = node_bytes m
marked_bytes (suc place) rank (and m ms) = node_bytes m ++ colon ∷ marked_bytes place rank ms

-- a body with the mark that it may have; only a body that is one list has one
abbrev pub content_bytes : Option Mark → Body → List ℕ
content_bytes None body = body_bytes body
content_bytes (Some mark) (list ms) = marked_bytes mark.member mark.rank ms
content_bytes (Some mark) (reversion ms ns) = body_bytes (reversion ms ns)

-- the letters of a kind
abbrev pub kind_text : Kind → List ℕ
kind_text Insurance = codes "A"
kind_text Immediate = codes "a"
kind_text Due = codes "ad"

-- the head: how the payments vary, and the kind
abbrev pub head_text : Vary → Kind → List ℕ
head_text level kind = kind_text kind
head_text increasing kind = letter_I ∷ kind_text kind
head_text (decreasing count) kind = letter_D ∷ (count ++ kind_text kind)

-- the digits of a deferral and `|`, where there is one
abbrev pub defer_bytes : Option (List ℕ) → List ℕ
defer_bytes None = []
defer_bytes (Some years) = years ++ stroke ∷ []

-- the names behind the first of a set, each behind a `,`
abbrev pub other_names_bytes : List (List ℕ) → List ℕ
other_names_bytes [] = []
other_names_bytes (name ∷ names) = comma ∷ (name ++ other_names_bytes names)

-- the set of causes, where there is one
abbrev pub causes_bytes : Option Names → List ℕ
causes_bytes None = []
causes_bytes (Some names) =
    brace_open ∷ (names.first ++ (other_names_bytes names.others ++ brace_close ∷ []))

-- a whole symbol
abbrev pub symbol_bytes : Symbol → List ℕ
symbol_bytes s =
    defer_bytes s.defer
    ++ (head_text s.vary s.kind
    ++ (causes_bytes s.causes
    ++ (square_open ∷ (content_bytes s.mark s.body ++ square_close ∷ []))))
