-- The bytes of symbols and statuses before other bytes, as proofs walk along them: each definition takes the bytes that
-- stand behind what it writes, and is what it writes followed by them.
use Rattle.std.proofs.Common.{◌≡◌, ℕ, zero, suc, List, [], ◌∷◌, ◌++◌, append_assoc, append-nil, Option, Some, None, refl, ap, sym, ◌∙◌}
use Rattle.halo_symbol.specs.Characters.{round_open, round_close, comma, slash, colon, angle_open, angle_close, square_open, square_close, caret, brace_open, stroke, brace_close, bar_text}
use Rattle.halo_symbol.specs.Tree.{Node, life, term, last, at_least, exactly, group, Members, one, and, Body, list, reversion}
use Rattle.halo_symbol.specs.Symbol.{Names, Mark, Symbol}
use Rattle.halo_symbol.specs.Bytes.{in_round, node_bytes, members_bytes, body_bytes, marked_bytes, content_bytes, head_text, defer_bytes, other_names_bytes, causes_bytes, symbol_bytes}

abbrev mutual
  -- a member
  pub node_then : Node → List ℕ → List ℕ
  node_then (life name) rest = name ++ rest
  node_then (term years) rest = angle_open ∷ (years ++ (angle_close ∷ rest))
  node_then (last ms) rest = bar_text ++ (round_open ∷ members_then ms (round_close ∷ rest))
  node_then (at_least rank ms) rest =
      rank ++ (slash ∷ round_open ∷ members_then ms (round_close ∷ rest))
  node_then (exactly rank ms) rest =
      square_open ∷ (rank ++ (square_close ∷ slash ∷ round_open ∷ members_then ms
      (round_close ∷ rest)))
  node_then (group body) rest = round_open ∷ body_then body (round_close ∷ rest)

  -- a list, with `:` between its members
  pub members_then : Members → List ℕ → List ℕ
  members_then (one m) rest = node_then m rest
  members_then (and m ms) rest = node_then m (colon ∷ members_then ms rest)

  -- a body with no mark
  pub body_then : Body → List ℕ → List ℕ
  body_then (list ms) rest = members_then ms rest
  body_then (reversion ms ns) rest = members_then ms (stroke ∷ members_then ns rest)

-- a list with `^` and a rank behind the member at a place, which is one of the list's
abbrev pub marked_then : ℕ → List ℕ → Members → List ℕ → List ℕ
marked_then zero rank (one m) rest = node_then m (caret ∷ (rank ++ rest))
marked_then zero rank (and m ms) rest =
    node_then m (caret ∷ (rank ++ (colon ∷ members_then ms rest)))
marked_then (suc place) rank (one m) rest = node_then m rest
marked_then (suc place) rank (and m ms) rest =
    node_then m (colon ∷ marked_then place rank ms rest)

-- a body with the mark that it may have; only a body that is one list has one
abbrev pub content_then : Option Mark → Body → List ℕ → List ℕ
content_then None body rest = body_then body rest
content_then (Some mark) (list ms) rest = marked_then mark.member mark.rank ms rest
content_then (Some mark) (reversion ms ns) rest = body_then (reversion ms ns) rest

-- the digits of a deferral and `|`, where there is one
abbrev pub defer_then : Option (List ℕ) → List ℕ → List ℕ
defer_then None rest = rest
defer_then (Some years) rest = years ++ (stroke ∷ rest)

-- the names behind the first of a set, each behind a `,`
abbrev pub other_names_then : List (List ℕ) → List ℕ → List ℕ
other_names_then [] rest = rest
other_names_then (name ∷ names) rest = comma ∷ (name ++ other_names_then names rest)

-- the set of causes, where there is one
abbrev pub causes_then : Option Names → List ℕ → List ℕ
causes_then None rest = rest
causes_then (Some names) rest =
    brace_open ∷ (names.first ++ other_names_then names.others (brace_close ∷ rest))

-- a whole symbol
abbrev pub symbol_then : Symbol → List ℕ → List ℕ
symbol_then s rest =
    defer_then s.defer (head_text s.vary s.kind ++ causes_then s.causes
    (square_open ∷ content_then s.mark s.body (square_close ∷ rest)))

-- bytes, a byte and more bytes, before the bytes behind them
joined : (front : List ℕ) (b : ℕ) (more rest both : List ℕ) → both ≡ more ++ rest
    → front ++ b ∷ both ≡ (front ++ b ∷ more) ++ rest
joined front b more rest both e = ap (λ bs. front ++ b ∷ bs) e ∙ sym (append_assoc front (b ∷ more) rest)

-- bytes and `)`, before the bytes behind them
closed : (bytes rest both : List ℕ) → both ≡ bytes ++ round_close ∷ rest → both ≡ (bytes ++ round_close ∷ []) ++ rest
closed bytes rest both e = e ∙ joined bytes round_close [] rest _ refl

mutual
  node_then-is : (n : Node) (rest : List ℕ) → node_then n rest ≡ node_bytes n ++ rest
  node_then-is (life name) rest = refl
  node_then-is (term years) rest = ap (λ bs. angle_open ∷ bs) (joined years angle_close [] rest _ refl)
  node_then-is (last ms) rest = ap (λ bs. bar_text ++ (round_open ∷ bs)) (closed (members_bytes ms) rest _ (members_then-is ms (round_close ∷ rest)))
  node_then-is (at_least rank ms) rest =
      joined rank slash (in_round (members_bytes ms)) rest _ (ap (λ bs. round_open ∷ bs) (closed (members_bytes ms) rest _ (members_then-is ms (round_close ∷ rest))))
  node_then-is (exactly rank ms) rest =
      ap (λ bs. square_open ∷ bs)
      (joined rank square_close (slash ∷ in_round (members_bytes ms)) rest _
      (ap (λ bs. slash ∷ round_open ∷ bs) (closed (members_bytes ms) rest _ (members_then-is ms (round_close ∷ rest)))))
  node_then-is (group body) rest =
      ap (λ bs. round_open ∷ bs)
      (closed (body_bytes body) rest _ (body_then-is body (round_close ∷ rest)))

  members_then-is : (ms : Members) (rest : List ℕ) → members_then ms rest ≡ members_bytes ms ++ rest
  members_then-is (one m) rest = node_then-is m rest
  members_then-is (and m ms) rest =
      node_then-is m _ ∙ joined (node_bytes m) colon (members_bytes ms) rest _ (members_then-is ms rest)

  body_then-is : (body : Body) (rest : List ℕ) → body_then body rest ≡ body_bytes body ++ rest
  body_then-is (list ms) rest = members_then-is ms rest
  body_then-is (reversion ms ns) rest =
      members_then-is ms _ ∙ joined (members_bytes ms) stroke (members_bytes ns) rest _ (members_then-is ns rest)

marked_then-is : (place : ℕ) (rank : List ℕ) (ms : Members) (rest : List ℕ)
    → marked_then place rank ms rest ≡ marked_bytes place rank ms ++ rest
marked_then-is zero rank (one m) rest = node_then-is m _ ∙ joined (node_bytes m) caret rank rest _ refl
marked_then-is zero rank (and m ms) rest =
    node_then-is m _
    ∙ joined (node_bytes m) caret (rank ++ colon ∷ members_bytes ms) rest _
    (joined rank colon (members_bytes ms) rest _ (members_then-is ms rest))
marked_then-is (suc place) rank (one m) rest = node_then-is m rest
marked_then-is (suc place) rank (and m ms) rest =
    node_then-is m _ ∙ joined (node_bytes m) colon (marked_bytes place rank ms) rest _ (marked_then-is place rank ms rest)

content_then-is : (mark : Option Mark) (body : Body) (rest : List ℕ)
    → content_then mark body rest ≡ content_bytes mark body ++ rest
content_then-is None body rest = body_then-is body rest
content_then-is (Some mark) (list ms) rest = marked_then-is mark.member mark.rank ms rest
content_then-is (Some mark) (reversion ms ns) rest = body_then-is (reversion ms ns) rest

defer_then-is : (defer : Option (List ℕ)) (rest : List ℕ) → defer_then defer rest ≡ defer_bytes defer ++ rest
defer_then-is None rest = refl
defer_then-is (Some years) rest = joined years stroke [] rest _ refl

other_names_then-is : (names : List (List ℕ)) (rest : List ℕ)
    → other_names_then names rest ≡ other_names_bytes names ++ rest
other_names_then-is [] rest = refl
other_names_then-is (name ∷ names) rest =
    ap (λ bs. comma ∷ (name ++ bs)) (other_names_then-is names rest)
    ∙ ap (λ bs. comma ∷ bs) (sym (append_assoc name (other_names_bytes names) rest))

causes_then-is : (causes : Option Names) (rest : List ℕ) → causes_then causes rest ≡ causes_bytes causes ++ rest
causes_then-is None rest = refl
causes_then-is (Some names) rest =
    let others = other_names_bytes names.others in
    let closed =
    other_names_then-is names.others (brace_close ∷ rest) ∙ joined others brace_close [] rest _ refl in
    ap (λ bs. brace_open ∷ (names.first ++ bs)) closed
    ∙ ap (λ bs. brace_open ∷ bs) (sym (append_assoc names.first (others ++ brace_close ∷ []) rest))

-- a symbol before no other bytes
pub symbol_alone : (s : Symbol) → symbol_then s [] ≡ symbol_bytes s
symbol_alone s =
    let content = content_then-is s.mark s.body (square_close ∷ []) in
    let causes = causes_then-is s.causes _ ∙ ap (λ bs. causes_bytes s.causes ++ (square_open ∷ bs)) content in
    defer_then-is s.defer _ ∙ ap (λ bs. defer_bytes s.defer ++ (head_text s.vary s.kind ++ bs)) causes

-- a status before no other bytes
pub body_alone : (body : Body) → body_then body [] ≡ body_bytes body
body_alone body = body_then-is body [] ∙ append-nil (body_bytes body)
