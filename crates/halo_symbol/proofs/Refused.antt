-- Why no member, no list and no body comes next.
use Rattle.std.proofs.Common.{◌≡◌, ◌≢◌, ◌<◌, ◌≤◌, ◌-◌, ℕ, List, [], ◌∷◌, refl, sym, ap, ◌∙◌, arith}
use Rattle.halo_symbol.specs.Characters.{round_open, round_close, slash, colon, angle_open, angle_close, square_open, square_close, stroke}
use Rattle.halo_symbol.specs.Piece.{Piece, bar, number, byte}
use Rattle.halo_symbol.specs.Tree.{Node, life, term, last, at_least, exactly, group, Members, one, and, Body, list, reversion}
use Rattle.halo_symbol.specs.Nesting.{nest, nest_body}
use Rattle.halo_symbol.specs.Pieces.{node_pieces, members_pieces, body_pieces}
use Rattle.halo_symbol.specs.Absent.{NoNode, NoMembers, NoBracketed, NoBody}
use Rattle.halo_symbol.specs.Next.{NotNext}
use Rattle.halo_symbol.proofs.Unique.{first_code, behind, close_not_colon, stroke_not_colon, node_unique, members_unique}

-- no member begins with nothing
pub no_nothing : (d : ℕ) (ts : List Piece) → ts ≡ [] → NoNode d ts
unfolding NoNode
no_nothing d ts s n r deep e = go n (sym s ∙ e)
  where
    go : (n : Node) → [] ≡ node_pieces n r → ⊥
    go (life text) f = absurd (omega (arith, ap first_code f))
    go n f = absurd (omega (arith, ap first_code f))

-- no member begins with another byte than `<`, `[` and `(`
pub no_other : (d b : ℕ) (ts us : List Piece) → ts ≡ byte b ∷ us → b ≢ angle_open → b ≢ square_open → b ≢ round_open
    → NoNode d ts
unfolding NoNode
no_other d b ts us s x y z n r deep e = go n (sym s ∙ e)
  where
    go : (n : Node) → byte b ∷ us ≡ node_pieces n r → ⊥
    go (term years) f = x (omega (arith, ap first_code f))
    go (exactly rank ms) f = y (omega (arith, ap first_code f))
    go (group body) f = z (omega (arith, ap first_code f))
    go (life text) f = absurd (omega (arith, ap first_code f))
    go n f = absurd (omega (arith, ap first_code f))

-- behind `bar` a list in brackets has to come
pub no_last : (d : ℕ) (ts us : List Piece) → ts ≡ bar ∷ us → NoBracketed d us → NoNode d ts
unfolding NoNode NoBracketed
no_last d ts us s none n r deep e = go n deep (sym s ∙ e)
  where
    go : (n : Node) → nest n ≤ d → bar ∷ us ≡ node_pieces n r → ⊥
    go (last ms) deep f = none ms r (omega arith) (behind f)
    go n deep f = absurd (omega (arith, ap first_code f))

-- behind a number `/` and a list in brackets have to come
pub no_at_least : (d : ℕ) (x : List ℕ) (ts us : List Piece) → ts ≡ number x ∷ us
    → ((vs : List Piece) → us ≡ byte slash ∷ vs → NoBracketed d vs) → NoNode d ts
unfolding NoNode NoBracketed
no_at_least d x ts us s none n r deep e = go n deep (sym s ∙ e)
  where
    go : (n : Node) → nest n ≤ d → number x ∷ us ≡ node_pieces n r → ⊥
    go (at_least rank ms) deep f =
        none (byte round_open ∷ members_pieces ms (byte round_close ∷ r)) (behind f) ms r (omega arith) refl
    go n deep f = absurd (omega (arith, ap first_code f))

-- behind `<` a number and `>` have to come
pub no_term : (d : ℕ) (ts us : List Piece) → ts ≡ byte angle_open ∷ us
    → ((x : List ℕ) (vs : List Piece) → us ≡ number x ∷ byte angle_close ∷ vs → ⊥) → NoNode d ts
unfolding NoNode
no_term d ts us s none n r deep e = go n (sym s ∙ e)
  where
    go : (n : Node) → byte angle_open ∷ us ≡ node_pieces n r → ⊥
    go (term years) f = none years r (behind f)
    go n f = absurd (omega (arith, ap first_code f))

-- behind `[` a number, `]/` and a list in brackets have to come
pub no_exactly : (d : ℕ) (ts us : List Piece) → ts ≡ byte square_open ∷ us
    → ((x : List ℕ) (vs : List Piece) → us ≡ number x ∷ byte square_close ∷ byte slash ∷ vs → NoBracketed d vs) → NoNode
    d ts
unfolding NoNode NoBracketed
no_exactly d ts us s none n r deep e = go n deep (sym s ∙ e)
  where
    go : (n : Node) → nest n ≤ d → byte square_open ∷ us ≡ node_pieces n r → ⊥
    go (exactly rank ms) deep f =
        none rank (byte round_open ∷ members_pieces ms (byte round_close ∷ r)) (behind f) ms r (omega arith) refl
    go n deep f = absurd (omega (arith, ap first_code f))

-- behind `(` a body and `)` have to come
pub no_group : (d : ℕ) (us : List Piece)
    → ((body : Body) (rest : List Piece) → nest_body body < d → us ≡ body_pieces body (byte round_close ∷ rest) → ⊥)
    → NoNode d (byte round_open ∷ us)
unfolding NoNode
no_group d us none n r deep e = go n deep e
  where
    go : (n : Node) → nest n ≤ d → byte round_open ∷ us ≡ node_pieces n r → ⊥
    go (group body) deep f = none body r (omega arith) (behind f)
    go n deep f = absurd (omega (arith, ap first_code f))

-- brackets nest where there are some
pub no_depth : (d : ℕ) (ts : List Piece) → d ≡ 0 → NoBracketed d ts
unfolding NoBracketed
no_depth d ts z ms r deep e = absurd (omega arith)

-- a list in brackets begins with one
pub no_open : (d : ℕ) (ts : List Piece) → NotNext round_open ts → NoBracketed d ts
unfolding NoBracketed
no_open d ts other ms r deep e = other _ e

-- a list stands in them
pub no_list : (d : ℕ) (ts us : List Piece) → 0 < d → ts ≡ byte round_open ∷ us → NoMembers (d - 1) us → NoBracketed d ts
unfolding NoBracketed NoMembers
no_list d ts us some s none ms r deep e =
    none ms (byte round_close ∷ r) (omega arith) (close_not_colon r) (behind (sym s ∙ e))

-- a bracket closes it
pub no_close : (d : ℕ) (ms : Members) (ts us : List Piece) → ts ≡ byte round_open ∷ members_pieces ms us
    → NotNext colon us → NotNext round_close us → NoBracketed d ts
unfolding NoBracketed
no_close d ms ts us s ends other ns r deep e =
    other r (members_unique ms ns us (byte round_close ∷ r) ends (close_not_colon r) (behind (sym s ∙ e))).1

-- no list begins where no member does
pub no_first : (d : ℕ) (ts : List Piece) → NoNode d ts → NoMembers d ts
unfolding NoNode NoMembers
no_first d ts none (one m) r deep ends e = none m r deep e
no_first d ts none (and m ms) r deep ends e = none m (byte colon ∷ members_pieces ms r) (omega arith) e

-- behind a member and `:` a list has to come
pub no_tail : (d : ℕ) (m : Node) (ts us : List Piece) → ts ≡ node_pieces m (byte colon ∷ us) → NoMembers d us
    → NoMembers d ts
unfolding NoMembers
no_tail d m ts us s none (one n) r deep ends e = ends us (sym (node_unique m n (byte colon ∷ us) r (sym s ∙ e)).1)
no_tail d m ts us s none (and n ns) r deep ends e =
    none ns r (omega arith) ends (behind (node_unique m n (byte colon ∷ us) (byte colon ∷ members_pieces ns r)
    (sym s ∙ e)).1)

-- behind `:` a member has to come
pub no_next : (d : ℕ) (ms : Members) (ts us : List Piece) → ts ≡ members_pieces ms (byte colon ∷ us) → NoNode d us
    → NoMembers d ts
no_next d (one m) ts us s none = no_tail d m ts us s (no_first d us none)
no_next d (and m ms) ts us s none = no_tail d m ts (members_pieces ms (byte colon ∷ us)) s (no_next d ms _ us refl none)

-- no body begins where no list does
pub no_first_list : (d : ℕ) (ts : List Piece) → NoMembers d ts → NoBody d ts
unfolding NoMembers NoBody
no_first_list d ts none (list ms) r deep ends e = none ms r deep ends.0 e
no_first_list d ts none (reversion ms ns) r deep ends e =
    none ms (byte stroke ∷ members_pieces ns r) (omega arith) (stroke_not_colon _) e

-- behind `|` a list has to come
pub no_second_list : (d : ℕ) (ms : Members) (ts us : List Piece) → ts ≡ members_pieces ms (byte stroke ∷ us)
    → NoMembers d us → NoBody d ts
unfolding NoMembers NoBody
no_second_list d ms ts us s none (list ns) r deep ends e =
    ends.1 us (sym (members_unique ms ns (byte stroke ∷ us) r (stroke_not_colon us) ends.0 (sym s ∙ e)).1)
no_second_list d ms ts us s none (reversion ns os) r deep ends e =
    none os r (omega arith) ends (behind (members_unique ms ns (byte stroke ∷ us) (byte stroke ∷ members_pieces os r)
    (stroke_not_colon us) (stroke_not_colon _) (sym s ∙ e)).1)
