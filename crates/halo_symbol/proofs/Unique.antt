-- Pieces begin with at most one member, one list and one body.
use Rattle.std.proofs.Common.{◌≡◌, ℕ, ◌+◌, List, [], ◌∷◌, sym, ap, arith}
use Rattle.halo_symbol.specs.Characters.{round_close, colon, stroke}
use Rattle.halo_symbol.specs.Piece.{Piece, name, bar, number, byte}
use Rattle.halo_symbol.specs.Tree.{Node, life, term, last, at_least, exactly, group, Members, one, and, Body, list, reversion}
use Rattle.halo_symbol.specs.Pieces.{node_pieces, members_pieces, body_pieces}
use Rattle.halo_symbol.specs.Next.{NotNext, Ends}

-- a number for the first piece, which differs where pieces begin differently
abbrev pub first_code : List Piece → ℕ
first_code [] = 0
first_code (name text ∷ rest) = 1
first_code (bar ∷ rest) = 2
first_code (number digits ∷ rest) = 3
first_code (byte b ∷ rest) = b + 4

-- what stands behind the first piece
pub behind : {p q : Piece} {ps qs : List Piece} → p ∷ ps ≡ q ∷ qs → ps ≡ qs
behind e = cc

-- where a byte comes next, another one does not
pub other_next : (a b : ℕ) (rest : List Piece) → (a ≡ b → ⊥) → NotNext b (byte a ∷ rest)
other_next a b rest differ ps e = differ (omega (arith, ap first_code e))

pub close_not_colon : (rest : List Piece) → NotNext colon (byte round_close ∷ rest)
close_not_colon rest ps e = absurd (omega (arith, ap first_code e))

pub stroke_not_colon : (rest : List Piece) → NotNext colon (byte stroke ∷ rest)
stroke_not_colon rest ps e = absurd (omega (arith, ap first_code e))

-- a body ends before a bracket
pub closes : (body : Body) (rest : List Piece) → Ends body (byte round_close ∷ rest)
closes (list ms) rest = (close_not_colon rest, λ ps e. absurd (omega (arith, ap first_code e)))
closes (reversion ms ns) rest = close_not_colon rest

mutual
  pub node_unique : (m n : Node) (r s : List Piece) → node_pieces m r ≡ node_pieces n s → (m ≡ n) × (r ≡ s)
  node_unique (life a) (life b) r s e = (cc, cc)
  node_unique (term a) (term b) r s e = (cc, cc)
  node_unique (last ms) (last ns) r s e =
      let whole =
      members_unique ms ns (byte round_close ∷ r) (byte round_close ∷ s) (close_not_colon r) (close_not_colon s) cc
      in
      (cc, cc)
  node_unique (at_least a ms) (at_least b ns) r s e =
      let whole =
      members_unique ms ns (byte round_close ∷ r) (byte round_close ∷ s) (close_not_colon r) (close_not_colon s) cc
      in
      (cc, cc)
  node_unique (exactly a ms) (exactly b ns) r s e =
      let whole =
      members_unique ms ns (byte round_close ∷ r) (byte round_close ∷ s) (close_not_colon r) (close_not_colon s) cc
      in
      (cc, cc)
  node_unique (group b) (group c) r s e =
      let whole = body_unique b c (byte round_close ∷ r) (byte round_close ∷ s) (closes b r) (closes c s) cc in
      (cc, cc)
  node_unique m n r s e = absurd (omega (arith, ap first_code e))

  pub members_unique : (ms ns : Members) (r s : List Piece) → NotNext colon r → NotNext colon s
      → members_pieces ms r ≡ members_pieces ns s → (ms ≡ ns) × (r ≡ s)
  members_unique (one m) (one n) r s u v e = let first = node_unique m n r s e in (cc, first.1)
  members_unique (one m) (and n ns) r s u v e = absurd (u _ (node_unique m n r (byte colon ∷ members_pieces ns s) e).1)
  members_unique (and m ms) (one n) r s u v e =
      absurd (v _ (sym (node_unique m n (byte colon ∷ members_pieces ms r) s e).1))
  members_unique (and m ms) (and n ns) r s u v e =
      let first = node_unique m n (byte colon ∷ members_pieces ms r) (byte colon ∷ members_pieces ns s) e in
      let rest = members_unique ms ns r s u v (behind first.1) in
      (cc, rest.1)

  pub body_unique : (b c : Body) (r s : List Piece) → Ends b r → Ends c s → body_pieces b r ≡ body_pieces c s
      → (b ≡ c) × (r ≡ s)
  body_unique (list ms) (list ns) r s u v e = let whole = members_unique ms ns r s u.0 v.0 e in (cc, whole.1)
  body_unique (list ms) (reversion ns os) r s u v e =
      absurd (u.1 _ (members_unique ms ns r (byte stroke ∷ members_pieces os s) u.0 (stroke_not_colon _) e).1)
  body_unique (reversion ms os) (list ns) r s u v e =
      absurd (v.1 _ (sym (members_unique ms ns (byte stroke ∷ members_pieces os r) s (stroke_not_colon _) v.0 e).1))
  body_unique (reversion ms os) (reversion ns ps) r s u v e =
      let first =
      members_unique ms ns (byte stroke ∷ members_pieces os r) (byte stroke ∷ members_pieces ps s)
      (stroke_not_colon _) (stroke_not_colon _) e in
      let second = members_unique os ps r s u v (behind first.1) in
      (cc, second.1)
