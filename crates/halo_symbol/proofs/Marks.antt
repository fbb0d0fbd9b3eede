-- Marked lists: pieces begin with at most one body and its mark, and why they begin with none.
use Rattle.std.proofs.Common.{◌≡◌, ℕ, zero, suc, ◌<◌, ◌≤◌, List, [], ◌∷◌, length, Option, Some, None, refl, sym, ap, ap₂, ◌∙◌, arith}
use Rattle.halo_status.specs.declared.pay.Kind.{Kind}
use Rattle.halo_status.specs.declared.pay.Kind.TheVariants.{Insurance}
use Rattle.halo_symbol.specs.Characters.{colon, caret, stroke}
use Rattle.halo_symbol.specs.Piece.{Piece, number, byte}
use Rattle.halo_symbol.specs.Tree as plain
use Rattle.halo_symbol.specs.Tree.{Members, one, and, Body, list, reversion, member_count}
use Rattle.halo_symbol.specs.Symbol.{Mark}
use Rattle.halo_symbol.specs.Proper.{MayHaveMark}
use Rattle.halo_symbol.specs.Nesting.{nest_members}
use Rattle.halo_symbol.specs.Pieces.{node_pieces, members_pieces, marked_pieces, body_pieces, content_pieces}
use Rattle.halo_symbol.specs.Next.{NotNext, Ends, ContentEnds}
use Rattle.halo_symbol.specs.Absent.{NoBody, NoContent}
use Rattle.halo_symbol.specs.View.{plain_node, members_of}
use Rattle.halo_symbol.specs.declared.tree.Node.{Node}
use Rattle.halo_symbol.proofs.Unique.{first_code, behind, node_unique, members_unique, body_unique}

caret_not_colon : (rest : List Piece) → NotNext colon (byte caret ∷ rest)
caret_not_colon rest ps e = absurd (omega (arith, ap first_code e))

caret_not_stroke : (rest : List Piece) → NotNext stroke (byte caret ∷ rest)
caret_not_stroke rest ps e = absurd (omega (arith, ap first_code e))

-- a marked list in two: the list up to the marked member, and what stands behind the mark
pub record Parts (place : ℕ) (rank : List ℕ) (ms : Members) (rest : List Piece) : Type 0 where
  pub upto : Members
  pub after : List Piece
  pub count : member_count upto ≡ suc place
  pub pieces : marked_pieces place rank ms rest ≡ members_pieces upto (byte caret ∷ number rank ∷ after)
  pub unmarked : members_pieces upto after ≡ members_pieces ms rest
  pub deep : nest_members upto ≤ nest_members ms

-- each marked list has them
parts : (place : ℕ) (rank : List ℕ) (ms : Members) (rest : List Piece) → place < member_count ms
    → Parts place rank ms rest
parts zero rank (one m) rest lt =
    record { upto = one m; after = rest; count = refl; pieces = refl; unmarked = refl; deep = omega arith }
parts zero rank (and m ms) rest lt =
    record {
      upto = one m;
      after = byte colon ∷ members_pieces ms rest;
      count = refl;
      pieces = refl;
      unmarked = refl;
      deep = omega arith;
    }
parts (suc place) rank (one m) rest lt = absurd (omega arith)
parts (suc place) rank (and m ms) rest lt =
    let p = parts place rank ms rest (omega arith) in
    let pdeep = p.deep in
    record {
      upto = and m p.upto;
      after = p.after;
      count = ap suc p.count;
      pieces = ap (λ ps. node_pieces m (byte colon ∷ ps)) p.pieces;
      unmarked = ap (λ ps. node_pieces m (byte colon ∷ ps)) p.unmarked;
      deep = omega arith;
    }

-- a list with a mark behind its last member, and the members behind it, are a marked list
pub marked_pieces-parts : (place : ℕ) (rank : List ℕ) (upto ms : Members) (after rest : List Piece) → NotNext colon rest
    → member_count upto ≡ suc place
    → members_pieces upto after ≡ members_pieces ms rest
    → (members_pieces upto (byte caret ∷ number rank ∷ after) ≡ marked_pieces place rank ms rest)
    × (place < member_count ms)
marked_pieces-parts zero rank (one m) (one n) after rest ends c e =
    let first = node_unique m n after rest e in (cc, omega arith)
marked_pieces-parts zero rank (one m) (and n ns) after rest ends c e =
    let first = node_unique m n after (byte colon ∷ members_pieces ns rest) e in (cc, omega arith)
marked_pieces-parts (suc place) rank (one m) ms after rest ends c e = absurd (omega arith)
marked_pieces-parts zero rank (and m (one o)) ms after rest ends c e = absurd (omega arith)
marked_pieces-parts zero rank (and m (and o os)) ms after rest ends c e = absurd (omega arith)
marked_pieces-parts (suc place) rank (and m ms) (one n) after rest ends c e =
    absurd (ends _ (sym (node_unique m n (byte colon ∷ members_pieces ms after) rest e).1))
marked_pieces-parts (suc place) rank (and m ms) (and n ns) after rest ends c e =
    let first = node_unique m n (byte colon ∷ members_pieces ms after) (byte colon ∷ members_pieces ns rest) e in
    let p = marked_pieces-parts place rank ms ns after rest ends (omega arith) (behind first.1) in
    (cc, omega (arith, p.1))

-- what the one list of a body is
pub list_one : {ms ns : Members} → list ms ≡ list ns → ms ≡ ns
list_one e = cc

-- how many members a list in memory has
pub member_count-members_of : (first : plain.Node) (ms : List Node)
    → member_count (members_of first ms) ≡ suc (length ms)
member_count-members_of first [] = refl
member_count-members_of first (m ∷ ms) = ap suc (member_count-members_of (plain_node m) ms)

-- a body and its mark are told by their pieces
pub content_one : (k l : Kind) (m n : Option Mark) (b c : Body) (r s : List Piece) → MayHaveMark k m b
    → MayHaveMark l n c → ContentEnds m b r → ContentEnds n c s
    → content_pieces m b r ≡ content_pieces n c s → (m ≡ n) × (b ≡ c) × (r ≡ s)
content_one k l None None b c r s p q u v e = let whole = body_unique b c r s u.0 v.0 e in (refl, whole.0, whole.1)
content_one k l None (Some n) b (list ns) r s p q u v e =
    let w = parts n.member n.rank ns s q.1 in
    absurd (u.1 _ (body_unique b (list w.upto) r _ u.0 (caret_not_colon _, caret_not_stroke _) (e ∙ w.pieces)).1)
content_one k l None (Some n) b (reversion ns os) r s p q u v e = absurd q.1
content_one k l (Some m) None (list ms) c r s p q u v e =
    let w = parts m.member m.rank ms r p.1 in
    absurd (v.1 _ (sym (body_unique (list w.upto) c _ s (caret_not_colon _, caret_not_stroke _) v.0
    (sym w.pieces ∙ e)).1))
content_one k l (Some m) None (reversion ms os) c r s p q u v e = absurd p.1
content_one k l (Some m) (Some n) (list ms) (list ns) r s p q u v e =
    let w = parts m.member m.rank ms r p.1 in
    let x = parts n.member n.rank ns s q.1 in
    let same = members_unique w.upto x.upto _ _ (caret_not_colon _) (caret_not_colon _) (sym w.pieces ∙ e ∙ x.pieces) in
    let after : w.after ≡ x.after = behind (behind same.1) in
    let whole = members_unique ms ns r s u v (sym w.unmarked ∙ ap₂ members_pieces same.0 after ∙ x.unmarked) in
    let rank : m.rank ≡ n.rank = cc in
    let count = ap member_count same.0 in
    let wc = w.count in
    let xc = x.count in
    let member : m.member ≡ n.member = omega arith in
    let make : ℕ → List ℕ → Option Mark = λ member rank. Some (record { member = member; rank = rank }) in
    (ap₂ make member rank, ap list whole.0, whole.1)
content_one k l (Some m) (Some n) (reversion ms os) c r s p q u v e = absurd p.1
content_one k l (Some m) (Some n) (list ms) (reversion ns os) r s p q u v e = absurd q.1

-- where no body comes next, none with a mark does
pub no_body : (kind : Kind) (d : ℕ) (ts : List Piece) → NoBody d ts → NoContent kind d ts
unfolding NoBody NoContent
no_body kind d ts none None body rest allowed deep ends e = none body rest deep ends.0 e
no_body kind d ts none (Some mark) (list ms) rest allowed deep ends e =
    let w = parts mark.member mark.rank ms rest allowed.1 in
    let wdeep = w.deep in
    none (list w.upto) _ (omega arith) (caret_not_colon _, caret_not_stroke _) (e ∙ w.pieces)
no_body kind d ts none (Some mark) (reversion ms ns) rest allowed deep ends e = allowed.1

-- behind `^` a rank has to come, and then what a list of an insurance goes on with
pub no_marked : (kind : Kind) (d : ℕ) (b : Body) (ts us : List Piece) → Ends b (byte caret ∷ us)
    → ts ≡ body_pieces b (byte caret ∷ us)
    → ((rank : List ℕ) (upto ms : Members) (after rest : List Piece) → kind ≡ Insurance → b ≡ list upto → us
    ≡ number rank ∷ after
    → nest_members ms ≤ d → NotNext colon rest → members_pieces upto after ≡ members_pieces ms rest → ⊥)
    → NoContent kind d ts
unfolding NoContent
no_marked kind d b ts us stops s none None body rest allowed deep ends e =
    ends.1 us (sym (body_unique b body (byte caret ∷ us) rest stops ends.0 (sym s ∙ e)).1)
no_marked kind d b ts us stops s none (Some mark) (list ms) rest allowed deep ends e =
    let w = parts mark.member mark.rank ms rest allowed.1 in
    let same =
    body_unique b (list w.upto) (byte caret ∷ us) _ stops (caret_not_colon _, caret_not_stroke _)
    (sym s ∙ e ∙ w.pieces) in
    none mark.rank w.upto ms w.after rest allowed.0 same.0 (behind same.1) deep ends w.unmarked
no_marked kind d b ts us stops s none (Some mark) (reversion ms ns) rest allowed deep ends e = allowed.1
