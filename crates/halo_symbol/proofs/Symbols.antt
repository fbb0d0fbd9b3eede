-- Pieces begin with at most one symbol, and what is left behind its parts.
use Rattle.std.proofs.Common.{◌≡◌, ℕ, List, ◌∷◌, Option, Some, None, refl, sym, ap, ◌∙◌, arith}
use Rattle.halo_status.specs.declared.pay.Kind.{Kind}
use Rattle.halo_symbol.specs.Characters.{square_open, square_close}
use Rattle.halo_symbol.specs.Piece.{Piece, name, byte}
use Rattle.halo_symbol.specs.Tree.{Body, list, reversion}
use Rattle.halo_symbol.specs.Symbol.{Vary, Names, Mark, Symbol}
use Rattle.halo_symbol.specs.Bytes.{head_text}
use Rattle.halo_symbol.specs.Proper.{IsProperVary, IsAllowed, MayHaveMark}
use Rattle.halo_symbol.specs.Pieces.{defer_pieces, causes_pieces, content_pieces, symbol_pieces}
use Rattle.halo_symbol.specs.Next.{DeferEnds, CausesEnd, ContentEnds}
use Rattle.halo_symbol.proofs.Unique.{first_code, behind}
use Rattle.halo_symbol.proofs.Heads.{head_one}
use Rattle.halo_symbol.proofs.Sets.{causes_one}
use Rattle.halo_symbol.proofs.Marks.{content_one}

-- a deferral is told by its pieces
pub defer_one : (c d : Option (List ℕ)) (r s : List Piece) → DeferEnds c r → DeferEnds d s
    → defer_pieces c r ≡ defer_pieces d s → (c ≡ d) × (r ≡ s)
defer_one None None r s u v e = (refl, e)
defer_one None (Some n) r s u v e = absurd (u _ _ e)
defer_one (Some m) None r s u v e = absurd (v _ _ (sym e))
defer_one (Some m) (Some n) r s u v e = (cc, cc)

-- what stands behind the causes of a symbol
abbrev pub in_brackets : Symbol → List Piece → List Piece
in_brackets s rest = byte square_open ∷ content_pieces s.mark s.body (byte square_close ∷ rest)

-- what stands behind the deferral of a symbol
abbrev pub from_head : Symbol → List Piece → List Piece
from_head s rest = name (head_text s.vary s.kind) ∷ causes_pieces s.causes (in_brackets s rest)

-- a deferral ends before a head
pub defer_ends : (d : Option (List ℕ)) (text : List ℕ) (rest : List Piece) → DeferEnds d (name text ∷ rest)
defer_ends None text rest = λ digits more e. absurd (omega (arith, ap first_code e))
defer_ends (Some years) text rest = tt

-- causes end before `[`
pub causes_end : (c : Option Names) (rest : List Piece) → CausesEnd c (byte square_open ∷ rest)
causes_end None rest = λ more e. absurd (omega (arith, ap first_code e))
causes_end (Some names) rest = tt

-- a body ends before `]`, with a mark or without
pub content_ends : (m : Option Mark) (b : Body) (rest : List Piece) → ContentEnds m b (byte square_close ∷ rest)
content_ends None (list ms) rest = (
  (λ more e. absurd (omega (arith, ap first_code e)), λ more e. absurd (omega (arith, ap first_code e))),
  λ more e.
      absurd (omega (arith, ap first_code e)),
)
content_ends None (reversion ms ns) rest =
    (λ more e. absurd (omega (arith, ap first_code e)), λ more e. absurd (omega (arith, ap first_code e)))
content_ends (Some mark) b rest = λ more e. absurd (omega (arith, ap first_code e))

-- what is left behind a deferral is the head of the symbol, and more
pub after_defer : (d : Option (List ℕ)) (us : List Piece) (s : Symbol) (rest : List Piece) → DeferEnds d us
    → defer_pieces d us ≡ symbol_pieces s rest
    → (d ≡ s.defer) × (us ≡ from_head s rest)
after_defer d us s rest ends e = defer_one d s.defer us (from_head s rest) ends (defer_ends s.defer _ _) e

-- the text of a name that comes next
pub text_one : {a b : List ℕ} {r s : List Piece} → name a ∷ r ≡ name b ∷ s → a ≡ b
text_one e = cc

-- what is left behind a head are the causes, and more
pub after_head : (v : Vary) (k : Kind) (text : List ℕ) (us : List Piece) (s : Symbol) (rest : List Piece)
    → IsProperVary v → IsProperVary s.vary
    → text ≡ head_text v k → name text ∷ us ≡ from_head s rest
    → ((v ≡ s.vary) × (k ≡ s.kind)) × (us ≡ causes_pieces s.causes (in_brackets s rest))
after_head v k text us s rest p q is e = (head_one v s.vary k s.kind p q (sym is ∙ text_one e), behind e)

-- what is left behind the causes are the brackets
pub after_causes : (c : Option Names) (us : List Piece) (s : Symbol) (rest : List Piece) → CausesEnd c us
    → causes_pieces c us ≡ causes_pieces s.causes (in_brackets s rest)
    → (c ≡ s.causes) × (us ≡ in_brackets s rest)
after_causes c us s rest ends e = causes_one c s.causes us (in_brackets s rest) ends (causes_end s.causes _) e

-- what is left behind the body closes the brackets
pub after_content : (k : Kind) (m : Option Mark) (b : Body) (us : List Piece) (s : Symbol) (rest : List Piece)
    → MayHaveMark k m b → IsAllowed s → ContentEnds m b us
    → content_pieces m b us ≡ content_pieces s.mark s.body (byte square_close ∷ rest) → (m ≡ s.mark) × (b ≡ s.body)
    × (us ≡ byte square_close ∷ rest)
after_content k m b us s rest may allowed ends e =
    content_one k s.kind m s.mark b s.body us (byte square_close ∷ rest) may allowed.mark ends
    (content_ends s.mark s.body rest) e

-- a symbol is told by its pieces
pub symbol_one : (s t : Symbol) (r q : List Piece) → IsAllowed s → IsAllowed t
    → symbol_pieces s r ≡ symbol_pieces t q → (s ≡ t) × (r ≡ q)
symbol_one s t r q a b e =
    let defer = after_defer s.defer (from_head s r) t q (defer_ends s.defer _ _) e in
    let head = after_head s.vary s.kind (head_text s.vary s.kind) _ t q a.vary b.vary refl defer.1 in
    let causes = after_causes s.causes (in_brackets s r) t q (causes_end s.causes _) head.1 in
    let inside = after_content s.kind s.mark s.body _ t q a.mark b (content_ends s.mark s.body r) (behind causes.1) in (
      λ i. record {
        defer = defer.0 i;
        vary = head.0.0 i;
        kind = head.0.1 i;
        causes = causes.0 i;
        body = inside.1 i;
        mark = inside.0 i;
      },
      behind inside.2,
    )
