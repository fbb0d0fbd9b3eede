-- Why no symbol comes next.
use Rattle.std.proofs.Common.{◌≡◌, ◌≤◌, ℕ, List, ◌∷◌, Option, Some, None, refl, sym, subst, ap, ap₂, ◌∙◌}
use Rattle.halo_status.specs.declared.pay.Kind.{Kind}
use Rattle.halo_symbol.specs.Characters.{square_open, square_close, stroke}
use Rattle.halo_symbol.specs.Piece.{Piece, name, number, byte}
use Rattle.halo_symbol.specs.Tree.{Body}
use Rattle.halo_symbol.specs.Symbol.{Vary, Names, Mark, Symbol}
use Rattle.halo_symbol.specs.Bytes.{head_text}
use Rattle.halo_symbol.specs.Nesting.{nest_body}
use Rattle.halo_symbol.specs.Proper.{IsProperVary, IsAllowed, MayHaveCauses, MayHaveMark}
use Rattle.halo_symbol.specs.Pieces.{defer_pieces, causes_pieces, content_pieces, symbol_pieces}
use Rattle.halo_symbol.specs.Next.{NotNext, DeferEnds, CausesEnd, ContentEnds}
use Rattle.halo_symbol.specs.Absent.{NoDefer, NoCauses, NoContent, NoSymbol}
use Rattle.halo_symbol.proofs.Unique.{behind}
use Rattle.halo_symbol.proofs.Symbols.{defer_ends, causes_end, content_ends, in_brackets, after_defer, after_head, after_causes, after_content}

-- the deferral and the head of a symbol come next, and these pieces stand behind them
pub record HeadRead (v : Vary) (k : Kind) (ts us : List Piece) : Type 0 where
  pub defer : Option (List ℕ)
  pub proper : IsProperVary v
  pub reads : ts ≡ defer_pieces defer (name (head_text v k) ∷ us)

-- that they do, step by step
pub head_read : (defer : Option (List ℕ)) (text : List ℕ) (v : Vary) (k : Kind) (ts us vs ws : List Piece)
    → ts ≡ defer_pieces defer us → us ≡ name text ∷ vs
    → text ≡ head_text v k → IsProperVary v → vs ≡ ws → HeadRead v k ts ws
head_read defer text v k ts us vs ws reads named head proper left = record {
  defer = defer;
  proper = proper;
  reads =
      reads ∙ ap (defer_pieces defer) (named ∙ ap₂ (λ (bytes : List ℕ) (ps : List Piece). name bytes ∷ ps) head left);
}

-- behind a number `|` has to come
pub no_stroke : (years : List ℕ) (ts us : List Piece) → ts ≡ number years ∷ us → NotNext stroke us → NoDefer ts
unfolding NoDefer
no_stroke years ts us s other None rest ends e = ends years us (sym e ∙ s)
no_stroke years ts us s other (Some more) rest ends e = other rest (behind (sym s ∙ e))

-- no symbol begins where no deferral and no head does
pub no_defer : (d : ℕ) (ts : List Piece) → NoDefer ts → NoSymbol d ts
unfolding NoDefer NoSymbol
no_defer d ts none s rest allowed deep e = none s.defer _ (defer_ends s.defer _ _) e

-- behind a deferral a head has to come
pub no_head : (d : ℕ) (defer : Option (List ℕ)) (ts us : List Piece) → DeferEnds defer us → ts ≡ defer_pieces defer us
    → ((v : Vary) (k : Kind) (rest : List Piece) → IsProperVary v → us ≡ name (head_text v k) ∷ rest → ⊥) → NoSymbol d
    ts
unfolding NoSymbol
no_head d defer ts us ends reads none s rest allowed deep e =
    none s.vary s.kind _ allowed.vary (after_defer defer us s rest ends (sym reads ∙ e)).1

-- what is left behind a head, and its kind
head_left : (v : Vary) (k : Kind) (ts us : List Piece) (s : Symbol) (rest : List Piece) → HeadRead v k ts us
    → IsAllowed s → ts ≡ symbol_pieces s rest
    → (k ≡ s.kind) × (us ≡ causes_pieces s.causes (in_brackets s rest))
head_left v k ts us s rest read allowed e =
    let defer =
    after_defer read.defer (name (head_text v k) ∷ us) s rest (defer_ends read.defer _ _) (sym read.reads ∙ e) in
    let head = after_head v k (head_text v k) us s rest read.proper allowed.vary refl defer.1 in
    (head.0.1, head.1)

-- behind a head come causes that its kind allows, or `[`
pub no_causes : (d : ℕ) (v : Vary) (k : Kind) (ts us : List Piece) → HeadRead v k ts us → NoCauses k us → NoSymbol d ts
unfolding NoCauses NoSymbol
no_causes d v k ts us read none s rest allowed deep e =
    let left = head_left v k ts us s rest read allowed e in
    none s.causes _ (subst (λ kind. MayHaveCauses kind s.causes) (sym left.0) allowed.causes) (causes_end s.causes _)
    left.1

-- behind causes a body in square brackets has to come
pub no_brackets : (d : ℕ) (v : Vary) (k : Kind) (c : Option Names) (ts us : List Piece)
    → HeadRead v k ts (causes_pieces c us) → CausesEnd c us
    → ((s : Symbol) (rest : List Piece) → IsAllowed s → k ≡ s.kind → nest_body s.body ≤ d → us ≡ in_brackets s rest → ⊥)
    → NoSymbol d ts
unfolding NoSymbol
no_brackets d v k c ts us read ends none s rest allowed deep e =
    let left = head_left v k ts (causes_pieces c us) s rest read allowed e in
    none s rest allowed left.0 deep (after_causes c us s rest ends left.1).1

-- behind `[` a body has to come, with a mark that the kind allows
pub no_content : (d : ℕ) (v : Vary) (k : Kind) (c : Option Names) (ts us vs : List Piece)
    → HeadRead v k ts (causes_pieces c us) → CausesEnd c us
    → us ≡ byte square_open ∷ vs → NoContent k d vs → NoSymbol d ts
unfolding NoContent
no_content d v k c ts us vs read ends opens none = no_brackets d v k c ts us read ends (λ s rest allowed kind deep e.
    none s.mark s.body _ (subst (λ kind. MayHaveMark kind s.mark s.body) (sym kind) allowed.mark) deep
    (content_ends s.mark s.body rest) (behind (sym opens ∙ e)))

-- behind the body `]` has to come
pub no_square_close : (d : ℕ) (v : Vary) (k : Kind) (c : Option Names) (m : Option Mark) (b : Body)
    (ts us vs : List Piece)
    → HeadRead v k ts (causes_pieces c us) → CausesEnd c us
    → us ≡ byte square_open ∷ content_pieces m b vs → MayHaveMark k m b → ContentEnds m b vs → NotNext square_close vs
    → NoSymbol d ts
no_square_close d v k c m b ts us vs read ends opens may stops other =
    no_brackets d v k c ts us read ends (λ s rest allowed kind deep e.
    other rest (after_content k m b vs s rest may allowed stops (behind (sym opens ∙ e))).2)
