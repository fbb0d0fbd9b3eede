-- A symbol comes next or none does.
use Rattle.std.proofs.Common.{◌≡◌, ◌⊎◌, ◌≤◌, ◌<◌, ℕ, zero, suc, List, [], ◌∷◌, length, Option, Some, None, ap, ap₂, arith, inl, inr, refl, subst, sym, ◌∙◌}
use Rattle.halo_status.specs.declared.pay.Kind.{Kind}
use Rattle.halo_status.specs.declared.pay.Kind.TheVariants.{Insurance, Immediate, Due}
use Rattle.halo_symbol.specs.Characters.{comma, caret, square_open, square_close, brace_open, brace_close, stroke}
use Rattle.halo_symbol.specs.Piece.{Piece, name, number, byte}
use Rattle.halo_symbol.specs.Tree.{Members, one, and, Body, list, reversion, member_count}
use Rattle.halo_symbol.specs.Symbol.{Names, Mark, Symbol}
use Rattle.halo_symbol.specs.Bytes.{head_text}
use Rattle.halo_symbol.specs.Proper.{MayHaveCauses, MayHaveMark, IsAllowed}
use Rattle.halo_symbol.specs.Nesting.{nest_body}
use Rattle.halo_symbol.specs.Pieces.{members_pieces, body_pieces, content_pieces, defer_pieces, other_names_pieces, causes_pieces, symbol_pieces}
use Rattle.halo_symbol.specs.Next.{NotNext, Ends, DeferEnds, CausesEnd, ContentEnds}
use Rattle.halo_symbol.specs.Absent.{NoMembers, NoDefer, NoCauses, NoContent, NoSymbol}
use Rattle.halo_symbol.proofs.Unique.{first_code, behind}
use Rattle.halo_symbol.proofs.Sets.{no_set, no_name, no_brace}
use Rattle.halo_symbol.proofs.Marks.{list_one, marked_pieces-parts, no_body, no_marked}
use Rattle.halo_symbol.proofs.Symbols.{text_one}
use Rattle.halo_symbol.proofs.RefusedSymbols.{head_read, no_stroke, no_defer, no_head, no_causes, no_brackets, no_content, no_square_close}
use Rattle.halo_symbol.proofs.Choices.{byte_next, number_next, name_next}
use Rattle.halo_symbol.proofs.BodyChoices.{list_to, body_to}
use Rattle.halo_symbol.proofs.HeadChoices.{AHead, head_choice}

-- a kind is that of an insurance or is not
insurance_or : (k : Kind) → (k ≡ Insurance) ⊎ (k ≡ Insurance → ⊥)
insurance_or Insurance = inl refl
insurance_or Immediate = inr (λ e. absurd cc)
insurance_or Due = inr (λ e. absurd cc)

-- a deferral that comes next
record ADefer (ts : List Piece) : Type 0 where
  defer : Option (List ℕ)
  rest : List Piece
  ends : DeferEnds defer rest
  reads : ts ≡ defer_pieces defer rest

defer_choice : (ts : List Piece) → ADefer ts ⊎ NoDefer ts
defer_choice ts = elim (number_next ts) [
  | inr none ↦ inl (record { defer = None; rest = ts; ends = none; reads = refl })
  | inl years ↦ elim (byte_next stroke years.1) [
    | inr other ↦ inr (no_stroke years.0 ts years.1 years.2 other)
    | inl next ↦
        inl (record {
          defer = Some years.0;
          rest = next.0;
          ends = tt;
          reads = years.2 ∙ ap (λ (ps : List Piece). number years.0 ∷ ps) next.1;
        })
  ]
]

-- names, each behind a comma, as far as they go
record OtherNames (ts : List Piece) : Type 0 where
  names : List (List ℕ)
  rest : List Piece
  ends : NotNext comma rest
  reads : ts ≡ other_names_pieces names rest

abbrev NoOtherNames : List Piece → Type 0
NoOtherNames ts =
    (names : List (List ℕ)) (rest : List Piece) → ts ≡ other_names_pieces names (byte brace_close ∷ rest) → ⊥

-- no names go on, where behind a comma and a name none do
no_later_names : (text : List ℕ) (ts us : List Piece) → ts ≡ byte comma ∷ name text ∷ us → NoOtherNames us
    → NoOtherNames ts
no_later_names text ts us s none [] rest e = absurd (omega (arith, ap first_code (sym s ∙ e)))
no_later_names text ts us s none (n ∷ names) rest e = none names rest (behind (behind (sym s ∙ e)))

-- names by the first, and those that begin later
names_from : (ts : List Piece) → ((us : List Piece) → length us < length ts → OtherNames us ⊎ NoOtherNames us)
    → OtherNames ts ⊎ NoOtherNames ts
names_from ts later = elim (byte_next comma ts) [
  | inr other ↦ inl (record { names = []; rest = ts; ends = other; reads = refl })
  | inl next ↦ elim (name_next next.0) [
    | inr none ↦ inr (λ names rest e. no_name [] names next.0 rest none (sym next.1 ∙ e))
    | inl first ↦
        let reads = next.1 ∙ ap (λ (ps : List Piece). byte comma ∷ ps) first.2 in
        elim (later first.1 (omega (arith, ap length reads))) [
          | inr none ↦ inr (no_later_names first.0 ts first.1 reads none)
          | inl more ↦
              inl (record {
                names = first.0 ∷ more.names;
                rest = more.rest;
                ends = more.ends;
                reads = reads ∙ ap (λ (ps : List Piece). byte comma ∷ name first.0 ∷ ps) more.reads;
              })
        ]
  ]
]

names_within : (fuel : ℕ) (ts : List Piece) → length ts ≤ fuel → OtherNames ts ⊎ NoOtherNames ts
names_within zero ts short = names_from ts (λ us shorter. absurd (omega arith))
names_within (suc fuel) ts short = names_from ts (λ us shorter. names_within fuel us (omega arith))

-- causes that come next
record ACauses (k : Kind) (ts : List Piece) : Type 0 where
  causes : Option Names
  rest : List Piece
  allowed : MayHaveCauses k causes
  ends : CausesEnd causes rest
  reads : ts ≡ causes_pieces causes rest

causes_choice : (k : Kind) (ts : List Piece) → ACauses k ts ⊎ NoCauses k ts
causes_choice k ts = elim (byte_next brace_open ts) [
  | inr other ↦ inl (record { causes = None; rest = ts; allowed = tt; ends = other; reads = refl })
  | inl next ↦ elim (insurance_or k) [
    | inr other ↦ inr (no_set k ts next.0 next.1 (λ names rest kind e. other kind))
    | inl kind ↦ elim (name_next next.0) [
      | inr none ↦ inr (no_set k ts next.0 next.1 (λ names rest kind e. none _ _ e))
      | inl first ↦ elim (names_within (length first.1) first.1 (omega arith)) [
        | inr none ↦
            inr (no_set k ts next.0 next.1 (λ names rest kind e. none names.others rest (behind (sym first.2 ∙ e))))
        | inl more ↦ elim (byte_next brace_close more.rest) [
          | inr other ↦ inr (no_set k ts next.0 next.1 (λ names rest kind e.
              no_brace more.names names.others more.rest rest more.ends other
              (sym more.reads ∙ behind (sym first.2 ∙ e))))
          | inl close ↦
              let names : Names = record { first = first.0; others = more.names } in
              let inner =
              first.2 ∙ ap (λ (ps : List Piece). name first.0 ∷ ps)
              (more.reads ∙ ap (other_names_pieces more.names) close.1) in
              inl (record {
                causes = Some names;
                rest = close.0;
                allowed = kind;
                ends = tt;
                reads = next.1 ∙ ap (λ (ps : List Piece). byte brace_open ∷ ps) inner;
              })
        ]
      ]
    ]
  ]
]

-- a body with the mark that it may have, which comes next
record AContent (k : Kind) (d : ℕ) (ts : List Piece) : Type 0 where
  mark : Option Mark
  body : Body
  rest : List Piece
  allowed : MayHaveMark k mark body
  ends : ContentEnds mark body rest
  deep : nest_body body ≤ d
  reads : ts ≡ content_pieces mark body rest

-- a list has a last place
last_place : (ms : Members) → (place : ℕ) × (member_count ms ≡ suc place)
last_place (one m) = (0, refl)
last_place (and m ms) = (member_count ms, refl)

-- a list with a mark behind its last member, and what stands behind the mark
marked_choice : (k : Kind) (d : ℕ) (upto : Members) (ts us : List Piece) → Ends (list upto) (byte caret ∷ us)
    → ts ≡ members_pieces upto (byte caret ∷ us)
    → AContent k d ts ⊎ NoContent k d ts
unfolding NoMembers
marked_choice k d upto ts us stops reads = elim (insurance_or k) [
  | inr other ↦
      inr (no_marked k d (list upto) ts us stops reads (λ rank prefix ms after rest kind. absurd (other kind)))
  | inl kind ↦ elim (number_next us) [
    | inr none ↦
        inr (no_marked k d (list upto) ts us stops reads (λ rank prefix ms after rest kind same e. absurd (none _ _ e)))
    | inl rank ↦ elim (list_to d (members_pieces upto rank.1)) [
      | inr none ↦
          inr (no_marked k d (list upto) ts us stops reads (λ other prefix ms after rest kind same e deep ends whole.
          none ms rest deep ends (ap₂ members_pieces (list_one same) (behind (sym rank.2 ∙ e)) ∙ whole)))
      | inl whole ↦
          let place = last_place upto in
          let marked =
          marked_pieces-parts place.0 rank.0 upto whole.members rank.1 whole.rest whole.ends place.1 whole.reads in
          inl (record {
            mark = Some (record { member = place.0; rank = rank.0 });
            body = list whole.members;
            rest = whole.rest;
            allowed = (kind, marked.1);
            ends = whole.ends;
            deep = whole.deep;
            reads = reads ∙ ap (λ (ps : List Piece). members_pieces upto (byte caret ∷ ps)) rank.2 ∙ marked.0;
          })
    ]
  ]
]

content_by : (k : Kind) (d : ℕ) (ts : List Piece) (body : Body) (rest : List Piece) → Ends body rest
    → nest_body body ≤ d → ts ≡ body_pieces body rest → AContent k d ts ⊎ NoContent k d ts
content_by k d ts (list ms) rest ends deep reads = elim (byte_next caret rest) [
  | inr other ↦
      inl (record {
        mark = None;
        body = list ms;
        rest = rest;
        allowed = tt;
        ends = (ends, other);
        deep = deep;
        reads = reads;
      })
  | inl next ↦
      marked_choice k d ms ts next.0 (subst (Ends (list ms)) next.1 ends) (reads ∙ ap (members_pieces ms) next.1)
]
content_by k d ts (reversion ms ns) rest ends deep reads = elim (byte_next caret rest) [
  | inr other ↦
      inl (record {
        mark = None;
        body = reversion ms ns;
        rest = rest;
        allowed = tt;
        ends = (ends, other);
        deep = deep;
        reads = reads;
      })
  | inl next ↦
      inr (no_marked k d (reversion ms ns) ts next.0 (subst (Ends (reversion ms ns)) next.1 ends)
      (reads ∙ ap (body_pieces (reversion ms ns)) next.1)
      (λ rank prefix ls after more kind same. absurd cc))
]

content_choice : (k : Kind) (d : ℕ) (ts : List Piece) → AContent k d ts ⊎ NoContent k d ts
content_choice k d ts = elim (body_to d ts) [
  | inr none ↦ inr (no_body k d ts none)
  | inl body ↦ content_by k d ts body.body body.rest body.ends body.deep body.reads
]

-- a symbol that comes next
pub record ASymbol (d : ℕ) (ts : List Piece) : Type 0 where
  pub symbol : Symbol
  pub rest : List Piece
  pub allowed : IsAllowed symbol
  pub reads : ts ≡ symbol_pieces symbol rest

-- a symbol, once its head is read
behind_head : (d : ℕ) (ts us vs : List Piece) (defer : Option (List ℕ)) (text : List ℕ) → ts ≡ defer_pieces defer us
    → us ≡ name text ∷ vs → AHead text → ASymbol d ts ⊎ NoSymbol d ts
behind_head d ts us vs defer text reads named head = elim (causes_choice head.kind vs) [
  | inr none ↦
      inr (no_causes d head.vary head.kind ts vs
      (head_read defer text head.vary head.kind ts us vs vs reads named head.is head.proper refl) none)
  | inl causes ↦
      let read = head_read defer text head.vary head.kind ts us vs _ reads named head.is head.proper causes.reads in
      elim (byte_next square_open causes.rest) [
        | inr other ↦
            inr (no_brackets d head.vary head.kind causes.causes ts causes.rest read causes.ends
            (λ s rest allowed kind deep e. other _ e))
        | inl opens ↦ elim (content_choice head.kind d opens.0) [
          | inr none ↦
              inr (no_content d head.vary head.kind causes.causes ts causes.rest opens.0 read causes.ends opens.1 none)
          | inl content ↦
              let brackets = opens.1 ∙ ap (λ (ps : List Piece). byte square_open ∷ ps) content.reads in
              elim (byte_next square_close content.rest) [
                | inr other ↦
                    inr (no_square_close d head.vary head.kind causes.causes content.mark content.body ts causes.rest
                    content.rest read causes.ends brackets content.allowed content.ends other)
                | inl close ↦
                    let whole =
                    brackets ∙ ap (λ (ps : List Piece). byte square_open ∷ content_pieces content.mark content.body
                    ps) close.1 in
                    inl (record {
                      symbol =
                          record {
                            defer = read.defer;
                            vary = head.vary;
                            kind = head.kind;
                            causes = causes.causes;
                            body = content.body;
                            mark = content.mark;
                          };
                      rest = close.0;
                      allowed = record { vary = head.proper; causes = causes.allowed; mark = content.allowed };
                      reads =
                          read.reads ∙ ap (λ (ps : List Piece). defer_pieces read.defer
                          (name (head_text head.vary head.kind) ∷ causes_pieces causes.causes ps)) whole;
                    })
              ]
        ]
      ]
]

-- a symbol of this depth comes next or none does
pub symbol_to : (d : ℕ) (ts : List Piece) → ASymbol d ts ⊎ NoSymbol d ts
symbol_to d ts = elim (defer_choice ts) [
  | inr none ↦ inr (no_defer d ts none)
  | inl defer ↦ elim (name_next defer.rest) [
    | inr none ↦ inr (no_head d defer.defer ts defer.rest defer.ends defer.reads (λ v k rest proper e. none _ _ e))
    | inl named ↦ elim (head_choice named.0) [
      | inr none ↦
          inr (no_head d defer.defer ts defer.rest defer.ends defer.reads
          (λ v k rest proper e. none v k proper (text_one (sym named.2 ∙ e))))
      | inl head ↦ behind_head d ts defer.rest named.1 defer.defer named.0 defer.reads named.2 head
    ]
  ]
]
