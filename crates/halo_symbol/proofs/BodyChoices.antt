-- A body comes next or none does: the descent once more, over pieces, to any depth.
use Rattle.std.proofs.Common.{◌≡◌, ◌⊎◌, ◌≤◌, ◌<◌, ◌-◌, ℕ, zero, suc, List, [], ◌∷◌, length, ap, arith, inl, inr, refl, subst, sym, ◌∙◌}
use Rattle.std.proofs.lemmas.Bool.{cases_eq}
use Rattle.halo_symbol.specs.Characters.{round_open, round_close, slash, colon, angle_open, angle_close, square_open, square_close, stroke}
use Rattle.halo_symbol.specs.Piece.{Piece, name, bar, number, byte}
use Rattle.halo_symbol.specs.Tree.{Node, life, term, last, at_least, exactly, group, Members, one, and, Body, list, reversion}
use Rattle.halo_symbol.specs.Nesting.{nest, nest_members, nest_body}
use Rattle.halo_symbol.specs.Pieces.{node_pieces, members_pieces, body_pieces}
use Rattle.halo_symbol.specs.Next.{NotNext, Ends}
use Rattle.halo_symbol.specs.Absent.{NoNode, NoMembers, NoBracketed, NoBody}
use Rattle.halo_symbol.proofs.Unique.{behind, closes, body_unique}
use Rattle.halo_symbol.proofs.Lengths.{node_pieces-longer}
use Rattle.halo_symbol.proofs.Refused.{no_nothing, no_other, no_last, no_at_least, no_term, no_exactly, no_group, no_depth, no_open, no_list, no_close, no_first, no_tail, no_first_list, no_second_list}
use Rattle.halo_symbol.proofs.Choices.{byte_next, number_next}

-- a member of this depth that comes next
record ANode (d : ℕ) (ts : List Piece) : Type 0 where
  node : Node
  rest : List Piece
  deep : nest node ≤ d
  reads : ts ≡ node_pieces node rest

-- a whole list that does
pub record AList (d : ℕ) (ts : List Piece) : Type 0 where
  pub members : Members
  pub rest : List Piece
  pub ends : NotNext colon rest
  pub deep : nest_members members ≤ d
  pub reads : ts ≡ members_pieces members rest

-- a list in round brackets that does
record ABracketed (d : ℕ) (ts : List Piece) : Type 0 where
  members : Members
  rest : List Piece
  deep : nest_members members < d
  reads : ts ≡ byte round_open ∷ members_pieces members (byte round_close ∷ rest)

-- a whole body that does
pub record ABody (d : ℕ) (ts : List Piece) : Type 0 where
  pub body : Body
  pub rest : List Piece
  pub ends : Ends body rest
  pub deep : nest_body body ≤ d
  pub reads : ts ≡ body_pieces body rest

-- the same, or that there is none
abbrev NodeAt : ℕ → Type 0
NodeAt d = (ts : List Piece) → ANode d ts ⊎ NoNode d ts

abbrev pub ListAt : ℕ → Type 0
ListAt d = (ts : List Piece) → AList d ts ⊎ NoMembers d ts

abbrev BracketedAt : ℕ → Type 0
BracketedAt d = (ts : List Piece) → ABracketed d ts ⊎ NoBracketed d ts

abbrev pub BodyAt : ℕ → Type 0
BodyAt d = (ts : List Piece) → ABody d ts ⊎ NoBody d ts

-- a list, by its first member and the lists that begin later
list_from : (d : ℕ) (ts : List Piece) → ANode d ts ⊎ NoNode d ts
    → ((us : List Piece) → length us < length ts → AList d us ⊎ NoMembers d us) → AList d ts ⊎ NoMembers d ts
list_from d ts (inr none) later = inr (no_first d ts none)
list_from d ts (inl first) later = elim (byte_next colon first.rest) [
  | inr ends ↦
      inl (record { members = one first.node; rest = first.rest; ends = ends; deep = first.deep; reads = first.reads })
  | inl next ↦
      let shorter : length next.0 < length ts =
      omega (arith, node_pieces-longer first.node first.rest, ap length first.reads, ap length next.1) in
      let reads = first.reads ∙ ap (node_pieces first.node) next.1 in
      elim (later next.0 shorter) [
        | inr none ↦ inr (no_tail d first.node ts next.0 reads none)
        | inl others ↦
            let a = first.deep in
            let b = others.deep in
            inl (record {
              members = and first.node others.members;
              rest = others.rest;
              ends = others.ends;
              deep = omega arith;
              reads = reads ∙ ap (λ ps. node_pieces first.node (byte colon ∷ ps)) others.reads;
            })
      ]
]

list_within : (d : ℕ) → NodeAt d → (fuel : ℕ) (ts : List Piece) → length ts ≤ fuel → AList d ts ⊎ NoMembers d ts
list_within d node_at zero ts short = list_from d ts (node_at ts) (λ us shorter. absurd (omega arith))
list_within d node_at (suc fuel) ts short =
    list_from d ts (node_at ts) (λ us shorter. list_within d node_at fuel us (omega arith))

list_at : (d : ℕ) → NodeAt d → ListAt d
list_at d node_at ts = list_within d node_at (length ts) ts (omega arith)

body_by : (d : ℕ) → ListAt d → BodyAt d
body_by d list_at ts = elim (list_at ts) [
  | inr none ↦ inr (no_first_list d ts none)
  | inl first ↦ elim (byte_next stroke first.rest) [
    | inr other ↦
        inl (record {
          body = list first.members;
          rest = first.rest;
          ends = (first.ends, other);
          deep = first.deep;
          reads = first.reads;
        })
    | inl next ↦
        let reads = first.reads ∙ ap (members_pieces first.members) next.1 in
        elim (list_at next.0) [
          | inr none ↦ inr (no_second_list d first.members ts next.0 reads none)
          | inl second ↦
              let a = first.deep in
              let b = second.deep in
              inl (record {
                body = reversion first.members second.members;
                rest = second.rest;
                ends = second.ends;
                deep =
                    omega arith;
                reads =
                    reads ∙ ap (λ ps. members_pieces first.members (byte stroke ∷ ps)) second.reads;
              })
        ]
  ]
]

bracketed_by : (d : ℕ) → ListAt d → BracketedAt (suc d)
bracketed_by d list_at ts = elim (byte_next round_open ts) [
  | inr other ↦ inr (no_open (suc d) ts other)
  | inl next ↦ elim (list_at next.0) [
    | inr none ↦
        inr (no_list (suc d) ts next.0 (omega arith) next.1
        (let same : d ≡ suc d - 1 = omega arith in subst (λ k. NoMembers k next.0) same none))
    | inl inner ↦
        let reads = next.1 ∙ ap (λ (ps : List Piece). byte round_open ∷ ps) inner.reads in
        elim (byte_next round_close inner.rest) [
          | inr other ↦ inr (no_close (suc d) inner.members ts inner.rest reads inner.ends other)
          | inl close ↦
              let a = inner.deep in
              inl (record {
                members = inner.members;
                rest = close.0;
                deep = omega arith;
                reads = reads ∙ ap (λ ps. byte round_open ∷ members_pieces inner.members ps) close.1;
              })
        ]
  ]
]

-- a body in brackets, behind the one that opens them
group_by : (d : ℕ) → BodyAt d → (us : List Piece)
    → ANode (suc d) (byte round_open ∷ us) ⊎ NoNode (suc d) (byte round_open ∷ us)
unfolding NoBody
group_by d body_at us = elim (body_at us) [
  | inr none ↦
      inr (no_group (suc d) us (λ body rest deep e. none body (byte round_close ∷ rest) (omega arith) (closes body rest)
      e))
  | inl inner ↦ elim (byte_next round_close inner.rest) [
    | inr other ↦
        inr (no_group (suc d) us (λ body rest deep e. other rest
        (body_unique inner.body body inner.rest (byte round_close ∷ rest) inner.ends (closes body rest)
        (sym inner.reads ∙ e)).1))
    | inl close ↦
        let a = inner.deep in
        inl (record {
          node = group inner.body;
          rest = close.0;
          deep = omega arith;
          reads =
              ap (λ (ps : List Piece). byte round_open ∷ ps) (inner.reads ∙ ap (body_pieces inner.body) close.1);
        })
  ]
]

-- a term, behind `<`
term_at : (d : ℕ) (us : List Piece) → ANode d (byte angle_open ∷ us) ⊎ NoNode d (byte angle_open ∷ us)
term_at d us = elim (number_next us) [
  | inr none ↦ inr (no_term d _ us refl (λ years vs e. none _ _ e))
  | inl next ↦ elim (byte_next angle_close next.1) [
    | inr other ↦ inr (no_term d _ us refl (λ years vs e. other vs (behind (sym next.2 ∙ e))))
    | inl close ↦
        inl (record {
          node = term next.0;
          rest = close.0;
          deep = omega arith;
          reads =
              ap (λ (ps : List Piece). byte angle_open ∷ ps)
              (next.2 ∙ ap (λ (ps : List Piece). number next.0 ∷ ps) close.1);
        })
  ]
]

-- so many members at least, behind the number
at_least_by : (d : ℕ) → BracketedAt d → (rank : List ℕ) (us : List Piece)
    → ANode d (number rank ∷ us) ⊎ NoNode d (number rank ∷ us)
at_least_by d bracketed_at rank us = elim (byte_next slash us) [
  | inr other ↦ inr (no_at_least d rank _ us refl (λ vs e. absurd (other vs e)))
  | inl next ↦ elim (bracketed_at next.0) [
    | inr none ↦ inr (no_at_least d rank _ us refl (λ vs e. subst (NoBracketed d) (behind (sym next.1 ∙ e)) none))
    | inl inner ↦
        let a = inner.deep in
        inl (record {
          node = at_least rank inner.members;
          rest = inner.rest;
          deep = omega arith;
          reads =
              ap (λ (ps : List Piece). number rank ∷ ps)
              (next.1 ∙ ap (λ (ps : List Piece). byte slash ∷ ps) inner.reads);
        })
  ]
]

-- exactly so many members, behind `[`
exactly_by : (d : ℕ) → BracketedAt d → (us : List Piece)
    → ANode d (byte square_open ∷ us) ⊎ NoNode d (byte square_open ∷ us)
exactly_by d bracketed_at us = elim (number_next us) [
  | inr none ↦ inr (no_exactly d _ us refl (λ rank vs e. absurd (none _ _ e)))
  | inl next ↦ elim (byte_next square_close next.1) [
    | inr other ↦ inr (no_exactly d _ us refl (λ rank vs e. absurd (other _ (behind (sym next.2 ∙ e)))))
    | inl close ↦ elim (byte_next slash close.0) [
      | inr other ↦
          inr (no_exactly d _ us refl (λ rank vs e. absurd (other _ (behind (sym close.1 ∙ behind (sym next.2 ∙ e))))))
      | inl by ↦ elim (bracketed_at by.0) [
        | inr none ↦
            inr (no_exactly d _ us refl (λ rank vs e. subst (NoBracketed d)
            (behind (sym by.1 ∙ behind (sym close.1 ∙ behind (sym next.2 ∙ e)))) none))
        | inl inner ↦
            let a = inner.deep in
            inl (record {
              node = exactly next.0 inner.members;
              rest = inner.rest;
              deep = omega arith;
              reads = cc (next.2, close.1, by.1, inner.reads);
            })
      ]
    ]
  ]
]

-- a member, by what stands in brackets
node_by : (d : ℕ) → BracketedAt d
    → ((us : List Piece) → ANode d (byte round_open ∷ us) ⊎ NoNode d (byte round_open ∷ us)) → NodeAt d
node_by d bracketed_at group_at [] = inr (no_nothing d [] refl)
node_by d bracketed_at group_at (name text ∷ us) =
    inl (record { node = life text; rest = us; deep = omega arith; reads = refl })
node_by d bracketed_at group_at (bar ∷ us) = elim (bracketed_at us) [
  | inr none ↦ inr (no_last d _ us refl none)
  | inl inner ↦
      let a = inner.deep in
      inl (record {
        node = last inner.members;
        rest = inner.rest;
        deep = omega arith;
        reads = ap (λ (ps : List Piece). bar ∷ ps) inner.reads;
      })
]
node_by d bracketed_at group_at (number rank ∷ us) = at_least_by d bracketed_at rank us
node_by d bracketed_at group_at (byte b ∷ us) =
    let Choice : ℕ → Type 0 = λ b. ANode d (byte b ∷ us) ⊎ NoNode d (byte b ∷ us) in
    elim (cases_eq b angle_open) [
      | inl same ↦ subst Choice (sym same) (term_at d us)
      | inr no_angle ↦ elim (cases_eq b square_open) [
        | inl same ↦ subst Choice (sym same) (exactly_by d bracketed_at us)
        | inr no_square ↦ elim (cases_eq b round_open) [
          | inl same ↦ subst Choice (sym same) (group_at us)
          | inr no_round ↦ inr (no_other d b _ us refl no_angle no_square no_round)
        ]
      ]
    ]

-- a member, by depth
node_at : (d : ℕ) → NodeAt d
node_at zero =
    node_by zero (λ ts. inr (no_depth zero ts refl))
    (λ us. inr (no_group zero us (λ body rest deep e. absurd (omega arith))))
node_at (suc d) =
    node_by (suc d) (bracketed_by d (list_at d (node_at d))) (group_by d (body_by d (list_at d (node_at d))))

-- a list of this depth comes next or none does
pub list_to : (d : ℕ) → ListAt d
list_to d = list_at d (node_at d)

-- a body of this depth comes next or none does
pub body_to : (d : ℕ) → BodyAt d
body_to d = body_by d (list_to d)
