use Rattle.std.proofs.Common.{◌≡◌, ◌≤◌, ◌∷◌, List, length, suc, Option, Some, rules, sym, subst, ap, ap₂, ◌∙◌, arith}
use Rattle.halo_symbol.specs.Characters.{caret}
use Rattle.halo_symbol.specs.Piece.{Piece, byte}
use Rattle.halo_symbol.specs.Tree.{Body, member_count}
use Rattle.halo_symbol.specs.Symbol.{Mark}
use Rattle.halo_symbol.specs.Proper.{MayHaveMark}
use Rattle.halo_status.specs.declared.pay.Kind.TheVariants.{Insurance}
use Rattle.halo_symbol.specs.Nesting.{nest_body}
use Rattle.halo_symbol.specs.Next.{Ends}
use Rattle.halo_symbol.specs.Absent.{NoBody, NoMembers}
use Rattle.halo_symbol.specs.Pieces.{body_pieces, members_pieces, content_pieces}
use Rattle.halo_symbol.specs.View.{plain_body, plain_members}
use Rattle.halo_symbol.proofs.Unique.{behind}
use Rattle.halo_symbol.proofs.Shapes.{plain_body-List, plain_body-Reversion}
use Rattle.halo_symbol.proofs.Marks.{list_one, no_body, no_marked, marked_pieces-parts, member_count-members_of}
use Rattle.halo_symbol.proofs.content.read_content.Goals as goal

pub returns-in_err-body-clause-syntax : goal.returns-in_err-body-clause-syntax
returns-in_err-body-clause-syntax c failed =
    let none : NoBody c.args.depth c.args.reader.now = grind arith in
    no_body _ _ _ none

pub returns-in_default-clause-syntax : goal.returns-in_default-clause-syntax
returns-in_default-clause-syntax c failed =
    let read = c.takes.ensures.yes c.if-not-takes.false in
    let body = plain_body c.in_ok-body.body in
    let stops = subst (Ends body) read c.in_ok-body.ensures.ends in
    no_marked _ _ body _ _ stops (c.in_ok-body.ensures.ok ∙ ap (body_pieces body) read)
    (λ rank upto ms after rest kind one. let two = plain_body-Reversion c.in_default.field-0 c.in_default.field-1 in
    absurd (cc (one, two)))

pub returns-then-ne-clause-syntax : goal.returns-then-ne-clause-syntax
returns-then-ne-clause-syntax c failed =
    let read = c.takes.ensures.yes c.if-not-takes.false in
    let body = plain_body c.in_ok-body.body in
    let stops = subst (Ends body) read c.in_ok-body.ensures.ends in
    no_marked _ _ body _ _ stops (c.in_ok-body.ensures.ok ∙ ap (body_pieces body) read)
    (λ rank upto ms after rest kind. absurd (grind (arith, kind)))

pub returns-in_err-rank-clause-syntax : goal.returns-in_err-rank-clause-syntax
returns-in_err-rank-clause-syntax c failed =
    let read = c.takes.ensures.yes c.if-not-takes.false in
    let body = plain_body c.in_ok-body.body in
    let stops = subst (Ends body) read c.in_ok-body.ensures.ends in
    no_marked _ _ body _ _ stops (c.in_ok-body.ensures.ok ∙ ap (body_pieces body) read)
    (λ rank upto ms after rest kind one e. absurd (c.in_err-rank.ensures.1 _ _ e))

pub more_members-requires : goal.more_members-requires
more_members-requires c =
    let whole = ap plain_body c.in-List.is ∙ plain_body-List c.in-List.members in
    subst (λ body. nest_body body ≤ c.args.depth) whole c.in_ok-body.ensures.deep

pub returns-in_err-members-clause-syntax : goal.returns-in_err-members-clause-syntax
unfolding NoMembers
returns-in_err-members-clause-syntax c failed =
    let read = c.takes.ensures.yes c.if-not-takes.false in
    let body = plain_body c.in_ok-body.body in
    let stops = subst (Ends body) read c.in_ok-body.ensures.ends in
    let whole = ap plain_body c.in-List.is ∙ plain_body-List c.in-List.members in
    let none : NoMembers c.args.depth (members_pieces (plain_members c.in-List.members) c.number.new.self) =
    grind arith in
    no_marked _ _ body _ _ stops (c.in_ok-body.ensures.ok ∙ ap (body_pieces body) read)
    (λ rank upto ms after rest kind one e deep ends same.
    let before : plain_members c.in-List.members ≡ upto = list_one (sym whole ∙ one) in
    none ms rest deep ends (ap₂ members_pieces before (behind (sym c.in_ok-rank.ensures ∙ e)) ∙ same))

pub returns : goal.returns
returns c =
    let upto = plain_members c.in-List.members in
    let ms = c.in_ok-members.members in
    let whole = ap plain_body c.in-List.is ∙ plain_body-List c.in-List.members in
    let read =
    c.takes.ensures.yes c.if-not-takes.false ∙ ap (λ (ps : List Piece). byte caret ∷ ps) c.in_ok-rank.ensures in
    let len : length c.in-List.members.others.items ≡ c.len.result = grind arith in
    let place : member_count upto ≡ suc c.len.result = member_count-members_of _ _ ∙ ap suc len in
    let marked =
    marked_pieces-parts c.len.result c.in_ok-rank.rank.now upto (plain_members ms) _ _ c.in_ok-members.ensures.ends
    place c.in_ok-members.ensures.ok in
    let kind : c.args.kind ≡ Insurance = grind arith in
    let mark : Option Mark = Some (record { member = c.len.result; rank = c.in_ok-rank.rank.now }) in
    let HasRead : Body → Type 0 =
    λ body. (c.args.reader.now ≡ content_pieces mark body c.more_members.new.reader)
    × MayHaveMark c.args.kind mark body × (nest_body body ≤ c.args.depth) in
    let done =
    subst HasRead (sym (plain_body-List ms)) (
      c.in_ok-body.ensures.ok ∙ ap₂ body_pieces whole read
          ∙ marked.0,
      (kind, marked.1),
      c.in_ok-members.ensures.deep,
    ) in
    record { ok = done.0; ends = c.in_ok-members.ensures.ends; allowed = done.1; deep = done.2; syntax = search rules }
