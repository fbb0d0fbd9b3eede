use Rattle.std.proofs.Common.{◌≡◌, ◌∷◌, ◌-◌, List, sym, subst, ap, ◌∙◌, arith}
use Rattle.halo_symbol.specs.Characters.{round_open, angle_open, square_open}
use Rattle.halo_symbol.specs.Piece.{Piece, bar, number, byte}
use Rattle.halo_symbol.specs.Absent.{NoNode, NoMembers, NoBracketed, NoBody}
use Rattle.halo_symbol.specs.View.{plain_members}
use Rattle.halo_symbol.proofs.Unique.{behind, closes, body_unique}
use Rattle.halo_symbol.proofs.Refused.{no_nothing, no_other, no_last, no_at_least, no_term, no_exactly, no_group, no_depth, no_open, no_list, no_close, no_first, no_next, no_first_list, no_second_list}
use Rattle.halo_symbol.proofs.body.+descent.Goals as goal

pub bracketed-returns-then-depth-eq0-clause-syntax : goal.bracketed-returns-then-depth-eq0-clause-syntax
bracketed-returns-then-depth-eq0-clause-syntax t c failed = no_depth _ _ c.if-depth-eq0.true

pub bracketed-returns-in_err-expect-clause-syntax : goal.bracketed-returns-in_err-expect-clause-syntax
bracketed-returns-in_err-expect-clause-syntax t c failed = no_open _ _ c.in_err-expect.ensures.1

pub bracketed-returns-in_err-members-clause-syntax : goal.bracketed-returns-in_err-members-clause-syntax
bracketed-returns-in_err-members-clause-syntax t c failed =
    let none : NoMembers (c.args.depth - 1) c.expect.new.self = grind arith in
    no_list _ _ _ (omega arith) c.in_ok-expect.ensures none

pub bracketed-returns-in_err-expect-2-clause-syntax : goal.bracketed-returns-in_err-expect-2-clause-syntax
bracketed-returns-in_err-expect-2-clause-syntax t c failed =
    let read = c.in_ok-expect.ensures ∙ ap (λ (ps : List Piece). byte round_open ∷ ps) c.in_ok-members.ensures.ok in
    no_close _ (plain_members c.in_ok-members.members) _ _ read c.in_ok-members.ensures.ends c.in_err-expect-2.ensures.1

pub group-returns-then-depth-eq0-clause-syntax : goal.group-returns-then-depth-eq0-clause-syntax
group-returns-then-depth-eq0-clause-syntax t c failed = no_group _ _ (λ body rest deep e. absurd (omega arith))

pub group-returns-in_err-body-clause-syntax : goal.group-returns-in_err-body-clause-syntax
unfolding NoBody
group-returns-in_err-body-clause-syntax t c failed =
    let none : NoBody (c.args.depth - 1) c.args.reader.now = grind arith in
    no_group _ _ (λ body rest deep e. none body _ (omega arith) (closes body rest) e)

pub group-returns-in_err-expect-clause-syntax : goal.group-returns-in_err-expect-clause-syntax
group-returns-in_err-expect-clause-syntax t c failed =
    no_group _ _ (λ body rest deep e.
    c.in_err-expect.ensures.1 rest (body_unique _ body _ _ c.in_ok-body.ensures.ends (closes body rest)
    (sym c.in_ok-body.ensures.ok ∙ e)).1)

pub body-returns-in_err-first-clause-syntax : goal.body-returns-in_err-first-clause-syntax
body-returns-in_err-first-clause-syntax t c failed =
    let none : NoMembers c.args.depth c.args.reader.now = grind arith in
    no_first_list _ _ none

pub body-returns-in_err-second-clause-syntax : goal.body-returns-in_err-second-clause-syntax
body-returns-in_err-second-clause-syntax t c failed =
    let none : NoMembers c.args.depth c.takes.new.self = grind arith in
    let read = c.takes.ensures.yes c.if-takes.true in
    no_second_list _ (plain_members c.in_ok-first.first) _ _ (cc (c.in_ok-first.ensures.ok, read)) none

pub members-returns-in_err-node-clause-syntax : goal.members-returns-in_err-node-clause-syntax
members-returns-in_err-node-clause-syntax t c failed =
    let none : NoNode c.args.depth c.args.reader.now = grind arith in
    no_first _ _ none

pub more_members-returns-in_err-next-clause-syntax : goal.more_members-returns-in_err-next-clause-syntax
more_members-returns-in_err-next-clause-syntax t c failed =
    let none : NoNode c.args.depth c.takes.new.self = grind arith in
    let read = c.takes.ensures.yes c.loop-alloc-test.true in
    no_next _ (plain_members c.loop-alloc.members) _ _ (cc (c.loop-alloc.invariant.read, read)) none

pub node-returns-in-None-clause-syntax : goal.node-returns-in-None-clause-syntax
node-returns-in-None-clause-syntax t c failed = no_nothing _ _ (grind arith)

pub node-returns-in-Some-Byte-clause-syntax : goal.node-returns-in-Some-Byte-clause-syntax
node-returns-in-Some-Byte-clause-syntax t c failed =
    let test = c.in-Some-Byte.field-0-0-test in
    let first : c.args.reader.now ≡ byte c.in-Some-Byte.field-0-0 ∷ c.next.new.self = grind arith in
    no_other _ _ _ _ first test.0.0.1 test.0.1 test.1

pub node-returns-in_err-bracketed-in-Some-Bar-clause-syntax :
    goal.node-returns-in_err-bracketed-in-Some-Bar-clause-syntax
node-returns-in_err-bracketed-in-Some-Bar-clause-syntax t c failed =
    let first : c.args.reader.now ≡ bar ∷ c.next.new.self = grind arith in
    let none : NoBracketed c.args.depth c.next.new.self = grind arith in
    no_last _ _ _ first none

pub node-returns-in_err-expect-in-Some-Number-clause-syntax :
    goal.node-returns-in_err-expect-in-Some-Number-clause-syntax
node-returns-in_err-expect-in-Some-Number-clause-syntax t c failed =
    let first : c.args.reader.now ≡ number c.in-Some-Number.rank.now ∷ c.next.new.self = grind arith in
    no_at_least _ _ _ _ first (λ vs e. absurd (c.in_err-expect-in-Some-Number.ensures.1 vs e))

pub node-returns-in_err-bracketed-in-Some-Number-clause-syntax :
    goal.node-returns-in_err-bracketed-in-Some-Number-clause-syntax
node-returns-in_err-bracketed-in-Some-Number-clause-syntax t c failed =
    let first : c.args.reader.now ≡ number c.in-Some-Number.rank.now ∷ c.next.new.self = grind arith in
    let none : NoBracketed c.args.depth c.expect.new.self = grind arith in
    no_at_least _ _ _ _ first (λ vs e. subst (NoBracketed c.args.depth)
    (behind (sym c.in_ok-expect-in-Some-Number.ensures ∙ e)) none)

pub node-returns-in_err-years-in-Some-Byte-eq60-clause-syntax :
    goal.node-returns-in_err-years-in-Some-Byte-eq60-clause-syntax
node-returns-in_err-years-in-Some-Byte-eq60-clause-syntax t c failed =
    let first : c.args.reader.now ≡ byte angle_open ∷ c.next.new.self = grind arith in
    no_term _ _ _ first (λ x vs e. c.in_err-years-in-Some-Byte-eq60.ensures.1 _ _ e)

pub node-returns-in_err-expect-in-Some-Byte-eq60-clause-syntax :
    goal.node-returns-in_err-expect-in-Some-Byte-eq60-clause-syntax
node-returns-in_err-expect-in-Some-Byte-eq60-clause-syntax t c failed =
    let first : c.args.reader.now ≡ byte angle_open ∷ c.next.new.self = grind arith in
    no_term _ _ _ first (λ x vs e. c.in_err-expect-in-Some-Byte-eq60.ensures.1 _
    (behind (sym c.in_ok-years-in-Some-Byte-eq60.ensures ∙ e)))

pub node-returns-in_err-rank-in-Some-Byte-eq91-clause-syntax :
    goal.node-returns-in_err-rank-in-Some-Byte-eq91-clause-syntax
node-returns-in_err-rank-in-Some-Byte-eq91-clause-syntax t c failed =
    let first : c.args.reader.now ≡ byte square_open ∷ c.next.new.self = grind arith in
    no_exactly _ _ _ first (λ x vs e. absurd (c.in_err-rank-in-Some-Byte-eq91.ensures.1 _ _ e))

pub node-returns-in_err-expect-in-Some-Byte-eq91-clause-syntax :
    goal.node-returns-in_err-expect-in-Some-Byte-eq91-clause-syntax
node-returns-in_err-expect-in-Some-Byte-eq91-clause-syntax t c failed =
    let first : c.args.reader.now ≡ byte square_open ∷ c.next.new.self = grind arith in
    no_exactly _ _ _ first (λ x vs e. absurd (c.in_err-expect-in-Some-Byte-eq91.ensures.1 _
    (behind (sym c.in_ok-rank-in-Some-Byte-eq91.ensures ∙ e))))

pub node-returns-in_err-expect-in-Some-Byte-eq91-2-clause-syntax :
    goal.node-returns-in_err-expect-in-Some-Byte-eq91-2-clause-syntax
node-returns-in_err-expect-in-Some-Byte-eq91-2-clause-syntax t c failed =
    let first : c.args.reader.now ≡ byte square_open ∷ c.next.new.self = grind arith in
    no_exactly _ _ _ first (λ x vs e. absurd (c.in_err-expect-in-Some-Byte-eq91-2.ensures.1 _
    (behind (sym c.in_ok-expect-in-Some-Byte-eq91.ensures ∙ behind (sym c.in_ok-rank-in-Some-Byte-eq91.ensures ∙ e)))))

pub node-returns-in_err-bracketed-in-Some-Byte-eq91-clause-syntax :
    goal.node-returns-in_err-bracketed-in-Some-Byte-eq91-clause-syntax
node-returns-in_err-bracketed-in-Some-Byte-eq91-clause-syntax t c failed =
    let first : c.args.reader.now ≡ byte square_open ∷ c.next.new.self = grind arith in
    let none : NoBracketed c.args.depth c.expect-in-Some-Byte-eq91-2.new.self = grind arith in
    no_exactly _ _ _ first (λ x vs e. subst (NoBracketed c.args.depth)
    (behind (sym c.in_ok-expect-in-Some-Byte-eq91-2.ensures
    ∙ behind (sym c.in_ok-expect-in-Some-Byte-eq91.ensures
    ∙ behind (sym c.in_ok-rank-in-Some-Byte-eq91.ensures ∙ e)))) none)
