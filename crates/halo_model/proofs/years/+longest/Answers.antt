-- Each call is given what its part of the tree needs, and goes down in it.
use Rattle.std.proofs.Common.{arith, sym, ◌∙◌}
use Rattle.halo_status.proofs.Lists.{nodes-After, nodes-list}
use Rattle.halo_model.proofs.Longest.{at_life, at_term, first_of, member_of, members_of_list, taken, then_of, years_at}
use Rattle.halo_status.proofs.NamedMembers.{nodes-at}
use Rattle.halo_model.proofs.years.+longest.Goals as goal

pub longest-bounds-lives-from : goal.longest-bounds-lives-from
longest-bounds-lives-from t c =
    rw c.from.ensures ((at_life c.args.tables.now c.args.lives.now c.args.body.now c.in-Life.i c.in-Life.is
    c.requires.rows).0)

pub longest-longest-requires : goal.longest-longest-requires
longest-longest-requires t c =
    let needs =
    first_of c.args.tables.now c.args.lives.now c.args.body.now c.in-After.first c.in-After.then c.in-After.is
    c.requires.rows c.requires.terms in
    rw c.deref.ensures (omega (arith, c.decreases, nodes-After _ _ _ c.in-After.is), needs)

pub longest-longest-requires-in-After : goal.longest-longest-requires-in-After
longest-longest-requires-in-After t c =
    let needs =
    then_of c.args.tables.now c.args.lives.now c.args.body.now c.in-After.first c.in-After.then c.in-After.is
    c.requires.rows c.requires.terms in
    rw c.deref-in-After.ensures (omega (arith, c.decreases, nodes-After _ _ _ c.in-After.is), needs)

pub longest-longest_of-requires : goal.longest-longest_of-requires
longest-longest_of-requires t c = (
  omega (arith, c.decreases, nodes-list _ _ c.in-Joint.is),
  members_of_list c.args.tables.now c.args.lives.now
      c.args.body.now c.in-Joint.members c.in-Joint.is c.requires.rows c.requires.terms,
)

pub longest-returns-in-Term-clause-few : goal.longest-returns-in-Term-clause-few
longest-returns-in-Term-clause-few t c =
    at_term c.args.tables.now c.args.lives.now c.args.body.now c.in-Term.years c.in-Term.is c.requires.terms

pub longest_of-longest-requires : goal.longest_of-longest-requires
longest_of-longest-requires t c = (
  omega (arith, c.decreases, nodes-at c.args.members.now c.loop-i.i c.at.result.now c.at.ensures),
  member_of
      c.args.tables.now c.args.lives.now c.args.members.now c.loop-i.i c.at.result.now c.at.ensures c.requires.rows
      c.requires.terms,
)

pub longest-returns-in-Life-clause-years : goal.longest-returns-in-Life-clause-years
longest-returns-in-Life-clause-years t c =
    let is = at_life c.args.tables.now c.args.lives.now c.args.body.now c.in-Life.i c.in-Life.is c.requires.rows in
    (rw c.from.ensures at c.years_left.ensures.years)
    ∙ sym (years_at c.args.tables.now c.args.lives.now c.args.body.now c.in-Life.i c.in-Life.is is.0)

pub longest_of-loop-i-preserved : goal.longest_of-loop-i-preserved
longest_of-loop-i-preserved t c = (
  taken c.args.tables.now c.args.lives.now c.args.members.now c.loop-i.i c.at.result.now
      (omega (arith, c.loop-i-test.true, c.len-i-end.ensures.value)) c.at.ensures c.loop-i.years c.max-years.result
      (rw c.longest.ensures.years at c.max-years.ensures) c.loop-i.invariant.0,
  omega (arith, c.max-years.ensures, c.longest.ensures.few, c.loop-i.invariant.1),
)
