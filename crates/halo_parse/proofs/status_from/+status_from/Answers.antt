-- A status in memory has the shape of the body that it is put together from, and the parts of what is usable are
-- usable.
use Rattle.std.proofs.Common.{◌≡◌, ◌∙◌, ◌<◌, [], ◌∷◌, ap, arith, rules, length, length-append}
use Rattle.std.proofs.Math.Seq.{take-length}
use Rattle.halo_status.proofs.Shapes.{tree_of-AtLeast, tree_of-After, tree_of-Exactly, tree_of-Joint}
use Rattle.halo_symbol.proofs.Shapes.{plain_body-List, plain_body-Reversion, plain_node-AtLeast, plain_node-Exactly, plain_node-Last}
use Rattle.halo_symbol.specs.StatusOf.{trees_of_members}
use Rattle.halo_symbol.specs.View.{members_of, plain_body, plain_node}
use Rattle.halo_symbol.specs.declared.tree.Node.{the_lemmas}
use Rattle.halo_check.specs.Draft.{place_of}
use Rattle.halo_contract.specs.PlainContract.{life_names}
use Rattle.halo_check.proofs.BodyParts.{member_count-members_of}
use Rattle.halo_parse.proofs.PutTogether.{joint_of_more, one_member_more}
use Rattle.halo_parse.proofs.UsableParts.{usable-at_least, usable-exactly, usable-first, usable-front, usable-last, usable-list, usable-other, usable-then}
use Rattle.halo_parse.proofs.status_from.+status_from.Goals as goal

pub list_from-returns-in_ok-members_from : goal.list_from-returns-in_ok-members_from
list_from-returns-in_ok-members_from t c =
    let some : 0 < length c.args.members.now.others.items = grind arith in
    rw (tree_of-Joint c.in_ok-members_from.field-0, c.in_ok-members_from.ensures) (joint_of_more _ _ _ some)

pub member_from-members_from-requires : goal.member_from-members_from-requires
member_from-members_from-requires t c = (
  search (rules, the_lemmas),
  (
    usable-last _ _ _ (ap plain_node c.in-Last.is ∙ plain_node-Last c.in-Last.members)
        c.requires.usable,
    c.requires.few,
  ),
)

pub member_from-members_from-requires-in-AtLeast : goal.member_from-members_from-requires-in-AtLeast
member_from-members_from-requires-in-AtLeast t c = (
  search (rules, the_lemmas),
  (
    usable-at_least _ _ _ _
        (ap plain_node c.in-AtLeast.is ∙ plain_node-AtLeast c.in-AtLeast.rank c.in-AtLeast.members) c.requires.usable,
    c.requires.few,
  ),
)

pub member_from-members_from-requires-in-Exactly : goal.member_from-members_from-requires-in-Exactly
member_from-members_from-requires-in-Exactly t c = (
  search (rules, the_lemmas),
  (
    usable-exactly _ _ _ _
        (ap plain_node c.in-Exactly.is ∙ plain_node-Exactly c.in-Exactly.rank c.in-Exactly.members) c.requires.usable,
    c.requires.few,
  ),
)

pub member_from-returns-in_ok-members-in-AtLeast : goal.member_from-returns-in_ok-members-in-AtLeast
member_from-returns-in_ok-members-in-AtLeast t c =
    let is = ap plain_node c.in-AtLeast.is ∙ plain_node-AtLeast c.in-AtLeast.rank c.in-AtLeast.members in
    rw (
      is,
      tree_of-AtLeast c.rank_within.result c.in_ok-members-in-AtLeast.members,
      c.in_ok-members-in-AtLeast.ensures,
      c.rank_within.ensures,
    )

pub member_from-returns-in_ok-members-in-Exactly : goal.member_from-returns-in_ok-members-in-Exactly
member_from-returns-in_ok-members-in-Exactly t c =
    let is = ap plain_node c.in-Exactly.is ∙ plain_node-Exactly c.in-Exactly.rank c.in-Exactly.members in
    rw (
      is,
      tree_of-Exactly c.rank_within-in-Exactly.result c.in_ok-members-in-Exactly.members,
      c.in_ok-members-in-Exactly.ensures,
      c.rank_within-in-Exactly.ensures,
    )

pub members_from-member_from-requires : goal.members_from-member_from-requires
members_from-member_from-requires t c =
    (search (rules, the_lemmas), (rw c.deref.ensures (usable-front _ _ _ c.requires.usable), c.requires.few))

pub members_from-member_from-requires-in-loop-member : goal.members_from-member_from-requires-in-loop-member
members_from-member_from-requires-in-loop-member t c =
    let items = c.deref-member-items.ensures.value in
    let usable =
    usable-other _ _ _ _ _ (rw items at c.loop-member-test.true) (rw items at c.member-item.is) c.requires.usable in
    (search (rules, the_lemmas), (usable, c.requires.few))

pub members_from-push-requires : goal.members_from-push-requires
members_from-push-requires t c =
    let items = ap length c.deref-member-items.ensures.value in
    let few = c.requires.usable.few in
    omega (
      arith,
      c.loop-member.invariant.count,
      member_count-members_of (plain_node c.args.members.now.first.value)
          c.args.members.now.others.items,
    )

pub members_from-loop-member-preserved : goal.members_from-loop-member-preserved
members_from-loop-member-preserved t c =
    let items = c.deref-member-items.ensures.value in
    let added = c.in_ok-push.ensures.added in
    record {
      all_are = rw added
          (one_member_more _ _ _ _ _ _ _ (rw items at c.loop-member-test.true) (rw items at c.member-item.is)
          c.loop-member.invariant.all_are c.in_ok-member_from-2.ensures);
      count =
          rw added (omega (
            arith,
            length-append c.loop-member.all (c.in_ok-member_from-2.field-0 ∷ []),
            c.loop-member.invariant.count,
          ));
    }

pub members_from-returns : goal.members_from-returns
members_from-returns t c =
    let items = ap length c.deref-member-items.ensures.value in
    let all : c.loop-member.member-index ≡ length c.args.members.now.others.items = omega arith in
    c.loop-member.invariant.all_are ∙ ap (λ ms. trees_of_members (place_of (life_names c.args.lives.now))
    (members_of (plain_node c.args.members.now.first.value) ms)) (rw all (take-length _))

pub status_from-list_from-requires : goal.status_from-list_from-requires
status_from-list_from-requires t c = (
  search (rules, the_lemmas),
  (
    usable-list _ _ _ (ap plain_body c.in-List.is ∙ plain_body-List c.in-List.members)
        c.requires.usable,
    c.requires.few,
  ),
)

pub status_from-list_from-requires-in-Reversion : goal.status_from-list_from-requires-in-Reversion
status_from-list_from-requires-in-Reversion t c = (
  search (rules, the_lemmas),
  (
    usable-first _ _ _ _
        (ap plain_body c.in-Reversion.is ∙ plain_body-Reversion c.in-Reversion.first c.in-Reversion.then)
        c.requires.usable,
    c.requires.few,
  ),
)

pub status_from-list_from-requires-in-Reversion-2 : goal.status_from-list_from-requires-in-Reversion-2
status_from-list_from-requires-in-Reversion-2 t c = (
  search (rules, the_lemmas),
  (
    usable-then _ _ _ _
        (ap plain_body c.in-Reversion.is ∙ plain_body-Reversion c.in-Reversion.first c.in-Reversion.then)
        c.requires.usable,
    c.requires.few,
  ),
)

pub status_from-returns-in_ok-boxed-in-Reversion-2 : goal.status_from-returns-in_ok-boxed-in-Reversion-2
status_from-returns-in_ok-boxed-in-Reversion-2 t c =
    let is = ap plain_body c.in-Reversion.is ∙ plain_body-Reversion c.in-Reversion.first c.in-Reversion.then in
    rw (
      is,
      tree_of-After c.in_ok-boxed-in-Reversion.field-0 c.in_ok-boxed-in-Reversion-2.field-0,
      c.in_ok-boxed-in-Reversion.ensures,
      c.in_ok-boxed-in-Reversion-2.ensures,
      c.in_ok-first-in-Reversion.ensures,
      c.in_ok-then-in-Reversion.ensures,
    )
