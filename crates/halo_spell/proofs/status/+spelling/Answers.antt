-- Each call goes down in the tree, and what is written by parts is the text of the whole.
use Rattle.std.proofs.Common.{◌≡◌, ◌<◌, [], ◌++◌, append_assoc, append-nil, ap, ◌∙◌, drop, arith, length, rules, inl, inr}
use Rattle.std.proofs.lemmas.List.{drop_all}
use Rattle.std.proofs.lemmas.Result.{IfOk-equal}
use Rattle.halo_status.proofs.NamedMembers.{nodes-at}
use Rattle.halo_status.proofs.Lists.{nodes-After, nodes-list}
use Rattle.halo_status.proofs.LivesNamed.{names_below_first, names_below_members, names_below_second}
use Rattle.halo_contract.specs.PlainContract.{life_names}
use Rattle.halo_status.proofs.Shapes.{tree_of-After, tree_of-AtLeast, tree_of-Exactly, tree_of-Last, tree_of-Life, tree_of-Term}
use Rattle.halo_status.specs.StatusTree.{tree_of, trees_in}
use Rattle.halo_spell.proofs.MembersLeft.{all_left, one_left, written_more}
use Rattle.halo_spell.proofs.Positions.{bytes_at-after, bytes_at-at_least, bytes_at-exactly, bytes_at-last, bytes_at-life, bytes_at-term}
use Rattle.halo_spell.proofs.LivesBelow.{below_at, life_below, name_at-lives}
use Rattle.halo_spell.proofs.status.+spelling.Goals as goal

pub write_reversion-returns : goal.write_reversion-returns
write_reversion-returns t c = search (rules, IfOk-equal, append_assoc)

pub write_members-write_status-requires : goal.write_members-write_status-requires
write_members-write_status-requires t c = (
  omega (arith, c.decreases, nodes-at c.args.members.now c.loop-place.place c.at.result.now c.at.ensures),
  below_at _
      c.args.members.now c.loop-place.place c.at.result.now c.at.ensures c.requires,
)

pub write_status-bounds-lives-from : goal.write_status-bounds-lives-from
write_status-bounds-lives-from t c = rw c.from.ensures (life_below _ _ c.in-Life.i c.in-Life.is c.requires)

pub write_status-write_bracketed-requires : goal.write_status-write_bracketed-requires
write_status-write_bracketed-requires t c = (
  omega (arith, c.decreases, nodes-list _ _ (inl c.in-Joint.is)),
  names_below_members _ _ c.in-Joint.members
      (inl c.in-Joint.is) c.requires,
)

pub write_status-write_members-requires : goal.write_status-write_members-requires
write_status-write_members-requires t c = (
  omega (arith, c.decreases, nodes-list _ _ (inl c.in-Joint.is)),
  names_below_members _ _ c.in-Joint.members
      (inl c.in-Joint.is) c.requires,
)

pub write_status-write_bracketed-requires-in-Last : goal.write_status-write_bracketed-requires-in-Last
write_status-write_bracketed-requires-in-Last t c = (
  omega (arith, c.decreases, nodes-list _ _ (inr (inl c.in-Last.is))),
  names_below_members _ _ c.in-Last.members
      (inr (inl c.in-Last.is)) c.requires,
)

pub write_status-write_bracketed-requires-in-AtLeast : goal.write_status-write_bracketed-requires-in-AtLeast
write_status-write_bracketed-requires-in-AtLeast t c = (
  omega (arith, c.decreases, nodes-list _ _ (inr (inr (inl (_, c.in-AtLeast.is))))),
  names_below_members _ _
      c.in-AtLeast.members (inr (inr (inl (_, c.in-AtLeast.is)))) c.requires,
)

pub write_status-write_bracketed-requires-in-Exactly : goal.write_status-write_bracketed-requires-in-Exactly
write_status-write_bracketed-requires-in-Exactly t c = (
  omega (arith, c.decreases, nodes-list _ _ (inr (inr (inr (_, c.in-Exactly.is))))),
  names_below_members _ _
      c.in-Exactly.members (inr (inr (inr (_, c.in-Exactly.is)))) c.requires,
)

pub write_status-write_reversion-requires : goal.write_status-write_reversion-requires
write_status-write_reversion-requires t c =
    rw (c.deref.ensures, c.deref-in-Alone.ensures) (
      omega (arith, c.decreases, nodes-After _ _ _ c.in-After.is),
      (names_below_first _ _ _ _ c.in-After.is c.requires, names_below_second _ _ _ _ c.in-After.is c.requires),
    )

pub write_status-write_reversion-requires-in_default-position :
    goal.write_status-write_reversion-requires-in_default-position
write_status-write_reversion-requires-in_default-position t c =
    rw (c.deref-in_default-position.ensures, c.deref-in_default-position-2.ensures) (
      omega (arith, c.decreases, nodes-After _ _ _ c.in-After.is),
      (names_below_first _ _ _ _ c.in-After.is c.requires, names_below_second _ _ _ _ c.in-After.is c.requires),
    )

pub write_status-returns-in-Life : goal.write_status-returns-in-Life
write_status-returns-in-Life t c =
    let below = life_below _ _ c.in-Life.i c.in-Life.is c.requires in
    let name =
    (rw c.from.ensures at c.bytes.ensures.same)
    ∙ name_at-lives c.args.lives.now c.in-Life.i c.index-lives-from.result below in
    rw (
      c.in-Life.is,
      tree_of-Life c.in-Life.i,
      bytes_at-life (life_names c.args.lives.now) c.args.position c.in-Life.i,
      ← name,
    ) c.write_bytes.ensures

pub write_members-loop-place-preserved : goal.write_members-loop-place-preserved
write_members-loop-place-preserved t c =
    let within : c.loop-place.place < length c.args.members.now =
    omega (arith, c.loop-place-test.true, c.len-place-end.ensures.value) in
    let left =
    one_left (life_names c.args.lives.now) c.args.mark c.args.members.now c.loop-place.place c.at.result.now within
    c.at.ensures in
    written_more _ _ _ _ _ _ _ _ _ c.in_ok-write_separator_at.ensures c.in_ok-write_status.ensures
    c.in_ok-write_mark_at.ensures (rw left at c.loop-place.invariant)

pub write_members-returns : goal.write_members-returns
write_members-returns t c =
    let all : c.loop-place.place ≡ length c.args.members.now = omega (arith, c.len-place-end.ensures.value) in
    let none : drop c.loop-place.place c.args.members.now ≡ [] =
    drop_all c.loop-place.place c.args.members.now (omega arith) in
    let written = rw (none, append-nil) at c.loop-place.invariant in
    written ∙ ap (λ bs. c.args.into.now.items ++ bs)
    (all_left (life_names c.args.lives.now) c.args.mark c.args.members.now
    (omega (arith, c.len-place-end.ensures.value, c.len-place-end.ensures.some)))

pub write_status-returns-in_ok-write_number-in-Term : goal.write_status-returns-in_ok-write_number-in-Term
write_status-returns-in_ok-write_number-in-Term t c =
    rw (
      c.in-Term.is,
      tree_of-Term c.in-Term.years,
      bytes_at-term (life_names c.args.lives.now) c.args.position
          c.in-Term.years,
    ) (search (rules, IfOk-equal, append_assoc))

pub write_status-returns-in_ok-write_bytes-in-Last : goal.write_status-returns-in_ok-write_bytes-in-Last
write_status-returns-in_ok-write_bytes-in-Last t c =
    rw (
      c.in-Last.is,
      tree_of-Last c.in-Last.members,
      bytes_at-last (life_names c.args.lives.now) c.args.position
          (trees_in c.in-Last.members),
    )
    (search (rules, IfOk-equal, append_assoc))

pub write_status-returns-in_ok-write_bytes-in-AtLeast : goal.write_status-returns-in_ok-write_bytes-in-AtLeast
write_status-returns-in_ok-write_bytes-in-AtLeast t c =
    rw (
      c.in-AtLeast.is,
      tree_of-AtLeast c.in-AtLeast.rank c.in-AtLeast.members,
      bytes_at-at_least
          (life_names c.args.lives.now) c.args.position c.in-AtLeast.rank (trees_in c.in-AtLeast.members),
    ) (search (rules, IfOk-equal, append_assoc))

pub write_status-returns-in_ok-write_bytes-in-Exactly : goal.write_status-returns-in_ok-write_bytes-in-Exactly
write_status-returns-in_ok-write_bytes-in-Exactly t c =
    rw (
      c.in-Exactly.is,
      tree_of-Exactly c.in-Exactly.rank c.in-Exactly.members,
      bytes_at-exactly
          (life_names c.args.lives.now) c.args.position c.in-Exactly.rank (trees_in c.in-Exactly.members),
    ) (search (rules, IfOk-equal, append_assoc))

pub write_status-returns-in_ok-write_reversion-in_default-position :
    goal.write_status-returns-in_ok-write_reversion-in_default-position
write_status-returns-in_ok-write_reversion-in_default-position t c =
    let a = tree_of c.in-After.first.value in
    let b = tree_of c.in-After.then.value in
    let names = life_names c.args.lives.now in
    let inner =
    rw (c.deref-in_default-position.ensures, c.deref-in_default-position-2.ensures) at
    c.in_ok-write_reversion-in_default-position.ensures in
    rw (
      c.in-After.is,
      tree_of-After c.in-After.first c.in-After.then,
      bytes_at-after names c.args.position a b c.in_default-position.not-Alone,
    ) (search (rules, IfOk-equal, append_assoc))
