-- Each call is given what its part of the tree needs, and goes down in it; the parts' chances are put together.
use Rattle.std.proofs.Common.{◌≡◌, ◌-◌, ◌<◌, rules, arith, sym, ◌∙◌, length, inl, inr}
use Rattle.std.proofs.lemmas.Int.{ints}
use Rattle.halo_status.specs.StatusTree.{tree_of, trees_in}
use Rattle.halo_status.specs.View.{is_on}
use Rattle.halo_status.proofs.Lists.{member_count-trees_in, nodes-After, nodes-list}
use Rattle.halo_status.proofs.Shapes.{tree_of-After, tree_of-AtLeast, tree_of-Exactly, tree_of-Joint, tree_of-Last, tree_of-Life, tree_of-Term}
use Rattle.halo_status.proofs.NamedMembers.{nodes-at}
use Rattle.halo_chance.proofs.Costs.{cost-after, cost-leaf, cost-list, cost-member, cost-none, cost-nothing, length-nodes}
use Rattle.halo_chance.proofs.Enclosing.{all-more, encloses-after, encloses-at_least, encloses-exactly, encloses-joint, encloses-last, encloses-life, encloses-none, encloses-term, none-more}
use Rattle.halo_chance.proofs.Parts.{drop-all, named-first, named-life, named-list, named-member, named-then, split-before}
use Rattle.halo_chance.proofs.Tables.{encloses-above, entry-read, table-at, table-more, table-none}
use Rattle.halo_chance.specs.Enclosed.{entry_at}
use Rattle.halo_chance.proofs.along.+along.Goals as goal

pub along-bounds-lives-from : goal.along-bounds-lives-from
along-bounds-lives-from g t c =
    rw c.from.ensures (named-life (length c.args.lives.now) c.args.body.now c.in-Life.i c.in-Life.is c.requires.named)

pub along-all_along-requires : goal.along-all_along-requires
along-all_along-requires g t c κs within = (
  omega (arith, c.decreases, nodes-list _ _ (inl c.in-Joint.is)),
  (
    within,
    (
      named-list (length c.args.lives.now) c.args.body.now c.in-Joint.members (inl c.in-Joint.is) c.requires.named,
      c.requires.chances,
    ),
  ),
)

pub along-none_along-requires : goal.along-none_along-requires
along-none_along-requires g t c κs within = (
  omega (arith, c.decreases, nodes-list _ _ (inr (inl c.in-Last.is))),
  (
    within,
    (
      named-list (length c.args.lives.now) c.args.body.now c.in-Last.members (inr (inl c.in-Last.is))
          c.requires.named,
      c.requires.chances,
    ),
  ),
)

pub along-at_rank-requires : goal.along-at_rank-requires
along-at_rank-requires g t c κs within = (
  omega (arith, c.decreases, nodes-list _ _ (inr (inr (inl (c.in-AtLeast.rank, c.in-AtLeast.is))))),
  (
    within,
    (
      named-list (length c.args.lives.now) c.args.body.now c.in-AtLeast.members
          (inr (inr (inl (c.in-AtLeast.rank, c.in-AtLeast.is)))) c.requires.named,
      c.requires.chances,
    ),
  ),
)

pub along-at_rank-requires-in-Exactly : goal.along-at_rank-requires-in-Exactly
along-at_rank-requires-in-Exactly g t c κs within = (
  omega (arith, c.decreases, nodes-list _ _ (inr (inr (inr (c.in-Exactly.rank, c.in-Exactly.is))))),
  (
    within,
    (
      named-list (length c.args.lives.now) c.args.body.now c.in-Exactly.members
          (inr (inr (inr (c.in-Exactly.rank, c.in-Exactly.is)))) c.requires.named,
      c.requires.chances,
    ),
  ),
)

pub along-along-requires : goal.along-along-requires
along-along-requires g t c κs within =
    rw c.deref.ensures (
      omega (arith, c.decreases, nodes-After _ _ _ c.in-After.is),
      (
        within,
        (
          named-first (length c.args.lives.now) c.args.body.now c.in-After.first c.in-After.then c.in-After.is
              c.requires.named,
          c.requires.chances,
        ),
      ),
    )

pub along-along-requires-in-After : goal.along-along-requires-in-After
along-along-requires-in-After g t c κs within =
    rw c.deref-in-After.ensures (
      omega (arith, c.decreases, nodes-After _ _ _ c.in-After.is),
      (
        within,
        (
          named-then (length c.args.lives.now) c.args.body.now c.in-After.first c.in-After.then c.in-After.is
              c.requires.named,
          c.requires.chances,
        ),
      ),
    )

pub all_along-along-member-requires : goal.all_along-along-member-requires
all_along-along-member-requires g t c κs within = (
  omega (arith, c.decreases, nodes-at c.args.members.now (c.loop-i.i - 1) c.at.result.now c.at.ensures),
  (
    within,
    (
      named-member (length c.args.lives.now) c.args.members.now (c.loop-i.i - 1) c.at.result.now c.at.ensures
          c.requires.named,
      c.requires.chances,
    ),
  ),
)

pub none_along-along-requires : goal.none_along-along-requires
none_along-along-requires g t c κs within = (
  omega (arith, c.decreases, nodes-at c.args.members.now (c.loop-i.i - 1) c.at.result.now c.at.ensures),
  (
    within,
    (
      named-member (length c.args.lives.now) c.args.members.now (c.loop-i.i - 1) c.at.result.now c.at.ensures
          c.requires.named,
      c.requires.chances,
    ),
  ),
)

pub at_rank-along-member-requires : goal.at_rank-along-member-requires
at_rank-along-member-requires g t c κs within = (
  omega (arith, c.decreases, nodes-at c.args.members.now (c.loop-i.i - 1) c.at.result.now c.at.ensures),
  (
    within,
    (
      named-member (length c.args.lives.now) c.args.members.now (c.loop-i.i - 1) c.at.result.now c.at.ensures
          c.requires.named,
      c.requires.chances,
    ),
  ),
)

pub along-returns-in-Life-clause-chance : goal.along-returns-in-Life-clause-chance
along-returns-in-Life-clause-chance g t c =
    let within : c.from.result < length c.args.lives.now =
    rw c.from.ensures
    (named-life (length c.args.lives.now) c.args.body.now c.in-Life.i c.in-Life.is c.requires.named) in
    let found =
    entry-read c.args.lives.now c.from.result c.index-lives-from.result within ∙ sym c.index-lives-from.is in
    let reads : entry_at c.args.lives.now c.in-Life.i ≡ c.index-lives-from.result = rw c.from.ensures at found in
    rw (c.in-Life.is, tree_of-Life c.in-Life.i)
    (rw reads at (encloses-life c.args.lives.now (is_on c.args.view c.args.t) c.in-Life.i))

pub along-returns-in-Life-clause-within : goal.along-returns-in-Life-clause-within
along-returns-in-Life-clause-within g t c =
    let within : c.from.result < length c.args.lives.now =
    rw c.from.ensures
    (named-life (length c.args.lives.now) c.args.body.now c.in-Life.i c.in-Life.is c.requires.named) in
    let found =
    entry-read c.args.lives.now c.from.result c.index-lives-from.result within ∙ sym c.index-lives-from.is in
    rw found at (c.requires.chances.each c.from.result within)

pub along-returns-in-Life-clause-cost : goal.along-returns-in-Life-clause-cost
along-returns-in-Life-clause-cost g t c = rw (c.in-Life.is, tree_of-Life c.in-Life.i) (cost-leaf c.args.steps.now)

pub along-returns-in-Term-clause-chance : goal.along-returns-in-Term-clause-chance
along-returns-in-Term-clause-chance g t c =
    rw (c.in-Term.is, tree_of-Term c.in-Term.n)
    (encloses-term c.args.lives.now (is_on c.args.view c.args.t) c.in-Term.n c.certain.result
    (rw c.is_on.ensures at c.certain.ensures.chance))

pub along-returns-in-Term-clause-cost : goal.along-returns-in-Term-clause-cost
along-returns-in-Term-clause-cost g t c = rw (c.in-Term.is, tree_of-Term c.in-Term.n) (cost-leaf c.args.steps.now)

pub along-returns-in-Joint-clause-chance : goal.along-returns-in-Joint-clause-chance
along-returns-in-Joint-clause-chance g t c =
    rw (c.in-Joint.is, tree_of-Joint c.in-Joint.members)
    (encloses-joint c.args.lives.now _ _ _ c.all_along.ensures.chance)

pub along-returns-in-Joint-clause-cost : goal.along-returns-in-Joint-clause-cost
along-returns-in-Joint-clause-cost g t c =
    rw (c.in-Joint.is, tree_of-Joint c.in-Joint.members) (cost-list _ _ _ c.all_along.ensures.cost)

pub along-returns-in-Last-clause-chance : goal.along-returns-in-Last-clause-chance
along-returns-in-Last-clause-chance g t c =
    rw (c.in-Last.is, tree_of-Last c.in-Last.members)
    (encloses-last c.args.lives.now _ _ c.none_along.result c.contrary.result c.none_along.ensures.chance
    c.contrary.ensures.chance)

pub along-returns-in-Last-clause-cost : goal.along-returns-in-Last-clause-cost
along-returns-in-Last-clause-cost g t c =
    rw (c.in-Last.is, tree_of-Last c.in-Last.members) (cost-list _ _ _ c.none_along.ensures.cost)

pub along-returns-in-AtLeast-clause-chance : goal.along-returns-in-AtLeast-clause-chance
along-returns-in-AtLeast-clause-chance g t c =
    rw (c.in-AtLeast.is, tree_of-AtLeast c.in-AtLeast.rank c.in-AtLeast.members)
    (encloses-at_least c.args.lives.now _ c.in-AtLeast.rank _ _
    (rw c.from-in-AtLeast.ensures at c.at_rank.ensures.chance))

pub along-returns-in-AtLeast-clause-cost : goal.along-returns-in-AtLeast-clause-cost
along-returns-in-AtLeast-clause-cost g t c =
    rw (c.in-AtLeast.is, tree_of-AtLeast c.in-AtLeast.rank c.in-AtLeast.members)
    (cost-list _ _ _ c.at_rank.ensures.cost)

pub along-returns-in-Exactly-clause-chance : goal.along-returns-in-Exactly-clause-chance
along-returns-in-Exactly-clause-chance g t c =
    rw (c.in-Exactly.is, tree_of-Exactly c.in-Exactly.rank c.in-Exactly.members)
    (encloses-exactly c.args.lives.now _ c.in-Exactly.rank _ _
    (rw c.from-in-Exactly.ensures at c.at_rank-in-Exactly.ensures.chance))

pub along-returns-in-Exactly-clause-cost : goal.along-returns-in-Exactly-clause-cost
along-returns-in-Exactly-clause-cost g t c =
    rw (c.in-Exactly.is, tree_of-Exactly c.in-Exactly.rank c.in-Exactly.members)
    (cost-list _ _ _ c.at_rank-in-Exactly.ensures.cost)

pub along-returns-in-After-clause-chance : goal.along-returns-in-After-clause-chance
along-returns-in-After-clause-chance g t c =
    rw (c.in-After.is, tree_of-After c.in-After.first c.in-After.then)
    (encloses-after c.args.lives.now _ (tree_of c.in-After.first.value) (tree_of c.in-After.then.value) c.along.result
    c.contrary-failed.result c.along-in-After.result c.mul.result (rw c.deref.ensures at c.along.ensures.chance)
    c.contrary-failed.ensures.chance (rw c.deref-in-After.ensures at c.along-in-After.ensures.chance)
    c.mul.ensures.chance)

pub along-returns-in-After-clause-cost : goal.along-returns-in-After-clause-cost
along-returns-in-After-clause-cost g t c =
    rw (c.in-After.is, tree_of-After c.in-After.first c.in-After.then)
    (cost-after _ _ _ _ _ _ (rw c.deref.ensures at c.along.ensures.cost)
    (rw c.deref-in-After.ensures at c.along-in-After.ensures.cost) c.mul.ensures.cost)

pub all_along-loop-i-init : goal.all_along-loop-i-init
all_along-loop-i-init g t c =
    rw (drop-all c.args.members.now c.len-i.result c.len-i.ensures.value) (
      encloses-none c.args.lives.now (is_on c.args.view c.args.t) c.exact-all.result (search rules) (search rules),
      record {
        low =
            rw c.exact-all.ensures.lo (omega (arith, ints));
        high =
            rw c.exact-all.ensures.hi (omega (arith, ints));
      },
      cost-none _ _,
    )

pub all_along-loop-i-preserved : goal.all_along-loop-i-preserved
all_along-loop-i-preserved g t c =
    rw (split-before c.args.members.now c.loop-i.i c.at.result.now c.loop-i-test.true c.at.ensures) (
      all-more c.args.lives.now (is_on c.args.view c.args.t) _ _ c.along-member.result c.loop-i.all c.mul-all.result
          c.along-member.ensures.chance c.loop-i.invariant.0 c.mul-all.ensures.chance,
      c.mul-all.ensures.within c.along-member.ensures.within.high c.loop-i.invariant.1.high,
      cost-member _ _ c.along-member.new.steps _ _ _ _ c.loop-i.invariant.2 c.along-member.ensures.cost
          (omega (arith, c.mul-all.ensures.cost))
          (nodes-at c.args.members.now (c.loop-i.i - 1) c.at.result.now c.at.ensures),
    )

pub none_along-loop-i-init : goal.none_along-loop-i-init
none_along-loop-i-init g t c =
    rw (drop-all c.args.members.now c.len-i.result c.len-i.ensures.value) (
      encloses-none c.args.lives.now (is_on c.args.view c.args.t) c.exact-none.result (search rules) (search rules),
      record {
        low =
            rw c.exact-none.ensures.lo (omega (arith, ints));
        high =
            rw c.exact-none.ensures.hi (omega (arith, ints));
      },
      cost-none _ _,
    )

pub none_along-loop-i-preserved : goal.none_along-loop-i-preserved
none_along-loop-i-preserved g t c =
    rw (split-before c.args.members.now c.loop-i.i c.at.result.now c.loop-i-test.true c.at.ensures) (
      none-more c.args.lives.now (is_on c.args.view c.args.t) _ _ c.along.result c.contrary-member.result c.loop-i.none
          c.mul-none.result c.along.ensures.chance c.contrary-member.ensures.chance c.loop-i.invariant.0
          c.mul-none.ensures.chance,
      c.mul-none.ensures.within c.contrary-member.ensures.within.high c.loop-i.invariant.1.high,
      cost-member _ _ c.along.new.steps _ _ _ _ c.loop-i.invariant.2 c.along.ensures.cost
          (omega (arith, c.mul-none.ensures.cost))
          (nodes-at c.args.members.now (c.loop-i.i - 1) c.at.result.now c.at.ensures),
    )

pub at_rank-loop-i-init : goal.at_rank-loop-i-init
at_rank-loop-i-init g t c =
    rw (drop-all c.args.members.now c.len-i.result c.len-i.ensures.value) (
      table-none c.args.lives.now (is_on c.args.view c.args.t) c.args.exact c.args.place c.table_of_none-table.result
          (λ place within.
          c.table_of_none-table.ensures.chances place (omega (arith, c.if-place-len.false, c.len.ensures.few))),
      c.table_of_none-table.ensures.within,
      cost-none _ _,
    )

pub at_rank-loop-i-preserved : goal.at_rank-loop-i-preserved
at_rank-loop-i-preserved g t c =
    rw (split-before c.args.members.now c.loop-i.i c.at.result.now c.loop-i-test.true c.at.ensures) (
      table-more c.args.lives.now (is_on c.args.view c.args.t) c.args.exact c.args.place _ _ c.along-member.result
          c.loop-i.table c.with_member-table.result c.loop-i.invariant.0 c.along-member.ensures.chance
          c.with_member-table.ensures.next c.with_member-table.ensures.first,
      c.with_member-table.ensures.within,
      cost-member _ _ c.along-member.new.steps _ _ _ _ c.loop-i.invariant.2 c.along-member.ensures.cost
          (omega (
            arith,
            c.with_member-table.ensures.cost,
            c.if-place-len.false,
            c.len.ensures.value,
            length-nodes c.args.members.now,
          ))
          (nodes-at c.args.members.now (c.loop-i.i - 1) c.at.result.now c.at.ensures),
    )

pub at_rank-returns-clause-chance : goal.at_rank-returns-clause-chance
at_rank-returns-clause-chance g t c =
    let seen : c.loop-i.i ≡ 0 = omega (arith, c.loop-i-test.false) in
    let table = rw seen at c.loop-i.invariant.0 in
    rw (← entry-read c.loop-i.table c.args.place c.index-table-place.result
    (omega (arith, c.loop-i.invariant.1.room, c.if-place-len.false, c.len.ensures.few)))
    (table-at c.args.lives.now (is_on c.args.view c.args.t) c.args.exact c.args.place (trees_in c.args.members.now)
    c.loop-i.table table)

pub at_rank-returns-then-place-len-clause-chance : goal.at_rank-returns-then-place-len-clause-chance
at_rank-returns-then-place-len-clause-chance g t c =
    encloses-above c.args.lives.now (is_on c.args.view c.args.t) c.args.exact c.args.place (trees_in c.args.members.now)
    c.exact.result (omega (arith, c.if-place-len.true, c.len.ensures.value, member_count-trees_in c.args.members.now))
    (search rules) (search rules)

pub at_rank-returns-then-place-len-clause-cost : goal.at_rank-returns-then-place-len-clause-cost
at_rank-returns-then-place-len-clause-cost g t c = cost-nothing _ _ _
