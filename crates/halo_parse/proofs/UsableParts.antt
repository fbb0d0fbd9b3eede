-- The parts of what is usable are usable.
use Rattle.std.proofs.Common.{◌≡◌, ℕ, zero, suc, ◌<◌, List, [], ◌∷◌, length, get_or, subst, sym, arith}
use Rattle.halo_symbol.specs.Tree as plain
use Rattle.halo_symbol.specs.Tree.{last, at_least, exactly, group, list, reversion}
use Rattle.halo_symbol.specs.View.{plain_node, members_of}
use Rattle.halo_symbol.specs.declared.tree.Node.{Node}
use Rattle.halo_parse.specs.Usable.{AreUsable, IsUsable, IsUsableBody}

module _ (lives : List (List ℕ)) where
  pub usable-last : (m : plain.Node) (ms : plain.Members) → m ≡ last ms → IsUsable lives m → AreUsable lives ms
  usable-last m ms is whole =
      let u = subst (IsUsable lives) is whole in
      record { proper = u.proper; few = u.within.1; within = u.within.2; declared = u.declared.2 }

  pub usable-at_least : (m : plain.Node) (rank : List ℕ) (ms : plain.Members) → m ≡ at_least rank ms → IsUsable lives m
      → AreUsable lives ms
  usable-at_least m rank ms is whole =
      let u = subst (IsUsable lives) is whole in
      record { proper = u.proper.1; few = u.within.1; within = u.within.2; declared = u.declared.2 }

  pub usable-exactly : (m : plain.Node) (rank : List ℕ) (ms : plain.Members) → m ≡ exactly rank ms → IsUsable lives m
      → AreUsable lives ms
  usable-exactly m rank ms is whole =
      let u = subst (IsUsable lives) is whole in
      record { proper = u.proper.1; few = u.within.1; within = u.within.2; declared = u.declared.2 }

  pub usable-group : (m : plain.Node) (body : plain.Body) → m ≡ group body → IsUsable lives m → IsUsableBody lives body
  usable-group m body is whole =
      let u = subst (IsUsable lives) is whole in
      record { proper = u.proper; within = u.within.1; declared = u.declared.1 }

  pub usable-list : (body : plain.Body) (ms : plain.Members) → body ≡ list ms → IsUsableBody lives body
      → AreUsable lives ms
  usable-list body ms is whole =
      let u = subst (IsUsableBody lives) is whole in
      record { proper = u.proper; few = u.within.0; within = u.within.1; declared = u.declared.1 }

  module _ (body : plain.Body) (ms ns : plain.Members) (is : body ≡ reversion ms ns) (whole : IsUsableBody lives body)
    where
      both : IsUsableBody lives (reversion ms ns)
      both = subst (IsUsableBody lives) is whole

      pub usable-first : AreUsable lives ms
      usable-first =
          let u = both in
          record { proper = u.proper.0; few = u.within.0.0; within = u.within.0.1; declared = u.declared.0.1 }

      pub usable-then : AreUsable lives ns
      usable-then =
          let u = both in record { proper = u.proper.1; few = u.within.1; within = u.within.2; declared = u.declared.2 }

  -- the first of some members
  pub usable-front : (first : plain.Node) (ms : List Node) → AreUsable lives (members_of first ms)
      → IsUsable lives first
  usable-front first [] u = record { proper = u.proper; within = u.within; declared = u.declared }
  usable-front first (m ∷ ms) u = record { proper = u.proper.0; within = u.within.0; declared = u.declared.0 }

  behind : (first : plain.Node) (m : Node) (ms : List Node) → AreUsable lives (members_of first (m ∷ ms))
      → AreUsable lives (members_of (plain_node m) ms)
  behind first m ms u =
      record { proper = u.proper.1; few = let few = u.few in omega arith; within = u.within.1; declared = u.declared.1 }

  -- and each behind it
  pub usable-other : (first : plain.Node) (ms : List Node) (k : ℕ) (m : Node) → k < length ms → m ≡ get_or ms k m
      → AreUsable lives (members_of first ms) → IsUsable lives (plain_node m)
  usable-other first [] k m here is u = absurd (omega arith)
  usable-other first (o ∷ ms) zero m here is u =
      subst (λ n. IsUsable lives (plain_node n)) (sym is) (usable-front (plain_node o) ms (behind first o ms u))
  usable-other first (o ∷ ms) (suc k) m here is u =
      usable-other (plain_node o) ms k m (omega arith) is (behind first o ms u)
