-- Two lives share nothing, so either can be marked.
use Rattle.std.proofs.Common.{◌≡◌, ◌≢◌, ◌≤◌, ◌∙◌, ◌∷◌, [], ℕ, zero, suc, List, arith, refl, rules, sym}
use Rattle.std.proofs.lemmas.Bool.{eqb-true}
use Rattle.halo_status.specs.StatusTree.{tree_of}
use Rattle.halo_status.specs.Tree.{Tree, Trees, life, joint, none, more}
use Rattle.halo_status.specs.ValidPay.{AreApart, CanBeMarked, SharesNothing}
use Rattle.halo_status.specs.declared.status.Status.{Status, Joint, Life}
use Rattle.halo_status.proofs.Shapes.{tree_of-Joint, tree_of-Life}
use Rattle.halo_tests.proofs.pays.insurance_at.Goals as goal

-- the two lives
abbrev both : Trees
both = more (life 0) (more (life 1) none)

-- two different lives share nothing
lives_differ : (i j : ℕ) → i ≢ j → SharesNothing (life i) (life j)
lives_differ i j differ = record {
  lives = λ k is_i is_j. differ (sym (eqb-true k i is_i) ∙ eqb-true k j is_j);
  terms = λ n named. absurd cc;
}

-- nor do two statuses that are such lives
differ_as : (i j : ℕ) → i ≢ j → (s t : Tree) → life i ≡ s → life j ≡ t → SharesNothing s t
differ_as i j differ s t is_s is_t = rw (sym is_s, sym is_t) (lives_differ i j differ)

-- the members at two different places share nothing
both_apart : AreApart both
both_apart zero zero s t differ at_s at_t = absurd (differ refl)
both_apart zero (suc zero) s t differ at_s at_t =
    let first : life 0 ≡ s = cc in let second : life 1 ≡ t = cc in differ_as 0 1 (omega arith) s t first second
both_apart (suc zero) zero s t differ at_s at_t =
    let first : life 1 ≡ s = cc in let second : life 0 ≡ t = cc in differ_as 1 0 (omega arith) s t first second
both_apart (suc zero) (suc zero) s t differ at_s at_t = absurd (differ refl)
both_apart zero (suc (suc q)) s t differ at_s at_t = absurd cc
both_apart (suc zero) (suc (suc q)) s t differ at_s at_t = absurd cc
both_apart (suc (suc p)) q s t differ at_s at_t = absurd cc

-- either life can be marked, as the first or the second to leave
can_be_marked : (member rank : ℕ) → member ≤ 1 → 1 ≤ rank → rank ≤ 2
    → CanBeMarked (joint both) (record { member = member; rank = rank })
can_be_marked member rank within from to = record {
  member = omega arith;
  rank = (from, to);
  apart = both_apart;
}

-- the status of the two lives in memory
tree_of_both : (members : List Status) → members ≡ Life 0 ∷ Life 1 ∷ []
    → tree_of (Joint members) ≡ joint both
tree_of_both members is = tree_of-Joint members ∙ rw is (rw (tree_of-Life 0, tree_of-Life 1) refl)

pub returns : goal.returns
returns g c =
    let body = tree_of_both c.in_ok-first_and.field-0 c.in_ok-first_and.ensures in
    rw body (
      record {
        amount_from = omega arith;
        amount_in = omega arith;
        defer_in = omega arith;
        vary = search rules;
        lengths = search rules;
        lists = search rules;
        few_nodes = search rules;
        ranks = search rules;
        lasting = search rules;
        causes = search rules;
        mark = (refl, can_be_marked c.args.mark.member c.args.mark.rank (omega arith) (omega arith) (omega arith));
      },
      search rules,
      search rules,
      refl,
    )
