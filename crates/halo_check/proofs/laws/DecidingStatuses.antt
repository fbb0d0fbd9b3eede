-- What statuses keep can be told: ranks, lasting nodes, and members that share nothing.
use Rattle.std.proofs.Common.{◌≡◌, ℕ, Bool, true, IsTrue, Option, Some, None, inl, inr, refl, subst}
use Rattle.std.specs.Prelude.{◌||◌, nat_eq}
use Rattle.std.proofs.Math.Bool.{Bool-discrete}
use Rattle.std.proofs.Math.Decide.{map_dec, dec_le}
use Rattle.std.proofs.Math.Logic.Dec
use Rattle.std.proofs.lemmas.Bool.{eq-eqb, eqb-true, or_cases, or_left, or_right}
use Rattle.halo_status.specs.Naming.{any_names_life, any_names_term, names_life, names_term}
use Rattle.halo_status.specs.Nodes.{AtEachNode, AtEachNodeIn, IsLasting, NeverReturns}
use Rattle.halo_status.specs.Tree.{Tree, Trees, after, at_least, exactly, joint, last, life, member_at, member_count, more, none, term}
use Rattle.halo_status.specs.ValidPay.{AreApart, HasRank, IsRank, SharesNothing}
use Rattle.halo_check.specs.Checks.{OfMembers}
use Rattle.halo_check.specs.Sharing.{AreApartAt, IsApartAt}
use Rattle.halo_check.proofs.ApartStatuses.{apart_at_each, apart_before}
use Rattle.halo_check.proofs.laws.Deciding.{dec_each, dec_three}

-- a fact of each node of a status
module _ (P : Tree → Type 0) (node : (s : Tree) → Dec (P s)) where
  mutual
    dec_at_each_node : (s : Tree) → Dec (AtEachNode P s)
    dec_at_each_node (life i) = node (life i)
    dec_at_each_node (term n) = node (term n)
    dec_at_each_node (joint ms) = Dec.and (node (joint ms)) (dec_at_each_node_in ms)
    dec_at_each_node (last ms) = Dec.and (node (last ms)) (dec_at_each_node_in ms)
    dec_at_each_node (at_least r ms) = Dec.and (node (at_least r ms)) (dec_at_each_node_in ms)
    dec_at_each_node (exactly r ms) = Dec.and (node (exactly r ms)) (dec_at_each_node_in ms)
    dec_at_each_node (after s t) = dec_three (node (after s t)) (dec_at_each_node s) (dec_at_each_node t)

    dec_at_each_node_in : (ms : Trees) → Dec (AtEachNodeIn P ms)
    dec_at_each_node_in none = yes tt
    dec_at_each_node_in (more s ms) = Dec.and (dec_at_each_node s) (dec_at_each_node_in ms)

-- a rank among so many members
pub dec_rank : (r members : ℕ) → Dec (IsRank r members)
dec_rank r members = Dec.and (dec_le 1 r) (dec_le r members)

-- a node whose number is a rank among its members
dec_has_rank : (s : Tree) → Dec (HasRank s)
dec_has_rank (at_least r ms) = dec_rank r (member_count ms)
dec_has_rank (exactly r ms) = dec_rank r (member_count ms)
dec_has_rank _ = yes tt

-- a status whose numbers are such
pub dec_ranks : (s : Tree) → Dec (AtEachNode HasRank s)
dec_ranks s = dec_at_each_node HasRank dec_has_rank s

-- a node by which a status can never come back
dec_never_returns : (s : Tree) → Dec (NeverReturns s)
dec_never_returns (exactly r ms) = no (λ never. never)
dec_never_returns (after s t) = no (λ never. never)
dec_never_returns _ = yes tt

-- a lasting status
pub dec_lasting : (s : Tree) → Dec (IsLasting s)
dec_lasting s = dec_at_each_node NeverReturns dec_never_returns s

-- no number passes both tests
abbrev IsApart : (ℕ → Bool) → (ℕ → Bool) → Type 0
IsApart first test = (i : ℕ) → IsTrue (first i) → IsTrue (test i) → ⊥

-- none passes one of two tests and a third
dec_apart_either : (first second test : ℕ → Bool) → Dec (IsApart first test) → Dec (IsApart second test)
    → Dec (IsApart (λ i. first i || second i) test)
dec_apart_either first second test a b = map_dec
    (λ both i passes. elim (or_cases (first i) (second i) passes)
    [ inl here ↦ both.0 i here | inr there ↦ both.1 i there ])
    (λ apart. (
      λ i here. apart i (or_left (first i) (second i) here),
      λ i there. apart i
          (or_right (first i) (second i) there),
    ))
    (Dec.and a b)

-- none that passes the test is this number
dec_apart_one : (test : ℕ → Bool) (j : ℕ) → Dec (IsApart (λ i. nat_eq i j) test)
dec_apart_one test j = map_dec
    (λ fails i is passes. fails (subst (λ k. IsTrue (test k)) (eqb-true i j is) passes))
    (λ apart passes. apart j (eq-eqb j j refl) passes)
    (Dec.not (Bool-discrete (test j) true))

-- a status names no life that passes a test, and no term
module _ (test : ℕ → Bool) where
  mutual
    dec_no_life : (s : Tree) → Dec (IsApart (λ i. names_life i s) test)
    dec_no_life (life j) = dec_apart_one test j
    dec_no_life (term n) = yes (λ i named. cc)
    dec_no_life (joint ms) = dec_no_life_in ms
    dec_no_life (last ms) = dec_no_life_in ms
    dec_no_life (at_least r ms) = dec_no_life_in ms
    dec_no_life (exactly r ms) = dec_no_life_in ms
    dec_no_life (after s t) =
        dec_apart_either (λ i. names_life i s) (λ i. names_life i t) test (dec_no_life s) (dec_no_life t)

    dec_no_life_in : (ms : Trees) → Dec (IsApart (λ i. any_names_life i ms) test)
    dec_no_life_in none = yes (λ i named. cc)
    dec_no_life_in (more s ms) =
        dec_apart_either (λ i. names_life i s) (λ i. any_names_life i ms) test (dec_no_life s) (dec_no_life_in ms)

  mutual
    dec_no_term : (s : Tree) → Dec (IsApart (λ n. names_term n s) test)
    dec_no_term (life i) = yes (λ n named. cc)
    dec_no_term (term m) = dec_apart_one test m
    dec_no_term (joint ms) = dec_no_term_in ms
    dec_no_term (last ms) = dec_no_term_in ms
    dec_no_term (at_least r ms) = dec_no_term_in ms
    dec_no_term (exactly r ms) = dec_no_term_in ms
    dec_no_term (after s t) =
        dec_apart_either (λ n. names_term n s) (λ n. names_term n t) test (dec_no_term s) (dec_no_term t)

    dec_no_term_in : (ms : Trees) → Dec (IsApart (λ n. any_names_term n ms) test)
    dec_no_term_in none = yes (λ n named. cc)
    dec_no_term_in (more s ms) =
        dec_apart_either (λ n. names_term n s) (λ n. any_names_term n ms) test (dec_no_term s) (dec_no_term_in ms)

-- two statuses share nothing
dec_shares_nothing : (s t : Tree) → Dec (SharesNothing s t)
dec_shares_nothing s t = map_dec (λ h. record { lives = h.0; terms = h.1 }) (λ apart. (apart.lives, apart.terms))
    (Dec.and (dec_no_life (λ i. names_life i t) s) (dec_no_term (λ n. names_term n t) s))

-- the members at two places share nothing, where there are such
dec_apart_at : (first second : Option Tree) → Dec ((s t : Tree) → first ≡ Some s → second ≡ Some t → SharesNothing s t)
dec_apart_at None second = yes (λ s t at_s at_t. absurd cc)
dec_apart_at (Some s) None = yes (λ u v at_u at_v. absurd cc)
dec_apart_at (Some s) (Some t) =
    map_dec (λ apart u v at_u at_v. let same : s ≡ u = cc in let also : t ≡ v = cc in rw (same, also) at apart)
    (λ each. each s t refl refl) (dec_shares_nothing s t)

-- no two members share anything
pub dec_apart : (ms : Trees) → Dec (AreApart ms)
dec_apart ms = map_dec (λ each. apart_at_each ms each) (λ apart later within. apart_before ms apart later)
    (dec_each (IsApartAt ms) (λ later. dec_each (λ earlier. AreApartAt ms earlier later)
    (λ earlier. dec_apart_at (member_at ms earlier) (member_at ms later)) later) (member_count ms))

-- a fact of the members of a joint status
pub dec_of_members : (P : Trees → Type 0) → ((ms : Trees) → Dec (P ms)) → (s : Tree) → Dec (OfMembers P s)
dec_of_members P members (joint ms) = members ms
dec_of_members P members _ = yes tt
