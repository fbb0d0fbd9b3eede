-- Statuses that share nothing, from the masks of their lives and from the pairs of members.
use Rattle.std.proofs.Common.{◌≡◌, ◌≢◌, ◌⊎◌, ◌↔◌, ℕ, ◌<◌, ◌≤◌, bit_and, min, nat_eq, List, slice_get, Bool, true, false, IsTrue, Some, ap, sym, ◌∙◌, arith, inl, inr}
use Rattle.std.specs.Int.{bit_at}
use Rattle.std.proofs.Math.Bool.{or-true}
use Rattle.std.proofs.lemmas.Bool.{cases_lt, eqb-true, or_cases}
use Rattle.std.proofs.lemmas.Bool.Decides.{nat_tests}
use Rattle.std.proofs.lemmas.Nat.Bits.{bit_at_and, bit_at-zero, same_from_bits}
use Rattle.halo_status.specs.Tree.{Tree, Trees, member_at, member_count, more}
use Rattle.halo_status.specs.StatusTree.{tree_of, trees_in}
use Rattle.halo_status.specs.declared.status.Status.{Status}
use Rattle.halo_status.specs.ValidPay.{AreApart, SharesNothing}
use Rattle.halo_sums.specs.Masks.{has_bit}
use Rattle.halo_check.specs.Sharing.{AreApartAt, IsApartAt, SharesNoTerm, ShareNoTerm}
use Rattle.halo_check.proofs.MembersAt.{member_at-lt, member_at-trees_in}

bit_of : (mask i : ℕ) → has_bit mask i ≡ true → bit_at mask i ≡ 1
bit_of mask i h = eqb-true _ _ h

-- where two masks have no bit in common, no number is in both sets
pub masks_apart : (a b : ℕ) → bit_and a b ≡ 0 → (i : ℕ) → has_bit a i ≡ true → has_bit b i ≡ true → ⊥
masks_apart a b none i in_a in_b =
    let both = bit_at_and a b i in
    let nothing = ap (λ n. bit_at n i) none ∙ bit_at-zero i in
    absurd (omega (arith, both, nothing, bit_of a i in_a, bit_of b i in_b))

-- and the other way round
pub apart_masks : (a b : ℕ) → ((i : ℕ) → has_bit a i ≡ true → has_bit b i ≡ true → ⊥) → bit_and a b ≡ 0
apart_masks a b apart = same_from_bits (bit_and a b) 0 (λ i. bit_at_and a b i ∙ not_both i ∙ sym (bit_at-zero i))
  where
    one_less : (x y : ℕ) → x < 2 → y < 2 → (nat_eq x 1 ≡ true → nat_eq y 1 ≡ true → ⊥) → min x y ≡ 0
    one_less x y f g h = grind (arith, nat_tests)

    bit_at-lt : (n i : ℕ) → bit_at n i < 2
    bit_at-lt n i = omega arith

    not_both : (i : ℕ) → min (bit_at a i) (bit_at b i) ≡ 0
    not_both i = one_less _ _ (bit_at-lt a i) (bit_at-lt b i) (apart i)

-- a first member and those behind it share no term with a status where each of them does not
pub ShareNoTerm-more : (t s : Tree) (ms : Trees) → ShareNoTerm (more s ms) t ↔ (SharesNoTerm s t × ShareNoTerm ms t)
ShareNoTerm-more t s ms = (
  (λ none. ((λ n named. none n (rw named)), (λ n named. none n (rw (named, or-true _))))),
  (λ both n named. elim (or_cases _ _ named) [ inl first ↦ both.0 n first | inr rest ↦ both.1 n rest ]),
)

-- two members in memory share nothing where a test tells so
module _ (ss : List Status) (p q : ℕ) (s t : Status) (at_p : slice_get ss p ≡ Some s) (at_q : slice_get ss q ≡ Some t)
    (b : Bool) (tells : IsTrue b ↔ SharesNothing (tree_of s) (tree_of t)) where
  pub apart_at : b ≡ true → AreApartAt (trees_in ss) p q
  apart_at passed u v at_u at_v =
      let s_is : tree_of s ≡ u = cc (member_at-trees_in ss p s at_p) in
      let t_is : tree_of t ≡ v = cc (member_at-trees_in ss q t at_q) in
      rw (s_is, t_is) at (tells.0 passed)

  pub not_apart_at : b ≡ false → AreApartAt (trees_in ss) p q → IsTrue false
  not_apart_at failed apart =
      sym failed ∙ tells.1 (apart _ _ (member_at-trees_in ss p s at_p) (member_at-trees_in ss q t at_q))

turned : (s t : Tree) → SharesNothing s t → SharesNothing t s
turned s t apart =
    record { lives = (λ i in_t in_s. apart.lives i in_s in_t); terms = (λ n in_t in_s. apart.terms n in_s in_t) }

-- members are apart where each shares nothing with those before it
module _ (ms : Trees) where
  by_order : ((later : ℕ) → later < member_count ms → IsApartAt ms later) → (p q : ℕ) (s t : Tree)
      → member_at ms p ≡ Some s → member_at ms q ≡ Some t → p ≢ q → (p < q) ⊎ (q ≤ p) → SharesNothing s t
  by_order each p q s t at_p at_q differ (inl before) = each q (member_at-lt ms q t at_q) p before s t at_p at_q
  by_order each p q s t at_p at_q differ (inr behind) =
      turned t s (each p (member_at-lt ms p s at_p) q (omega arith) t s at_q at_p)

  pub apart_at_each : ((later : ℕ) → later < member_count ms → IsApartAt ms later) → AreApart ms
  apart_at_each each p q s t differ at_p at_q = by_order each p q s t at_p at_q differ (cases_lt p q)

  pub apart_before : AreApart ms → (later : ℕ) → IsApartAt ms later
  apart_before apart later earlier before s t at_earlier at_later =
      apart earlier later s t (λ same. absurd (omega (arith, same))) at_earlier at_later
