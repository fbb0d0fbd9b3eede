-- With no life there and no term on, no status exists that asks for at least one of its members.
use Rattle.std.proofs.Common.{◌≡◌, ℕ, ◌≤◌, arith, refl, Bool, true, false, List, [], ◌∷◌, nat_eq, nat_le}
use Rattle.std.specs.List.{list_all, list_any}
use Rattle.std.proofs.lemmas.Bool.Decides.{nat_tests}
use Rattle.halo_status.specs.Tree.{Tree, Trees, life, term, joint, last, at_least, exactly, after, none, more, member_count}
use Rattle.halo_status.specs.Exists.{exists, each_exists, empty_set}
use Rattle.halo_sums.specs.Sums.{count_true}
use Rattle.halo_status.specs.Nodes.{AsksForSome, AtEachNodeIn, HasPositiveRanks, HasShortList, HasShortLists}

-- none of a list is true
abbrev NoneTrue : List Bool → Type 0
NoneTrue [] = Unit {0}
NoneTrue (b ∷ bs) = (b ≡ false) × NoneTrue bs

-- then not one is true, their number is 0, and it is no number of at least 1
any_false : (bs : List Bool) → NoneTrue bs → list_any (λ b. b) bs ≡ false
any_false [] h = refl
any_false (true ∷ bs) h = absurd (let e : true ≡ false = h.0 in cc)
any_false (false ∷ bs) h = any_false bs h.1

count_true-zero : (bs : List Bool) → NoneTrue bs → count_true bs ≡ 0
count_true-zero [] h = refl
count_true-zero (true ∷ bs) h = absurd (let e : true ≡ false = h.0 in cc)
count_true-zero (false ∷ bs) h = count_true-zero bs h.1

too_few : (r n : ℕ) → 1 ≤ r → n ≡ 0 → nat_le r n ≡ false
too_few r n h e = grind (arith, nat_tests)

not_so_many : (r n : ℕ) → 1 ≤ r → n ≡ 0 → nat_eq n r ≡ false
not_so_many r n h e = grind (arith, nat_tests)

-- the first of at least one member does not exist
not_all : (ms : Trees) → 1 ≤ member_count ms → NoneTrue (each_exists empty_set empty_set ms)
    → list_all (λ b. b) (each_exists empty_set empty_set ms) ≡ false
not_all none some h = absurd (omega arith)
not_all (more s ms) some h = rw h.0

mutual
  pub nobody_there : (s : Tree) → HasShortLists s → HasPositiveRanks s → exists empty_set empty_set s ≡ false
  nobody_there (life i) lists ranks = refl
  nobody_there (term n) lists ranks = refl
  nobody_there (joint ms) lists ranks = not_all ms lists.0.0 (no_member ms lists.1 ranks.1)
  nobody_there (last ms) lists ranks = any_false _ (no_member ms lists.1 ranks.1)
  nobody_there (at_least r ms) lists ranks = too_few r _ ranks.0 (count_true-zero _ (no_member ms lists.1 ranks.1))
  nobody_there (exactly r ms) lists ranks = not_so_many r _ ranks.0 (count_true-zero _ (no_member ms lists.1 ranks.1))
  nobody_there (after s t) lists ranks = rw (nobody_there t lists.2 ranks.2)

  no_member : (ms : Trees) → AtEachNodeIn HasShortList ms → AtEachNodeIn AsksForSome ms
      → NoneTrue (each_exists empty_set empty_set ms)
  no_member none lists ranks = tt
  no_member (more s ms) lists ranks = (nobody_there s lists.0 ranks.0, no_member ms lists.1 ranks.1)
