-- How many members exist, and what that says of all of them and of at least one.
use Rattle.std.proofs.Common.{◌≡◌, ℕ, suc, ◌+◌, ◌<◌, ◌≤◌, List, [], ◌∷◌, length, get_or, drop, Bool, true, false, nat_eq, nat_lt, refl, ap, arith, ◌∙◌}
use Rattle.std.specs.List.{list_all, list_any}
use Rattle.std.proofs.lemmas.Bool.Decides.{nat_tests}
use Rattle.halo_status.specs.declared.status.Status.{Status}
use Rattle.halo_status.specs.Exists.{exists, each_exists}
use Rattle.halo_sums.specs.Sums.{count_true}
use Rattle.halo_status.specs.StatusTree.{tree_of, trees_in}
use Rattle.halo_status.specs.Tree.{joint, last}
use Rattle.halo_status.proofs.Walk.{left_at}

-- no more are true than there are
pub count_true-le-length : (bs : List Bool) → count_true bs ≤ length bs
count_true-le-length [] = omega arith
count_true-le-length (true ∷ bs) = omega (arith, count_true-le-length bs)
count_true-le-length (false ∷ bs) = omega (arith, count_true-le-length bs)

-- each member either exists or does not
pub length-each_exists : (alive on : ℕ → Bool) (ss : List Status)
    → length (each_exists alive on (trees_in ss)) ≡ length ss
length-each_exists alive on [] = refl
length-each_exists alive on (s ∷ ss) = ap suc (length-each_exists alive on ss)

one_short : (n m : ℕ) → n ≤ m → nat_eq n (suc m) ≡ false
one_short n m h = grind (arith, nat_tests)

nat_eq-suc-suc : (n m : ℕ) → nat_eq (suc n) (suc m) ≡ nat_eq n m
nat_eq-suc-suc n m = grind (arith, nat_tests)

-- all are true where as many are true as there are
all_counted : (bs : List Bool) → nat_eq (count_true bs) (length bs) ≡ list_all (λ b. b) bs
all_counted [] = refl
all_counted (true ∷ bs) = nat_eq-suc-suc _ _ ∙ all_counted bs
all_counted (false ∷ bs) = one_short _ _ (count_true-le-length bs)

positive : (n : ℕ) → nat_lt 0 (suc n) ≡ true
positive n = grind (arith, nat_tests)

-- some are true where the count is not 0
any_counted : (bs : List Bool) → nat_lt 0 (count_true bs) ≡ list_any (λ b. b) bs
any_counted [] = refl
any_counted (true ∷ bs) = positive _
any_counted (false ∷ bs) = any_counted bs

-- where so many members exist, joint life and last survivor are decided by that number
module _ (alive on : ℕ → Bool)
    (ss : List Status) (count : ℕ) (counted : count ≡ count_true (each_exists alive on (trees_in ss))) where
  pub joint_exists : (members : ℕ) → members ≡ length ss → nat_eq count members ≡ exists alive on (joint (trees_in ss))
  joint_exists members e =
      rw (counted, e, ← length-each_exists alive on ss) (all_counted (each_exists alive on (trees_in ss)))

  pub last_exists : nat_lt 0 count ≡ exists alive on (last (trees_in ss))
  last_exists = rw counted (any_counted (each_exists alive on (trees_in ss)))

-- one more can be counted where one that exists is left
pub count_has_room : (alive on : ℕ → Bool) (ss : List Status) (i : ℕ) (s : Status) (count : ℕ)
    → i < length ss → s ≡ get_or ss i s
    → exists alive on (tree_of s) ≡ true
    → count + count_true (each_exists alive on (trees_in (drop i ss))) ≡ count_true (each_exists alive on (trees_in ss))
    → count < length ss
count_has_room alive on ss i s count h e there counted =
    let left = rw (left_at ss i s h e, there) at counted in
    omega (arith, left, count_true-le-length (each_exists alive on (trees_in ss)), length-each_exists alive on ss)
