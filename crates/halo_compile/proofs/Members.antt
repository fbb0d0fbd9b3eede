-- The members of a status, one by one.
use Rattle.std.proofs.Common.{◌≡◌, ℕ, zero, suc, ◌+◌, ◌-◌, ◌≤◌, arith, refl, ap, ◌∙◌, List, [], ◌∷◌, length, get_or, Bool, true, false, ◌&&◌, nat_eq, slice_get, Some}
use Rattle.std.proofs.lemmas.Bool.{false≢true}
use Rattle.std.proofs.lemmas.Bool.Decides.{nat_tests}
use Rattle.halo_status.specs.declared.status.Status.{Status}
use Rattle.halo_status.specs.Exists.{each_exists, exists}
use Rattle.halo_sums.specs.Sums.{count_true}
use Rattle.halo_status.specs.StatusTree.{tree_of, trees_in}
use Rattle.halo_status.specs.declared.pay.Mark.{Mark}
use Rattle.halo_model.specs.Coefficient.{waits_at_rank}

-- a member that exists is one of those that do
some_counted : (bs : List Bool) (place : ℕ) → get_or bs place false ≡ true → 1 ≤ count_true bs
some_counted [] place e = absurd (false≢true e)
some_counted (true ∷ bs) place e = omega arith
some_counted (false ∷ bs) zero e = absurd (false≢true e)
some_counted (false ∷ bs) (suc place) e = some_counted bs place e

one_less : (c others : ℕ) → 1 ≤ c → nat_eq c (others + 1) ≡ nat_eq (c - 1) others
one_less c others h = grind (arith, nat_tests)

-- where the marked member exists, all that exist are one more than the others
with_others : (there : Bool) (c others : ℕ) → (there ≡ true → 1 ≤ c)
    → (there && nat_eq c (others + 1)) ≡ (there && nat_eq (c - 1) others)
with_others true c others h = one_less c others (h refl)
with_others false c others h = refl

pub waiting : (mark : Mark) (bs : List Bool) (others : ℕ) (there counted : Bool) → others ≡ length bs - mark.rank
    → there ≡ get_or bs mark.member false → counted ≡ nat_eq (count_true bs) (others + 1)
    → (there && counted) ≡ waits_at_rank mark bs
waiting mark bs others there counted o t e =
    rw (t, e) (with_others (get_or bs mark.member false) (count_true bs) others (some_counted bs mark.member))
    ∙ ap (λ n. get_or bs mark.member false && nat_eq (count_true bs - 1) n) o

module _ (alive on : ℕ → Bool) where
  -- the member at a place
  pub member_there : (ms : List Status) (i : ℕ) (m : Status) → slice_get ms i ≡ Some m
      → get_or (each_exists alive on (trees_in ms)) i false ≡ exists alive on (tree_of m)
  member_there [] i m h = absurd (cc)
  member_there (s ∷ ms) zero m h = let q : s ≡ m = grind arith in rw q refl
  member_there (s ∷ ms) (suc i) m h = member_there ms i m h

  pub no_member_there : (ms : List Status) (i : ℕ) → length ms ≤ i
      → get_or (each_exists alive on (trees_in ms)) i false ≡ false
  no_member_there [] i h = refl
  no_member_there (s ∷ ms) zero h = absurd (omega arith)
  no_member_there (s ∷ ms) (suc i) h = no_member_there ms i (omega arith)
