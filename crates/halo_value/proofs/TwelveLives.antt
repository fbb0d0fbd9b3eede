-- An insurance of 1 on twelve lives that pays if the first of them leaves first.
use Rattle.std.proofs.Common.{◌≡◌, ℕ, zero, suc, ◌+◌, ◌<◌, nat_eq, true, None, Some, List, [], ◌∷◌, ◌++◌, length}
use Rattle.std.proofs.Common.{⊎_elim, ap, arith, lit<, lit≤, refl, sym}
use Rattle.std.proofs.lemmas.Bool.{eqb-true}
use Rattle.halo_status.specs.Naming.{NamesLivesBelow, any_names_life}
use Rattle.halo_status.specs.Nodes.{AtEachNodeIn, HasShortList, NeverReturns}
use Rattle.halo_status.specs.StatusTree.{trees_in}
use Rattle.halo_status.specs.Tree.{Tree, Trees, joint, life, member_at, more, none}
use Rattle.halo_status.specs.ValidPay.{AreApart, HasLength, HasRank, IsValidPay}
use Rattle.halo_status.specs.declared.pay.Kind.TheVariants.{Insurance}
use Rattle.halo_status.specs.declared.pay.Vary.TheVariants.{Level}
use Rattle.halo_status.specs.declared.status.Status.{Status, Life}
use Rattle.halo_status.proofs.Shapes.{tree_of-Life}
use Rattle.halo_value.proofs.ShortTerms.{either}

-- so many lives, from one on
abbrev pub lives_from : ℕ → ℕ → Trees
lives_from first zero = none
lives_from first (suc count) = more (life first) (lives_from (suc first) count)

-- as they are listed in memory
abbrev pub listed_from : ℕ → ℕ → List Status
listed_from first zero = []
listed_from first (suc count) = Life first ∷ listed_from (suc first) count

pub trees-listed : (first count : ℕ) → trees_in (listed_from first count) ≡ lives_from first count
trees-listed first zero = refl
trees-listed first (suc count) = rw (tree_of-Life first, trees-listed (suc first) count) refl

pub length-listed : (first count : ℕ) → length (listed_from first count) ≡ count
length-listed first zero = refl
length-listed first (suc count) = ap suc (length-listed (suc first) count)

pub one-more : (first count : ℕ) → listed_from first count ++ Life (first + count) ∷ [] ≡ listed_from first (suc count)
one-more first zero = let e : first + 0 ≡ first = omega arith in rw e refl
one-more first (suc count) =
    let e : first + suc count ≡ suc first + count = omega arith in
    rw e (ap (λ (rest : List Status). Life first ∷ rest) (one-more (suc first) count))

-- a member is the life of its place
member-life : (first count place : ℕ) (s : Tree) → member_at (lives_from first count) place ≡ Some s
    → s ≡ life (first + place)
member-life first zero place s at = absurd (cc)
member-life first (suc count) zero s at =
    let same : life first ≡ s = cc in
    let e : first + 0 ≡ first = omega arith in
    rw e (sym same)
member-life first (suc count) (suc place) s at =
    let e : first + suc place ≡ suc first + place = omega arith in
    rw e (member-life (suc first) count place s at)

apart : (first count : ℕ) → AreApart (lives_from first count)
apart first count p q s t other at_p at_q =
    let is_s = member-life first count p s at_p in
    let is_t = member-life first count q t at_q in
    rw (is_s, is_t) (record {
      lives = λ i in_s in_t. other (omega (arith, eqb-true i (first + p) in_s, eqb-true i (first + q) in_t));
      terms = λ n in_s in_t. absurd (cc);
    })

each-life : (P : Tree → Type 0) → ((i : ℕ) → P (life i)) → (first count : ℕ) → AtEachNodeIn P (lives_from first count)
each-life P each first zero = tt
each-life P each first (suc count) = (each first, each-life P each (suc first) count)

names-below : (first count i : ℕ) → any_names_life i (lives_from first count) ≡ true → i < first + count
names-below first zero i named = absurd (cc)
names-below first (suc count) i named = ⊎_elim
    (λ (here : nat_eq i first ≡ true). omega (arith, eqb-true i first here))
    (λ (later : any_names_life i (lives_from (suc first) count) ≡ true).
    omega (arith, names-below (suc first) count i later))
    (either (nat_eq i first) (any_names_life i (lives_from (suc first) count)) named)

pub valid-first : IsValidPay (record {
  amount = 1;
  vary = Level;
  kind = Insurance;
  defer = 0;
  causes = None;
  body = joint (lives_from 0 12);
  mark = Some (record { member = 0; rank = 1 });
})
valid-first = record {
  amount_from = lit≤ tt;
  amount_in = lit≤ tt;
  defer_in = lit≤ tt;
  vary = tt;
  lengths = (tt, each-life HasLength (λ i. tt) 0 12);
  lists = ((lit≤ tt, lit≤ tt), each-life HasShortList (λ i. tt) 0 12);
  few_nodes = lit≤ tt;
  ranks = (tt, each-life HasRank (λ i. tt) 0 12);
  lasting = λ insured. (tt, each-life NeverReturns (λ i. tt) 0 12);
  causes = tt;
  mark = (refl, record { member = lit< tt; rank = (lit≤ tt, lit≤ tt); apart = apart 0 12 });
}

pub names-twelve : NamesLivesBelow 12 (joint (lives_from 0 12))
names-twelve i named = names-below 0 12 i named
