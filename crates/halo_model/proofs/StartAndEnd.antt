-- A lasting body exists at the start with all lives, and no more at the last time.
use Rattle.std.proofs.Common.{◌≡◌, ℕ, zero, suc, ◌<◌, ◌≤◌, arith, refl, sym, ◌∙◌, List, [], ◌∷◌, length, get_or, Bool, true, false, ◌||◌, nat_eq, nat_le, nat_lt, Option, Some, None}
use Rattle.std.specs.Prelude.{IsTrue}
use Rattle.std.specs.List.{list_all, list_any}
use Rattle.std.proofs.lemmas.Bool.Decides.{nat_tests}
use Rattle.halo_status.specs.Tree.{Tree, Trees, life, term, joint, last, at_least, exactly, after, none, more, member_count}
use Rattle.halo_status.specs.Exists.{each_exists, empty_set, exists}
use Rattle.halo_sums.specs.Sums.{count_true}
use Rattle.halo_status.specs.Naming.{NamesLivesBelow, any_names_term, names_term}
use Rattle.halo_status.specs.Nodes.{AsksForSome, AtEachNode, AtEachNodeIn, HasPositiveRanks, HasShortList, HasShortLists, IsLasting, NeverReturns}
use Rattle.halo_status.specs.Pay.{PlainPay}
use Rattle.halo_status.specs.ValidPay.{HasLength, HasRank, IsLength}
use Rattle.halo_status.specs.View.{is_on}
use Rattle.halo_status.specs.declared.view.View.TheVariants.{Due}
use Rattle.halo_status.proofs.Empty.{nobody_there}
use Rattle.halo_model.specs.Life.{PlainLife, after_first}
use Rattle.halo_model.specs.Outcome.{Exit, Outcome}
use Rattle.halo_model.specs.There.{lives_at, there}
use Rattle.halo_model.specs.Chance.{IsValidInsurance}
use Rattle.halo_model.specs.PartLaws.{EndBy}
use Rattle.halo_status.proofs.Agreement.{agree}
use Rattle.halo_model.proofs.Expected.{Comes, IsWay}
use Rattle.halo_model.proofs.Insurances.{ExitBefore, exit-before}

abbrev full_set : ℕ → Bool
full_set i = true

abbrev AllTrue : List Bool → Type 0
AllTrue [] = Unit {0}
AllTrue (b ∷ bs) = (b ≡ true) × AllTrue bs

all-true : (bs : List Bool) → AllTrue bs → list_all (λ b. b) bs ≡ true
all-true [] h = refl
all-true (true ∷ bs) h = all-true bs h.1
all-true (false ∷ bs) h = absurd (let q : false ≡ true = h.0 in cc)

any-true : (s : Tree) (ms : Trees) → AllTrue (each_exists full_set full_set (more s ms))
    → list_any (λ b. b) (each_exists full_set full_set (more s ms)) ≡ true
any-true s ms h = rw h.0 refl

count-all : (ms : Trees)
    → AllTrue (each_exists full_set full_set ms) → count_true (each_exists full_set full_set ms) ≡ member_count ms
count-all none h = refl
count-all (more s ms) h = rw h.0 (omega (arith, count-all ms h.1))

reaches : (r n m : ℕ) → n ≡ m → r ≤ m → nat_le r n ≡ true
reaches r n m e h = grind (arith, nat_tests)

-- a lasting status exists with all lives and all terms
mutual
  all-exist : (s : Tree) → IsLasting s → HasShortLists s → AtEachNode HasRank s → exists full_set full_set s ≡ true
  all-exist (life i) lasting lists ranks = refl
  all-exist (term n) lasting lists ranks = refl
  all-exist (joint ms) lasting lists ranks = all-true _ (each-exist ms lasting.1 lists.1 ranks.1)
  all-exist (last none) lasting lists ranks = absurd (let h = lists.0.0 in omega arith)
  all-exist (last (more s ms)) lasting lists ranks = any-true s ms (each-exist (more s ms) lasting.1 lists.1 ranks.1)
  all-exist (at_least r ms) lasting lists ranks =
      reaches r _ (member_count ms) (count-all ms (each-exist ms lasting.1 lists.1 ranks.1)) ranks.0.1
  all-exist (exactly r ms) lasting lists ranks = absurd lasting.0
  all-exist (after s t) lasting lists ranks = absurd lasting.0

  each-exist : (ms : Trees) → AtEachNodeIn NeverReturns ms
      → AtEachNodeIn HasShortList ms → AtEachNodeIn HasRank ms → AllTrue (each_exists full_set full_set ms)
  each-exist none lasting lists ranks = tt
  each-exist (more s ms) lasting lists ranks =
      (all-exist s lasting.0 lists.0 ranks.0, each-exist ms lasting.1 lists.1 ranks.1)

mutual
  pub asks-for-some : (s : Tree) → AtEachNode HasRank s → HasPositiveRanks s
  asks-for-some (life i) ranks = tt
  asks-for-some (term n) ranks = tt
  asks-for-some (joint ms) ranks = (tt, each-asks ms ranks.1)
  asks-for-some (last ms) ranks = (tt, each-asks ms ranks.1)
  asks-for-some (at_least r ms) ranks = (ranks.0.0, each-asks ms ranks.1)
  asks-for-some (exactly r ms) ranks = (ranks.0.0, each-asks ms ranks.1)
  asks-for-some (after s t) ranks = (tt, asks-for-some s ranks.1, asks-for-some t ranks.2)

  each-asks : (ms : Trees) → AtEachNodeIn HasRank ms → AtEachNodeIn AsksForSome ms
  each-asks none ranks = tt
  each-asks (more s ms) ranks = (asks-for-some s ranks.0, each-asks ms ranks.1)

either : {P : Type 0} → (a b : Bool) → (a || b) ≡ true → (a ≡ true → P) → (b ≡ true → P) → P
either true b e left right = left refl
either false b e left right = right e

equal : (m n : ℕ) → nat_eq m n ≡ true → m ≡ n
equal m n e = grind (arith, nat_tests)

-- the terms that a status names have a length
mutual
  pub term-length : (s : Tree) → AtEachNode HasLength s → (n : ℕ) → names_term n s ≡ true → IsLength n
  term-length (life i) lengths n e = absurd (cc)
  term-length (term m) lengths n e = rw (equal n m e) lengths
  term-length (joint ms) lengths n e = any-length ms lengths.1 n e
  term-length (last ms) lengths n e = any-length ms lengths.1 n e
  term-length (at_least r ms) lengths n e = any-length ms lengths.1 n e
  term-length (exactly r ms) lengths n e = any-length ms lengths.1 n e
  term-length (after s t) lengths n e =
      either (names_term n s) (names_term n t) e (term-length s lengths.1 n) (term-length t lengths.2 n)

  any-length : (ms : Trees) → AtEachNodeIn HasLength ms → (n : ℕ) → any_names_term n ms ≡ true → IsLength n
  any-length none lengths n e = absurd (cc)
  any-length (more s ms) lengths n e =
      either (names_term n s) (any_names_term n ms) e (term-length s lengths.0 n) (any-length ms lengths.1 n)

-- whoever is alive at the start is there then
there-at-start : (T : ℕ) (S : ℕ → Bool) (lives : List PlainLife) (o : Outcome)
    → Comes T S lives o → (i : ℕ) → i < length lives → S i ≡ true → there 0 (get_or o i None) ≡ true
there-at-start T S [] [] comes i within alive = absurd (omega arith)
there-at-start T S [] (way ∷ o) comes i within alive = absurd comes
there-at-start T S (x ∷ lives) [] comes i within alive = absurd comes
there-at-start T S (x ∷ lives) (way ∷ o) comes zero within alive = first way comes.0
  where
    from-zero : (y : ℕ) → nat_le 0 y ≡ true
    from-zero y = grind (arith, nat_tests)

    first : (way : Option Exit) → IsWay T (S 0) x way → there 0 way ≡ true
    first None gone = absurd (let q : true ≡ false = sym alive ∙ gone in cc)
    first (Some e) is = from-zero e.year
there-at-start T S (x ∷ lives) (way ∷ o) comes (suc i) within alive =
    there-at-start T (after_first S) lives o comes.1 i (omega arith) alive

gone-by : (time : ℕ) (way : Option Exit) → ExitBefore time way → there time way ≡ false
gone-by time None h = refl
gone-by time (Some e) h = past time e.year h
  where
    past : (t y : ℕ) → y < t → nat_le t y ≡ false
    past t y h = grind (arith, nat_tests)

module _ (pay : PlainPay) (is : IsValidInsurance pay)
    (T : ℕ) (S : ℕ → Bool) (lives : List PlainLife) (o : Outcome) (comes : Comes T S lives o) where
  pub exists-at-start : NamesLivesBelow (length lives) pay.body
      → ((i : ℕ) → S i ≡ true) → exists (lives_at 0 o) (is_on Due 0) pay.body ≡ true
  exists-at-start below alive = agree (lives_at 0 o) full_set (is_on Due 0) full_set pay.body
      (λ i e. there-at-start T S lives o comes i (below i e) (alive i))
      (λ n e. begun n (term-length pay.body is.valid.lengths n e).0)
      ∙ all-exist pay.body (is.valid.lasting is.kind) is.valid.lists is.valid.ranks
    where
      begun : (n : ℕ) → 1 ≤ n → nat_lt 0 n ≡ true
      begun n h = grind (arith, nat_tests)

  pub fallen-at-last : (last_time : ℕ)
      → EndBy last_time lives → ((n : ℕ) → IsTrue (names_term n pay.body) → n ≤ last_time)
      → exists (lives_at last_time o) (is_on Due last_time) pay.body ≡ false
  fallen-at-last last_time end short = agree (lives_at last_time o) empty_set (is_on Due last_time) empty_set pay.body
      (λ i e. gone-by last_time (get_or o i None) (exit-before last_time T S lives end o comes i))
      (λ n e. ended n (short n e))
      ∙ nobody_there pay.body is.valid.lists (asks-for-some pay.body is.valid.ranks)
    where
      ended : (n : ℕ) → n ≤ last_time → nat_lt last_time n ≡ false
      ended n h = grind (arith, nat_tests)
