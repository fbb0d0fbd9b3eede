-- A lasting status that exists also exists with more lives and more terms.
use Rattle.std.proofs.Common.{◌≡◌, ℕ, suc, ◌≤◌, arith, refl, List, [], ◌∷◌, Bool, true, false, nat_le}
use Rattle.std.specs.List.{list_all, list_any}
use Rattle.std.proofs.lemmas.Bool.Decides.{nat_tests}
use Rattle.halo_status.specs.Tree.{Tree, Trees, life, term, joint, last, at_least, exactly, after, none, more}
use Rattle.halo_status.specs.Exists.{exists, each_exists, IsSubset}
use Rattle.halo_sums.specs.Sums.{count_true}
use Rattle.halo_status.specs.Nodes.{AtEachNodeIn, IsLasting, NeverReturns}
use Rattle.halo_status.specs.Laws.{LastingFallsOnce, LastingStaysFallen}
use Rattle.halo_status.specs.View.{is_on}
use Rattle.halo_status.specs.declared.view.View.{View}
use Rattle.halo_status.specs.declared.view.View.TheVariants.{Due, Immediate}

-- of two lists of one length, the second is true wherever the first is
abbrev EachImplies : List Bool → List Bool → Type 0
EachImplies [] [] = Unit {0}
EachImplies (b ∷ bs) (c ∷ cs) = (b ≡ true → c ≡ true) × EachImplies bs cs
EachImplies _ _ = ⊥

-- all stay true, one of them stays true, and no fewer are true
all_true : (bs cs : List Bool) → EachImplies bs cs → list_all (λ b. b) bs ≡ true → list_all (λ b. b) cs ≡ true
all_true [] [] h e = refl
all_true [] (c ∷ cs) h e = absurd h
all_true (b ∷ bs) [] h e = absurd h
all_true (true ∷ bs) (c ∷ cs) h e = rw (h.0 refl) (all_true bs cs h.1 e)
all_true (false ∷ bs) (c ∷ cs) h e = absurd (cc)

any_true : (bs cs : List Bool) → EachImplies bs cs → list_any (λ b. b) bs ≡ true → list_any (λ b. b) cs ≡ true
any_true [] [] h e = e
any_true [] (c ∷ cs) h e = absurd h
any_true (b ∷ bs) [] h e = absurd h
any_true (true ∷ bs) (c ∷ cs) h e = rw (h.0 refl)
any_true (false ∷ bs) (true ∷ cs) h e = refl
any_true (false ∷ bs) (false ∷ cs) h e = any_true bs cs h.1 e

count_true-le : (bs cs : List Bool) → EachImplies bs cs → count_true bs ≤ count_true cs
count_true-le [] [] h = omega arith
count_true-le [] (c ∷ cs) h = absurd h
count_true-le (b ∷ bs) [] h = absurd h
count_true-le (true ∷ bs) (c ∷ cs) h = rw (h.0 refl) (omega (arith, count_true-le bs cs h.1))
count_true-le (false ∷ bs) (true ∷ cs) h = omega (arith, count_true-le bs cs h.1)
count_true-le (false ∷ bs) (false ∷ cs) h = count_true-le bs cs h.1

-- a number that is reached is reached by more
reaches : (r m n : ℕ) → m ≤ n → nat_le r m ≡ true → nat_le r n ≡ true
reaches r m n h e = grind (arith, nat_tests)

module _ (alive more_alive on more_on : ℕ → Bool) (lives : IsSubset alive more_alive) (terms : IsSubset on more_on)
  where
    mutual
      -- with more lives and more terms, a lasting status goes on existing
      pub lasts : (s : Tree) → IsLasting s → exists alive on s ≡ true → exists more_alive more_on s ≡ true
      lasts (life i) lasting e = lives i e
      lasts (term n) lasting e = terms n e
      lasts (joint ms) lasting e = all_true _ _ (each_lasts ms lasting.1) e
      lasts (last ms) lasting e = any_true _ _ (each_lasts ms lasting.1) e
      lasts (at_least r ms) lasting e = reaches r _ _ (count_true-le _ _ (each_lasts ms lasting.1)) e
      lasts (exactly r ms) lasting e = absurd lasting.0
      lasts (after s t) lasting e = absurd lasting.0

      each_lasts : (ms : Trees) → AtEachNodeIn NeverReturns ms
          → EachImplies (each_exists alive on ms) (each_exists more_alive more_on ms)
      each_lasts none lasting = tt
      each_lasts (more s ms) lasting = (lasts s lasting.0, each_lasts ms lasting.1)

-- what implies a falsehood is false
contrary : (b c : Bool) → (b ≡ true → c ≡ true) → c ≡ false → b ≡ false
contrary true c implies e = absurd (let t : c ≡ true = implies refl in cc)
contrary false c implies e = refl

-- a lasting status that does not exist does not exist with less
pub falls_once : LastingFallsOnce
falls_once alive still_alive on still_on s lasting lives terms e =
    contrary _ _ (lasts still_alive alive still_on on lives terms s lasting) e

-- what is below a number that is at most k is at most k
below : (m n k : ℕ) → m ≤ n → nat_le n k ≡ true → nat_le m k ≡ true
below m n k h e = grind (arith, nat_tests)

-- a term that is on later is on before
is_on_later : (view : View) (t later : ℕ) → t ≤ later → IsSubset (is_on view later) (is_on view t)
is_on_later Due t later h n e = below (suc t) (suc later) n (omega arith) e
is_on_later Immediate t later h n e = below t later n h e

-- nor later
pub stays_fallen : LastingStaysFallen
stays_fallen alive still_alive view t later s lasting lives h e =
    falls_once alive still_alive (is_on view t) (is_on view later) s lasting lives (is_on_later view t later h) e
