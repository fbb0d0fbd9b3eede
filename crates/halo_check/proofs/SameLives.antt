-- A status exists alike with two sets of lives that agree on the lives that it names.
use Rattle.std.proofs.Common.{◌≡◌, ◌<◌, ℕ, zero, suc, Bool, true, false, ◌||◌, nat_eq, nat_le, refl, ap, arith}
use Rattle.std.specs.Prelude.{IsTrue}
use Rattle.std.specs.List.{list_all, list_any}
use Rattle.std.proofs.lemmas.Bool.Decides.{nat_tests}
use Rattle.halo_status.specs.Exists.{each_exists, exists}
use Rattle.halo_sums.specs.Sums.{count_true}
use Rattle.halo_contract.specs.Premium.{all_lives}
use Rattle.halo_status.specs.Naming.{NamesLivesBelow, any_names_life, names_life}
use Rattle.halo_sums.specs.Masks.{has_bit}
use Rattle.halo_status.specs.Tree.{Tree, Trees, life, term, joint, last, at_least, exactly, after, none, more}

first_of : (a b : Bool) → IsTrue a → IsTrue (a || b)
first_of true b h = refl
first_of false b h = absurd cc

second_of : (a b : Bool) → IsTrue b → IsTrue (a || b)
second_of true b h = refl
second_of false b h = h

module _ (f g on : ℕ → Bool) where
  mutual
    pub exists-same : (s : Tree) → ((i : ℕ) → IsTrue (names_life i s) → f i ≡ g i) → exists f on s ≡ exists g on s
    exists-same (life i) same = same i (grind (arith, nat_tests))
    exists-same (term n) same = refl
    exists-same (joint ms) same = ap (list_all (λ b. b)) (each-same ms same)
    exists-same (last ms) same = ap (list_any (λ b. b)) (each-same ms same)
    exists-same (at_least r ms) same = ap (λ bs. nat_le r (count_true bs)) (each-same ms same)
    exists-same (exactly r ms) same = ap (λ bs. nat_eq (count_true bs) r) (each-same ms same)
    exists-same (after s t) same =
        let first = exists-same s (λ i h. same i (first_of (names_life i s) (names_life i t) h)) in
        let then = exists-same t (λ i h. same i (second_of (names_life i s) (names_life i t) h)) in
        rw (first, then) refl

    each-same : (ms : Trees) → ((i : ℕ) → IsTrue (any_names_life i ms) → f i ≡ g i)
        → each_exists f on ms ≡ each_exists g on ms
    each-same none same = refl
    each-same (more s ms) same =
        let here = exists-same s (λ i h. same i (first_of (names_life i s) (any_names_life i ms) h)) in
        let rest = each-same ms (λ i h. same i (second_of (names_life i s) (any_names_life i ms) h)) in
        rw (here, rest) refl

-- with the 16 lives of a full mask a status exists as with all lives, where it names no others
pub exists-all : (on : ℕ → Bool) (s : Tree) → NamesLivesBelow 16 s → exists (has_bit 65535) on s ≡ exists all_lives on s
exists-all on s below = exists-same (has_bit 65535) all_lives on s (λ i named. full i (below i named))
  where
    full : (i : ℕ) → i < 16 → has_bit 65535 i ≡ true
    full zero lt = refl
    full (suc zero) lt = refl
    full (suc (suc zero)) lt = refl
    full (suc (suc (suc zero))) lt = refl
    full (suc (suc (suc (suc zero)))) lt = refl
    full (suc (suc (suc (suc (suc zero))))) lt = refl
    full (suc (suc (suc (suc (suc (suc zero)))))) lt = refl
    full (suc (suc (suc (suc (suc (suc (suc zero))))))) lt = refl
    full (suc (suc (suc (suc (suc (suc (suc (suc zero)))))))) lt = refl
    full (suc (suc (suc (suc (suc (suc (suc (suc (suc zero))))))))) lt = refl
    full (suc (suc (suc (suc (suc (suc (suc (suc (suc (suc zero)))))))))) lt = refl
    full (suc (suc (suc (suc (suc (suc (suc (suc (suc (suc (suc zero))))))))))) lt = refl
    full (suc (suc (suc (suc (suc (suc (suc (suc (suc (suc (suc (suc zero)))))))))))) lt = refl
    full (suc (suc (suc (suc (suc (suc (suc (suc (suc (suc (suc (suc (suc zero))))))))))))) lt = refl
    full (suc (suc (suc (suc (suc (suc (suc (suc (suc (suc (suc (suc (suc (suc zero)))))))))))))) lt = refl
    full (suc (suc (suc (suc (suc (suc (suc (suc (suc (suc (suc (suc (suc (suc (suc zero))))))))))))))) lt = refl
    full (suc (suc (suc (suc (suc (suc (suc (suc (suc (suc (suc (suc (suc (suc (suc (suc i)))))))))))))))) lt =
        absurd (omega (arith, lt))
