-- From the horizon on a set has no coefficient, or nobody of it is left.
use Rattle.std.proofs.Common.{◌≡◌, ◌⊎◌, ℕ, zero, suc, ◌≤◌, arith, refl, ap, ◌∙◌, List, [], ◌∷◌, length, get_or, Bool, true, false, nat_lt, Option, Some, None, ℤ, pos, inl, inr, ⊎_elim}
use Rattle.std.proofs.lemmas.Bool.Decides.{nat_tests}
use Rattle.halo_sums.specs.Sums.{indicator}
use Rattle.halo_sums.specs.Sets.{in_set}
use Rattle.halo_sums.specs.Coefficients.{coefficient}
use Rattle.halo_sums.proofs.Coefficients.{coefficient-empty, coefficient-without}
use Rattle.halo_status.specs.Tree.{Tree, Trees, life, term, joint, last, at_least, exactly, after, none, more}
use Rattle.halo_status.specs.Exists.{each_exists, empty_set}
use Rattle.halo_status.specs.Naming.{names_life, names_term}
use Rattle.halo_status.specs.Nodes.{AsksForSome, AtEachNode, AtEachNodeIn, HasShortList}
use Rattle.halo_status.specs.ValidPay.{CanBeMarked, HasRank}
use Rattle.halo_status.specs.declared.pay.Mark.{Mark}
use Rattle.halo_status.proofs.Empty.{nobody_there}
use Rattle.halo_model.specs.Coefficient.{existence, exists_by_mark, form}
use Rattle.halo_model.specs.Horizon.{Covers, horizon, years_left_of}
use Rattle.halo_model.proofs.Marked.{valid-mark}
use Rattle.std.specs.Prelude.{IfSome}
use Rattle.halo_model.specs.Life.{AreLives, PlainLife}
use Rattle.halo_model.specs.Outcome.{joint_survivors}
use Rattle.halo_status.proofs.Agreement.{agree, each-agree}
use Rattle.halo_model.proofs.HorizonIsLeast.{horizon-is-least}
use Rattle.halo_model.proofs.RanksAsk.{ranks-ask, ranks-ask-in}
use Rattle.halo_insure.specs.Dues.{NothingIsDueAfter}
use Rattle.halo_insure.proofs.Silent.{silent-form}

-- a set has a life, or it is empty
some-or-empty : (s : List Bool) → ((a : ℕ) × (in_set s a ≡ true)) ⊎ ((i : ℕ) → in_set s i ≡ false)
some-or-empty [] = inr (λ i. refl)
some-or-empty (true ∷ s) = inl (0, refl)
some-or-empty (false ∷ s) =
    ⊎_elim (λ found. inl (suc found.0, found.1)) (λ empty. inr (outside empty)) (some-or-empty s)
  where
    outside : ((i : ℕ) → in_set s i ≡ false) → (i : ℕ) → in_set (false ∷ s) i ≡ false
    outside empty zero = refl
    outside empty (suc i) = empty i

-- the coefficient of the empty set is what the function is there
empty-coefficient : (f : List Bool → ℤ) (s : List Bool) → ((i : ℕ) → in_set s i ≡ false) → coefficient f s ≡ f s
empty-coefficient f [] empty = coefficient-empty f
empty-coefficient f (true ∷ s) empty = absurd (let e : true ≡ false = empty 0 in cc)
empty-coefficient f (false ∷ s) empty = coefficient-without f s
    ∙ empty-coefficient (λ u. f (false ∷ u)) s (λ i. empty (suc i))

-- a joint life one of whose lives has no survivors has none
gone-with-one : (t : ℕ) (lives : List PlainLife) (s : List Bool) (a : ℕ) → AreLives lives
    → length s ≡ length lives → in_set s a ≡ true → years_left_of lives a ≤ t → joint_survivors t (in_set s) lives ≡ 0
gone-with-one t lives [] a rule len here past = absurd (cc)
gone-with-one t [] (b ∷ s) a rule len here past = absurd (omega (arith, len))
gone-with-one t (x ∷ lives) (false ∷ s) zero rule len here past = absurd (cc)
gone-with-one t (x ∷ lives) (true ∷ s) zero rule len here past = rw (rule.0.ends t past) (omega arith)
gone-with-one t (x ∷ lives) (b ∷ s) (suc a) rule len here past =
    rw (gone-with-one t lives s a rule.1 (omega (arith, len)) here past) (omega arith)

-- no member exists with nobody there
no-member : (ms : Trees) → AtEachNodeIn HasShortList ms
    → AtEachNodeIn AsksForSome ms → (p : ℕ) → get_or (each_exists empty_set empty_set ms) p false ≡ false
no-member none short asks p = refl
no-member (more s ms) short asks zero = nobody_there s short.0 asks.0
no-member (more s ms) short asks (suc p) = no-member ms short.1 asks.1 p

module _ (alive on : ℕ → Bool) (nobody : (i : ℕ) → alive i ≡ false) where
  nothing-waits : (mark : Option Mark) (body : Tree)
      → AtEachNode HasShortList body → AtEachNode HasRank body → IfSome mark (CanBeMarked body)
      → ((n : ℕ) → names_term n body ≡ true → on n ≡ false) → exists_by_mark mark body alive on ≡ false
  nothing-waits None body short ranks valid ended = agree alive empty_set on empty_set body
      (λ i e. nobody i) (λ n e. ended n e) ∙ nobody_there body short (ranks-ask body ranks)
  nothing-waits (Some m) (joint ms) short ranks valid ended =
      let same : each_exists alive on ms ≡ each_exists empty_set empty_set ms =
      each-agree alive empty_set on empty_set ms (λ i e. nobody i) (λ n e. ended n e) in
      rw (same, no-member ms short.1 (ranks-ask-in ms ranks.1) m.member) refl
  nothing-waits (Some m) (life i) short ranks valid ended = absurd valid
  nothing-waits (Some m) (term n) short ranks valid ended = absurd valid
  nothing-waits (Some m) (last ms) short ranks valid ended = absurd valid
  nothing-waits (Some m) (at_least r ms) short ranks valid ended = absurd valid
  nothing-waits (Some m) (exactly r ms) short ranks valid ended = absurd valid
  nothing-waits (Some m) (after s t) short ranks valid ended = absurd valid

pub nothing-is-due-after : NothingIsDueAfter
unfolding form
nothing-is-due-after b rule pay is s len t past = ⊎_elim some empty (some-or-empty s)
  where
    covers : Covers b.lives pay.body (horizon b.lives pay.body)
    covers = (horizon-is-least b.lives pay.body (horizon b.lives pay.body)).0 (omega arith)

    some : ((a : ℕ) × (in_set s a ≡ true))
        → (coefficient (existence pay t) s ≡ pos 0) ⊎ (joint_survivors t (in_set s) b.lives ≡ 0)
    some found = each (names_life found.0 pay.body) refl
      where
        each : (named : Bool) → names_life found.0 pay.body ≡ named
            → (coefficient (existence pay t) s ≡ pos 0) ⊎ (joint_survivors t (in_set s) b.lives ≡ 0)
        each true e =
            inr (gone-with-one t b.lives s found.0 rule len found.1 (omega (arith, covers.each_life found.0 e, past)))
        each false e = inl (silent-form pay t found.0 s found.1 e)

    ended : (n : ℕ) → names_term n pay.body ≡ true → nat_lt t n ≡ false
    ended n e = let h : n ≤ horizon b.lives pay.body = covers.each_term n e in grind (arith, nat_tests, h, past)

    empty : ((i : ℕ) → in_set s i ≡ false)
        → (coefficient (existence pay t) s ≡ pos 0) ⊎ (joint_survivors t (in_set s) b.lives ≡ 0)
    empty nobody = inl (empty-coefficient (existence pay t) s nobody ∙ waits)
      where
        waits : existence pay t s ≡ pos 0
        waits = rw is.kind (ap indicator (nothing-waits (in_set s)
            (λ n. nat_lt t n) nobody pay.mark pay.body is.valid.lists is.valid.ranks (valid-mark pay is) ended))
