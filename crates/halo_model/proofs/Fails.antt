-- Where a pay fails between two states of lives and terms, it existed before and does not after.
use Rattle.std.proofs.Common.{◌≡◌, ◌≢◌, ℕ, zero, suc, ◌+◌, ◌-◌, ◌<◌, ◌≤◌, arith, refl, ap, ◌∙◌, List, [], ◌∷◌, length, get_or, Bool, true, false, cond, not, ◌&&◌, nat_eq, Option, Some, None, ℤ, pos, ◌-ℤ◌}
use Rattle.std.specs.Prelude.{IfSome}
use Rattle.std.proofs.lemmas.Bool.Decides.{nat_tests}
use Rattle.std.proofs.lemmas.Int.{ints}
use Rattle.halo_sums.specs.Sums.{count_true, indicator}
use Rattle.halo_status.specs.Tree.{Tree, Trees, life, term, joint, last, at_least, exactly, after, none, more, member_at, member_count}
use Rattle.halo_status.specs.Exists.{IsSubset, each_exists, exists}
use Rattle.halo_status.specs.Nodes.{AtEachNodeIn, IsLasting, NeverReturns}
use Rattle.halo_status.specs.ValidPay.{CanBeMarked}
use Rattle.halo_status.specs.declared.pay.Mark.{Mark}
use Rattle.halo_status.proofs.Lasting.{lasts}
use Rattle.halo_model.specs.Payment.{fails_at_rank, fails_by_mark, members_of}
use Rattle.halo_model.specs.Coefficient.{exists_by_mark, waits_at_rank}

-- two lists of equal length that differ at most at place p
abbrev DifferAt : ℕ → List Bool → List Bool → Type 0
DifferAt p [] bs = ⊥
DifferAt p (b ∷ bs) [] = ⊥
DifferAt zero (b ∷ bs) (c ∷ cs) = bs ≡ cs
DifferAt (suc p) (b ∷ bs) (c ∷ cs) = (b ≡ c) × DifferAt p bs cs

abbrev one_if : Bool → ℕ
one_if b = cond b 1 0

count_true-cons : (b : Bool) (bs : List Bool) → count_true (b ∷ bs) ≡ one_if b + count_true bs
count_true-cons true bs = omega arith
count_true-cons false bs = omega arith

pub count_true-most : (bs : List Bool) → count_true bs ≤ length bs
count_true-most [] = omega arith
count_true-most (true ∷ bs) = omega (arith, count_true-most bs)
count_true-most (false ∷ bs) = omega (arith, count_true-most bs)

pub count_true-at : (bs : List Bool) (p : ℕ) → one_if (get_or bs p false) ≤ count_true bs
count_true-at [] p = omega arith
count_true-at (b ∷ bs) zero = omega (arith, count_true-cons b bs)
count_true-at (b ∷ bs) (suc p) = omega (arith, count_true-cons b bs, count_true-at bs p)

-- they differ in number only by what stands at p
count_true-differ : (p : ℕ) (bs cs : List Bool) → DifferAt p bs cs
    → count_true bs + one_if (get_or cs p false) ≡ count_true cs + one_if (get_or bs p false)
count_true-differ p [] cs h = absurd h
count_true-differ p (b ∷ bs) [] h = absurd h
count_true-differ zero (b ∷ bs) (c ∷ cs) h = omega (arith, count_true-cons b bs, count_true-cons c cs, ap count_true h)
count_true-differ (suc p) (b ∷ bs) (c ∷ cs) h =
    omega (arith, count_true-cons b bs, count_true-cons c cs, ap one_if h.0, count_true-differ p bs cs h.1)

length-differ : (p : ℕ) (bs cs : List Bool) → DifferAt p bs cs → length bs ≡ length cs
length-differ p [] cs h = absurd h
length-differ p (b ∷ bs) [] h = absurd h
length-differ zero (b ∷ bs) (c ∷ cs) h = ap (λ l. suc (length l)) h
length-differ (suc p) (b ∷ bs) (c ∷ cs) h = ap suc (length-differ p bs cs h.1)

-- a marked member fails at its rank where it waited at its rank before and does not after
at-rank : (m : Mark) (bs cs : List Bool) → DifferAt m.member bs cs
    → (get_or cs m.member false ≡ true → get_or bs m.member false ≡ true) → 1 ≤ m.rank → m.rank ≤ length bs
    → indicator (fails_at_rank m bs cs) ≡ indicator (waits_at_rank m bs) -ℤ indicator (waits_at_rank m cs)
at-rank m bs cs h lasting low high =
    go (get_or bs m.member false) (get_or cs m.member false) lasting (count_true-differ m.member bs cs h)
    (count_true-at bs m.member) (count_true-most bs) (length-differ m.member bs cs h)
  where
    counts-match : (n c r : ℕ) → 0 < c → c ≤ n → 1 ≤ r → r ≤ n → nat_eq (suc (n - c)) r ≡ nat_eq (c - 1) (n - r)
    counts-match n c r h₁ h₂ h₃ h₄ = grind (arith, nat_tests)

    less-none : (z : ℤ) → z ≡ z -ℤ pos 0
    less-none z = omega (arith, ints)

    less-itself : (z : ℤ) → pos 0 ≡ z -ℤ z
    less-itself z = omega (arith, ints)

    go : (b c : Bool) → (c ≡ true → b ≡ true) → count_true bs + one_if c ≡ count_true cs + one_if b
        → one_if b ≤ count_true bs → count_true bs ≤ length bs → length bs ≡ length cs
        → indicator (b && not c && nat_eq (suc (length bs - count_true bs)) m.rank)
        ≡ indicator (b && nat_eq (count_true bs - 1) (length bs - m.rank)) -ℤ indicator
        (c && nat_eq (count_true cs - 1) (length cs - m.rank))
    go true true mono e some most l =
        let same : count_true cs ≡ count_true bs = omega arith in
        rw (same, ← l) (less-itself (indicator (nat_eq (count_true bs - 1) (length bs - m.rank))))
    go true false mono e some most l =
        ap indicator (counts-match (length bs) (count_true bs) m.rank some most low high) ∙ less-none _
    go false true mono e some most l = absurd (cc (mono refl))
    go false false mono e some most l = refl

whole : (b c : Bool) → (c ≡ true → b ≡ true) → indicator (b && not c) ≡ indicator b -ℤ indicator c
whole true true h = refl
whole true false h = refl
whole false true h = absurd (cc (h refl))
whole false false h = refl

module _ (alive still_alive on still_on : ℕ → Bool) where
  -- the members at other places exist alike before and after
  abbrev pub OthersStay : ℕ → Trees → Type 0
  OthersStay p ms =
      (q : ℕ) (t : Tree) → q ≢ p → member_at ms q ≡ Some t → exists alive on t ≡ exists still_alive still_on t

  all-stay : (ms : Trees)
      → ((q : ℕ) (t : Tree) → member_at ms q ≡ Some t → exists alive on t ≡ exists still_alive still_on t)
      → each_exists alive on ms ≡ each_exists still_alive still_on ms
  all-stay none h = refl
  all-stay (more s ms) h =
      ap (λ b. b ∷ each_exists alive on ms) (h 0 s refl)
      ∙ ap (λ bs. exists still_alive still_on s ∷ bs) (all-stay ms (λ q t at. h (suc q) t at))

  others-stay : (ms : Trees) (p : ℕ) → p < member_count ms → OthersStay p ms
      → DifferAt p (each_exists alive on ms) (each_exists still_alive still_on ms)
  others-stay none p within h = absurd (omega arith)
  others-stay (more s ms) zero within h = all-stay ms (λ q t at. h (suc q) t (λ e. absurd (omega arith)) at)
  others-stay (more s ms) (suc p) within h = (
    h 0 s (λ e. absurd (omega arith)) refl,
    others-stay ms p (omega arith)
        (λ q t other at. h (suc q) t (λ e. other (omega arith)) at),
  )

  pub length-each_exists : (ms : Trees) → length (each_exists alive on ms) ≡ member_count ms
  length-each_exists none = refl
  length-each_exists (more s ms) = omega (arith, length-each_exists ms)

  module _ (fewer : IsSubset still_alive alive) (ended : IsSubset still_on on) where
    pub member-lasts : (ms : Trees) → AtEachNodeIn NeverReturns ms → (p : ℕ)
        → get_or (each_exists still_alive still_on ms) p false ≡ true → get_or (each_exists alive on ms) p false ≡ true
    member-lasts none lasting p e = e
    member-lasts (more s ms) lasting zero e = lasts still_alive alive still_on on fewer ended s lasting.0 e
    member-lasts (more s ms) lasting (suc p) e = member-lasts ms lasting.1 p e

    -- with or without a mark: it fails where it exists before and not after
    pub fails-is : (mark : Option Mark) (body : Tree) → IsLasting body → IfSome mark (CanBeMarked body)
        → IfSome mark (λ m. OthersStay m.member (members_of body))
        → indicator (fails_by_mark mark body alive on still_alive still_on)
        ≡ indicator (exists_by_mark mark body alive on) -ℤ indicator (exists_by_mark mark body still_alive still_on)
    fails-is None body lasting valid others =
        whole (exists alive on body) (exists still_alive still_on body)
        (lasts still_alive alive still_on on fewer ended body lasting)
    fails-is (Some m) (joint ms) lasting valid others =
        at-rank m (each_exists alive on ms) (each_exists still_alive still_on ms)
        (others-stay ms m.member valid.member others) (member-lasts ms lasting.1 m.member) valid.rank.0
        (omega (arith, valid.rank.1, length-each_exists ms))
    fails-is (Some m) (life i) lasting valid others = absurd valid
    fails-is (Some m) (term n) lasting valid others = absurd valid
    fails-is (Some m) (last ms) lasting valid others = absurd valid
    fails-is (Some m) (at_least r ms) lasting valid others = absurd valid
    fails-is (Some m) (exactly r ms) lasting valid others = absurd valid
    fails-is (Some m) (after s t) lasting valid others = absurd valid
