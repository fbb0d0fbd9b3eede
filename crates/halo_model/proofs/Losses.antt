-- A lasting status is not less likely where its lives are more likely there, so it loses no less than nothing with a
-- life.
use Rattle.std.proofs.Common.{◌≡◌, ◌≢◌, ℕ, zero, suc, ◌+◌, ◌-◌, ◌*◌, ◌≤◌, arith, refl, ap, ◌∙◌, Bool, true, false, cond, nat_eq, nat_le, nat_lt, Option, Some, None}
use Rattle.std.proofs.lemmas.Nat.{mul-le}
use Rattle.std.proofs.lemmas.Bool.Decides.{nat_tests}
use Rattle.halo_status.specs.Tree.{Tree, Trees, life, term, joint, last, at_least, exactly, after, none, more, member_at, member_count}
use Rattle.std.specs.Prelude.{IsSomeAnd, IsTrue}
use Rattle.halo_status.specs.Naming.{names_life}
use Rattle.halo_status.specs.ReadOnce.{standings, standings_in}
use Rattle.halo_status.specs.declared.pay.Mark.{Mark}
use Rattle.halo_status.specs.Exists.{IsSubset}
use Rattle.halo_status.specs.Nodes.{AtEachNodeIn, IsLasting, NeverReturns}
use Rattle.halo_model.specs.Life.{after_first}
use Rattle.halo_model.specs.ByTree.{weight_of, weight_of_all, weight_of_count, weight_of_none, whole_in, whole_of}
use Rattle.halo_model.specs.ByTreeLaws.{AreChances}
use Rattle.halo_model.specs.PartsByTree.{EndLossIsNotNegative, LossIsNotNegative, PayLossIsNotNegative, others_of, put_for, waiting, waiting_member}
use Rattle.halo_model.specs.Chance.{OfMarked}
use Rattle.halo_model.specs.Payment.{members_of}
use Rattle.halo_status.proofs.Agreement.{same}
use Rattle.halo_model.proofs.Waiting.{members-standings, standings-split}
use Rattle.halo_model.proofs.ByTree.{named-stands, weight-le}
use Rattle.halo_model.proofs.PartsByTree.{put-chances}

-- a choice between two values is not less with greater values, and with a greater chance of the greater one
mix-mono : (a b w x y v z : ℕ) → a ≤ b → b ≤ w → x ≤ v → y ≤ z → z ≤ v → a * x + (w - a) * y ≤ b * v + (w - b) * z
mix-mono a b w x y v z h k p q r =
    let one = mul-le a x a v (omega arith) p in
    let two = mul-le (w - a) y (w - a) z (omega arith) q in
    let more = raised (b - a) (w - b) (omega arith) (omega arith) in
    omega (arith, one, two, more)
  where
    raised : (e f : ℕ) → b ≡ a + e → w - a ≡ e + f → a * v + (w - a) * z ≤ b * v + f * z
    raised e f s t = rw (s, t) (omega (arith, mul-le e z e v (omega arith) r))

-- a test that is passed by more where it is passed
abbrev Upward : (ℕ → Bool) → Type 0
Upward passes = (count : ℕ) → passes count ≡ true → passes (suc count) ≡ true

cond-mono : (b c : Bool) → (b ≡ true → c ≡ true) → cond b 1 0 ≤ cond c 1 0
cond-mono true c h = rw (h refl) (omega arith)
cond-mono false c h = omega arith

at_least-upward : (r : ℕ) → Upward (λ count. nat_le r count)
at_least-upward r count e = grind (arith, nat_tests)

-- one more is not less likely to pass it
count-more : (n d : ℕ → ℕ) (on passes : ℕ → Bool) (ms : Trees)
    → Upward passes → weight_of_count n d on passes ms ≤ weight_of_count n d on (λ count. passes (suc count)) ms
count-more n d on passes none up = cond-mono (passes 0) (passes 1) (up 0)
count-more n d on passes (more s ms) up =
    let with = mul-le (weight_of n d on s) (weight_of_count n d on (λ count. passes (suc count)) ms)
    (weight_of n d on s) (weight_of_count n d on (λ count. passes (suc (suc count))) ms)
    (omega arith) (count-more n d on (λ count. passes (suc count)) ms (λ count. up (suc count))) in
    let without = mul-le
    (whole_of d s - weight_of n d on s) (weight_of_count n d on passes ms) (whole_of d s - weight_of n d on s)
    (weight_of_count n d on (λ count. passes (suc count)) ms) (omega arith) (count-more n d on passes ms up) in
    omega (arith, with, without)

module _ (n m d : ℕ → ℕ)
    (fewer : (i : ℕ) → n i ≤ m i) (proper : AreChances m d) (on more_on : ℕ → Bool) (terms : IsSubset on more_on) where
  below : AreChances n d
  below i = omega (arith, fewer i, proper i)

  mutual
    pub weight-mono : (s : Tree) → IsLasting s → weight_of n d on s ≤ weight_of m d more_on s
    weight-mono (life i) lasting = fewer i
    weight-mono (term k) lasting = cond-mono (on k) (more_on k) (terms k)
    weight-mono (joint ms) lasting = all-mono ms lasting.1
    weight-mono (last ms) lasting = omega (arith, none-mono ms lasting.1)
    weight-mono (at_least r ms) lasting = count-mono (λ count. nat_le r count) ms (at_least-upward r) lasting.1
    weight-mono (exactly r ms) lasting = absurd lasting.0
    weight-mono (after s t) lasting = absurd lasting.0

    all-mono : (ms : Trees) → AtEachNodeIn NeverReturns ms → weight_of_all n d on ms ≤ weight_of_all m d more_on ms
    all-mono none lasting = omega arith
    all-mono (more s ms) lasting = mul-le (weight_of n d on s) (weight_of_all n d on ms)
        (weight_of m d more_on s) (weight_of_all m d more_on ms) (weight-mono s lasting.0) (all-mono ms lasting.1)

    none-mono : (ms : Trees) → AtEachNodeIn NeverReturns ms → weight_of_none m d more_on ms ≤ weight_of_none n d on ms
    none-mono none lasting = omega arith
    none-mono (more s ms) lasting = mul-le
        (whole_of d s - weight_of m d more_on s) (weight_of_none m d more_on ms) (whole_of d s - weight_of n d on s)
        (weight_of_none n d on ms) (omega (arith, weight-mono s lasting.0)) (none-mono ms lasting.1)

    count-mono : (passes : ℕ → Bool) (ms : Trees) → Upward passes
        → AtEachNodeIn NeverReturns ms → weight_of_count n d on passes ms ≤ weight_of_count m d more_on passes ms
    count-mono passes none up lasting = omega arith
    count-mono passes (more s ms) up lasting =
        mix-mono (weight_of n d on s) (weight_of m d more_on s)
        (whole_of d s) (weight_of_count n d on (λ count. passes (suc count)) ms) (weight_of_count n d on passes ms)
        (weight_of_count m d more_on (λ count. passes (suc count)) ms) (weight_of_count m d more_on passes ms)
        (weight-mono s lasting.0) (weight-le m d proper more_on s)
        (count-mono (λ count. passes (suc count)) ms (λ count. up (suc count)) lasting.1)
        (count-mono passes ms up lasting.1) (count-more m d more_on passes ms up)

put-fewer : (a : ℕ) (f : ℕ → ℕ) (i : ℕ) → put_for a 0 f i ≤ put_for a 1 f i
put-fewer zero f zero = omega arith
put-fewer zero f (suc i) = omega arith
put-fewer (suc a) f zero = omega arith
put-fewer (suc a) f (suc i) = put-fewer a (after_first f) i

pub loss-is-not-negative : LossIsNotNegative
loss-is-not-negative n d proper on a s lasting = weight-mono (put_for a 0 n) (put_for a 1 n)
    (put_for a 1 d) (put-fewer a n) (put-chances a 1 n d (omega arith) proper) on on (λ k e. e) s lasting

-- nor with a term
pub end-loss-is-not-negative : EndLossIsNotNegative
end-loss-is-not-negative n d proper k s lasting =
    weight-mono n n d (λ i. omega arith) proper (λ m. nat_lt k m) (λ m. nat_le k m) (longer k) s lasting
  where
    longer : (k : ℕ) → IsSubset (λ m. nat_lt k m) (λ m. nat_le k m)
    longer k m h = grind (arith, nat_tests)

-- a status is as likely where the lives that stand in it are
module _ (n m d : ℕ → ℕ) (on : ℕ → Bool) where
  mutual
    unmoved : (s : Tree) → ((i : ℕ) → 1 ≤ standings i s → n i ≡ m i) → weight_of n d on s ≡ weight_of m d on s
    unmoved (life i) h = h i (stands i)
      where
        stands : (i : ℕ) → 1 ≤ standings i (life i)
        stands i = rw (same i) (omega arith)
    unmoved (term k) h = refl
    unmoved (joint ms) h = all-unmoved ms h
    unmoved (last ms) h = ap (λ z. whole_in d ms - z) (none-unmoved ms h)
    unmoved (at_least r ms) h = count-unmoved (λ count. nat_le r count) ms h
    unmoved (exactly r ms) h = count-unmoved (λ count. nat_eq count r) ms h
    unmoved (after s t) h =
        ap (λ z. z * (whole_of d s - weight_of n d on s)) (unmoved t (λ i k. h i (omega arith)))
        ∙ ap (λ z. weight_of m d on t * (whole_of d s - z)) (unmoved s (λ i k. h i (omega arith)))

    all-unmoved : (ms : Trees)
        → ((i : ℕ) → 1 ≤ standings_in i ms → n i ≡ m i) → weight_of_all n d on ms ≡ weight_of_all m d on ms
    all-unmoved none h = refl
    all-unmoved (more s ms) h =
        ap (λ z. z * weight_of_all n d on ms) (unmoved s (λ i k. h i (omega arith)))
        ∙ ap (λ z. weight_of m d on s * z) (all-unmoved ms (λ i k. h i (omega arith)))

    none-unmoved : (ms : Trees)
        → ((i : ℕ) → 1 ≤ standings_in i ms → n i ≡ m i) → weight_of_none n d on ms ≡ weight_of_none m d on ms
    none-unmoved none h = refl
    none-unmoved (more s ms) h =
        ap (λ z. (whole_of d s - z) * weight_of_none n d on ms) (unmoved s (λ i k. h i (omega arith)))
        ∙ ap (λ z. (whole_of d s - weight_of m d on s) * z) (none-unmoved ms (λ i k. h i (omega arith)))

    pub count-unmoved : (passes : ℕ → Bool) (ms : Trees) → ((i : ℕ) → 1 ≤ standings_in i ms → n i ≡ m i)
        → weight_of_count n d on passes ms ≡ weight_of_count m d on passes ms
    count-unmoved passes none h = refl
    count-unmoved passes (more s ms) h =
        ap (λ z. z * weight_of_count n d on (λ count. passes (suc count)) ms
        + (whole_of d s - z) * weight_of_count n d on passes ms) (unmoved s (λ i k. h i (omega arith)))
        ∙ ap (λ z. weight_of m d on s * z + (whole_of d s - weight_of m d on s) * weight_of_count n d on passes ms)
        (count-unmoved (λ count. passes (suc count)) ms (λ i k. h i (omega arith)))
        ∙ ap (λ z. weight_of m d on s * weight_of_count m d on (λ count. passes (suc count)) ms
        + (whole_of d s - weight_of m d on s) * z) (count-unmoved passes ms (λ i k. h i (omega arith)))

put-elsewhere : (a i : ℕ) (f : ℕ → ℕ) → i ≢ a → put_for a 0 f i ≡ put_for a 1 f i
put-elsewhere zero zero f other = absurd (other refl)
put-elsewhere zero (suc i) f other = refl
put-elsewhere (suc a) zero f other = refl
put-elsewhere (suc a) (suc i) f other = put-elsewhere a i (after_first f) (λ e. other (ap suc e))

member-lasting : (ms : Trees) (place : ℕ) (s : Tree)
    → member_at ms place ≡ Some s → AtEachNodeIn NeverReturns ms → IsLasting s
member-lasting none place s e lasting = absurd (cc)
member-lasting (more m ms) zero s e lasting = let q : m ≡ s = grind arith in rw q at lasting.0
member-lasting (more m ms) (suc place) s e lasting = member-lasting ms place s e lasting.1

members-lasting : (body : Tree) → IsLasting body → AtEachNodeIn NeverReturns (members_of body)
members-lasting (joint ms) lasting = lasting.1
members-lasting (life i) lasting = tt
members-lasting (term k) lasting = tt
members-lasting (last ms) lasting = tt
members-lasting (at_least r ms) lasting = tt
members-lasting (exactly r ms) lasting = tt
members-lasting (after s t) lasting = tt

pub pay-loss-is-not-negative : PayLossIsNotNegative
pay-loss-is-not-negative mark body lasting once n d proper on a named = go mark named
  where
    go : (mark : Option Mark) → OfMarked mark body (λ s. IsTrue (names_life a s)) → weight_of (put_for a 0 n)
        (put_for a 1 d) on (waiting mark body) ≤ weight_of (put_for a 1 n) (put_for a 1 d) on (waiting mark body)
    go None named = loss-is-not-negative n d proper on a body lasting
    go (Some m) named = found (member_at (members_of body) m.member) refl named
      where
        found : (at : Option Tree)
            → member_at (members_of body) m.member ≡ at → IsSomeAnd at (λ s. IsTrue (names_life a s))
            → weight_of (put_for a 0 n) (put_for a 1 d) on (waiting_member m (members_of body) at)
            ≤ weight_of (put_for a 1 n) (put_for a 1 d) on (waiting_member m (members_of body) at)
        found None e h = absurd h
        found (Some s) e h =
            let others = count-unmoved (put_for a 0 n)
            (put_for a 1 n) (put_for a 1 d) on (λ count. nat_eq count (member_count (members_of body) - m.rank))
            (others_of (members_of body) m.member) (λ i k. put-elsewhere a i n (λ q. elsewhere i q k)) in
            rw others (mul-le _ _ _ _ (loss-is-not-negative n d proper on a s
            (member-lasting (members_of body) m.member s e (members-lasting body lasting))) (omega arith))
          where
            elsewhere : (i : ℕ) → i ≡ a → 1 ≤ standings_in i (others_of (members_of body) m.member) → ⊥
            elsewhere i q k = omega (
              arith,
              standings-split i (members_of body) m.member s e,
              members-standings i body,
              once i,
              named-stands i s (rw q h),
              k,
            )
