-- In each year the events on which an unmarked insurance by any cause pays number 1 where its body fails in the year,
-- else 0.
use Rattle.std.proofs.Common.{◌≡◌, ◌⊎◌, ℕ, zero, suc, ◌+◌, ◌-◌, ◌<◌, ◌≤◌, arith, refl, ap, sym, ◌∙◌, List, [], ◌∷◌, map, filter, length, get_or, inl, inr, Bool, true, false, cond, not, ◌&&◌, ◌||◌, nat_eq, nat_lt, nat_le, Option, Some, None, ⊎_elim}
use Rattle.std.proofs.lemmas.Bool.{cases_lt}
use Rattle.std.proofs.lemmas.Bool.Decides.{eqb_tells, nat_tests}
use Rattle.std.proofs.lemmas.List.Elements.{All-weaker}
use Rattle.halo_sums.specs.Sums.{numbers_from, sum_over}
use Rattle.halo_status.specs.Exists.{IsSubset, exists}
use Rattle.halo_status.specs.Naming.{names_term}
use Rattle.halo_status.specs.Nodes.{IsLasting}
use Rattle.halo_status.specs.Pay.{PlainPay}
use Rattle.halo_status.specs.View.{is_on}
use Rattle.halo_status.specs.declared.view.View.TheVariants.{Due}
use Rattle.halo_status.proofs.Lasting.{lasts}
use Rattle.halo_sums.proofs.Numbers.{sum_over-numbers_one}
use Rattle.halo_model.specs.Outcome.{Exit, Outcome}
use Rattle.halo_model.specs.There.{lives_at, there}
use Rattle.halo_model.specs.Event.{Event, ends, is_leaving_of, leaves, leavings, life_not_earlier, lives_after, lives_before, term_ends, terms_after, terms_before, year_of}
use Rattle.halo_model.specs.Order.{rank_in}
use Rattle.halo_model.specs.Basis.{taken}
use Rattle.halo_model.specs.Payment.{by_cause, fails_by_mark, falls_on}
use Rattle.halo_model.specs.OnePayment.{HaveOwnRanks}
use Rattle.halo_model.specs.OneEvent.{OneEventAYear, fails_in_year, falls_in_year, payments_in_year}
use Rattle.halo_status.proofs.Agreement.{agree}
use Rattle.halo_model.proofs.Earlier.{IsOn}
use Rattle.halo_model.proofs.Insurances.{at_exit, sum_over-leavings}
use Rattle.halo_model.proofs.NoChance.{other-than}
use Rattle.halo_model.proofs.OnePayment.{EndsFrom, LeavesFrom, each-end, each-leaving, each-weaker, none-passes, one-payment-by, paid-fails, part_exists}
use Rattle.halo_model.proofs.OwnRanks.{orders-give-own-ranks}

-- what an event is worth is at most what all are
one-leaving : (f : Event → ℕ) (o : Outcome) (a : ℕ) (x : Exit)
    → a < length o → get_or o a None ≡ Some x → f (leaves a x) ≤ sum_over (leavings 0 o) f
one-leaving f o a x within at =
    let one =
    sum_over-numbers_one (length o) 0 a (λ a. at_exit f (0 + a) (get_or o a None)) (omega arith) (omega arith) in
    omega (arith, one, sum_over-leavings f 0 o, here)
  where
    here : at_exit f (0 + a) (get_or o a None) ≡ f (leaves a x)
    here = let e : 0 + a ≡ a = omega arith in ap (λ n. at_exit f n (get_or o a None)) e ∙ ap (at_exit f a) at

one-end : (f : Event → ℕ) (names : ℕ → Bool) (count first n : ℕ) → first ≤ n
    → n < first + count → names n ≡ true → f (ends n) ≤ sum_over (map ends (filter names (numbers_from first count))) f
one-end f names zero first n from before named = absurd (omega arith)
one-end f names (suc count) first n from before named = each (one-end f names count (suc first) n) (names first) refl
  where
    later : List ℕ
    later = filter names (numbers_from (suc first) count)

    each : (suc first ≤ n → n < suc first + count → names n ≡ true → f (ends n) ≤ sum_over (map ends later) f)
        → (b : Bool) → names first ≡ b → f (ends n) ≤ sum_over (map ends (cond b (first ∷ later) later)) f
    each rest b q = ⊎_elim
        (λ past. more b (rest past (omega arith) named))
        here
        (cases_lt first n)
      where
        more : (b : Bool) → f (ends n) ≤ sum_over (map ends later) f
            → f (ends n) ≤ sum_over (map ends (cond b (first ∷ later) later)) f
        more true h = omega (arith, h)
        more false h = h

        first-one : (b : Bool)
            → b ≡ true → n ≡ first → f (ends n) ≤ sum_over (map ends (cond b (first ∷ later) later)) f
        first-one true e same = rw same (omega arith)
        first-one false e same = absurd (cc)

        here : n ≤ first → f (ends n) ≤ sum_over (map ends (cond b (first ∷ later) later)) f
        here h = let e : n ≡ first = omega arith in first-one b (sym q ∙ ap names (sym e) ∙ named) e

within : (o : Outcome) (i : ℕ) (z : Exit) → get_or o i None ≡ Some z → i < length o
within [] i z e = absurd (cc)
within (way ∷ o) zero z e = omega arith
within (way ∷ o) (suc i) z e = omega (arith, within o i z e)

-- one of some numbers passes a test, or none does
find : (test : ℕ → Bool) (n : ℕ) → ((a : ℕ) × (a < n) × (test a ≡ true)) ⊎ ((i : ℕ) → i < n → test i ≡ false)
find test zero = inr (λ i h. absurd (omega arith))
find test (suc n) = here (test n) refl (find test n)
  where
    here : (b : Bool) → test n ≡ b → ((a : ℕ) × (a < n) × (test a ≡ true)) ⊎ ((i : ℕ) → i < n → test i ≡ false)
        → ((a : ℕ) × (a < suc n) × (test a ≡ true)) ⊎ ((i : ℕ) → i < suc n → test i ≡ false)
    here true q rest = inl (n, omega arith, q)
    here false q (inl found) = inl (found.0, omega (arith, found.1), found.2)
    here false q (inr nobody) =
        inr (λ i h. ⊎_elim (λ before. nobody i before) (λ past. let e : i ≡ n = omega arith in rw e q) (cases_lt i n))

both-true : (b c : Bool) → (b && c) ≡ true → (b ≡ true) × (c ≡ true)
both-true true c e = (refl, e)
both-true false c e = absurd (cc)

pair-true : (b c : Bool) → b ≡ true → c ≡ true → (b && c) ≡ true
pair-true true c e f = f
pair-true false c e f = absurd (cc)

kept : (b : Bool) → b ≡ true → (b && not false) ≡ true
kept true e = refl
kept false e = absurd (cc)

apart : (b c : Bool) → b ≡ true → c ≡ false → (b && not c) ≡ true
apart true c e q = rw q refl
apart false c e q = absurd (cc)

equal : (m n : ℕ) → nat_eq m n ≡ true → m ≡ n
equal m n e = grind (arith, nat_tests)

some-is : (x y : Exit) → Some x ≡ Some y → x ≡ y
some-is x y e = grind arith

-- what is there before and after an event of year k, and at the times k and k + 1
module _ (rank : ℕ → ℕ) (o : Outcome) (k : ℕ) where
  was-leaving : (x z : ℕ) (tie : Bool) → x ≡ k → (nat_lt x z || (nat_eq x z && tie)) ≡ true → nat_le k z ≡ true
  was-leaving x z tie e h = grind (arith, nat_tests)

  was-end : (n z : ℕ) → n - 1 ≡ k → nat_lt (n - 1) z ≡ true → nat_le k z ≡ true
  was-end n z e h = grind (arith, nat_tests)

  before-by : (e : Event)
      → year_of e ≡ k → (i : ℕ) (way : Option Exit) → life_not_earlier rank e i way ≡ true → there k way ≡ true
  before-by e year i None h = absurd (cc)
  before-by (leaves a x) year i (Some z) h = was-leaving x.year z.year (nat_le (rank a) (rank i)) year h
  before-by (ends n) year i (Some z) h = was-end n z.year year h

  lives-were : (e : Event) → year_of e ≡ k → IsSubset (lives_before rank o e) (lives_at k o)
  lives-were e year i h = before-by e year i (get_or o i None) h

  on-leaving : (x m : ℕ) → x ≡ k → nat_lt x m ≡ true → nat_lt k m ≡ true
  on-leaving x m e h = grind (arith, nat_tests)

  on-end : (n m : ℕ) → 1 ≤ n → n - 1 ≡ k → nat_le n m ≡ true → nat_lt k m ≡ true
  on-end n m from e h = grind (arith, nat_tests)

  terms-were : (e : Event) → IsOn o e → year_of e ≡ k → IsSubset (terms_before e) (is_on Due k)
  terms-were (leaves a x) on year m h = on-leaving x.year m year h
  terms-were (ends n) on year m h = on-end n m on year h

  stays-leaving : (x z : ℕ) (tie : Bool) → x ≡ k → nat_le (suc k) z ≡ true → (nat_lt x z || tie) ≡ true
  stays-leaving x z tie e h = grind (arith, nat_tests)

  not-itself : (x : ℕ) → x ≡ k → nat_le (suc k) x ≡ true → ⊥
  not-itself x e h = absurd (grind (arith, nat_tests))

  stays-end : (n z : ℕ) → n - 1 ≡ k → nat_le (suc k) z ≡ true → nat_lt (n - 1) z ≡ true
  stays-end n z e h = grind (arith, nat_tests)

  after-by : (e : Event) → IsOn o e → year_of e ≡ k → (i : ℕ) (way : Option Exit) → get_or o i None ≡ way
      → there (suc k) way ≡ true → (life_not_earlier rank e i way && not (is_leaving_of e i)) ≡ true
  after-by e on year i None at h = absurd (cc)
  after-by (leaves a x) on year i (Some z) at h =
      apart _ _ (stays-leaving x.year z.year (nat_eq x.year z.year && nat_le (rank a) (rank i)) year h)
      (other-than a i (λ q. not-itself x.year year
      (let same : z ≡ x = some-is z x (sym at ∙ ap (λ n. get_or o n None) q ∙ on) in rw (← same) h)))
  after-by (ends n) on year i (Some z) at h = kept _ (stays-end n z.year year h)

  lives-are : (e : Event) → IsOn o e → year_of e ≡ k → IsSubset (lives_at (suc k) o) (lives_after rank o e)
  lives-are e on year i h = after-by e on year i (get_or o i None) refl h

  off-leaving : (x m : ℕ) → x ≡ k → nat_lt (suc k) m ≡ true → (nat_lt x m && not false) ≡ true
  off-leaving x m e h = grind (arith, nat_tests)

  off-end : (n m : ℕ) → 1 ≤ n → n - 1 ≡ k → nat_lt (suc k) m ≡ true → (nat_le n m && not (nat_eq n m)) ≡ true
  off-end n m from e h = grind (arith, nat_tests)

  terms-are : (e : Event) → IsOn o e → year_of e ≡ k → IsSubset (is_on Due (suc k)) (terms_after e)
  terms-are (leaves a x) on year m h = off-leaving x.year m year h
  terms-are (ends n) on year m h = off-end n m on year h

  -- a life that leaves after year k, or in it with a rank of at least t
  abbrev stands : ℕ → ℕ → Option Exit → Bool
  stands t i None = false
  stands t i (Some z) = nat_lt k z.year || (nat_eq k z.year && nat_le t (rank i))

  abbrev standing : ℕ → ℕ → Bool
  standing t i = stands t i (get_or o i None)

  at-first : (z r : ℕ) → nat_le k z ≡ true → (nat_lt k z || (nat_eq k z && nat_le 0 r)) ≡ true
  at-first z r h = grind (arith, nat_tests)

  all-stand : IsSubset (lives_at k o) (standing 0)
  all-stand i h = by-way (get_or o i None) h
    where
      by-way : (way : Option Exit) → there k way ≡ true → stands 0 i way ≡ true
      by-way None h = absurd (cc)
      by-way (Some z) h = at-first z.year (rank i) h

  at-leaving : (x ra t z r : ℕ) → x ≡ k
      → ra ≡ t → (nat_lt k z || (nat_eq k z && nat_le t r)) ≡ true → (nat_lt x z || (nat_eq x z && nat_le ra r)) ≡ true
  at-leaving x ra t z r e f h = grind (arith, nat_tests)

  standing-before : (a t : ℕ) (x : Exit)
      → x.year ≡ k → rank a ≡ t → IsSubset (standing t) (lives_before rank o (leaves a x))
  standing-before a t x year ranked i h = by-way (get_or o i None) h
    where
      by-way : (way : Option Exit) → stands t i way ≡ true → life_not_earlier rank (leaves a x) i way ≡ true
      by-way None h = absurd (cc)
      by-way (Some z) h = at-leaving x.year (rank a) t z.year (rank i) year ranked h

  next-rank : (t z r : ℕ) → (z ≡ k → r ≡ t → ⊥)
      → (nat_lt k z || (nat_eq k z && nat_le t r)) ≡ true → (nat_lt k z || (nat_eq k z && nat_le (suc t) r)) ≡ true
  next-rank t z r other h = ⊎_elim
      (λ year. ⊎_elim (λ same. absurd (other year.1 same.1)) (λ differ. go-rank year.1 differ.1) (eqb_tells r t))
      (λ later. go-year later.1)
      (eqb_tells z k)
    where
      go-rank : z ≡ k → (r ≡ t → ⊥) → (nat_lt k z || (nat_eq k z && nat_le (suc t) r)) ≡ true
      go-rank e f = grind (arith, nat_tests)

      go-year : (z ≡ k → ⊥) → (nat_lt k z || (nat_eq k z && nat_le (suc t) r)) ≡ true
      go-year e = grind (arith, nat_tests)

  nobody-next : (t : ℕ) → ((i : ℕ) (z : Exit) → get_or o i None ≡ Some z → z.year ≡ k → rank i ≡ t → ⊥)
      → IsSubset (standing t) (standing (suc t))
  nobody-next t nobody i h = by-way (get_or o i None) refl h
    where
      by-way : (way : Option Exit) → get_or o i None ≡ way → stands t i way ≡ true → stands (suc t) i way ≡ true
      by-way None at h = absurd (cc)
      by-way (Some z) at h = next-rank t z.year (rank i) (λ year ranked. nobody i z at year ranked) h

  back : (x ra t z r : ℕ) → x ≡ k
      → ra ≡ t → (nat_lt x z || (nat_eq x z && nat_le ra r)) ≡ true → (nat_lt k z || (nat_eq k z && nat_le t r)) ≡ true
  back x ra t z r e f h = grind (arith, nat_tests)

  differs : (a i : ℕ) → not (nat_eq a i) ≡ true → i ≡ a → ⊥
  differs a i e h = absurd (grind (arith, nat_tests))

  after-standing : HaveOwnRanks rank (length o) → (a t : ℕ) (x : Exit)
      → a < length o → x.year ≡ k → rank a ≡ t → IsSubset (lives_after rank o (leaves a x)) (standing (suc t))
  after-standing own a t x within_a year ranked i h = by-way (get_or o i None) refl h
    where
      by-way : (way : Option Exit) → get_or o i None ≡ way
          → (life_not_earlier rank (leaves a x) i way && not (nat_eq a i)) ≡ true → stands (suc t) i way ≡ true
      by-way None at h = absurd (cc)
      by-way (Some z) at h =
          let two = both-true (life_not_earlier rank (leaves a x) i (Some z)) (not (nat_eq a i)) h in
          next-rank t z.year (rank i)
          (λ year_z ranked_i. differs a i two.1 (own i a (within o i z at) within_a (ranked_i ∙ sym ranked)))
          (back x.year (rank a) t z.year (rank i) year ranked two.0)

  past-all : (t z r : ℕ) → r < t → (nat_lt k z || (nat_eq k z && nat_le t r)) ≡ true → nat_le (suc k) z ≡ true
  past-all t z r e h = grind (arith, nat_tests)

  past-standing : (t : ℕ) → ((i : ℕ) → i < length o → rank i < t) → IsSubset (standing t) (lives_at (suc k) o)
  past-standing t last_rank i h = by-way (get_or o i None) refl h
    where
      by-way : (way : Option Exit) → get_or o i None ≡ way → stands t i way ≡ true → there (suc k) way ≡ true
      by-way None at h = absurd (cc)
      by-way (Some z) at h = past-all t z.year (rank i) (last_rank i (within o i z at)) h

not-false : (b : Bool) → (b ≡ true → ⊥) → b ≡ false
not-false true h = absurd (h refl)
not-false false h = refl

goes-on : (d t f c : Bool) → d ≡ true → t ≡ true → c ≡ true → (d && t && c && f) ≡ false → f ≡ false
goes-on true true f true p q r e = e
goes-on true true f false p q r e = absurd (cc)
goes-on true false f c p q r e = absurd (cc)
goes-on false t f c p q r e = absurd (cc)

not-fails : (b c : Bool) → b ≡ true → (b && not c) ≡ false → c ≡ true
not-fails true true p e = refl
not-fails true false p e = absurd (cc)
not-fails false c p e = absurd (cc)

reached : (m n : ℕ) → m ≤ n → nat_le m n ≡ true
reached m n h = grind (arith, nat_tests)

module _ (pay : PlainPay) (plain : pay.mark ≡ None) (any_cause : pay.causes ≡ None)
    (lasting : IsLasting pay.body) (rank : ℕ → ℕ) (T : ℕ) (o : Outcome) (own : HaveOwnRanks rank (length o))
    (k last_time : ℕ) (started : T ≤ k) (deferred : pay.defer ≤ k) (before_last : k < last_time) where
  abbrev falls : Event → Bool
  falls e = falls_in_year pay rank T o k e

  abbrev at_start : Bool
  at_start = exists (lives_at k o) (is_on Due k) pay.body

  abbrev at_end : Bool
  at_end = exists (lives_at (suc k) o) (is_on Due (suc k)) pay.body

  -- where a payment falls on an event of the year, the body fails in the year
  falls-once : (e : Event) → IsOn o e → falls e ≡ true → (at_start ≡ true) × (at_end ≡ false)
  falls-once e on h =
      let two = both-true (nat_eq (year_of e) k) (falls_on pay rank T o e) h in
      let year : year_of e ≡ k = equal (year_of e) k two.0 in
      let fails = paid-fails pay lasting rank T o e two.1 in
      let there_before =
      sym (ap (λ m. part_exists m pay.body (lives_before rank o e) (terms_before e)) plain) ∙ fails.0 in
      let gone_after =
      sym (ap (λ m. part_exists m pay.body (lives_after rank o e) (terms_after e)) plain) ∙ fails.1 in (
        lasts (lives_before rank o e) (lives_at k o) (terms_before e)
            (is_on Due k) (lives-were rank o k e year) (terms-were rank o k e on year) pay.body lasting there_before,
        not-false at_end (λ stays. let still = lasts (lives_at (suc k) o) (lives_after rank o e) (is_on Due (suc k))
            (terms_after e) (lives-are rank o k e on year) (terms-are rank o k e on year) pay.body lasting stays in
            let q : false ≡ true = sym gone_after ∙ still in cc),
      )

  -- where none falls on an event of the year, the body exists after it if it existed before
  outlives : (e : Event) → year_of e ≡ k → falls e ≡ false → exists (lives_before rank o e) (terms_before e) pay.body
      ≡ true → exists (lives_after rank o e) (terms_after e) pay.body ≡ true
  outlives e year none there_before =
      let not_paid : falls_on pay rank T o e ≡ false =
      off (nat_eq (year_of e) k) (falls_on pay rank T o e) (same (year_of e) k year) none in
      let d : nat_le pay.defer (year_of e) ≡ true = reached pay.defer (year_of e) (omega (arith, year)) in
      let s : nat_le T (year_of e) ≡ true = reached T (year_of e) (omega (arith, year)) in
      let unmarked = goes-on (nat_le pay.defer (year_of e)) (nat_le T (year_of e))
      (fails_by_mark pay.mark pay.body (lives_before rank o e) (terms_before e) (lives_after rank o e)
      (terms_after e)) (by_cause pay.causes e) d s (ap (λ causes. by_cause causes e) any_cause) not_paid in
      not-fails (exists (lives_before rank o e) (terms_before e) pay.body)
      (exists (lives_after rank o e) (terms_after e) pay.body) there_before
      (sym (ap (λ m. fails_by_mark m pay.body
      (lives_before rank o e) (terms_before e) (lives_after rank o e) (terms_after e)) plain) ∙ unmarked)
    where
      off : (b c : Bool) → b ≡ true → (b && c) ≡ false → c ≡ false
      off true c p e = e
      off false c p e = absurd (cc)

      same : (m n : ℕ) → m ≡ n → nat_eq m n ≡ true
      same m n h = grind (arith, nat_tests)

  abbrev here : ℕ → ℕ → Option Exit → Bool
  here t a None = false
  here t a (Some x) = nat_eq x.year k && nat_eq (rank a) t

  -- no payment falls on an event of the year
  module _ (no_leaving : (a : ℕ) (x : Exit) → get_or o a None ≡ Some x → falls (leaves a x) ≡ false)
      (no_end : names_term (suc k) pay.body ≡ true → falls (ends (suc k)) ≡ false)
      (exists_first : at_start ≡ true) where
    next-stands : (t : ℕ) → exists (standing rank o k t) (is_on Due k) pay.body ≡ true
        → exists (standing rank o k (suc t)) (is_on Due k) pay.body ≡ true
    next-stands t stood = ⊎_elim found nobody (find (λ a. here t a (get_or o a None)) (length o))
      where
        found : ((a : ℕ) × (a < length o) × (here t a (get_or o a None) ≡ true))
            → exists (standing rank o k (suc t)) (is_on Due k) pay.body ≡ true
        found leaver = by-way (get_or o leaver.0 None) refl leaver.2
          where
            on-now : (x m : ℕ) → x ≡ k → nat_lt k m ≡ true → nat_lt x m ≡ true
            on-now x m e h = grind (arith, nat_tests)

            on-then : (x m : ℕ) → x ≡ k → (nat_lt x m && not false) ≡ true → nat_lt k m ≡ true
            on-then x m e h = grind (arith, nat_tests)

            by-way : (way : Option Exit) → get_or o leaver.0 None ≡ way
                → here t leaver.0 way ≡ true → exists (standing rank o k (suc t)) (is_on Due k) pay.body ≡ true
            by-way None at h = absurd (cc)
            by-way (Some x) at h =
                let two = both-true (nat_eq x.year k) (nat_eq (rank leaver.0) t) h in
                let year : x.year ≡ k = equal x.year k two.0 in
                let ranked : rank leaver.0 ≡ t = equal (rank leaver.0) t two.1 in
                let e : Event = leaves leaver.0 x in
                let there_before = lasts (standing rank o k t) (lives_before rank o (leaves leaver.0 x))
                (is_on Due k) (terms_before (leaves leaver.0 x)) (standing-before rank o k leaver.0 t x year ranked)
                (λ m h. on-now x.year m year h) pay.body lasting stood in
                let there_after = outlives (leaves leaver.0 x) year (no_leaving leaver.0 x at) there_before in
                lasts (lives_after rank o (leaves leaver.0 x))
                (standing rank o k (suc t)) (terms_after (leaves leaver.0 x))
                (is_on Due k) (after-standing rank o k own leaver.0 t x leaver.1 year ranked)
                (λ m h. on-then x.year m year h) pay.body lasting there_after

        nobody : ((i : ℕ) → i < length o → here t i (get_or o i None) ≡ false)
            → exists (standing rank o k (suc t)) (is_on Due k) pay.body ≡ true
        nobody none = lasts (standing rank o k t) (standing rank o k (suc t))
            (is_on Due k) (is_on Due k) (nobody-next rank o k t (λ i z at year ranked. contrary i z at year ranked))
            (λ m h. h) pay.body lasting stood
          where
            is-here : (x r : ℕ) → x ≡ k → r ≡ t → (nat_eq x k && nat_eq r t) ≡ true
            is-here x r e f = grind (arith, nat_tests)

            contrary : (i : ℕ) (z : Exit) → get_or o i None ≡ Some z → z.year ≡ k → rank i ≡ t → ⊥
            contrary i z at year ranked =
                let q : true ≡ false = sym (is-here z.year (rank i) year ranked)
                ∙ ap (here t i) (sym at) ∙ none i (within o i z at) in cc

    all-stands : (t : ℕ) → exists (standing rank o k t) (is_on Due k) pay.body ≡ true
    all-stands zero = lasts (lives_at k o)
        (standing rank o k 0) (is_on Due k) (is_on Due k) (all-stand rank o k) (λ m h. h) pay.body lasting exists_first
    all-stands (suc t) = next-stands t (all-stands t)

    -- after the lives of the year
    last-stands : exists (lives_at (suc k) o) (is_on Due k) pay.body ≡ true
    last-stands = lasts (standing rank o k last_rank) (lives_at (suc k) o) (is_on Due k) (is_on Due k) (past-standing
        rank o k last_rank (λ i h. omega (arith, sum_over-numbers_one (length o) 0 i rank (omega arith) (omega arith))))
        (λ m h. h) pay.body lasting (all-stands last_rank)
      where
        last_rank : ℕ
        last_rank = suc (sum_over (numbers_from 0 (length o)) rank)

    goes-on-to-end : at_end ≡ true
    goes-on-to-end = each (names_term (suc k) pay.body) refl
      where
        other : (m : ℕ) → (m ≡ suc k → ⊥) → nat_lt k m ≡ nat_lt (suc k) m
        other m h = grind (arith, nat_tests)

        back-one : suc k - 1 ≡ k
        back-one = omega arith

        before-end : (z : ℕ) → nat_le (suc k) z ≡ true → nat_lt (suc k - 1) z ≡ true
        before-end z h = grind (arith, nat_tests)

        after-end : (z : ℕ) → (nat_lt (suc k - 1) z && not false) ≡ true → nat_le (suc k) z ≡ true
        after-end z h = grind (arith, nat_tests)

        still-on : (m : ℕ) → nat_lt k m ≡ true → nat_le (suc k) m ≡ true
        still-on m h = grind (arith, nat_tests)

        on-after : (m : ℕ) → (nat_le (suc k) m && not (nat_eq (suc k) m)) ≡ true → nat_lt (suc k) m ≡ true
        on-after m h = grind (arith, nat_tests)

        before-by : (i : ℕ) (way : Option Exit)
            → there (suc k) way ≡ true → life_not_earlier rank (ends (suc k)) i way ≡ true
        before-by i None h = absurd (cc)
        before-by i (Some z) h = before-end z.year h

        after-by : (i : ℕ) (way : Option Exit)
            → (life_not_earlier rank (ends (suc k)) i way && not false) ≡ true → there (suc k) way ≡ true
        after-by i None h = absurd (cc)
        after-by i (Some z) h = after-end z.year h

        each : (named : Bool) → names_term (suc k) pay.body ≡ named → at_end ≡ true
        each false silent = sym (agree (lives_at (suc k) o) (lives_at (suc k) o) (is_on Due k)
            (is_on Due (suc k)) pay.body (λ i e. refl) (λ m e. other m (λ same. let f : names_term (suc k) pay.body
            ≡ true = rw (← same) e in let q : true ≡ false = sym f ∙ silent in cc))) ∙ last-stands
        each true named =
            let there_before = lasts
            (lives_at (suc k) o) (lives_before rank o (ends (suc k))) (is_on Due k) (terms_before (ends (suc k)))
            (λ i h. before-by i (get_or o i None) h) still-on pay.body lasting last-stands in
            let there_after = outlives (ends (suc k)) back-one (no_end named) there_before in
            lasts (lives_after rank o (ends (suc k))) (lives_at (suc k) o) (terms_after (ends (suc k)))
            (is_on Due (suc k)) (λ i h. after-by i (get_or o i None) h) on-after pay.body lasting there_after

  abbrev one_if : Event → ℕ
  one_if e = cond (falls e) 1 0

  no-more : (es : List Event) → sum_over es one_if ≤ sum_over es (λ e. cond (falls_on pay rank T o e) 1 0)
  no-more [] = omega arith
  no-more (e ∷ es) = omega (arith, less (nat_eq (year_of e) k) (falls_on pay rank T o e), no-more es)
    where
      less : (b c : Bool) → cond (b && c) 1 0 ≤ cond c 1 0
      less true c = omega arith
      less false c = omega arith

  at-most-one : payments_in_year pay last_time rank T o k ≤ 1
  at-most-one = omega (
    arith,
    no-more (leavings 0 o),
    no-more (term_ends last_time pay.body),
    one-payment-by pay lasting rank T o own last_time,
  )

  from-start : (j : ℕ) → get_or o (0 + j) None ≡ get_or o j None
  from-start j = let e : 0 + j ≡ j = omega arith in ap (λ n. get_or o n None) e

  -- where the body does not fail in the year, no payment falls on an event of it
  none-falls : fails_in_year pay o k ≡ false → payments_in_year pay last_time rank T o k ≡ 0
  none-falls stays = omega (
    arith,
    none-passes falls (leavings 0 o) (each-weaker (LeavesFrom o 0)
        (λ e. falls e ≡ true → ⊥) leaving (leavings 0 o) (each-leaving o 0 o (omega arith) from-start)),
    none-passes falls (term_ends last_time pay.body)
        (each-weaker (EndsFrom 1 (1 + last_time)) (λ e. falls e ≡ true → ⊥) ending (term_ends last_time pay.body)
        (each-end (λ n. names_term n pay.body) last_time 1 (1 + last_time) (omega arith))),
  )
    where
      contrary : (e : Event) → IsOn o e → falls e ≡ true → ⊥
      contrary e on h =
          let fell = falls-once e on h in
          let q : true ≡ false = sym (apart at_start at_end fell.0 fell.1) ∙ stays in cc

      leaving : (e : Event) → LeavesFrom o 0 e → falls e ≡ true → ⊥
      leaving (leaves a x) on h = contrary (leaves a x) on.2 h
      leaving (ends n) on h = absurd on

      ending : (e : Event) → EndsFrom 1 (1 + last_time) e → falls e ≡ true → ⊥
      ending (leaves a x) on h = absurd on
      ending (ends n) on h = contrary (ends n) on.0 h

  zero-falls : (b : Bool) → cond b 1 0 ≤ 0 → b ≡ false
  zero-falls true h = absurd (omega arith)
  zero-falls false h = refl

  -- where it fails, one does
  some-falls : at_start ≡ true → at_end ≡ false → 1 ≤ payments_in_year pay last_time rank T o k
  some-falls first gone = ⊎_elim (λ some. some) nothing (cases_lt 0 (payments_in_year pay last_time rank T o k))
    where
      nothing : payments_in_year pay last_time rank T o k ≤ 0 → 1 ≤ payments_in_year pay last_time rank T o k
      nothing none =
          let no_leaving : (a : ℕ) (x : Exit) → get_or o a None ≡ Some x → falls (leaves a x) ≡ false = λ a x at.
          zero-falls (falls (leaves a x)) (omega (arith, none, one-leaving one_if o a x (within o a x at) at)) in
          let no_end : names_term (suc k) pay.body ≡ true
          → falls (ends (suc k)) ≡ false = λ named. zero-falls (falls (ends (suc k))) (omega (
            arith,
            none,
            one-end one_if (λ n. names_term n pay.body) last_time 1 (suc k) (omega arith) (omega arith) named,
          )) in
          let q : false ≡ true = sym gone ∙ goes-on-to-end no_leaving no_end first in
          absurd (cc)

  pub one-event-by : payments_in_year pay last_time rank T o k ≡ cond (fails_in_year pay o k) 1 0
  one-event-by = each at_start at_end refl refl
    where
      each : (first last : Bool)
          → at_start ≡ first → at_end ≡ last → payments_in_year pay last_time rank T o k ≡ cond (first && not last) 1 0
      each true false p q = omega (arith, at-most-one, some-falls p q)
      each true true p q = none-falls (rw (p, q) refl)
      each false last p q = none-falls (rw p refl)

pub one-event-a-year : OneEventAYear
one-event-a-year b pay plain any_cause lasting T o len k started deferred before_last =
    All-weaker (λ order. HaveOwnRanks (rank_in order) (length b.lives))
    (λ order. payments_in_year pay b.last_time (rank_in order) T o k ≡ cond (fails_in_year pay o k) 1 0)
    (λ order own. one-event-by pay plain any_cause lasting (rank_in order) T o (rw len own)
    k b.last_time started deferred before_last) (taken b) (orders-give-own-ranks b.ties (length b.lives))
