-- On each outcome an insurance has at most one payment: a lasting body, or a marked member, fails at most once along
-- the events.
use Rattle.std.proofs.Common.{◌≡◌, ◌⊎◌, ℕ, zero, suc, ◌+◌, ◌<◌, ◌≤◌, arith, refl, ap, sym, ◌∙◌, List, [], ◌∷◌, ◌++◌, map, filter, length, get_or, Bool, true, false, cond, not, ◌&&◌, nat_le, Option, Some, None, ⊎_elim}
use Rattle.std.proofs.lemmas.Bool.Decides.{nat_tests}
use Rattle.std.proofs.lemmas.List.Elements.{All-weaker}
use Rattle.halo_sums.specs.Sums.{numbers_from, sum_over}
use Rattle.halo_sums.proofs.Sums.{sum_over-append}
use Rattle.halo_status.specs.Tree.{Tree, life, term, joint, last, at_least, exactly, after}
use Rattle.halo_status.specs.Exists.{IsSubset, each_exists, exists}
use Rattle.halo_status.specs.Naming.{names_term}
use Rattle.halo_status.specs.Nodes.{IsLasting}
use Rattle.halo_status.specs.Pay.{PlainPay}
use Rattle.halo_status.specs.declared.pay.Mark.{Mark}
use Rattle.halo_status.proofs.Lasting.{lasts}
use Rattle.halo_model.specs.Outcome.{Exit, Outcome}
use Rattle.halo_model.specs.Event.{Event, ends, leaves, leavings, lives_after, lives_before, term_ends, terms_after, terms_before, year_of}
use Rattle.halo_model.specs.Order.{rank_in}
use Rattle.halo_model.specs.Basis.{taken}
use Rattle.halo_model.specs.Payment.{by_cause, fails_by_mark, falls_on, members_of}
use Rattle.halo_model.specs.OnePayment.{HaveOwnRanks, OnePayment, payments_of}
use Rattle.halo_model.proofs.Earlier.{IsEarlier, IsOn, leaving-first, leaving-or-end, lives-stay, terms-stay}
use Rattle.halo_model.proofs.Fails.{member-lasts}
use Rattle.halo_model.proofs.OwnRanks.{orders-give-own-ranks}

-- whether what an insurance waits for exists: the marked member, or the whole body
abbrev pub part_exists : Option Mark → Tree → (ℕ → Bool) → (ℕ → Bool) → Bool
part_exists None body alive on = exists alive on body
part_exists (Some m) body alive on = get_or (each_exists alive on (members_of body)) m.member false

fell : (b c d : Bool) → (b && not c && d) ≡ true → (b ≡ true) × (c ≡ false)
fell true false d e = (refl, refl)
fell true true d e = absurd (cc)
fell false c d e = absurd (cc)

fell-whole : (b c : Bool) → (b && not c) ≡ true → (b ≡ true) × (c ≡ false)
fell-whole true false e = (refl, refl)
fell-whole true true e = absurd (cc)
fell-whole false c e = absurd (cc)

-- where it fails it existed before and does not after
pub part-fails : (mark : Option Mark) (body : Tree) (alive on still_alive still_on : ℕ → Bool)
    → fails_by_mark mark body alive on still_alive still_on ≡ true
    → (part_exists mark body alive on ≡ true) × (part_exists mark body still_alive still_on ≡ false)
part-fails None body alive on still_alive still_on e =
    fell-whole (exists alive on body) (exists still_alive still_on body) e
part-fails (Some m) body alive on still_alive still_on e =
    fell (get_or (each_exists alive on (members_of body)) m.member false)
    (get_or (each_exists still_alive still_on (members_of body)) m.member false) _ e

-- with more lives and more terms it goes on existing
pub part-lasts : (mark : Option Mark) (body : Tree)
    → IsLasting body → (alive more_alive on more_on : ℕ → Bool) → IsSubset alive more_alive → IsSubset on more_on
    → part_exists mark body alive on ≡ true → part_exists mark body more_alive more_on ≡ true
part-lasts None body lasting alive more_alive on more_on lives terms e =
    lasts alive more_alive on more_on lives terms body lasting e
part-lasts (Some m) (joint ms) lasting alive more_alive on more_on lives terms e =
    member-lasts more_alive alive more_on on lives terms ms lasting.1 m.member e
part-lasts (Some m) (life i) lasting alive more_alive on more_on lives terms e = absurd (cc)
part-lasts (Some m) (term n) lasting alive more_alive on more_on lives terms e = absurd (cc)
part-lasts (Some m) (last ms) lasting alive more_alive on more_on lives terms e = absurd (cc)
part-lasts (Some m) (at_least r ms) lasting alive more_alive on more_on lives terms e = absurd (cc)
part-lasts (Some m) (exactly r ms) lasting alive more_alive on more_on lives terms e = absurd (cc)
part-lasts (Some m) (after s t) lasting alive more_alive on more_on lives terms e = absurd (cc)

last-of : (a b c d : Bool) → (a && b && c && d) ≡ true → d ≡ true
last-of true true true d e = e
last-of true true false d e = absurd (cc)
last-of true false c d e = absurd (cc)
last-of false b c d e = absurd (cc)

second-of : (a b c d : Bool) → (a && b && c && d) ≡ true → b ≡ true
second-of true true c d e = refl
second-of true false c d e = absurd (cc)
second-of false b c d e = absurd (cc)

-- of some events, each has a property
abbrev pub Each : (Event → Type 0) → List Event → Type 0
Each P [] = Unit {0}
Each P (e ∷ es) = P e × Each P es

pub each-weaker : (P Q : Event → Type 0) → ((e : Event) → P e → Q e) → (es : List Event) → Each P es → Each Q es
each-weaker P Q f [] h = tt
each-weaker P Q f (e ∷ es) h = (f e h.0, each-weaker P Q f es h.1)

each-append : (P : Event → Type 0) (es fs : List Event) → Each P es → Each P fs → Each P (es ++ fs)
each-append P [] fs h k = k
each-append P (e ∷ es) fs h k = (h.0, each-append P es fs h.1 k)

-- of some events at most one passes a test
abbrev Exclusive : (Event → Bool) → List Event → Type 0
Exclusive test [] = Unit {0}
Exclusive test (e ∷ es) = Each (λ f. test e ≡ true → test f ≡ true → ⊥) es × Exclusive test es

exclusive-append : (test : Event → Bool) (es fs : List Event) → Exclusive test es
    → Exclusive test fs → Each (λ e. Each (λ f. test e ≡ true → test f ≡ true → ⊥) fs) es → Exclusive test (es ++ fs)
exclusive-append test [] fs h k across = k
exclusive-append test (e ∷ es) fs h k across = (
  each-append (λ f. test e ≡ true → test f ≡ true → ⊥) es fs h.0 across.0,
  exclusive-append test es fs h.1 k across.1,
)

pub none-passes : (test : Event → Bool) (es : List Event)
    → Each (λ e. test e ≡ true → ⊥) es → sum_over es (λ e. cond (test e) 1 0) ≡ 0
none-passes test [] h = refl
none-passes test (e ∷ es) h = each (test e) refl (none-passes test es h.1)
  where
    each : (b : Bool)
        → test e ≡ b → sum_over es (λ e. cond (test e) 1 0) ≡ 0 → cond b 1 0 + sum_over es (λ e. cond (test e) 1 0) ≡ 0
    each true q rest = absurd (h.0 q)
    each false q rest = omega arith

at-most-one : (test : Event → Bool) (es : List Event) → Exclusive test es → sum_over es (λ e. cond (test e) 1 0) ≤ 1
at-most-one test [] h = omega arith
at-most-one test (e ∷ es) h = each (test e) refl (at-most-one test es h.1)
  where
    each : (b : Bool)
        → test e ≡ b → sum_over es (λ e. cond (test e) 1 0) ≤ 1 → cond b 1 0 + sum_over es (λ e. cond (test e) 1 0) ≤ 1
    each true q rest = omega (
      arith,
      none-passes test es
          (each-weaker (λ f. test e ≡ true → test f ≡ true → ⊥) (λ f. test f ≡ true → ⊥) (λ f k. k q) es h.0),
    )
    each false q rest = omega (arith, rest)

-- a life from some number on leaves as the outcome tells
abbrev pub LeavesFrom : Outcome → ℕ → Event → Type 0
LeavesFrom o i (leaves a x) = (i ≤ a) × (a < length o) × (get_or o a None ≡ Some x)
LeavesFrom o i (ends n) = ⊥

-- a term ends, of at least a first number of years and of fewer than another
abbrev pub EndsFrom : ℕ → ℕ → Event → Type 0
EndsFrom first bound (leaves a x) = ⊥
EndsFrom first bound (ends n) = (first ≤ n) × (n < bound)

leaves-before : (o : Outcome) (i : ℕ) (e : Event) → LeavesFrom o (suc i) e → LeavesFrom o i e
leaves-before o i (leaves a x) h = (omega (arith, h.0), h.1, h.2)
leaves-before o i (ends n) h = h

pub each-leaving : (o : Outcome) (i : ℕ) (rest : Outcome) → i + length rest ≡ length o
    → ((j : ℕ) → get_or o (i + j) None ≡ get_or rest j None) → Each (LeavesFrom o i) (leavings i rest)
each-leaving o i [] len at = tt
each-leaving o i (way ∷ rest) len at = first way refl (each-leaving o (suc i) rest (omega (arith, len)) next)
  where
    next : (j : ℕ) → get_or o (suc i + j) None ≡ get_or rest j None
    next j = let e : suc i + j ≡ i + suc j = omega arith in ap (λ n. get_or o n None) e ∙ at (suc j)

    here : get_or o i None ≡ way
    here = let e : i ≡ i + 0 = omega arith in ap (λ n. get_or o n None) e ∙ at 0

    first : (w : Option Exit)
        → way ≡ w → Each (LeavesFrom o (suc i)) (leavings (suc i) rest) → Each (LeavesFrom o i) (leavings i (w ∷ rest))
    first None q later =
        each-weaker (LeavesFrom o (suc i)) (LeavesFrom o i) (leaves-before o i) (leavings (suc i) rest) later
    first (Some x) q later = (
      (omega arith, omega (arith, len), here ∙ q),
      each-weaker (LeavesFrom o (suc i)) (LeavesFrom o i) (leaves-before o i) (leavings (suc i) rest) later,
    )

ends-before : (first bound : ℕ) (e : Event) → EndsFrom (suc first) bound e → EndsFrom first bound e
ends-before first bound (leaves a x) h = h
ends-before first bound (ends n) h = (omega (arith, h.0), h.1)

pub each-end : (names : ℕ → Bool) (count first bound : ℕ)
    → first + count ≤ bound → Each (EndsFrom first bound) (map ends (filter names (numbers_from first count)))
each-end names zero first bound within = tt
each-end names (suc count) first bound within =
    each (names first) (each-weaker (EndsFrom (suc first) bound) (EndsFrom first bound) (ends-before first bound)
    (map ends (filter names (numbers_from (suc first) count))) (each-end names count (suc first) bound (omega arith)))
  where
    each : (b : Bool) → Each (EndsFrom first bound) (map ends (filter names (numbers_from (suc first) count)))
        → Each (EndsFrom first bound) (map ends (cond b
        (first ∷ filter names (numbers_from (suc first) count)) (filter names (numbers_from (suc first) count))))
    each true rest = ((omega arith, omega arith), rest)
    each false rest = rest

module _ (pay : PlainPay) (lasting : IsLasting pay.body) (rank : ℕ → ℕ) (T : ℕ) (o : Outcome) where
  abbrev paid : Event → Bool
  paid e = falls_on pay rank T o e

  -- where a payment falls on an event, what is waited for exists before it and not after it
  pub paid-fails : (e : Event)
      → paid e ≡ true → (part_exists pay.mark pay.body (lives_before rank o e) (terms_before e) ≡ true)
      × (part_exists pay.mark pay.body (lives_after rank o e) (terms_after e) ≡ false)
  paid-fails e h =
      part-fails pay.mark pay.body (lives_before rank o e) (terms_before e) (lives_after rank o e) (terms_after e)
      (last-of (nat_le pay.defer (year_of e)) (nat_le T (year_of e)) (by_cause pay.causes e) (fails_by_mark
      pay.mark pay.body (lives_before rank o e) (terms_before e) (lives_after rank o e) (terms_after e)) h)

  -- .. and it comes from T on
  pub paid-when : (e : Event) → paid e ≡ true → T ≤ year_of e
  paid-when e h = started (nat_le T (year_of e)) refl
      (second-of (nat_le pay.defer (year_of e)) (nat_le T (year_of e)) (by_cause pay.causes e) (fails_by_mark
      pay.mark pay.body (lives_before rank o e) (terms_before e) (lives_after rank o e) (terms_after e)) h)
    where
      started : (from : Bool) → nat_le T (year_of e) ≡ from → from ≡ true → T ≤ year_of e
      started true q h = grind (arith, nat_tests)
      started false q h = absurd (cc)

  not-both : (e f : Event) → IsOn o e → IsOn o f → IsEarlier rank e f → paid e ≡ true → paid f ≡ true → ⊥
  not-both e f on_e on_f earlier h k =
      let stays = part-lasts pay.mark pay.body lasting
      (lives_before rank o f) (lives_after rank o e) (terms_before f) (terms_after e)
      (lives-stay rank o e f on_e earlier) (terms-stay rank o e f on_f earlier) (paid-fails f k).0 in
      let q : false ≡ true = sym (paid-fails e h).1 ∙ stays in cc

  apart : (e f : Event)
      → IsOn o e → IsOn o f → IsEarlier rank e f ⊎ IsEarlier rank f e → paid e ≡ true → paid f ≡ true → ⊥
  apart e f on_e on_f either h k =
      ⊎_elim (λ before. not-both e f on_e on_f before h k) (λ past. not-both f e on_f on_e past k h) either

  module _ (own : HaveOwnRanks rank (length o)) where
    one-leaving : (i : ℕ) (x : Exit) (f : Event) → i < length o
        → get_or o i None ≡ Some x → LeavesFrom o (suc i) f → paid (leaves i x) ≡ true → paid f ≡ true → ⊥
    one-leaving i x (ends n) within at h = absurd h
    one-leaving i x (leaves c y) within at h = apart (leaves i x) (leaves c y) at h.2
        (leaving-first rank i c x y (λ e. absurd (let same : i ≡ c = own i c within h.1 e in omega (arith, same, h.0))))

    leavings-exclude : (i : ℕ) (rest : Outcome) → i + length rest ≡ length o
        → ((j : ℕ) → get_or o (i + j) None ≡ get_or rest j None) → Exclusive paid (leavings i rest)
    leavings-exclude i [] len at = tt
    leavings-exclude i (way ∷ rest) len at = first way refl (leavings-exclude (suc i) rest (omega (arith, len)) next)
      where
        next : (j : ℕ) → get_or o (suc i + j) None ≡ get_or rest j None
        next j = let e : suc i + j ≡ i + suc j = omega arith in ap (λ n. get_or o n None) e ∙ at (suc j)

        here : get_or o i None ≡ way
        here = let e : i ≡ i + 0 = omega arith in ap (λ n. get_or o n None) e ∙ at 0

        first : (w : Option Exit)
            → way ≡ w → Exclusive paid (leavings (suc i) rest) → Exclusive paid (leavings i (w ∷ rest))
        first None q later = later
        first (Some x) q later = (
          each-weaker (LeavesFrom o (suc i)) (λ f. paid (leaves i x) ≡ true → paid f ≡ true → ⊥)
              (λ f h. one-leaving i x f (omega (arith, len)) (here ∙ q) h)
              (leavings (suc i) rest) (each-leaving o (suc i) rest (omega (arith, len)) next),
          later,
        )

    one-end : (n bound : ℕ) (f : Event) → 1 ≤ n → EndsFrom (suc n) bound f → paid (ends n) ≡ true → paid f ≡ true → ⊥
    one-end n bound (leaves a x) from h = absurd h
    one-end n bound (ends m) from h = not-both (ends n) (ends m) from (omega (arith, h.0)) (omega (arith, h.0))

    ends-exclude : (names : ℕ → Bool) (count first : ℕ)
        → 1 ≤ first → Exclusive paid (map ends (filter names (numbers_from first count)))
    ends-exclude names zero first from = tt
    ends-exclude names (suc count) first from = each (names first) (ends-exclude names count (suc first) (omega arith))
      where
        later : List ℕ
        later = filter names (numbers_from (suc first) count)

        each : (b : Bool) → Exclusive paid (map ends later) → Exclusive paid (map ends (cond b (first ∷ later) later))
        each true rest = (
          each-weaker (EndsFrom (suc first) (suc first + count))
              (λ f. paid (ends first) ≡ true → paid f ≡ true → ⊥) (λ f h. one-end first (suc first + count) f from h)
              (map ends later) (each-end names count (suc first) (suc first + count) (omega arith)),
          rest,
        )
        each false rest = rest

    one-of-both : (bound : ℕ) (e f : Event) → LeavesFrom o 0 e → EndsFrom 1 bound f → paid e ≡ true → paid f ≡ true → ⊥
    one-of-both bound (leaves a x) (ends n) h k = apart (leaves a x) (ends n) h.2 k.0 (leaving-or-end rank a n x)
    one-of-both bound (leaves a x) (leaves c y) h k = absurd k
    one-of-both bound (ends n) f h k = absurd h

    pub one-payment-by : (last_time : ℕ) → payments_of pay last_time rank T o ≤ 1
    one-payment-by last_time =
        let leaving : List Event = leavings 0 o in
        let ending : List Event = term_ends last_time pay.body in
        let across = each-weaker (LeavesFrom o 0)
        (λ e. Each (λ f. paid e ≡ true → paid f ≡ true → ⊥) ending) (λ e h. each-weaker (EndsFrom 1 (1 + last_time))
        (λ f. paid e ≡ true → paid f ≡ true → ⊥) (λ f k. one-of-both (1 + last_time) e f h k) ending
        (each-end (λ n. names_term n pay.body) last_time 1 (1 + last_time) (omega arith))) leaving
        (each-leaving o 0 o (omega arith) from-start) in
        omega (
          arith,
          sum_over-append leaving ending (λ e. cond (paid e) 1 0),
          at-most-one paid
              (leaving ++ ending) (exclusive-append paid leaving ending (leavings-exclude 0 o (omega arith) from-start)
              (ends-exclude (λ n. names_term n pay.body) last_time 1 (omega arith)) across),
        )
      where
        from-start : (j : ℕ) → get_or o (0 + j) None ≡ get_or o j None
        from-start j = let e : 0 + j ≡ j = omega arith in ap (λ n. get_or o n None) e

pub one-payment : OnePayment
one-payment b pay is T o len = All-weaker (λ order. HaveOwnRanks (rank_in order) (length b.lives))
    (λ order. payments_of pay b.last_time (rank_in order) T o ≤ 1)
    (λ order own. one-payment-by pay (is.valid.lasting is.kind) (rank_in order) T o (rw len own) b.last_time)
    (taken b) (orders-give-own-ranks b.ties (length b.lives))
