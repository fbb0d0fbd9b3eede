-- The parts of a pay add up to its value: sets without a coefficient, and lives that its body does
-- not name, add nothing.
use Rattle.std.proofs.Common.{◌≡◌, ◌≢◌, ℕ, zero, suc, ◌+◌, ◌≤◌, arith, refl, ap, sym, ◌∙◌, List, [], ◌∷◌, length, get_or, map, Bool, true, false, ◌&&◌, nat_eq, Option, None, Some, ℤ, pos, negsuc, ◌+ℤ◌, ◌*ℤ◌}
use Rattle.std.specs.Prelude.{IfSome}
use Rattle.std.proofs.Math.Bool.{and-false}
use Rattle.std.proofs.Math.IntN.{*ℤ-zero}
use Rattle.std.proofs.lemmas.Int.{ints}
use Rattle.halo_sums.specs.Sets.{sets}
use Rattle.halo_sums.specs.SetsInOrder.{sets_in_order, sets_of_size}
use Rattle.halo_sums.specs.Sums.{indicator, int_sum_over, numbers_from, sum_over}
use Rattle.halo_sums.proofs.IntSums.{int_sum_over-add, int_sum_over-append, int_sum_over-ext, int_sum_over-flat_map, int_sum_over-map, int_sum_over-none, int_sum_over-swap}
use Rattle.halo_sums.proofs.Numbers.{numbers_from-add}
use Rattle.halo_sums.proofs.Sets.{int_sum_over-sets}
use Rattle.halo_sums.proofs.SetsInOrder.{sets_of_size-few}
use Rattle.halo_status.specs.Naming.{names_life}
use Rattle.halo_status.specs.Pay.{PlainPay}
use Rattle.halo_status.specs.ValidPay.{CanBeMarked}
use Rattle.halo_status.specs.declared.pay.Mark.{Mark}
use Rattle.halo_model.proofs.RanksAsk.{ranks-ask}
use Rattle.halo_status.specs.declared.pay.Kind.{Kind}
use Rattle.halo_status.specs.declared.pay.Kind.TheVariants.{Insurance, Due, Immediate}
use Rattle.halo_contract.specs.Premium.{all_lives}
use Rattle.halo_model.specs.Basis.{Basis, taken}
use Rattle.halo_model.specs.Chance.{IsValidInsurance, paid_at_exit, paid_on_leaving}
use Rattle.halo_model.specs.Coefficient.{form}
use Rattle.halo_model.specs.Event.{leaves}
use Rattle.halo_model.specs.Horizon.{horizon}
use Rattle.halo_model.specs.Order.{rank_in}
use Rattle.halo_model.specs.Outcome.{Exit, Outcome}
use Rattle.halo_model.specs.Part.{end_part, leaving_part, paid_for_year, terms_of}
use Rattle.halo_model.specs.PayPart.{AreAnnuityParts, ArePartsByKind, PartsAddUp, annuity_parts, insurance_parts, is_some, on_life, on_term, part_numerator, parts_by_sets, parts_on_lives, parts_on_terms, run_parts}
use Rattle.halo_model.specs.Payment.{falls_on}
use Rattle.halo_model.specs.RunPart.{paid_to_set, run_part, times_of}
use Rattle.halo_model.specs.Segment.{Run, last_time_of_form}
use Rattle.halo_model.specs.Value.{numerator}
use Rattle.halo_model.proofs.Bounded.{paid-names-life}
use Rattle.halo_model.proofs.Expected.{expected-ext, expected-none}
use Rattle.halo_model.proofs.Insurances.{insurance-by-parts}
use Rattle.halo_model.proofs.RunParts.{run-parts-add-up}

-- a sum over the numbers after these
shifted : (first count : ℕ) (h : ℕ → ℤ)
    → int_sum_over (numbers_from (suc first) count) h ≡ int_sum_over (numbers_from first count) (λ k. h (suc k))
shifted first zero h = refl
shifted first (suc count) h = ap (λ z. h (suc first) +ℤ z) (shifted (suc first) count h)

-- a sum over all sets, size by size
abbrev by_size : ℕ → ℕ → (List Bool → ℤ) → ℤ
by_size sizes n f = int_sum_over (numbers_from 0 sizes) (λ k. int_sum_over (sets_of_size k n) f)

-- no set has more numbers than there are
all-sizes : (n : ℕ) (f : List Bool → ℤ) → by_size (suc (suc n)) n f ≡ by_size (suc n) n f
all-sizes n f =
    let last : suc n + 1 ≡ suc (suc n) = omega arith in
    let here : 0 + suc n ≡ suc n = omega arith in
    let none = sets_of_size-few (suc n) n (omega arith) in
    let split = numbers_from-add (suc n) 1 0 in
    ap (λ (count : ℕ). by_size count n f) (sym last)
    ∙ ap (λ ks. int_sum_over ks (λ k. int_sum_over (sets_of_size k n) f)) split
    ∙ int_sum_over-append (numbers_from 0 (suc n)) (numbers_from (0 + suc n) 1) (λ k. int_sum_over (sets_of_size k n) f)
    ∙ ap (λ (k : ℕ). by_size (suc n) n f
    +ℤ int_sum_over (numbers_from k 1) (λ j. int_sum_over (sets_of_size j n) f)) here
    ∙ ap (λ (sets : List (List Bool)). by_size (suc n) n f +ℤ (int_sum_over sets f +ℤ pos 0)) none
    ∙ omega (arith, ints)

-- the sets of a size with the first number, and those without it
next-size : (k n : ℕ) (f : List Bool → ℤ) → int_sum_over (sets_of_size (suc k) (suc n)) f
    ≡ int_sum_over (sets_of_size k n) (λ s. f (true ∷ s)) +ℤ int_sum_over (sets_of_size (suc k) n) (λ s. f (false ∷ s))
next-size k n f =
    let with = map (λ (s : List Bool). true ∷ s) (sets_of_size k n) in
    let without = map (λ (s : List Bool). false ∷ s) (sets_of_size (suc k) n) in
    int_sum_over-append with without f
    ∙ ap (λ z. z +ℤ int_sum_over without f) (int_sum_over-map (λ s. true ∷ s) (sets_of_size k n) f)
    ∙ ap (λ z. int_sum_over (sets_of_size k n) (λ s. f (true ∷ s)) +ℤ z)
    (int_sum_over-map (λ s. false ∷ s) (sets_of_size (suc k) n) f)

next-number : (n : ℕ) (f : List Bool → ℤ) → by_size (suc (suc n)) (suc n) f
    ≡ by_size (suc n) n (λ s. f (true ∷ s)) +ℤ by_size (suc n) n (λ s. f (false ∷ s))
next-number n f =
    let with : ℕ → ℤ = λ k. int_sum_over (sets_of_size k n) (λ s. f (true ∷ s)) in
    let without : ℕ → ℤ = λ k. int_sum_over (sets_of_size k n) (λ s. f (false ∷ s)) in
    let later : int_sum_over (numbers_from 1 (suc n)) (λ k. int_sum_over (sets_of_size k (suc n)) f)
    ≡ int_sum_over (numbers_from 0 (suc n)) with +ℤ int_sum_over (numbers_from 1 (suc n)) without =
    shifted 0 (suc n) (λ k. int_sum_over (sets_of_size k (suc n)) f)
    ∙ int_sum_over-ext (numbers_from 0 (suc n)) _ _ (λ k. next-size k n f)
    ∙ int_sum_over-add (numbers_from 0 (suc n)) with (λ k. without (suc k))
    ∙ ap (λ z. int_sum_over (numbers_from 0 (suc n)) with +ℤ z) (sym (shifted 0 (suc n) without)) in
    omega (arith, ints, later, all-sizes n (λ s. f (false ∷ s)))

by-sizes : (n : ℕ) (f : List Bool → ℤ) → by_size (suc n) n f ≡ int_sum_over (sets n) f
by-sizes zero f = omega (arith, ints)
by-sizes (suc n) f = next-number n f ∙ omega (
  arith,
  ints,
  by-sizes n (λ s. f (true ∷ s)),
  by-sizes n (λ s. f (false ∷ s)),
  int_sum_over-sets n f,
)

-- the order of sets does not matter in a sum
in-order : (n : ℕ) (f : List Bool → ℤ) → int_sum_over (sets_in_order n) f ≡ int_sum_over (sets n) f
in-order n f = int_sum_over-flat_map (λ k. sets_of_size k n) (numbers_from 0 (suc n)) f ∙ by-sizes n f

-- the sets without a coefficient add nothing
module _ (b : Basis) (pay : PlainPay) where
  no-coefficient : (run : Run) (s : List Bool) → is_some (form pay run.first s) ≡ false → run_part b pay run s ≡ pos 0
  unfolding run_part
  no-coefficient run s none = by-size (form pay run.first s) refl none
    where
      by-size : (z : ℤ) → form pay run.first s ≡ z → is_some z ≡ false
          → pos (length (taken b))
          *ℤ (form pay run.first s *ℤ pos (sum_over (times_of run) (paid_to_set b pay s))) ≡ pos 0
      by-size (pos zero) is none = rw is (omega (arith, ints))
      by-size (pos (suc n)) is none = absurd (cc)
      by-size (negsuc n) is none = absurd (cc)

  by-sets : (run : Run) (sets : List (List Bool))
      → int_sum_over (parts_by_sets pay run sets) (part_numerator b pay) ≡ int_sum_over sets (run_part b pay run)
  by-sets run [] = refl
  by-sets run (s ∷ sets) = by-coefficient (is_some (form pay run.first s)) refl (by-sets run sets)
    where
      by-coefficient : (there : Bool) → is_some (form pay run.first s) ≡ there
          → int_sum_over (parts_by_sets pay run sets) (part_numerator b pay) ≡ int_sum_over sets (run_part b pay run)
          → int_sum_over (parts_by_sets pay run (s ∷ sets)) (part_numerator b pay)
          ≡ int_sum_over (s ∷ sets) (run_part b pay run)
      by-coefficient true is rest = rw is (ap (λ z. run_part b pay run s +ℤ z) rest)
      by-coefficient false is rest = rw is (omega (arith, ints, rest, no-coefficient run s is))

  by-runs : (runs : List Run) → int_sum_over (annuity_parts pay (length b.lives) runs) (part_numerator b pay)
      ≡ int_sum_over runs (λ run. int_sum_over (sets (length b.lives)) (run_part b pay run))
  by-runs runs = int_sum_over-flat_map (run_parts pay (length b.lives)) runs (part_numerator b pay)
      ∙ int_sum_over-ext runs _ _ (λ run.
      by-sets run (sets_in_order (length b.lives)) ∙ in-order (length b.lives) (run_part b pay run))

  -- and so do the lives that the body of an insurance does not name
  module _ (is : IsValidInsurance pay) where
    not-paid : (rank : ℕ → ℕ) (a k : ℕ) (o : Outcome) (exit : Option Exit) → names_life a pay.body ≡ false
        → paid_at_exit pay rank 0 a k o exit ≡ false
    not-paid rank a k o None none = refl
    not-paid rank a k o (Some exit) none = by-fall (falls_on pay rank 0 o (leaves a exit)) refl
      where
        by-fall : (falls : Bool) → falls_on pay rank 0 o (leaves a exit) ≡ falls
            → (nat_eq exit.year k && falls_on pay rank 0 o (leaves a exit)) ≡ false
        by-fall false e = rw e (and-false (nat_eq exit.year k))
        by-fall true e = absurd (let named = paid-names-life b pay is rank 0 o a exit e in cc)

    not-named : (rank : ℕ → ℕ) (a : ℕ) → names_life a pay.body ≡ false
        → leaving_part b pay rank 0 all_lives a ≡ pos 0
    not-named rank a none =
        int_sum_over-ext (numbers_from 0 b.last_time) _ _ (λ k.
        ap (λ z. pos (paid_for_year b pay 0 k) *ℤ z)
        (expected-ext 0 all_lives b.lives (λ o. indicator (paid_on_leaving pay rank 0 a k o)) (λ o. pos 0)
        (λ o same. ap indicator (not-paid rank a k o (get_or o a None) none)) ∙ expected-none 0 all_lives b.lives)
        ∙ *ℤ-zero (pos (paid_for_year b pay 0 k)))
        ∙ int_sum_over-none (numbers_from 0 b.last_time)

    worth-nothing : (a : ℕ) → names_life a pay.body ≡ false → part_numerator b pay (on_life a) ≡ pos 0
    worth-nothing a none = int_sum_over-ext (taken b) _ _ (λ order. not-named (rank_in order) a none)
        ∙ int_sum_over-none (taken b)

    by-lives : (lives : List ℕ) → int_sum_over (parts_on_lives pay.body lives) (part_numerator b pay)
        ≡ int_sum_over lives (λ a. part_numerator b pay (on_life a))
    by-lives [] = refl
    by-lives (a ∷ lives) = by-name (names_life a pay.body) refl (by-lives lives)
      where
        by-name : (named : Bool) → names_life a pay.body ≡ named
            → int_sum_over (parts_on_lives pay.body lives) (part_numerator b pay)
            ≡ int_sum_over lives (λ i. part_numerator b pay (on_life i))
            → int_sum_over (parts_on_lives pay.body (a ∷ lives)) (part_numerator b pay)
            ≡ int_sum_over (a ∷ lives) (λ i. part_numerator b pay (on_life i))
        by-name true e rest = rw e (ap (λ z. part_numerator b pay (on_life a) +ℤ z) rest)
        by-name false e rest = rw e (omega (arith, ints, rest, worth-nothing a e))

    by-events : int_sum_over (insurance_parts b pay) (part_numerator b pay) ≡ int_sum_over (taken b) (λ order.
        int_sum_over (numbers_from 0 (length b.lives)) (leaving_part b pay (rank_in order) 0 all_lives)
        +ℤ int_sum_over (terms_of b pay) (end_part b pay (rank_in order) 0 all_lives))
    by-events =
        let lives = numbers_from 0 (length b.lives) in
        let terms = int_sum_over-map on_term (terms_of b pay) (part_numerator b pay)
        ∙ int_sum_over-swap (terms_of b pay) (taken b) (λ n order. end_part b pay (rank_in order) 0 all_lives n) in
        let leavings = by-lives lives
        ∙ int_sum_over-swap lives (taken b) (λ a order. leaving_part b pay (rank_in order) 0 all_lives a) in
        int_sum_over-append (parts_on_lives pay.body lives) (parts_on_terms pay.body (numbers_from 1 b.last_time))
        (part_numerator b pay)
        ∙ ap (λ z. z +ℤ int_sum_over (map on_term (terms_of b pay)) (part_numerator b pay)) leavings
        ∙ ap (λ z. int_sum_over (taken b) (λ order. int_sum_over lives (leaving_part b pay (rank_in order) 0 all_lives))
        +ℤ z) terms
        ∙ sym (int_sum_over-add (taken b) _ _)

pub parts-add-up : PartsAddUp
parts-add-up b lives end pay valid years parts are = by-kind pay.kind refl are
  where
    no-mark : pay.kind ≢ Insurance → (mark : Option Mark)
        → IfSome mark (λ m. (pay.kind ≡ Insurance) × CanBeMarked pay.body m) → mark ≡ None
    no-mark annual None valid = refl
    no-mark annual (Some mark) valid = absurd (annual valid.0)

    in-time : (kind : Kind) (years : ℕ) → last_time_of_form kind years ≤ years
    in-time Insurance years = omega arith
    in-time Due years = omega arith
    in-time Immediate years = omega arith

    annuity : pay.kind ≢ Insurance → AreAnnuityParts b pay parts
        → int_sum_over parts (part_numerator b pay) ≡ pos (numerator b pay 0 all_lives)
    annuity annual (runs, segments, is) =
        ap (λ ps. int_sum_over ps (part_numerator b pay)) is ∙ by-runs b pay runs
        ∙ run-parts-add-up b lives pay annual (no-mark annual pay.mark valid.mark) valid.lists
        (ranks-ask pay.body valid.ranks) (omega (arith, in-time pay.kind (horizon b.lives pay.body), years))
        runs segments

    by-kind : (kind : Kind) → pay.kind ≡ kind → ArePartsByKind kind b pay parts
        → int_sum_over parts (part_numerator b pay) ≡ pos (numerator b pay 0 all_lives)
    by-kind Insurance kind is =
        ap (λ ps. int_sum_over ps (part_numerator b pay)) is
        ∙ by-events b pay (record { valid = valid; kind = kind }) ∙ sym (insurance-by-parts b end pay kind 0 all_lives)
    by-kind Due kind is = annuity (λ insured. absurd (let e = sym kind ∙ insured in cc)) is
    by-kind Immediate kind is = annuity (λ insured. absurd (let e = sym kind ∙ insured in cc)) is
