-- A walk over the records that keeps the record before.
use Rattle.std.proofs.Common.{◌≡◌, ◌≢◌, ◌↔◌, ℕ, suc, ◌+◌, ◌-◌, ◌<◌, ◌≤◌, List, [], ◌∷◌, Bool, true, false, arith, drop, get_or, length, refl, sym, ap, ◌∙◌, add-zero, inl, inr}
use Rattle.std.specs.Prelude.{◌==◌, IsTrue, Result, Ok, Err, OnOk}
use Rattle.std.specs.Result.{is_err}
use Rattle.std.proofs.lemmas.List.{drop-drop, get_or-drop, length-drop}
use borrow.Author.Count.{below_more}
use borrow.Author.Tests.{eqb-false, eqb-true}
use Rattle.halo_text.specs.Number.{number}
use Rattle.halo_table.specs.Record.{all_leavers, field, record_at}
use Rattle.halo_table.specs.Faults.{Clean, Ends, Holds, IsFirst, IsFirstFault, NoFault, StepHolds, names_before, rank}
use Rattle.halo_table.specs.Reading.{AreRowNumbers, IsLeftOpen}
use Rattle.halo_table.specs.declared.row.RowNumbers.{RowNumbers}
use Rattle.halo_table.specs.declared.fault.TableKind.{TableKind}
use Rattle.halo_table.specs.declared.fault.TableKind.TheVariants as kind
use Rattle.halo_table.proofs.KindOrder.{rank_most}

-- the next record of a list
pub next_is : (all rest : List (List (List ℕ))) (r : List (List ℕ)) (i : ℕ) → drop i all ≡ r ∷ rest
    → (i < length all) × (record_at all i ≡ r) × (drop (i + 1) all ≡ rest)
next_is all rest r i e =
    let room : length all - i ≡ suc (length rest) = sym (length-drop i all) ∙ ap length e in (
      omega arith,
      (let h = get_or-drop i all 0 [] in sym (ap (λ n. get_or all n []) (add-zero i)) ∙ sym h
          ∙ ap (λ (l : List (List (List ℕ))). get_or l 0 []) e),
      sym (drop-drop 1 i all) ∙ ap (λ (l : List (List (List ℕ))). drop 1 l) e,
    )

-- there is none
pub none_next : (all : List (List (List ℕ))) (i : ℕ) → drop i all ≡ [] → length all ≤ i
none_next all i e =
    let h : length all - i ≡ 0 = sym (length-drop i all) ∙ ap length e in omega arith

-- what is known when the first n records were read: only the last may still be found open
pub record ReadSoFar (all : List (List (List ℕ))) (n : ℕ) : Type 0 where
  pub some : 1 ≤ n
  pub clean : Clean all (n - 1)
  pub last : (k : TableKind) → k ≢ kind.Closed → Holds all (n - 1) k → ⊥

-- the record before was left open
pub closed_fault : (all : List (List (List ℕ))) (n : ℕ) → ReadSoFar all n → n ≤ length all
    → Holds all (n - 1) kind.Closed → IsFirstFault all n kind.Closed
closed_fault all n s room x = record {
  counted = s.some;
  within = inr room;
  kind_first =
      record {
        here = x;
        none_before = (λ j lt x. s.last j (λ e. absurd (omega (arith, ap rank e))) x);
      };
  clean = s.clean;
}

-- what is known of the record before and of the next
pub record Between (all : List (List (List ℕ))) (n : ℕ) (before : RowNumbers) (last : List (List ℕ))
    (found : Bool) (row : List (List ℕ)) : Type 0 where
  pub some : 1 ≤ n
  pub last_is : last ≡ record_at all (n - 1)
  pub survivors : 1 < n → get_or before.numbers 2 0 ≡ number (field (record_at all (n - 1)) 2)
  pub leaving : 1 < n → before.leaving ≡ all_leavers (record_at all (n - 1))
  pub next : found ≡ true → (n < length all) × (record_at all n ≡ row)
  pub none : found ≡ false → length all ≤ n

-- the record before ends its table, as the code tests it
ends_is : (all : List (List (List ℕ))) (n : ℕ) (before : RowNumbers) (last : List (List ℕ))
    (found : Bool) (row : List (List ℕ))
    → Between all n before last found row
    → (found ≡ true → field last 0 ≢ field row 0) ↔ Ends all (n - 1)
ends_is all n before last true row k =
    let e : n - 1 + 1 ≡ n = let some = k.some in omega arith in (
      (λ h. rw (e, (k.next refl).1, ← k.last_is) (λ lt q. h refl (sym q))),
      (λ h _ q. (rw (e, (k.next refl).1, ← k.last_is) at h) (k.next refl).0 (sym q)),
    )
ends_is all n before last false row k =
    let e : n - 1 + 1 ≡ n = let some = k.some in omega arith in
    let end = k.none refl in
    ((λ h lt. absurd (omega arith)), (λ h e q. cc e))

-- it ends its table and survivors are left over, as the code tests it
pub open_is : (all : List (List (List ℕ))) (n : ℕ) (before : RowNumbers) (last : List (List ℕ))
    (found : Bool) (row : List (List ℕ))
    → Between all n before last found row
    → IsLeftOpen n before last found row ↔ Holds all (n - 1) kind.Closed
open_is all n before last found row k =
    let ends = ends_is all n before last found row k in (
      (λ h. (
        omega (arith, h.0),
        ends.0 h.2,
        (λ e. h.1 (k.leaving h.0 ∙ sym e ∙ sym (k.survivors h.0))),
      )),
      (λ x. let more : 1 < n = omega (arith, x.0) in
          (more, (λ e. x.2 (sym (k.survivors more) ∙ sym e ∙ k.leaving more)), ends.1 x.1)),
    )

-- no kind holds where neither `Closed` nor another does
every : (all : List (List (List ℕ))) (i : ℕ)
    → ((k : TableKind) → k ≢ kind.Closed → Holds all i k → ⊥) → (Holds all i kind.Closed → ⊥)
    → (k : TableKind) → Holds all i k → ⊥
every all i rest c kind.Header x = rest kind.Header (λ e. cc e) x
every all i rest c kind.Fields x = rest kind.Fields (λ e. cc e) x
every all i rest c kind.Name x = rest kind.Name (λ e. cc e) x
every all i rest c kind.Number x = rest kind.Number (λ e. cc e) x
every all i rest c kind.Large x = rest kind.Large (λ e. cc e) x
every all i rest c kind.Again x = rest kind.Again (λ e. cc e) x
every all i rest c kind.TooMany x = rest kind.TooMany (λ e. cc e) x
every all i rest c kind.Age x = rest kind.Age (λ e. cc e) x
every all i rest c kind.Decrements x = rest kind.Decrements (λ e. cc e) x
every all i rest c kind.Closed x = c x

-- where the record before is closed, no record so far has a fault
closing : (all : List (List (List ℕ))) (n : ℕ) → ReadSoFar all n
    → (Holds all (n - 1) kind.Closed → ⊥) → Clean all n
closing all n s c i lt k x =
    let some = s.some in
    below_more (λ i. (k : TableKind) → Holds all i k → ⊥) (n - 1) s.clean
    (every all (n - 1) s.last c) i (omega arith) k x

-- the same, where the test for survivors left over fails
pub tested_closed : (all : List (List (List ℕ))) (n : ℕ) (before : RowNumbers)
    (last : List (List ℕ)) (found : Bool) (row : List (List ℕ))
    → ReadSoFar all n → Between all n before last found row
    → (IsTrue false ↔ IsLeftOpen n before last found row) → Clean all n
tested_closed all n before last found row s k t =
    closing all n s (λ x. cc (t.1 ((open_is all n before last found row k).1 x)))

-- what can be wrong with the record at a place beside the one before it
abbrev StepOf : List (List (List ℕ)) → ℕ → TableKind → Type 0
StepOf all n =
    StepHolds (length (record_at all 0)) (names_before all n) (n == 1) (record_at all (n - 1))
    (record_at all n)

-- what is wrong with a record beside the one before it is a fault of the file
to_holds : (all : List (List (List ℕ))) (n : ℕ) → 1 ≤ n → (k : TableKind) → StepOf all n k
    → Holds all n k
to_holds all n some kind.Header x = absurd x
to_holds all n some kind.Fields x = (omega arith, x)
to_holds all n some kind.Name x = (omega arith, x)
to_holds all n some kind.Number x = (omega arith, x)
to_holds all n some kind.Large x = (omega arith, x)
to_holds all n some kind.Again x = (omega arith, x)
to_holds all n some kind.TooMany x = inr (omega arith, x.0, x.1)
to_holds all n some kind.Age x = (omega arith, x)
to_holds all n some kind.Decrements x = (omega arith, x)
to_holds all n some kind.Closed x = absurd x

-- a fault of the file, but for `Closed`, is wrong with the record beside the one before it
from_holds : (all : List (List (List ℕ))) (n : ℕ) → 1 ≤ n → (k : TableKind) → k ≢ kind.Closed
    → Holds all n k → StepOf all n k
from_holds all n some kind.Header b x = absurd (omega (arith, x.0))
from_holds all n some kind.Fields b x = x.1
from_holds all n some kind.Name b x = x.1
from_holds all n some kind.Number b x = x.1
from_holds all n some kind.Large b x = x.1
from_holds all n some kind.Again b x = x.1
from_holds all n some kind.TooMany b x =
    elim x [ inl y ↦ absurd (omega (arith, y.0)) | inr y ↦ (y.1, y.2) ]
from_holds all n some kind.Age b x = x.1
from_holds all n some kind.Decrements b x = x.1
from_holds all n some kind.Closed b x = absurd (b refl)

-- the next record has a fault, told by its number
step_fault_at : (all : List (List (List ℕ))) (n m : ℕ) (k : TableKind) → 1 ≤ n → n < length all
    → m ≡ n + 1 → Clean all n → IsFirst (StepOf all n) k → IsFirstFault all m k
step_fault_at all n m k some room e clean f =
    let back : m - 1 ≡ n = omega arith in
    record {
      counted = omega arith;
      within = inr (omega arith);
      kind_first = rw back (first k f);
      clean = rw back clean;
    }
  where
    first : (k : TableKind) → IsFirst (StepOf all n) k → IsFirst (Holds all n) k
    first k f =
        record {
          here = to_holds all n some k f.here;
          none_before =
              (λ j lt x. f.none_before j lt (from_holds all n some j
              (λ q. absurd (omega (arith, rank_most k, ap rank q))) x));
        }

-- the next record has none by itself, told by its number
step_fine_at : (all : List (List (List ℕ))) (n m : ℕ) → 1 ≤ n → m ≡ n + 1 → Clean all n
    → ((k : TableKind) → StepOf all n k → ⊥) → ReadSoFar all m
step_fine_at all n m some e clean none =
    let back : m - 1 ≡ n = omega arith in
    record {
      some = omega arith;
      clean = rw back clean;
      last = rw back (λ k b x. none k (from_holds all n some k b x));
    }

-- where all records were read and none has a fault, the file has none
pub finish : (all : List (List (List ℕ))) (n : ℕ) → 1 ≤ n → n ≤ length all → length all ≤ n
    → Clean all n → NoFault all
finish all n some low high clean = let e : length all ≡ n = omega arith in (omega arith, rw e clean)

-- a row that was read has no more leavers than survivors
pub leaving_fits : (all : List (List (List ℕ))) (n : ℕ) → ReadSoFar all n → 1 < n
    → all_leavers (record_at all (n - 1)) ≤ number (field (record_at all (n - 1)) 2)
leaving_fits all n s more =
    let f : number (field (record_at all (n - 1)) 2) < all_leavers (record_at all (n - 1)) → ⊥ =
    (λ lt. s.last kind.Decrements (λ e. cc e) (omega arith, inr (inl lt))) in
    omega (arith, f)

-- the next record has a fault
pub step_fault : (all : List (List (List ℕ))) (n : ℕ) (k : TableKind) (width : ℕ)
    (names last row : List (List ℕ))
    → 1 ≤ n → n < length all → Clean all n → names ≡ names_before all n
    → width ≡ length (record_at all 0) → last ≡ record_at all (n - 1) → record_at all n ≡ row
    → IsFirst (StepHolds width names (n == 1) last row) k → IsFirstFault all (n + 1) k
step_fault all n k width names last row some room clean d a b c f =
    step_fault_at all n (n + 1) k some room refl clean (rw (← d, ← a, ← b, c) f)

-- the next record has none by itself
pub step_fine : (all : List (List (List ℕ))) (n width : ℕ) (names last row : List (List ℕ)) → 1 ≤ n
    → Clean all n → names ≡ names_before all n → width ≡ length (record_at all 0)
    → last ≡ record_at all (n - 1) → record_at all n ≡ row
    → ((k : TableKind) → StepHolds width names (n == 1) last row k → ⊥) → ReadSoFar all (n + 1)
step_fine all n width names last row some clean d a b c f =
    step_fine_at all n (n + 1) some refl clean (rw (← d, ← a, ← b, c) f)

-- what one more read tells of the record before and of the next
pub between_is : (all source rest : List (List (List ℕ))) (n width : ℕ) (before : RowNumbers)
    (last row : List (List ℕ)) (found : Bool)
    → ReadSoFar all n → drop n all ≡ source
    → (found ≡ true → source ≡ row ∷ rest) → (found ≡ false → source ≡ [])
    → last ≡ record_at all (n - 1) → 4 ≤ width
    → (1 < n → AreRowNumbers width (record_at all (n - 1)) before)
    → Between all n before last found row
between_is all source rest n width before last row found s e more end l low known = record {
  some = s.some;
  last_is = l;
  survivors = (λ m. ((known m).numbers 2 (omega arith) (omega arith)).1);
  leaving = (λ m. (known m).leaving);
  next = (λ f. let h = next_is all rest row n (e ∙ more f) in (h.0, h.1));
  none = (λ f. none_next all n (e ∙ end f));
}

pub not_first : (n : ℕ) → 1 ≤ n → (n == 1) ≡ false → 1 < n
not_first n some e = let h : n ≡ 1 → ⊥ = eqb-false n 1 e in omega (arith, h)

pub not_one : (n : ℕ) → 1 < n → (n == 1) ≡ false
not_one n h = by (n == 1) refl
  where
    by : (b : Bool) → (n == 1) ≡ b → b ≡ false
    by true e = let z = eqb-true n 1 e in absurd (omega arith)
    by false e = refl

-- what holds on `Ok`, from a test that it is no `Err`
pub on_ok : {P : Type 0} {T E : Type 0} (r : Result T E) → is_err r ≡ false → OnOk r P → P
on_ok (Ok x) e h = h
on_ok (Err x) e h = cc e

-- what follows on `Ok` from what holds there
pub ok_then : {P Q : Type 0} {T E : Type 0} (r : Result T E) → OnOk r P → (P → Q) → OnOk r Q
ok_then (Ok x) h f = f h
ok_then (Err x) h f = h
