-- The segments that are built so far, up to a time.
use Rattle.std.proofs.Common.{◌≡◌, ◌≢◌, ℕ, ◌-◌, ◌<◌, ◌≤◌, arith, refl, ap, sym, ◌∙◌, List, [], ◌∷◌, ◌++◌, map, ℤ}
use Rattle.halo_status.specs.Pay.{PlainPay}
use Rattle.halo_model.specs.Coefficient.{form}
use Rattle.halo_model.specs.Segment.{AreSegmentsFrom, Run, coefficients_at}
use Rattle.halo_compile.specs.declared.form.Segment.{Segment}
use Rattle.halo_compile.specs.Form.{HaveCoefficients, IsPolyOf, run_of}
use Rattle.halo_compile.proofs.SetLists.{agree_from_lists}
use Rattle.halo_compile.proofs.Changes.{existence_from}
use Rattle.halo_compile.proofs.Runs.{last_run, run_before}

-- the segments before a time, to which those from there on are still to come, or which are all if it is the end
pub record IsBuilt {m : ℕ} (pay : PlainPay) (n first from end : ℕ) (segments : List (Segment m)) : Type 0 where
  pub going : from < end → (last : ℕ) (rest : List Run) → AreSegmentsFrom pay n from last rest
      → AreSegmentsFrom pay n first last (map run_of segments ++ rest)
  pub ended : from ≡ end → AreSegmentsFrom pay n first (end - 1) (map run_of segments)
  pub have : HaveCoefficients pay n segments

map-push : {m : ℕ} (segments : List (Segment m)) (s : Segment m)
    → map run_of (segments ++ s ∷ []) ≡ map run_of segments ++ run_of s ∷ []
map-push [] s = refl
map-push (x ∷ segments) s = ap (λ rs. run_of x ∷ rs) (map-push segments s)

have-push : {m : ℕ} (pay : PlainPay) (n : ℕ) (segments : List (Segment m)) (s : Segment m)
    → HaveCoefficients pay n segments → ((t : ℕ) → s.from ≤ t → t ≤ s.to → IsPolyOf pay n t s.poly)
    → HaveCoefficients pay n (segments ++ s ∷ [])
have-push pay n [] s have each = (each, tt)
have-push pay n (x ∷ segments) s have each = (have.0, have-push pay n segments s have.1 each)

push-before : (runs rest : List Run) (r : Run) → (runs ++ r ∷ []) ++ rest ≡ runs ++ r ∷ rest
push-before [] rest r = refl
push-before (x ∷ runs) rest r = ap (λ rs. x ∷ rs) (push-before runs rest r)

-- one segment more
pub one_built : {m : ℕ} (pay : PlainPay) (n first from until end : ℕ) (segments : List (Segment m)) (s : Segment m)
    → IsBuilt pay n first from end segments
    → s.from ≡ from → s.to ≡ until - 1 → from < until → until ≤ end
    → ((t : ℕ) → from ≤ t → t < until → coefficients_at pay n t ≡ coefficients_at pay n from)
    → (until < end → coefficients_at pay n until ≢ coefficients_at pay n from)
    → ((t : ℕ) → from ≤ t → t < until → IsPolyOf pay n t s.poly)
    → IsBuilt pay n first until end (segments ++ s ∷ [])
one_built pay n first from until end segments s built begins ends later within same changes each = record {
  going =
      λ q last rest are.
      rw (map-push segments s, push-before (map run_of segments) rest (run_of s), run)
      (built.going (omega arith) last (record { first = from; last = until - 1 } ∷ rest)
      (run_before pay n from until last rest later same (changes q) are));
  ended =
      λ e.
      rw (map-push segments s, run, ← e)
      (built.going (omega arith) (until - 1) (record { first = from; last = until - 1 } ∷ [])
      (last_run pay n from until later same));
  have = have-push pay n segments s built.have (λ t low high. each t (omega (arith, begins)) (omega (arith, ends)));
}
  where
    run : run_of s ≡ record { first = from; last = until - 1 }
    run = rw (begins, ends) refl

-- a polynomial of one time is one of each time at which the coefficients are the same
pub poly_of_run : (pay : PlainPay) (n t from : ℕ) (p : List ℤ) → IsPolyOf pay n from p
    → coefficients_at pay n t ≡ coefficients_at pay n from → IsPolyOf pay n t p
poly_of_run pay n t from p h same = record {
  full = h.full;
  coefficients = λ s l. h.coefficients s l ∙ sym (agree_from_lists n (form pay t) (form pay from) same s l);
  values = λ s l. h.values s l ∙ sym (existence_from pay n t from same s l);
}
