use Rattle.std.proofs.Common.{◌-◌, ◌<◌, ◌∙◌, List, ap, arith, length, refl, sym, ℕ}
use Rattle.std.proofs.lemmas.List.{get_or_default}
use Rattle.std.proofs.lemmas.List.Sorted.{IsPermutation-sym}
use Rattle.std.proofs.lemmas.Slice.Eq.{bytes_eq-Decides}
use denote.Ref.{Bor}
use Rattle.halo_table.proofs.Apart.{apart_in_order, apart_permuted}
use Rattle.halo_table.proofs.fields.are_apart.Goals as goal

pub returns-then-eq : goal.returns-then-eq
returns-then-eq c = (
  (λ t. cc t),
  (λ apart.
      let texts = c.sort_unstable.new.self.items in
      let first = c.index.result.now in
      let within : c.loop-place.place < length texts =
      omega (arith, c.loop-place-test.true, c.len-place-end.ensures) in
      let second =
      c.index-in-loop-place.ensures ∙ get_or_default texts c.loop-place.place
      c.index-in-loop-place.result.now first within in
      let same =
      (bytes_eq-Decides first.now c.index-in-loop-place.result.now.now).0
      (sym c.eq.ensures ∙ c.if-eq.true) in
      absurd (apart_permuted _ _ c.sort_unstable.ensures.permutation apart (c.loop-place.place - 1)
      c.loop-place.place first (omega arith) within
      (sym (ap (λ (text : Bor (List ℕ)). text.now) c.index.ensures) ∙ same
      ∙ ap (λ (text : Bor (List ℕ)). text.now) second))),
)

pub returns : goal.returns
returns c =
    let apart =
    apart_in_order c.sort_unstable.new.self.items c.sort_unstable.ensures.sorted
    (λ i d lt. c.loop-place.invariant i d
    (omega (arith, lt, c.len-place-end.ensures, c.loop-place-test.false))) in (
      (λ t. apart_permuted _ _ (IsPermutation-sym _ _ c.sort_unstable.ensures.permutation) apart),
      (λ h. refl),
    )
