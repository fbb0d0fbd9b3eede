-- A place that is written has the value of its reserve, and the other places stay.
use Rattle.std.proofs.Common.{◌≡◌, ◌≢◌, ℕ, ◌<◌, ◌≤◌, ◌∙◌, List, length, set, subst, sym, ⊎_elim, arith}
use Rattle.std.proofs.lemmas.Bool.{cases_eq}
use Rattle.std.proofs.lemmas.List.{get_or_default, get_or-set_other, get_or-set_same, length-set}
use Rattle.halo_sums.specs.Masks.{has_bit}
use Rattle.halo_num.specs.Ends.{Ends}
use Rattle.halo_life.specs.Lists.{entry, nothing}
use Rattle.halo_value.specs.ByKind.{EnclosesTask}
use Rattle.halo_value.specs.Reading.{reserve_at}
use Rattle.halo_value.proofs.reading.read.Goals as goal

-- what holds at a place of a list in which one place was written
at-place : (P : Ends → Type 0) (values : List Ends) (place : ℕ) (value : Ends) (k : ℕ) → place < length values
    → (k ≡ place → P value) → (k ≢ place → P (entry values k)) → P (entry (set values place value) k)
at-place P values place value k within here other = ⊎_elim
    (λ (same : k ≡ place). subst (λ (j : ℕ). P (entry (set values place value) j)) (sym same)
    (subst P (sym (get_or-set_same values place value nothing within)) (here same)))
    (λ (differ : k ≢ place). subst P (sym (get_or-set_other values place k value nothing differ)) (other differ))
    (cases_eq k place)

pub loop-place-preserved : goal.loop-place-preserved
loop-place-preserved g c =
    let task = c.args.task.now in
    let reserves = c.args.reserves.now in
    let values : List Ends = c.loop-place.values in
    let place : ℕ = c.loop-place.place in
    let value : Ends = c.read_one.result in
    let within : place < length values = omega (arith, c.loop-place.invariant.room, c.loop-place-test.true) in
    let Worth : ℕ → Ends → Type 0 = λ k i.
    EnclosesTask task (reserve_at reserves k).time (has_bit (reserve_at reserves k).alive) i in
    let old = c.index-values-place.is
    ∙ get_or_default values place c.index-values-place.result nothing within in
    let here : c.args.from ≤ (reserve_at reserves place).time
    → (c.args.to < (reserve_at reserves place).time → Worth place (entry values place)) → Worth place value =
    λ reached was. c.read_one.ensures (λ late. subst (Worth place) (sym old) (was late)) reached in
    let at : (k : ℕ) → k ≡ place → c.args.from ≤ (reserve_at reserves k).time
    → (c.args.to < (reserve_at reserves k).time → Worth k (entry values k)) → Worth k value =
    λ k same. subst (λ (j : ℕ). c.args.from ≤ (reserve_at reserves j).time
    → (c.args.to < (reserve_at reserves j).time → Worth j (entry values j)) → Worth j value) (sym same) here in
    record {
      room = length-set values place value ∙ c.loop-place.invariant.room;
      later = λ before k below late. at-place (Worth k) values place value k within
          (λ same. at k same (omega (arith, c.requires.times, late)) (c.loop-place.invariant.later before k below))
          (λ differ. c.loop-place.invariant.later before k below late);
      read = λ before k below reached. at-place (Worth k) values place value k within
          (λ same. at k same reached (c.loop-place.invariant.later before k (omega (
            arith,
            same,
            within,
            c.loop-place-test.true,
          ))))
          (λ differ. c.loop-place.invariant.read before k (omega (arith, below, differ)) reached);
    }
