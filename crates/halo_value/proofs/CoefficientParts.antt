-- The part of a coefficient of the form of a task.
use Rattle.std.proofs.Common.{◌++◌, ◌≡◌, ◌≢◌, ℕ, zero, suc, ◌<◌, ◌^◌, List, [], ◌∷◌, length, Bool, true, ℤ, pos, negsuc, ap, sym, refl, ◌∙◌}
use Rattle.halo_sums.specs.Masks.{bits}
use Rattle.halo_num.specs.Ends.{Ends}
use Rattle.halo_num.specs.declared.nano.Nano.{Nano}
use Rattle.halo_status.specs.Pay.{PlainPay, pay_of}
use Rattle.halo_life.specs.PlainGroup.{IsGroup}
use Rattle.halo_model.specs.Basis.{Basis}
use Rattle.halo_model.specs.Coefficient.{form}
use Rattle.halo_model.specs.PayPart.{EnclosesPayPart, IsPartLine, PayPart, by_set, is_some, parts_by_sets}
use Rattle.halo_model.specs.Segment.{Run}
use Rattle.halo_poly.specs.Poly.{coefficient_at}
use Rattle.halo_compile.specs.Form.{run_of, segment_at}
use Rattle.halo_compile.specs.OfTask.{basis_of_task}
use Rattle.halo_compile.specs.ValidTask.{IsTask}
use Rattle.halo_compile.specs.declared.form.Segment.{Segment}
use Rattle.halo_compile.specs.declared.task.Task.{Task}
use Rattle.halo_compile.proofs.Tasks.{count-lives}
use Rattle.halo_annuity.specs.Bounds.{IsWithinCount}
use Rattle.halo_annuity.specs.RunWorth.{EnclosesPart}
use Rattle.halo_annuity.proofs.Terms.{coefficient-of}
use Rattle.halo_lines.specs.Printable.{IsPrintable}
use Rattle.halo_lines.specs.declared.parts.Part.{Part}
use Rattle.halo_lines.specs.declared.parts.Part.TheVariants as part
use Rattle.halo_value.specs.Explained.{AddsParts}
use Rattle.halo_value.proofs.AmountOne.{measures-of-one}
use Rattle.halo_value.proofs.Explained.{adds-none, adds-one, dropped, kept}

some-there : (z : ℤ) → z ≢ pos 0 → is_some z ≡ true
some-there (pos zero) other = absurd (other refl)
some-there (pos (suc n)) other = refl
some-there (negsuc n) other = refl

module _ {n m : ℕ} (task : Task n m) (is : IsTask task) (group : IsGroup n task.group.now) (place mask : ℕ)
    (there : place < length task.form.now) (inside : mask < m) where
  abbrev run : Run
  run = run_of (segment_at task.form.now place)

  abbrev b : Basis
  b = basis_of_task task task.group.now.ties

  abbrev pay : PlainPay
  pay = pay_of task.pay.now

  abbrev s : List Bool
  s = bits n mask

  module _ (segment : Segment m) (read : segment ≡ segment_at task.form.now place) (z : ℤ)
      (told : z ≡ coefficient_at segment.poly mask) where
    in-form : z ≡ form pay run.first s
    in-form = told ∙ ap (λ r. coefficient_at r.poly mask) read ∙ coefficient-of task is group place mask there inside

    -- a coefficient of 0 has no part
    pub no-part : z ≡ pos 0 → (before : List Part) → AddsParts n b pay (parts_by_sets pay run (s ∷ [])) before before
    no-part none before =
        let zero : form pay run.first s ≡ pos 0 = sym in-form ∙ none in
        rw (dropped (λ u. is_some (form pay run.first u)) s (ap is_some zero)) (adds-none n b pay before)

    -- and another one has its part
    pub part-added : z ≢ pos 0 → (value : Ends) → EnclosesPart task place mask value → IsWithinCount task value
        → (worth : Nano)
        → ((part : PayPart) → EnclosesPayPart b pay part value → IsPartLine b pay part worth)
        → IsPrintable worth → mask < 2 ^ n → (before after : List Part)
        → after ≡ before ++ part.Term segment.from segment.to z mask worth ∷ []
        → AddsParts n b pay (parts_by_sets pay run (s ∷ [])) before after
    part-added other value encloses narrow worth line printable below before after pushed =
        let some : is_some (form pay run.first s) ≡ true = rw in-form at (some-there z other) in
        let same : form pay run.first s ≡ form pay segment.from s =
        ap (λ (r : Segment m). form pay r.from s) (sym read) in
        let one : EnclosesPayPart b pay (by_set run s) value = record {
          encloses = encloses task.group.now.ties;
          narrow = rw (measures-of-one b pay) at (narrow task.group.now.ties);
        } in
        rw (kept (λ u. is_some (form pay run.first u)) s some)
        (adds-one n b pay (by_set run s) (part.Term segment.from segment.to z mask worth) before after pushed (
          ap run_of (sym read),
          ap (λ (k : ℕ). bits k mask) (sym (count-lives task.group.now ∙ group.count)),
          in-form ∙ same,
          line (by_set run s) one,
        )
        (record { lives = below; worth = printable }))
