-- Parts that are told one after the other.
use Rattle.std.proofs.Common.{◌∙◌, ◌<◌, ◌+◌, ◌≢◌, get_or, length, map, take, ◌≡◌, ℕ, ◌++◌, append_assoc, append-nil, filter, List, [], ◌∷◌, Bool, true, false, ap, refl}
use Rattle.std.proofs.lemmas.Grind.{flat_map-append}
use Rattle.std.proofs.lemmas.List.{map-append, map_more}
use Rattle.std.proofs.lemmas.List.Elements.{All-push, filter-append}
use Rattle.std.proofs.lemmas.Slice.Zip.{all_zipped_more}
use Rattle.halo_status.specs.Pay.{PlainPay}
use Rattle.halo_model.specs.Basis.{Basis}
use Rattle.halo_status.specs.declared.pay.Kind.{Kind}
use Rattle.halo_status.specs.declared.pay.Kind.TheVariants.{Insurance, Due, Immediate}
use Rattle.halo_sums.specs.Masks.{bits}
use Rattle.halo_model.specs.Coefficient.{form}
use Rattle.halo_model.specs.Segment.{Run}
use Rattle.halo_compile.specs.Form.{run_of, segment_at}
use Rattle.halo_compile.specs.declared.form.Segment.{Segment}
use Rattle.halo_model.specs.PayPart.{AreAnnuityParts, ArePartsByKind, PayPart, annuity_parts, by_set, insurance_parts, is_some, parts_by_sets, run_parts}
use Rattle.halo_lines.specs.Parts.{IsPrintablePart, TellsPart}
use Rattle.halo_lines.specs.declared.parts.Part.{Part}
use Rattle.halo_value.specs.Explained.{AddsParts}

-- what is left of one item
pub kept : {X : Type 0} (test : X → Bool) (x : X) → test x ≡ true → filter test (x ∷ []) ≡ x ∷ []
kept test x is = rw is refl

pub dropped : {X : Type 0} (test : X → Bool) (x : X) → test x ≡ false → filter test (x ∷ []) ≡ []
dropped test x is = rw is refl

module _ (n : ℕ) (b : Basis) (pay : PlainPay) where
  -- nothing more
  pub adds-none : (before : List Part) → AddsParts n b pay [] before before
  adds-none before = record {
    tells = λ parts all. rw (append-nil parts) all;
    printable = λ all. all;
  }

  -- one part more
  pub adds-one : (part : PayPart) (told : Part) (before after : List Part) → after ≡ before ++ told ∷ []
      → TellsPart b pay part told → IsPrintablePart n told → AddsParts n b pay (part ∷ []) before after
  adds-one part told before after is tells printable = rw is (record {
    tells = λ parts all. all_zipped_more (TellsPart b pay) parts before part told all tells;
    printable = λ all. All-push (IsPrintablePart n) before told all printable;
  })

  -- some, and then some more
  pub adds-then : (first then : List PayPart) (before between after : List Part)
      → AddsParts n b pay first before between → AddsParts n b pay then between after
      → AddsParts n b pay (first ++ then) before after
  adds-then first then before between after some more = record {
    tells = λ parts all. rw (← append_assoc parts first then) (more.tells (parts ++ first) (some.tells parts all));
    printable = λ all. more.printable (some.printable all);
  }

-- the sets, one more
pub one-set-more : (pay : PlainPay) (run : Run) (n : ℕ) (sets : List ℕ) (i d : ℕ) → i < length sets
    → parts_by_sets pay run (map (bits n) (take (i + 1) sets))
    ≡ parts_by_sets pay run (map (bits n) (take i sets)) ++ parts_by_sets pay run (bits n (get_or sets i d) ∷ [])
one-set-more pay run n sets i d more =
    let test = λ (s : List Bool). is_some (form pay run.first s) in
    let before = map (bits n) (take i sets) in
    ap (parts_by_sets pay run) (map_more (bits n) sets i d more)
    ∙ ap (map (by_set run)) (filter-append test before (bits n (get_or sets i d) ∷ []))
    ∙ map-append (by_set run) (filter test before) (filter test (bits n (get_or sets i d) ∷ []))

-- the runs, one more
pub one-run-more : {m : ℕ} (pay : PlainPay) (n : ℕ) (form : List (Segment m)) (place : ℕ) → place < length form
    → annuity_parts pay n (map run_of (take (place + 1) form))
    ≡ annuity_parts pay n (map run_of (take place form)) ++ run_parts pay n (run_of (segment_at form place))
one-run-more pay n form place more =
    ap (annuity_parts pay n) (map_more run_of form place (record { from = 0; to = 0; poly = [] }) more)
    ∙ flat_map-append (run_parts pay n) (map run_of (take place form)) (run_of (segment_at form place) ∷ [])
    ∙ ap (λ last. annuity_parts pay n (map run_of (take place form)) ++ last)
    (append-nil (run_parts pay n (run_of (segment_at form place))))

-- the parts of an annuity of either kind
pub annuity-parts-are : (kind : Kind) (b : Basis) (pay : PlainPay) (parts : List PayPart)
    → kind ≢ Insurance → AreAnnuityParts b pay parts → ArePartsByKind kind b pay parts
annuity-parts-are Insurance b pay parts annual are = absurd (annual refl)
annuity-parts-are Due b pay parts annual are = are
annuity-parts-are Immediate b pay parts annual are = are

pub insurance-parts-are : (kind : Kind) (b : Basis) (pay : PlainPay) (parts : List PayPart)
    → kind ≡ Insurance → parts ≡ insurance_parts b pay → ArePartsByKind kind b pay parts
insurance-parts-are Insurance b pay parts insured are = are
insurance-parts-are Due b pay parts insured are = absurd (cc)
insurance-parts-are Immediate b pay parts insured are = absurd (cc)
