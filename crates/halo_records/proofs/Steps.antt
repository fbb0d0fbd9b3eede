-- What a read of a record does to the records that are left.
use Rattle.std.proofs.Common.{◌≡◌, ℕ, List, [], ◌∷◌, Option, Some, Bool, true, false, refl, inl, ◌∙◌}
use Rattle.std.specs.Prelude.{if◌then◌else◌}
use Rattle.std.specs.Borrow.{Bor}
use Rattle.csv.specs.Machine.{Read}
use Rattle.csv.specs.declared.parser.State.{State}
use Rattle.csv.specs.Reading.{Reached, ReadRecord, default_config, has_failed, is_flexible, reader_state, source_of, took_first}
use Rattle.csv.specs.declared.reader.Reader.{Reader}
use Rattle.csv.proofs.ReadFacts.{rows-end, rows-more}
use Rattle.halo_records.specs.Left.{IsGoing, left_of, rest_of, told}
use Rattle.halo_records.proofs.Fuel.{rest-cons, rest-nil}

-- a reader over bytes that has not failed knows what is left
source-known : (r : Reader (Bor (List ℕ))) → has_failed r ≡ false → (y : List ℕ) × (source_of told r ≡ Some y)
source-known r e = rw e (either _ _ _)
  where
    either : (b : Bool) (x y : List ℕ) → (z : List ℕ) × ((if b then Some x else Some y) ≡ Some z)
    either true x y = (x, refl)
    either false x y = (y, refl)

together : (src next : Option (List ℕ)) (s s2 : State) (y z : List ℕ) (p : Read) (f : List (List ℕ)) → src ≡ Some y
    → next ≡ Some z
    → rest_of s (Some y) ≡ p.0 ∷ rest_of p.1 (Some p.2) → f ≡ p.0 → p.1 ≡ s2 → p.2 ≡ z
    → rest_of s src ≡ f ∷ rest_of s2 next
together src next s s2 y z p f a b c d e g = rw (a, b, c, d, e, g) refl

-- a read that found a record took the first of those left
pub read-more : (old new : Reader (Bor (List ℕ))) (fields : List (List ℕ)) → IsGoing old
    → is_flexible new ≡ is_flexible old → took_first new ≡ true → has_failed new ≡ has_failed old
    → ReadRecord told old new true fields → IsGoing new × (left_of old ≡ fields ∷ left_of new)
unfolding Reached
read-more old new fields g flexible first fresh r =
    let (y, known) = source-known old g.fresh in
    let (z, at_z, reached) =
    rows-more told old new fields default_config (reader_state old) y y [] g.config known (refl, refl) r in
    let (p, next, same, ends) = reached in
    let cons = rest-cons (reader_state old) y p g.between next in (
      record {
        fresh = fresh ∙ g.fresh;
        trim = r.3 ∙ g.trim;
        ready = inl first;
        config = r.2 ∙ g.config;
        flexible =
            flexible ∙ g.flexible;
        between =
            rw (← ends.0) cons.0;
      },
      together _ _ _ _ y z p fields known at_z cons.1 same ends.0 ends.1,
    )

-- a read that found none shows that none is left
pub read-end : (old new : Reader (Bor (List ℕ))) (fields : List (List ℕ)) → IsGoing old
    → ReadRecord told old new false fields → left_of old ≡ []
read-end old new fields g r =
    let (y, known) = source-known old g.fresh in
    rw known (rest-nil (reader_state old) y (rows-end told old new fields default_config y g.config known r))
