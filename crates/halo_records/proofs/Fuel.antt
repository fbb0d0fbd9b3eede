-- A record takes at least one byte, so as many turns as there are bytes read all records.
use Rattle.std.proofs.Common.{◌≡◌, ℕ, zero, suc, ◌+◌, ◌<◌, ◌≤◌, List, [], ◌∷◌, ◌++◌, length, Option, None, Some, Bool, true, false, arith, add-one, ap, refl}
use Rattle.std.specs.Prelude.{◌==◌, ◌||◌, if◌then◌else◌}
use Rattle.csv.specs.Machine.{Read, ends_at_end, field_after, fields_after, in_field, is_end, next_record, start_field, start_record, step}
use Rattle.csv.specs.Reading.{default_config, is_bom, records_from, records_next, strip_bom}
use Rattle.csv.specs.declared.parser.State.{State}
use Rattle.csv.specs.declared.parser.State.TheVariants as st
use Rattle.csv.specs.declared.parser.Action.{Action}
use Rattle.csv.specs.declared.parser.Action.TheVariants as act
use Rattle.halo_records.specs.Left.{rest_of}
use Rattle.halo_records.specs.Records.{records_of}

-- if the action ends the record, the machine is between two
abbrev Between : State × Action → Type 0
Between p = is_end p.1 ≡ true → ends_at_end p.0 ≡ false

-- the actions inside a field
in-between : (a b d : Bool)
    → Between (if a then (st.StartField, act.EndField) else if b then
    (if d then st.AfterCr else st.StartRecord, act.EndRecord) else (st.InField, act.Copy))
in-between true b d e = cc e
in-between false true true e = refl
in-between false true false e = refl
in-between false false d e = cc e

-- the same in a field
field-between : (c : ℕ) → Between (in_field default_config c)
field-between c = in-between (c == 44) ((c == 13) || (c == 10)) (c == 13)

-- the same at the start of a field
start-between : (a : Bool) (c : ℕ) → Between (if a then (st.InQuoted, act.Skip) else in_field default_config c)
start-between true c e = cc e
start-between false c e = field-between c e

-- the same at the start of a record
record-between : (a : Bool) (c : ℕ) → Between (if a then (st.StartRecord, act.Skip) else start_field default_config c)
record-between true c e = cc e
record-between false c e = start-between (c == 34) c e

-- a byte that ends a record leaves the machine between two records
ends-between : (s : State) (c : ℕ) → Between (step default_config s c)
ends-between st.StartRecord c e = record-between ((c == 13) || (c == 10)) c e
ends-between st.StartField c e = start-between (c == 34) c e
ends-between st.InField c e = field-between c e
ends-between st.InQuoted c e = quoted (c == 34) e
  where
    quoted : (a : Bool) → Between (if a then (st.AfterQuote, act.Skip) else (st.InQuoted, act.Copy))
    quoted true e = cc e
    quoted false e = cc e
ends-between st.InEscape c e = cc e
ends-between st.AfterQuote c e = after (c == 34) e
  where
    after : (a : Bool) → Between (if a then (st.InQuoted, act.Copy) else in_field default_config c)
    after true e = cc e
    after false e = field-between c e
ends-between st.InComment c e = comment (c == 10) e
  where
    comment : (a : Bool) → Between (if a then (st.StartRecord, act.Skip) else (st.InComment, act.Skip))
    comment true e = cc e
    comment false e = cc e
ends-between st.AfterCr c e = after (c == 10) e
  where
    after : (a : Bool) → Between (if a then (st.StartRecord, act.Skip) else start_record default_config c)
    after true e = cc e
    after false e = record-between ((c == 13) || (c == 10)) c e

-- what a read left: the machine between two records, and at most so many bytes
abbrev Leaves : ℕ → Option Read → Type 0
Leaves n None = Unit {0}
Leaves n (Some p) = (ends_at_end p.1 ≡ false) × (length p.2 ≤ n)

-- after a record the machine is between two records, and no byte came back
next-leaves : (s : State) (fields : List (List ℕ)) (field bytes : List ℕ)
    → Leaves (length bytes) (next_record default_config s fields field bytes)
unfolding next_record
next-leaves s fields field [] = last (ends_at_end s)
  where
    last : (b : Bool) → Leaves 0 (if b then Some (fields ++ (field ∷ []), st.StartRecord, []) else None)
    last true = (refl, omega arith)
    last false = tt
next-leaves s fields field (c ∷ rest) =
    by (is_end (step default_config s c).1) refl
    (next-leaves (step default_config s c).0 (fields_after (step default_config s c).1 fields field)
    (field_after (step default_config s c).1 c field) rest)
  where
    wider : (n m : ℕ) (o : Option Read) → n ≤ m → Leaves n o → Leaves m o
    wider n m None h l = tt
    wider n m (Some p) h l = (l.0, omega (arith, l.1))

    by : (b : Bool) → is_end (step default_config s c).1 ≡ b
        → Leaves (length rest) (next_record default_config (step default_config s c).0
        (fields_after (step default_config s c).1 fields field) (field_after (step default_config s c).1 c field)
        rest)
        → Leaves (length (c ∷ rest)) (if b then Some
        (fields_after (step default_config s c).1 fields field, (step default_config s c).0, rest)
        else next_record default_config (step default_config s c).0
        (fields_after (step default_config s c).1 fields field) (field_after (step default_config s c).1 c field)
        rest)
    by true e l = (ends-between s c e, omega arith)
    by false e l = wider _ _ _ (omega arith) l

-- a record that begins between two takes a byte
abbrev Takes : ℕ → Option Read → Type 0
Takes n None = Unit {0}
Takes n (Some p) = (ends_at_end p.1 ≡ false) × (length p.2 < n)

-- the next record takes a byte
next-takes : (s : State) (bytes : List ℕ) → ends_at_end s ≡ false
    → Takes (length bytes) (next_record default_config s [] [] bytes)
unfolding next_record
next-takes s [] b = rw b tt
next-takes s (c ∷ rest) b = by (is_end (step default_config s c).1) refl
  where
    wider : (o : Option Read) → Leaves (length rest) o → Takes (length (c ∷ rest)) o
    wider None l = tt
    wider (Some p) l = (l.0, omega (arith, l.1))

    by : (b : Bool) → is_end (step default_config s c).1 ≡ b
        → Takes (length (c ∷ rest)) (if b then Some
        (fields_after (step default_config s c).1 [] [], (step default_config s c).0, rest)
        else next_record default_config (step default_config s c).0 (fields_after (step default_config s c).1 [] [])
        (field_after (step default_config s c).1 c []) rest)
    by true e = (ends-between s c e, omega arith)
    by false e = wider _ (next-leaves _ _ _ rest)

-- turns past the bytes change nothing
fuel : (n m : ℕ) (s : State) (bytes : List ℕ) → ends_at_end s ≡ false → length bytes < n → length bytes < m
    → records_from default_config n s bytes ≡ records_from default_config m s bytes
unfolding records_from
fuel zero m s bytes b h k = absurd (omega arith)
fuel (suc n) zero s bytes b h k = absurd (omega arith)
fuel (suc n) (suc m) s bytes b h k =
    go (next_record default_config s [] [] bytes) (next-takes s bytes b)
    (λ s2 rest b2 h2. fuel n m s2 rest b2 (omega arith) (omega arith))
  where
    go : (o : Option Read) → Takes (length bytes) o
        → ((s2 : State) (rest : List ℕ) → ends_at_end s2
        ≡ false → length rest < length bytes
        → records_from default_config n s2 rest ≡ records_from default_config m s2 rest)
        → records_next (records_from default_config n) o ≡ records_next (records_from default_config m) o
    go None t more = refl
    go (Some p) t more = ap (λ (q : List (List (List ℕ))). p.0 ∷ q) (more p.1 p.2 t.0 t.1)

-- the records from a state: the next, and those behind it
pub rest-cons : (s : State) (bytes : List ℕ) (p : Read) → ends_at_end s ≡ false
    → next_record default_config s [] [] bytes ≡ Some p
    → (ends_at_end p.1 ≡ false) × (rest_of s (Some bytes) ≡ p.0 ∷ rest_of p.1 (Some p.2))
unfolding records_from
rest-cons s bytes p b e =
    let t = rw e at (next-takes s bytes b) in (
      t.0,
      rw (add-one, e) (ap (λ (q : List (List (List ℕ))). p.0 ∷ q)
          (fuel (length bytes) (length p.2 + 1) p.1 p.2 t.0 t.1 (omega arith))),
    )

-- where there is no next record, none is left
pub rest-nil : (s : State) (bytes : List ℕ) → next_record default_config s [] [] bytes ≡ None
    → rest_of s (Some bytes) ≡ []
unfolding records_from
rest-nil s bytes e = rw (add-one, e) refl

-- there are no more records than bytes
from-length : (n : ℕ) (s : State) (bytes : List ℕ) → ends_at_end s ≡ false
    → length (records_from default_config n s bytes) ≤ length bytes
unfolding records_from
from-length zero s bytes b = omega arith
from-length (suc n) s bytes b =
    go (next_record default_config s [] [] bytes) (next-takes s bytes b) (λ s2 rest b2. from-length n s2 rest b2)
  where
    go : (o : Option Read) → Takes (length bytes) o
        → ((s2 : State) (rest : List ℕ) → ends_at_end s2
        ≡ false → length (records_from default_config n s2 rest) ≤ length rest)
        → length (records_next (records_from default_config n) o) ≤ length bytes
    go None t more = omega arith
    go (Some p) t more = let h = more p.1 p.2 t.0 in let k = t.1 in omega arith

-- dropping a mark makes no bytes more
strip-length : (xs : List ℕ) → length (strip_bom xs) ≤ length xs
unfolding strip_bom
strip-length [] = omega arith
strip-length (a ∷ []) = omega arith
strip-length (a ∷ b ∷ []) = omega arith
strip-length (a ∷ b ∷ c ∷ rest) = by (is_bom a b c)
  where
    by : (t : Bool) → length (if t then rest else a ∷ b ∷ c ∷ rest) ≤ length (a ∷ b ∷ c ∷ rest)
    by true = omega arith
    by false = omega arith

-- a file has no more records than bytes
pub few_records : (bytes : List ℕ) → length (records_of bytes) ≤ length bytes
few_records bytes =
    let h = from-length (length (strip_bom (strip_bom bytes)) + 1) st.StartRecord (strip_bom (strip_bom bytes)) refl in
    omega (arith, strip-length (strip_bom bytes), strip-length bytes)
