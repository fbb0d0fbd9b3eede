-- Records whose fields call for no quotes are read from their lines.
use Rattle.std.proofs.Common.{◌≡◌, ℕ, List, [], ◌∷◌, ◌++◌, Some, append-nil, ap, false, refl, ◌∙◌}
use Rattle.std.specs.Prelude.{All, flat_map}
use Rattle.std.specs.List.{join_with_byte, list_any}
use Rattle.std.proofs.lemmas.List.Elements.{All-head, All-tail}
use Rattle.csv.specs.Machine.{next_record}
use Rattle.csv.specs.Reading.{default_config}
use Rattle.csv.specs.Writing.{default_writer, field_text, fields_text, is_blank, needs_byte, row_text}
use Rattle.csv.specs.declared.parser.State.TheVariants as st
use Rattle.csv.proofs.RoundTrip.{read-write-many}
use Rattle.halo_records.specs.Left.{rest_of}
use Rattle.halo_records.proofs.Fuel.{rest-cons, rest-nil}
use Rattle.halo_sample.specs.Records.{record_line}

-- no byte of the field calls for quotes
abbrev pub IsPlain : List ℕ → Type 0
IsPlain field = list_any (needs_byte default_writer) field ≡ false

-- a record that the reader takes from its line, whatever follows
abbrev pub IsReadBack : List (List ℕ) → Type 0
IsReadBack fields = (tail : List ℕ)
    → next_record default_config st.StartRecord [] [] (record_line fields ++ tail) ≡ Some (fields, st.StartRecord, tail)

-- the writer joins fields that call for no quotes by commas
joined-plain : (field : List ℕ) (rest : List (List ℕ)) → IsPlain field → All IsPlain rest
    → field_text default_writer field ++ fields_text default_writer rest ≡ join_with_byte 44 (field ∷ rest)
unfolding fields_text
joined-plain field [] plain all = rw plain (append-nil field)
joined-plain field (next ∷ rest) plain all =
    rw plain
    (ap (λ text. field ++ (44 ∷ text))
    (joined-plain next rest (All-head IsPlain next rest all) (All-tail IsPlain next rest all)))

-- so a record of two such fields or more is read back
pub plain-read_back : (field next : List ℕ) (rest : List (List ℕ)) → All IsPlain (field ∷ next ∷ rest)
    → IsReadBack (field ∷ next ∷ rest)
unfolding is_blank
plain-read_back field next rest all tail =
    let line : row_text default_writer (field ∷ next ∷ rest) ≡ record_line (field ∷ next ∷ rest) =
    ap (λ text. text ++ (10 ∷ []))
    (joined-plain field (next ∷ rest) (All-head IsPlain field (next ∷ rest) all)
    (All-tail IsPlain field (next ∷ rest) all)) in
    rw line at (read-write-many field next rest tail)

-- records that are read back, one by one, are the records of their lines
pub lines-read_back : (records : List (List (List ℕ))) → All IsReadBack records
    → rest_of st.StartRecord (Some (flat_map record_line records)) ≡ records
unfolding next_record
lines-read_back [] all = rest-nil st.StartRecord [] refl
lines-read_back (fields ∷ records) all =
    let behind = flat_map record_line records in
    let here = All-head IsReadBack fields records all behind in
    (rest-cons st.StartRecord (record_line fields ++ behind) (fields, st.StartRecord, behind) refl here).1
    ∙ ap (λ more. fields ∷ more) (lines-read_back records (All-tail IsReadBack fields records all))
