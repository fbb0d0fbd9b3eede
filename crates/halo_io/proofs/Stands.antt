-- Where a piece stands in the bytes that a sink expects.
use Rattle.std.proofs.Common.{◌≡◌, ◌<◌, ℕ, ◌+◌, ◌-◌, ◌^◌, min, List, length, take, drop}
use Rattle.std.proofs.Common.{None, Some, Bool, true, false, ◌&&◌, if◌then◌else◌, IsTrue, ◌↔◌}
use Rattle.std.proofs.Common.{sym, ap, refl, arith, ◌∙◌}
use Rattle.std.proofs.Math.Seq.{take-add, take-length}
use Rattle.std.proofs.lemmas.List.{length-drop, length-take}
use Rattle.std.proofs.lemmas.Slice.Eq.{bytes_eq-Decides}
use Rattle.std.specs.Str.{bytes_eq}
use Rattle.halo_io.specs.Told.{AppendsTold}
use Rattle.halo_io.specs.SureSink.{StandsAt}
use Rattle.halo_io.proofs.Appended.{take-rest}

-- the rest from a place on starts with a piece exactly where the piece stands at that place
pub starts-stands : (bytes piece rest : List ℕ) (at : ℕ) (starts : Bool)
    → rest ≡ take (length bytes - at) (drop at bytes)
    → starts ≡ bytes_eq piece (take (length piece) rest)
    → IsTrue starts ↔ StandsAt bytes at piece
starts-stands bytes piece rest at starts from test =
    let decides = rw (from, take-rest at bytes) at (bytes_eq-Decides piece (take (length piece) rest)) in
    let same = rw (from, take-rest at bytes) at test in
    ((λ t. sym (decides.0 (sym same ∙ t))), (λ stands. same ∙ decides.1 (sym stands)))

-- a sink that tells goes on telling with a piece that stands where it is
pub told-next : (room piece : List ℕ) (at now : ℕ) (before stands : Bool)
    → at < 2 ^ 64 → length room < 2 ^ 64 → now ≡ min (at + length piece) (2 ^ 64 - 1)
    → (IsTrue stands → StandsAt room at piece)
    → AppendsTold (if before then Some (take at room) else None)
    (if before && stands then Some (take now room) else None) (take (length piece) piece)
told-next room piece at now false stands fits small next here = tt
told-next room piece at now true false fits small next here = tt
told-next room piece at now true true fits small next here =
    let stands : StandsAt room at piece = here refl in
    let within : length piece ≡ min (length piece) (length room - at) =
    sym (ap length stands) ∙ length-take (length piece) (drop at room)
    ∙ ap (λ n. min (length piece) n) (length-drop at room) in
    let exact : now ≡ at + length piece = omega arith in
    rw (exact, take-add at (length piece) room, stands, take-length piece) refl
