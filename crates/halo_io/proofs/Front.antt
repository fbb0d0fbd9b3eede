-- The front of a told file that several reads have given.
use Rattle.std.proofs.Common.{◌≡◌, ℕ, ◌+◌, ◌≤◌, List, ◌++◌, length, take, drop, Option, None, Some}
use Rattle.std.proofs.Common.{append_assoc, ap, ◌∙◌}
use Rattle.std.proofs.lemmas.List.{length-append, drop-drop, length-take-le}
use Rattle.std.proofs.lemmas.List.{take-append-drop, take-append-le}
use Rattle.std.specs.Prelude.{Result, Ok, Err, MatchResult, is_ok, true, ⊤}
use Rattle.std.specs.Io.{ReadsAtMost}
use Rattle.halo_io.specs.declared.failed.Failed.{Failed}
use Rattle.halo_io.specs.Told.{GivesAt}

-- where the file is told, it begins with these bytes
abbrev pub IsFront : Option (List ℕ) → List ℕ → Type 0
IsFront None bytes = ⊤
IsFront (Some file) bytes = bytes ++ drop (length bytes) file ≡ file

-- what `map_err` left as an `Ok` was one before, with that value
pub ok-mapped : {E F : Type 0} (result : Result ℕ E) (mapped : Result ℕ F) (n : ℕ) (Q : E → Type 0)
    → mapped ≡ Ok n → MatchResult result (λ x. mapped ≡ Ok x) Q → true ≡ is_ok result
    → result ≡ Ok n
ok-mapped (Ok x) mapped n Q is same ok = cc (is, same)
ok-mapped (Err e) mapped n Q is same ok = cc ok

-- a read of n bytes at the end of the front makes it longer, where `into` has more behind them
pub front-read : (file same : Option (List ℕ)) (bytes into rest : List ℕ) (at n : ℕ)
    (result : Result ℕ Failed) → same ≡ file → at ≡ length bytes → result ≡ Ok n
    → ReadsAtMost result into → GivesAt same at result into
    → IsFront file bytes → IsFront file (bytes ++ take n (into ++ rest))
front-read None same bytes into rest at n result told end is bound gives front = tt
front-read (Some file) same bytes into rest at n result told end is bound gives front =
    let fits : n ≤ length into = (rw is at bound).0 in
    let given = rw (told, end, is) at gives in
    let longer : length (bytes ++ take n into) ≡ length bytes + n =
    length-append bytes (take n into)
    ∙ ap (λ m. length bytes + m) (length-take-le n into fits) in
    rw (take-append-le n into rest fits, longer, ← drop-drop n (length bytes) file, given.0)
    (rw (append_assoc, take-append-drop) front)
