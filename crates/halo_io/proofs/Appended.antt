-- What a sink tells over several writes.
use Rattle.std.proofs.Common.{◌≡◌, ℕ, ◌+◌, ◌-◌, List, ◌++◌, length, take, drop, Option, None, Some}
use Rattle.std.proofs.Common.{append_assoc}
use Rattle.std.proofs.Math.Seq.{take-add, take-length}
use Rattle.std.proofs.lemmas.List.{length-drop}
use Rattle.halo_io.specs.Told.{AppendsTold}

-- a growth by these bytes and then by those is one by both
pub told-append : (old mid new : Option (List ℕ)) (xs ys : List ℕ)
    → AppendsTold old mid xs → AppendsTold mid new ys → AppendsTold old new (xs ++ ys)
told-append old mid None xs ys first second = tt
told-append old None (Some now) xs ys first second = absurd second
told-append None (Some told) (Some now) xs ys first second = absurd first
told-append (Some before) (Some told) (Some now) xs ys first second =
    rw (second, first) (append_assoc before xs ys)

-- a growth by the first i bytes and then by the next n is one by the first i + n
pub told-take : (old mid new : Option (List ℕ)) (bytes : List ℕ) (i n : ℕ)
    → AppendsTold old mid (take i bytes) → AppendsTold mid new (take n (drop i bytes))
    → AppendsTold old new (take (i + n) bytes)
told-take old mid new bytes i n first second =
    rw (take-add i n bytes) (told-append old mid new _ _ first second)

-- `&bytes[i..]` is the rest
pub take-rest : (i : ℕ) (bytes : List ℕ) → take (length bytes - i) (drop i bytes) ≡ drop i bytes
take-rest i bytes = rw (← length-drop i bytes) (take-length (drop i bytes))
