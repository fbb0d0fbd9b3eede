-- The masks of names: which of all names are among some names.
use Rattle.std.proofs.Common.{◌≡◌, ◌<◌, ◌^◌, ◌∙◌, ℕ, List, [], true, false, length, get_or, map, subst, sym, arith}
use Rattle.std.specs.Prelude.{Contains, IfSome, None, Option, Some}
use Rattle.std.proofs.lemmas.List.{get_or-map, length-map}
use Rattle.halo_sums.specs.Masks.{has_bit}
use Rattle.halo_sums.proofs.SetMasks.{has_bit-mask_of, mask_of-lt}
use Rattle.halo_symbol.specs.Symbol.{Names}
use Rattle.halo_check.specs.Draft.{all_names, causes_of, is_among, mask_of_names}
use Rattle.halo_check.proofs.AmongNames.{among-Contains}

pub mask_of_names-lt : (all names : List (List ℕ)) → mask_of_names all names < 2 ^ length all
mask_of_names-lt all names =
    let among = is_among names in
    subst (λ n. mask_of_names all names < 2 ^ n) (length-map all among) (mask_of-lt (map among all))

pub causes_of-lt : (causes : List (List ℕ)) (names : Option Names)
    → IfSome (causes_of causes names) (λ mask. mask < 2 ^ length causes)
causes_of-lt causes None = tt
causes_of-lt causes (Some names) = mask_of_names-lt causes (all_names names)

-- a name whose bit is set is among the names
pub among_of_bit : (all names : List (List ℕ)) (i : ℕ) → i < length all
    → has_bit (mask_of_names all names) i ≡ true → Contains names (get_or all i [])
among_of_bit all names i within set =
    let inside : i < length (map (is_among names) all) = omega (arith, length-map all (is_among names)) in
    let tested = get_or-map (is_among names) all i [] false within in
    let bit = has_bit-mask_of (map (is_among names) all) i inside in
    (among-Contains names (get_or all i [])).0 (sym tested ∙ sym bit ∙ set)
