-- Sets of causes: pieces begin with at most one, and why they begin with none.
use Rattle.std.proofs.Common.{◌≡◌, ℕ, List, [], ◌∷◌, ◌++◌, Option, Some, None, refl, sym, ap, ap₂, ◌∙◌, arith}
use Rattle.halo_status.specs.declared.pay.Kind.{Kind}
use Rattle.halo_status.specs.declared.pay.Kind.TheVariants.{Insurance}
use Rattle.halo_symbol.specs.Characters.{comma, brace_open, brace_close}
use Rattle.halo_symbol.specs.Piece.{Piece, name, byte}
use Rattle.halo_symbol.specs.Symbol.{Names}
use Rattle.halo_symbol.specs.Pieces.{other_names_pieces, causes_pieces}
use Rattle.halo_symbol.specs.Next.{NotNext, NoNameNext, CausesEnd}
use Rattle.halo_symbol.specs.Absent.{NoCauses}
use Rattle.halo_symbol.proofs.Unique.{first_code, behind}

brace_not_comma : (rest : List Piece) → NotNext comma (byte brace_close ∷ rest)
brace_not_comma rest ps e = absurd (omega (arith, ap first_code e))

-- names, each behind a comma, are told by their pieces
names_one : (ms ns : List (List ℕ)) (r s : List Piece) → NotNext comma r → NotNext comma s
    → other_names_pieces ms r ≡ other_names_pieces ns s → (ms ≡ ns) × (r ≡ s)
names_one [] [] r s u v e = (refl, e)
names_one [] (n ∷ ns) r s u v e = absurd (u _ e)
names_one (m ∷ ms) [] r s u v e = absurd (v _ (sym e))
names_one (m ∷ ms) (n ∷ ns) r s u v e = let rest = names_one ms ns r s u v (behind (behind e)) in (cc, rest.1)

-- a set of causes is told by its pieces
pub causes_one : (c d : Option Names) (r s : List Piece) → CausesEnd c r → CausesEnd d s
    → causes_pieces c r ≡ causes_pieces d s → (c ≡ d) × (r ≡ s)
causes_one None None r s u v e = (refl, e)
causes_one None (Some names) r s u v e = absurd (u _ e)
causes_one (Some names) None r s u v e = absurd (v _ (sym e))
causes_one (Some m) (Some n) r s u v e =
    let rest =
    names_one m.others n.others (byte brace_close ∷ r) (byte brace_close ∷ s) (brace_not_comma r)
    (brace_not_comma s) (behind (behind e)) in
    let set : List ℕ → List (List ℕ) → Option Names =
    λ first others. Some (record { first = first; others = others }) in
    let first : m.first ≡ n.first = cc in
    (ap₂ set first rest.0, behind rest.1)

-- behind `{` names that the kind allows and `}` have to come
pub no_set : (kind : Kind) (ts us : List Piece) → ts ≡ byte brace_open ∷ us
    → ((names : Names) (rest : List Piece) → kind ≡ Insurance → us
    ≡ name names.first ∷ other_names_pieces names.others (byte brace_close ∷ rest) → ⊥)
    → NoCauses kind ts
unfolding NoCauses
no_set kind ts us s none None rest allowed ends e = ends us (sym e ∙ s)
no_set kind ts us s none (Some names) rest allowed ends e = none names rest allowed (behind (sym s ∙ e))

-- behind `,` a name has to come
pub no_name : (ms ns : List (List ℕ)) (us rest : List Piece) → NoNameNext us
    → other_names_pieces ms (byte comma ∷ us) ≡ other_names_pieces ns (byte brace_close ∷ rest) → ⊥
no_name [] [] us rest none e = absurd (omega (arith, ap first_code e))
no_name [] (n ∷ ns) us rest none e = none _ _ (behind e)
no_name (m ∷ ms) [] us rest none e = absurd (omega (arith, ap first_code e))
no_name (m ∷ ms) (n ∷ ns) us rest none e = no_name ms ns us rest none (behind (behind e))

-- behind names `,` or `}` has to come
pub no_brace : (ms ns : List (List ℕ)) (us rest : List Piece) → NotNext comma us → NotNext brace_close us
    → other_names_pieces ms us ≡ other_names_pieces ns (byte brace_close ∷ rest) → ⊥
no_brace ms ns us rest ends other e =
    other rest (names_one ms ns us (byte brace_close ∷ rest) ends (brace_not_comma rest) e).1

-- a name more at the end
pub other_names_pieces-push : (ms : List (List ℕ)) (m : List ℕ) (rest : List Piece)
    → other_names_pieces (ms ++ m ∷ []) rest ≡ other_names_pieces ms (byte comma ∷ name m ∷ rest)
other_names_pieces-push [] m rest = refl
other_names_pieces-push (n ∷ ms) m rest =
    ap (λ (ps : List Piece). byte comma ∷ name n ∷ ps) (other_names_pieces-push ms m rest)
