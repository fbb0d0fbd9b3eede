-- The number of lives is told by the number of sets.
use Rattle.std.proofs.Common.{◌≡◌, ℕ, ◌+◌, sym, ◌∙◌, List, Bool, cond, length, get_or, ℤ}
use Rattle.halo_poly.specs.Poly.{value_on}
use Rattle.halo_sums.specs.SetMasks.{mask_of}
use Rattle.halo_poly.specs.Symmetric.{is_one}
use Rattle.halo_poly.proofs.Masks.{same_exponent}
use Rattle.halo_poly.proofs.poly.Poly.count_values.Goals as goal

-- the same of an equal polynomial
counted : (p q : List ℤ) (n : ℕ) (old now : List ℕ) → p ≡ q
    → ((s : List Bool) → length s ≡ n
    → get_or now (mask_of s) 0 ≡ get_or old (mask_of s) 0 + cond (is_one (value_on p s)) 1 0)
    → (s : List Bool) → length s ≡ n
    → get_or now (mask_of s) 0 ≡ get_or old (mask_of s) 0 + cond (is_one (value_on q s)) 1 0
counted p q n old now e h = rw (← e) h

pub returns-clause-counts : goal.returns-clause-counts
returns-clause-counts g c = λ n e s l.
    let same : n ≡ c.lives.result = same_exponent n c.lives.result (sym e ∙ c.lives.ensures.sets) in
    counted _ c.args.self.now c.lives.result c.args.counts.now c.count_values.new.counts
    (c.deref.ensures.value ∙ c.self.view_is) c.count_values.ensures.counts s (l ∙ same)
