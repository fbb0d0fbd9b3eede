-- The states behind draws.
use Rattle.std.proofs.Common.{◌≡◌, ℕ, zero, suc, ◌+◌, ◌*◌, ◌/◌, ◌%◌, ◌^◌, arith, ap, sym, ◌∙◌, refl}
use Rattle.std.proofs.Math.Nat.{div-add-mod, mul-add-mod_self_left}
use Rattle.halo_sample.specs.declared.generator.TheConstants.{INCREMENT, MULTIPLIER}
use Rattle.halo_sample.specs.Generator.{next_state, state_behind_pairs, state_behind_two}

-- what is added to a remainder may be added before
add-mod_first : (a c m : ℕ) → (a % m + c) % m ≡ (a + c) % m
add-mod_first a c m =
    let parts = div-add-mod a m in
    let regrouped : m * (a / m) + (a % m + c) ≡ a + c = omega (arith, parts) in
    sym (mul-add-mod_self_left m (a / m) (a % m + c)) ∙ ap (λ n. n % m) regrouped

-- a state is stepped within 64 bits
pub stepped : (s : ℕ) → (MULTIPLIER * s % 2 ^ 64 + INCREMENT) % 2 ^ 64 ≡ next_state s
unfolding next_state
stepped s = add-mod_first (MULTIPLIER * s) INCREMENT (2 ^ 64)

-- two draws after two draws
pub behind-more : (count more s : ℕ)
    → state_behind_pairs more (state_behind_pairs count s) ≡ state_behind_pairs (count + more) s
unfolding state_behind_pairs
behind-more zero more s = let sum : more ≡ 0 + more = omega arith in ap (λ n. state_behind_pairs n s) sum
behind-more (suc count) more s =
    let sum : suc (count + more) ≡ suc count + more = omega arith in
    behind-more count more (state_behind_two s) ∙ ap (λ n. state_behind_pairs n s) sum

pub behind-one-more : (count s : ℕ)
    → state_behind_two (state_behind_pairs count s) ≡ state_behind_pairs (count + 1) s
unfolding state_behind_pairs
behind-one-more count s = behind-more count 1 s

pub behind-none : (s : ℕ) → state_behind_pairs 0 s ≡ s
unfolding state_behind_pairs
behind-none s = refl
