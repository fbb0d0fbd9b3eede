-- The laws of integers that the standard library lacks: `*ℤ` distributes, is associative, and keeps an order.
use Rattle.std.proofs.Common.{◌≡◌, ℕ, ◌+◌, ◌*◌, ◌<◌, ◌≤◌, ℤ, pos, negsuc, ◌+ℤ◌, ◌*ℤ◌, ◌≤ℤ◌, ◌-ℤ◌, neg_ℤ, arith, ap, sym, ◌∙◌, refl, ⊎_elim}
use Rattle.std.proofs.lemmas.Bool.{cases_lt}
use Rattle.std.proofs.lemmas.Int.{ints}
use Rattle.std.proofs.lemmas.Nat.{mul-le}
use Rattle.std.proofs.Math.Nat.{mul-le-mul_right, le_of_mul-le-mul_right}
use borrow.Author.Differences.{up, down, same_in, sum_is_lem, product_is, neg_is}

-- a number that is not negative, as a natural
pub pos_of_nonnegative : (z : ℤ) → pos 0 ≤ℤ z → z ≡ pos (up z)
pos_of_nonnegative (pos n) h = refl
pos_of_nonnegative (negsuc n) h = absurd (omega (arith, ints))

-- a product distributes over a sum, a difference and a negation, on either side
pub add_mul : (a b c : ℤ) → (a +ℤ b) *ℤ c ≡ a *ℤ c +ℤ b *ℤ c
add_mul a b c =
    let s = sum_is_lem a b in
    let t = ap (λ (x : ℕ). x * up c) s in
    let u = ap (λ (x : ℕ). x * down c) s in
    same_in ((a +ℤ b) *ℤ c) (a *ℤ c +ℤ b *ℤ c) (omega (arith, ints))

pub neg_mul : (a c : ℤ) → neg_ℤ a *ℤ c ≡ neg_ℤ (a *ℤ c)
neg_mul a c =
    let s = neg_is a in
    let t = ap (λ (x : ℕ). x * up c) s.0 in
    let u = ap (λ (x : ℕ). x * down c) s.0 in
    let v = ap (λ (x : ℕ). x * up c) s.1 in
    let w = ap (λ (x : ℕ). x * down c) s.1 in
    same_in (neg_ℤ a *ℤ c) (neg_ℤ (a *ℤ c)) (omega (arith, ints))

pub mul_assoc : (a b c : ℤ) → (a *ℤ b) *ℤ c ≡ a *ℤ (b *ℤ c)
mul_assoc a b c =
    let p = product_is a b in
    let q = product_is b c in
    let p0 = ap (λ (x : ℕ). x * up c) p.0 in
    let p1 = ap (λ (x : ℕ). x * down c) p.0 in
    let p2 = ap (λ (x : ℕ). x * up c) p.1 in
    let p3 = ap (λ (x : ℕ). x * down c) p.1 in
    let q0 = ap (λ (x : ℕ). up a * x) q.0 in
    let q1 = ap (λ (x : ℕ). down a * x) q.0 in
    let q2 = ap (λ (x : ℕ). up a * x) q.1 in
    let q3 = ap (λ (x : ℕ). down a * x) q.1 in
    same_in ((a *ℤ b) *ℤ c) (a *ℤ (b *ℤ c)) (omega (arith, ints))

-- an integer times two naturals
pub mul-pos-pos : (z : ℤ) (d k : ℕ) → z *ℤ pos d *ℤ pos k ≡ z *ℤ pos (d * k)
mul-pos-pos z d k = mul_assoc z (pos d) (pos k)

-- an order times a natural, and back
pub mul_le_pos : (a b : ℤ) (k : ℕ) → a ≤ℤ b → (a *ℤ pos k) ≤ℤ (b *ℤ pos k)
mul_le_pos a b k h =
    let e : (up a + down b) * k ≤ (up b + down a) * k = mul-le-mul_right k (omega (arith, ints)) in omega (arith, ints)

pub le_of_mul_pos : (a b : ℤ) (k : ℕ) → 0 < k → (a *ℤ pos k) ≤ℤ (b *ℤ pos k) → a ≤ℤ b
le_of_mul_pos a b k p h =
    let e : (up a + down b) * k ≤ (up b + down a) * k = omega (arith, ints) in
    let f : up a + down b ≤ up b + down a = le_of_mul-le-mul_right e p in
    omega (arith, ints)

pub le_trans : (a b c : ℤ) → a ≤ℤ b → b ≤ℤ c → a ≤ℤ c
le_trans a b c p q = omega (arith, ints)

-- products keep an order above 0
pub mul_le_mul : (a b c d : ℤ) → pos 0 ≤ℤ a → pos 0 ≤ℤ b → a ≤ℤ c → b ≤ℤ d → (a *ℤ b) ≤ℤ (c *ℤ d)
mul_le_mul (pos a) (pos b) (pos c) (pos d) x y h k =
    let e : a * b ≤ c * d = mul-le a b c d (omega (arith, ints)) (omega (arith, ints)) in
    omega (arith, ints)
mul_le_mul (negsuc a) b c d x y h k = absurd (omega (arith, ints))
mul_le_mul a (negsuc b) c d x y h k = absurd (omega (arith, ints))
mul_le_mul (pos a) b (negsuc c) d x y h k = absurd (omega (arith, ints))
mul_le_mul a (pos b) c (negsuc d) x y h k = absurd (omega (arith, ints))

-- a factor that is not 0 cancels
pub lt_of_mul_lt : (x y k : ℕ) → x * k < y * k → x < y
lt_of_mul_lt x y k h =
    ⊎_elim (λ (l : x < y). l) (λ (l : y ≤ x). let m : y * k ≤ x * k = mul-le-mul_right k l in absurd (omega arith))
    (cases_lt x y)

-- products of any sign: on the left of a sum, with the factors changed, at a difference and a negation
pub mul_comm : (a b : ℤ) → a *ℤ b ≡ b *ℤ a
mul_comm a b = omega (arith, ints)

pub mul_add : (a b c : ℤ) → a *ℤ (b +ℤ c) ≡ a *ℤ b +ℤ a *ℤ c
mul_add a b c =
    mul_comm a (b +ℤ c) ∙ add_mul b c a ∙ ap (λ z. z +ℤ c *ℤ a) (mul_comm b a) ∙ ap (λ z. a *ℤ b +ℤ z) (mul_comm c a)

pub mul_neg : (a b : ℤ) → a *ℤ neg_ℤ b ≡ neg_ℤ (a *ℤ b)
mul_neg a b = mul_comm a (neg_ℤ b) ∙ neg_mul b a ∙ ap neg_ℤ (mul_comm b a)

pub mul_sub : (a b c : ℤ) → a *ℤ (b -ℤ c) ≡ a *ℤ b -ℤ a *ℤ c
mul_sub a b c = omega (arith, ints, mul_add a b (neg_ℤ c), mul_neg a c)

pub sub_mul : (a b c : ℤ) → (a -ℤ b) *ℤ c ≡ a *ℤ c -ℤ b *ℤ c
sub_mul a b c = omega (arith, ints, add_mul a (neg_ℤ b) c, neg_mul b c)

pub mul_left_comm : (a b c : ℤ) → a *ℤ (b *ℤ c) ≡ b *ℤ (a *ℤ c)
mul_left_comm a b c = sym (mul_assoc a b c) ∙ ap (λ z. z *ℤ c) (mul_comm a b) ∙ mul_assoc b a c

-- the integer of a product and of a sum of naturals
pub pos_mul : (m n : ℕ) → pos (m * n) ≡ pos m *ℤ pos n
pos_mul m n = omega (arith, ints)

pub pos_add : (m n : ℕ) → pos (m + n) ≡ pos m +ℤ pos n
pos_add m n = omega (arith, ints)

pub pos_injective : (m n : ℕ) → pos m ≡ pos n → m ≡ n
pos_injective m n e = omega (arith, ints, e)
