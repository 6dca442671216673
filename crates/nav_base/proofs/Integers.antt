-- The laws of sums and products of whole numbers that std does not state: products distribute over sums and group either way.
use Rattle.std.proofs.Common.{◌≡◌, ℤ, ◌+ℤ◌, ◌*ℤ◌, ℕ, ◌+◌, ◌*◌, ap, arith}
use lib.IntN.{neg_ℤ}
use borrow.Author.Differences.{up, down, same_in, sum_is_lem, product_is, neg_is}

-- how far the parts of a sum lie apart, times a number
scaled_sum : (a b : ℤ) (k : ℕ) → (up (a +ℤ b) + down a + down b) * k ≡ (down (a +ℤ b) + up a + up b) * k
scaled_sum a b k = ap (λ (n : ℕ). n * k) (sum_is_lem a b)

-- a product distributes over a sum on its left
pub *ℤ-+ℤ_left : (a b c : ℤ) → (a +ℤ b) *ℤ c ≡ a *ℤ c +ℤ b *ℤ c
*ℤ-+ℤ_left a b c = omega (arith, same_in, sum_is_lem, product_is, scaled_sum a b (up c), scaled_sum a b (down c))

-- and over one on its right
pub *ℤ-+ℤ_right : (a b c : ℤ) → a *ℤ (b +ℤ c) ≡ a *ℤ b +ℤ a *ℤ c
*ℤ-+ℤ_right a b c = omega (arith, same_in, sum_is_lem, product_is, scaled_sum b c (up a), scaled_sum b c (down a))

-- products may be grouped either way
pub *ℤ_assoc : (a b c : ℤ) → (a *ℤ b) *ℤ c ≡ a *ℤ (b *ℤ c)
*ℤ_assoc a b c =
    let left = product_is a b in
    let right = product_is b c in
    let up_up = ap (λ (n : ℕ). n * up c) left.0 in
    let up_down = ap (λ (n : ℕ). n * down c) left.0 in
    let down_up = ap (λ (n : ℕ). n * up c) left.1 in
    let down_down = ap (λ (n : ℕ). n * down c) left.1 in
    let up_up' = ap (λ (n : ℕ). up a * n) right.0 in
    let up_down' = ap (λ (n : ℕ). up a * n) right.1 in
    let down_up' = ap (λ (n : ℕ). down a * n) right.0 in
    let down_down' = ap (λ (n : ℕ). down a * n) right.1 in
    omega (arith, same_in, product_is)

-- a sign moves out of a product
pub neg_ℤ-*ℤ_left : (a b : ℤ) → neg_ℤ a *ℤ b ≡ neg_ℤ (a *ℤ b)
neg_ℤ-*ℤ_left a b =
    let sign = neg_is a in
    let up_up = ap (λ (n : ℕ). n * up b) sign.0 in
    let up_down = ap (λ (n : ℕ). n * down b) sign.0 in
    let down_up = ap (λ (n : ℕ). n * up b) sign.1 in
    let down_down = ap (λ (n : ℕ). n * down b) sign.1 in
    omega (arith, same_in, product_is, neg_is)
