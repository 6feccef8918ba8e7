-- The laws of the exclusive or, which is the sum of polynomials over GF(2). Assumes nothing.
use mathlib.Core.Path.{◌≡◌, refl, sym, ap, ap₂, ◌∙◌}
use Prim.Native.Nat.{ℕ, zero, ◌+◌, ◌*◌, ◌/◌, ◌%◌, ◌^◌, ◌<◌}
use native.Mathlib.Nat.{zero-mul, one-mul, mod-lt, add-zero}
use lib.Arith.{bin_ind}
use lib.Pow.{pow_pos, split}
use lib.Bits.{bit_xor, xor_zero_r, xor_comm, xor_self, xor_lt, xor_shr, xor_mod, xor_block, xor_shifted}
use Rattle.octets.specs.Xor.{◌⊕◌}
use Rattle.octets.proofs.Digit.{digit, by_halves}

pub zero_⊕ : (a : ℕ) → zero ⊕ a ≡ a
unfolding ◌⊕◌
zero_⊕ a = refl

pub ⊕-zero : (a : ℕ) → a ⊕ zero ≡ a
unfolding ◌⊕◌
⊕-zero a = xor_zero_r a

pub ⊕-comm : (a b : ℕ) → a ⊕ b ≡ b ⊕ a
unfolding ◌⊕◌
⊕-comm a b = xor_comm a b

pub ⊕-self : (a : ℕ) → a ⊕ a ≡ zero
unfolding ◌⊕◌
⊕-self a = xor_self a

pub ⊕-lt : (k a b : ℕ) → a < 2 ^ k → b < 2 ^ k → a ⊕ b < 2 ^ k
unfolding ◌⊕◌
⊕-lt k a b h l = xor_lt k a b h l

-- it goes digit by digit, so cuts and shifts pass through it
pub ⊕-shr : (a b k : ℕ) → (a ⊕ b) / 2 ^ k ≡ (a / 2 ^ k) ⊕ (b / 2 ^ k)
unfolding ◌⊕◌
⊕-shr a b k = xor_shr a b k

pub ⊕-mod : (a b k : ℕ) → (a ⊕ b) % 2 ^ k ≡ (a % 2 ^ k) ⊕ (b % 2 ^ k)
unfolding ◌⊕◌
⊕-mod a b k = xor_mod a b k

pub ⊕-half : (a b : ℕ) → (a ⊕ b) / 2 ≡ (a / 2) ⊕ (b / 2)
⊕-half a b = ⊕-shr a b 1

pub ⊕-odd : (a b : ℕ) → (a ⊕ b) % 2 ≡ (a % 2) ⊕ (b % 2)
⊕-odd a b = ⊕-mod a b 1

pub ⊕-block : (k a b r s : ℕ) → r < 2 ^ k → s < 2 ^ k → (a * 2 ^ k + r) ⊕ (b * 2 ^ k + s) ≡ (a ⊕ b) * 2 ^ k + (r ⊕ s)
unfolding ◌⊕◌
⊕-block k a b r s hr hs = xor_block k a b r s hr hs

pub ⊕-shl : (k a b : ℕ) → (a ⊕ b) * 2 ^ k ≡ (a * 2 ^ k) ⊕ (b * 2 ^ k)
unfolding ◌⊕◌
⊕-shl k a b =
    sym (ap₂ bit_xor (sym (add-zero (a * 2 ^ k))) (sym (add-zero (b * 2 ^ k))) ∙ xor_block k a b zero zero (pow_pos k) (pow_pos k) ∙ add-zero (bit_xor a b * 2 ^ k))

pub ⊕-double : (a b : ℕ) → (a ⊕ b) * 2 ≡ (a * 2) ⊕ (b * 2)
⊕-double a b = ⊕-shl 1 a b

-- numbers with no digit in common add up
pub ⊕-above : (a k b : ℕ) → b < 2 ^ k → (a * 2 ^ k) ⊕ b ≡ a * 2 ^ k + b
unfolding ◌⊕◌
⊕-above a k b l = xor_shifted a k b l

-- a number is its high digits, shifted, and its k last ones
pub split_⊕ : (a k : ℕ) → (a / 2 ^ k * 2 ^ k) ⊕ (a % 2 ^ k) ≡ a
split_⊕ a k = ⊕-above (a / 2 ^ k) k (a % 2 ^ k) (mod-lt a (pow_pos k)) ∙ split a k

pub digits : (a : ℕ) → (a / 2 * 2) ⊕ (a % 2) ≡ a
digits a = split_⊕ a 1

assoc₁ : (a b c : ℕ) → ((a % 2) ⊕ (b % 2)) ⊕ (c % 2) ≡ (a % 2) ⊕ ((b % 2) ⊕ (c % 2))
unfolding ◌⊕◌
assoc₁ a b c =
    digit (λ x. bit_xor (bit_xor x (b % 2)) (c % 2) ≡ bit_xor x (bit_xor (b % 2) (c % 2))) refl
    (digit (λ y. bit_xor (bit_xor 1 y) (c % 2) ≡ bit_xor 1 (bit_xor y (c % 2))) refl
    (digit (λ z. bit_xor (bit_xor 1 1) z ≡ bit_xor 1 (bit_xor 1 z)) refl refl c) b) a

pub ⊕-assoc : (a b c : ℕ) → (a ⊕ b) ⊕ c ≡ a ⊕ (b ⊕ c)
⊕-assoc =
    bin_ind (λ a. (b c : ℕ) → (a ⊕ b) ⊕ c ≡ a ⊕ (b ⊕ c)) (λ b c. rw (zero_⊕ b, zero_⊕ (b ⊕ c))) (λ a ih b c.
    by_halves
    (⊕-half (a ⊕ b) c ∙ ap (λ n. n ⊕ (c / 2)) (⊕-half a b) ∙ ih (b / 2) (c / 2)
    ∙ ap (λ n. (a / 2) ⊕ n) (sym (⊕-half b c)) ∙ sym (⊕-half a (b ⊕ c)))
    (⊕-odd (a ⊕ b) c ∙ ap (λ n. n ⊕ (c % 2)) (⊕-odd a b) ∙ assoc₁ a b c
    ∙ ap (λ n. (a % 2) ⊕ n) (sym (⊕-odd b c)) ∙ sym (⊕-odd a (b ⊕ c))))

pub ⊕-left : (a b c : ℕ) → a ⊕ (b ⊕ c) ≡ b ⊕ (a ⊕ c)
⊕-left a b c = sym (⊕-assoc a b c) ∙ ap (λ x. x ⊕ c) (⊕-comm a b) ∙ ⊕-assoc b a c

pub ⊕-swap : (a b c d : ℕ) → (a ⊕ b) ⊕ (c ⊕ d) ≡ (a ⊕ c) ⊕ (b ⊕ d)
⊕-swap a b c d = ⊕-assoc a b (c ⊕ d) ∙ ap (λ x. a ⊕ x) (⊕-left b c d) ∙ sym (⊕-assoc a c (b ⊕ d))

-- a sum at the low digits leaves the others
pub ⊕-low : (k a b c : ℕ) → b < 2 ^ k → c < 2 ^ k → (a * 2 ^ k + b) ⊕ c ≡ a * 2 ^ k + (b ⊕ c)
⊕-low k a b c hb hc =
    ap (λ x. x ⊕ c) (sym (⊕-above a k b hb)) ∙ ⊕-assoc (a * 2 ^ k) b c ∙ ⊕-above a k (b ⊕ c) (⊕-lt k b c hb hc)

-- what is added twice goes out
pub ⊕-twice : (a b : ℕ) → a ⊕ (a ⊕ b) ≡ b
⊕-twice a b = sym (⊕-assoc a a b) ∙ ap (λ x. x ⊕ b) (⊕-self a) ∙ zero_⊕ b

-- a ⊕ b = 0 only for a = b
pub ⊕-cancel : (a b : ℕ) → a ⊕ b ≡ zero → a ≡ b
⊕-cancel a b e = sym (⊕-zero a) ∙ ap (λ x. a ⊕ x) (sym e) ∙ ⊕-twice a b

-- a digit times a sum, and a sum's digit times a number
pub digit_⊕ : (a b c : ℕ) → a % 2 * (b ⊕ c) ≡ (a % 2 * b) ⊕ (a % 2 * c)
digit_⊕ a b c = digit (λ x. x * (b ⊕ c) ≡ (x * b) ⊕ (x * c)) (simp (zero-mul, ⊕-self)) (simp one-mul) a

pub ⊕-digit : (a b c : ℕ) → (a ⊕ b) % 2 * c ≡ (a % 2 * c) ⊕ (b % 2 * c)
⊕-digit a b c = ap (λ x. x * c) (⊕-odd a b) ∙ two a b
  where
    two : (a b : ℕ) → ((a % 2) ⊕ (b % 2)) * c ≡ (a % 2 * c) ⊕ (b % 2 * c)
    two a b =
        digit (λ x. (x ⊕ (b % 2)) * c ≡ (x * c) ⊕ (b % 2 * c)) (simp (zero-mul, zero_⊕))
        (digit (λ y. (1 ⊕ y) * c ≡ (1 * c) ⊕ (y * c)) (simp (zero-mul, one-mul, ⊕-zero)) (simp (zero-mul, one-mul, ⊕-self)) b) a
