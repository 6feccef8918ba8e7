-- Byte strings and numbers: `number` and `bytes_of` undo one another. Assumes nothing.
use mathlib.Core.Path.{◌≡◌, refl, sym, ap, ap₂, ◌∙◌}
use mathlib.Core.List.{List, [], ◌∷◌, ◌++◌}
use Prim.Native.Nat.{ℕ, zero, suc, ◌+◌, ◌*◌, ◌/◌, ◌%◌, ◌^◌, ◌≤◌, ◌<◌}
use native.Mathlib.Nat.{pow-suc, zero-lt-suc, mul-one, mul_assoc, zero-add, suc-add}
use native.Mathlib.Omega.{arith}
use lib.Arith.{lt-one}
use lib.ListN.{length, get_or, take, drop, drop_of_length-le, replicate}
use lib.Seq.{drop-cons}
use Rattle.octets.specs.Numbers.{number, bytes_of}

abbrev pub Bytes : List ℕ → Type 0
Bytes [] = Unit {0}
Bytes (b ∷ bs) = (b < 256) × Bytes bs

-- a list whose every element is a byte, as code knows it of a slice
pub bytes_from : (bs : List ℕ) → ((i : ℕ) → get_or bs i 0 < 256) → Bytes bs
bytes_from [] h = tt
bytes_from (b ∷ bs) h = (h zero, bytes_from bs (λ i. h (suc i)))

pub byte_at : (bs : List ℕ) → Bytes bs → (i : ℕ) → get_or bs i 0 < 256
byte_at [] h i = omega arith
byte_at (b ∷ bs) h zero = h.0
byte_at (b ∷ bs) h (suc i) = byte_at bs h.1 i

pub bytes_++ : (bs cs : List ℕ) → Bytes bs → Bytes cs → Bytes (bs ++ cs)
bytes_++ [] cs h k = k
bytes_++ (b ∷ bs) cs h k = (h.0, bytes_++ bs cs h.1 k)

pub bytes_zeros : (k : ℕ) → Bytes (replicate {A = ℕ} k 0)
bytes_zeros zero = tt
bytes_zeros (suc k) = (zero-lt-suc 255, bytes_zeros k)

pub bytes_take : (n : ℕ) (bs : List ℕ) → Bytes bs → Bytes (take n bs)
bytes_take zero bs h = tt
bytes_take (suc n) [] h = tt
bytes_take (suc n) (b ∷ bs) h = (h.0, bytes_take n bs h.1)

pub bytes_drop : (n : ℕ) (bs : List ℕ) → Bytes bs → Bytes (drop n bs)
bytes_drop zero bs h = h
bytes_drop (suc n) [] h = tt
bytes_drop (suc n) (b ∷ bs) h = bytes_drop n bs h.1

pub bytes_of-length : (k n : ℕ) → length (bytes_of k n) ≡ k
unfolding bytes_of
bytes_of-length zero n = refl
bytes_of-length (suc k) n = ap suc (bytes_of-length k (n / 256))

pub bytes_of_bytes : (k n : ℕ) → Bytes (bytes_of k n)
unfolding bytes_of
bytes_of_bytes zero n = tt
bytes_of_bytes (suc k) n = (omega arith, bytes_of_bytes k (n / 256))

pub number_lt : (bs : List ℕ) → Bytes bs → number bs < 256 ^ length bs
unfolding number
number_lt [] h = zero-lt-suc 0
number_lt (b ∷ bs) h = let l : number bs < 256 ^ length bs = number_lt bs h.1 in rw (pow-suc 256 (length bs)) (omega arith)

pub number-bytes_of : (k n : ℕ) → n < 256 ^ k → number (bytes_of k n) ≡ n
unfolding number bytes_of
number-bytes_of zero n l = sym (lt-one l)
number-bytes_of (suc k) n l =
    let h : n < 256 ^ k * 256 = rw pow-suc at l in
    let ih : number (bytes_of k (n / 256)) ≡ n / 256 = number-bytes_of k (n / 256) (omega arith) in
    ap (λ x. n % 256 + x * 256) ih ∙ omega arith

pub bytes_of-number : (bs : List ℕ) → Bytes bs → bytes_of (length bs) (number bs) ≡ bs
unfolding number bytes_of
bytes_of-number [] h = refl
bytes_of-number (b ∷ bs) h =
    let l : b < 256 = h.0 in
    let n : ℕ = number bs in
    let low : (b + n * 256) % 256 ≡ b = omega arith in
    let high : (b + n * 256) / 256 ≡ n = omega arith in
    ap₂ (λ x y. x ∷ bytes_of (length bs) y) low high ∙ ap (λ x. b ∷ x) (bytes_of-number bs h.1)

-- a string of two parts
pub number_++ : (bs cs : List ℕ) → number (bs ++ cs) ≡ number bs + number cs * 256 ^ length bs
unfolding number
number_++ [] cs = sym (zero-add (number cs * 1) ∙ mul-one (number cs))
number_++ (b ∷ bs) cs =
    let p : ℕ = 256 ^ length bs in
    let m : ℕ = number bs in
    let n : ℕ = number cs in
    let e : b + (m + n * p) * 256 ≡ b + m * 256 + n * (p * 256) = omega arith in
    ap (λ x. b + x * 256) (number_++ bs cs) ∙ e ∙ ap (λ x. b + m * 256 + n * x) (sym (pow-suc 256 (length bs)))

-- zeros behind a string do not change its number
pub number_zeros : (s : List ℕ) (k : ℕ) → number (s ++ replicate k 0) ≡ number s
unfolding number
number_zeros [] zero = refl
number_zeros [] (suc k) = ap (λ n. 0 + n * 256) (number_zeros [] k)
number_zeros (b ∷ s) k = ap (λ n. b + n * 256) (number_zeros s k)

pub bytes_of_++ : (j k m n : ℕ) → m < 256 ^ j → bytes_of (j + k) (n * 256 ^ j + m) ≡ bytes_of j m ++ bytes_of k n
unfolding bytes_of
bytes_of_++ zero k m n l = ap₂ bytes_of (zero-add k) (ap (λ x. n * 1 + x) (lt-one l) ∙ omega arith)
bytes_of_++ (suc j) k m n l =
    let q : ℕ = n * 256 ^ j in
    let h : m < 256 ^ j * 256 = rw pow-suc at l in
    let cut : n * 256 ^ suc j + m ≡ q * 256 + m = ap (λ x. n * x + m) (pow-suc 256 j) ∙ ap (λ x. x + m) (sym (mul_assoc n (256 ^ j) 256)) in
    let low : (q * 256 + m) % 256 ≡ m % 256 = omega arith in
    let high : (q * 256 + m) / 256 ≡ q + m / 256 = omega arith in
    ap₂ bytes_of (suc-add j k) cut ∙ ap₂ (λ x y. x ∷ bytes_of (j + k) y) low high ∙ ap (λ x. m % 256 ∷ x) (bytes_of_++ j k (m / 256) n (omega arith))

-- n elements from place i on, one by one: how code reads an array
abbrev pub cells : (i n : ℕ) → List ℕ → List ℕ
cells i zero l = []
cells i (suc n) l = get_or l i 0 ∷ cells (suc i) n l

cells_drop : (i n : ℕ) (l : List ℕ) → i + n ≡ length l → cells i n l ≡ drop i l
cells_drop i zero l e = sym (drop_of_length-le l {i = i} (omega arith))
cells_drop i (suc n) l e = ap (λ x. get_or l i 0 ∷ x) (cells_drop (suc i) n l (omega arith)) ∙ sym (drop-cons l i 0 (omega arith))

-- the same for a part that ends anywhere
pub cells_part : (i n : ℕ) (l : List ℕ) → i + n ≤ length l → cells i n l ≡ take n (drop i l)
cells_part i zero l h = refl
cells_part i (suc n) l h = ap (λ x. get_or l i 0 ∷ x) (cells_part (suc i) n l (omega arith)) ∙ sym (ap (take (suc n)) (drop-cons l i 0 (omega arith)))

pub cells_all : (l : List ℕ) → cells 0 (length l) l ≡ l
cells_all l = cells_drop 0 (length l) l (zero-add (length l))
