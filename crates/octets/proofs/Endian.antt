-- std's words and their bytes are `number` and `bytes_of`, at any width: what `from_le_bytes`, `to_le_bytes` and those of the opposite order promise. Assumes nothing.
use Rattle.std.proofs.Common.{◌≡◌, ℕ, zero, suc, ◌+◌, ◌-◌, ◌*◌, ◌/◌, ◌%◌, ◌^◌, ◌<◌, ◌≤◌, List, [], ◌∷◌, ◌++◌, length, get_or, take, reverse, refl, sym, ap, ap₂, ◌∙◌, subst, arith}
use Rattle.std.proofs.Math.Seq.{take-suc, take_all, length-take-le}
use Rattle.std.proofs.Math.Nat.{pow-suc, div-div-eq-div-mul, mul-one, mul_comm}
use Rattle.std.proofs.lemmas.List.{reverse-append}
use Rattle.std.specs.Int.{Width, w8, w16, w32, w64, w128, byte_len, byte_at, byte_worth, bytes_low_first, bytes_high_first, sum_through, from_le_bytes, to_le_bytes, from_be_bytes, to_be_bytes, swap_bytes}
use Rattle.octets.specs.Numbers.{number, bytes_of}
use Rattle.octets.specs.Joined.{Joined}
use Rattle.octets.proofs.Numbers.{Bytes, bytes_of-number, bytes_++, bytes_of-length, number_++}

worth : (i b : ℕ) → byte_worth i b ≡ b * 256 ^ i
worth zero b = omega arith
worth (suc i) b = refl

digit : (i n : ℕ) → byte_at i n ≡ n / 256 ^ i % 256
digit zero n = omega arith
digit (suc i) n = refl

-- ---- the lowest first

-- the sum of what the bytes are worth, as far as byte k
sum_number : (bs : List ℕ) (k : ℕ) → k < length bs → sum_through (λ i. byte_worth i (get_or bs i 0)) k ≡ number (take (suc k) bs)
unfolding number
sum_number [] zero h = absurd (omega (arith, h))
sum_number (b ∷ bs) zero h = omega arith
sum_number bs (suc k) h =
    let n : ℕ = get_or bs (suc k) 0 in
    let one : number (n ∷ []) ≡ n = omega arith in
    ap (λ x. x + n * 256 ^ suc k) (sum_number bs k (omega arith))
    ∙ ap₂ (λ x y. number (take (suc k) bs) + x * 256 ^ y) (sym one) (sym (length-take-le (suc k) bs (omega arith)))
    ∙ sym (number_++ (take (suc k) bs) (n ∷ []))
    ∙ ap number (sym (take-suc bs (suc k) 0 h))

le_sum : (bs : List ℕ) (k : ℕ) → length bs ≡ suc k → sum_through (λ i. byte_worth i (get_or bs i 0)) k ≡ number bs
le_sum bs k long = sum_number bs k (omega arith) ∙ ap number (take_all (suc k) bs (omega arith))

pub from_le : (w : Width) (bs : List ℕ) → length bs ≡ byte_len w → from_le_bytes w bs ≡ number bs
from_le w8 bs long = le_sum bs 0 long
from_le w16 bs long = le_sum bs 1 long
from_le w32 bs long = le_sum bs 3 long
from_le w64 bs long = le_sum bs 7 long
from_le w128 bs long = le_sum bs 15 long

below : (n i : ℕ) → n / 256 ^ i / 256 ≡ n / 256 ^ suc i
below n i = div-div-eq-div-mul n (256 ^ i) 256 ∙ ap (λ x. n / x) (sym (pow-suc 256 i))

low_first : (i k n : ℕ) → bytes_low_first i k n ≡ bytes_of k (n / 256 ^ i)
unfolding bytes_of
low_first i zero n = refl
low_first i (suc k) n = ap₂ ◌∷◌ (digit i n) (low_first (suc i) k n ∙ ap (bytes_of k) (sym (below n i)))

pub to_le : (w : Width) (n : ℕ) → to_le_bytes w n ≡ bytes_of (byte_len w) n
to_le w n = low_first 0 (byte_len w) n ∙ ap (bytes_of (byte_len w)) (omega arith)

-- what a word was read from are its bytes
joined_by : (bs : List ℕ) (r : ℕ) → Bytes bs → r ≡ number bs → Joined bs r
joined_by bs r h e = record { value = e; back = ap (bytes_of (length bs)) e ∙ bytes_of-number bs h }

pub le_joined : (w : Width) (bs : List ℕ) → length bs ≡ byte_len w → Bytes bs → {r : ℕ} → r ≡ from_le_bytes w bs → Joined bs r
le_joined w bs long small {r} e = joined_by bs r small (e ∙ from_le w bs long)

-- ---- the highest first

back_sum : (bs : List ℕ) (m k : ℕ) → length bs ≡ suc m → k ≤ m
    → sum_through (λ i. byte_worth (m - i) (get_or bs i 0)) k ≡ number (reverse (take (suc k) bs)) * 256 ^ (m - k)
unfolding number
back_sum [] m zero long h = absurd (omega (arith, long))
back_sum (b ∷ bs) m zero long h = let one : b ≡ b + 0 * 256 = omega arith in worth (m - 0) b ∙ ap (λ x. x * 256 ^ (m - 0)) one
back_sum bs m (suc k) long h =
    let p : ℕ = 256 ^ (m - suc k) in
    let b : ℕ = get_or bs (suc k) 0 in
    let n : ℕ = number (reverse (take (suc k) bs)) in
    let up : 256 ^ (m - k) ≡ p * 256 = let e : m - k ≡ suc (m - suc k) = omega arith in ap (λ x. 256 ^ x) e ∙ pow-suc 256 (m - suc k) in
    let sum : n * (p * 256) + b * p ≡ (b + n * 256) * p = omega arith in
    ap₂ ◌+◌ (back_sum bs m k long (omega arith) ∙ ap (λ x. n * x) up) (worth (m - suc k) b)
    ∙ sum
    ∙ ap (λ l. number l * p) (sym (reverse-append (take (suc k) bs) (b ∷ [])) ∙ ap reverse (sym (take-suc bs (suc k) 0 (omega arith))))

be_sum : (bs : List ℕ) (m : ℕ) → length bs ≡ suc m → sum_through (λ i. byte_worth (m - i) (get_or bs i 0)) m ≡ number (reverse bs)
be_sum bs m long =
    let lowest : m - m ≡ 0 = omega arith in
    back_sum bs m m long (omega arith)
    ∙ ap₂ (λ l i. number (reverse l) * 256 ^ i) (take_all (suc m) bs (omega arith)) lowest
    ∙ mul-one (number (reverse bs))

pub from_be : (w : Width) (bs : List ℕ) → length bs ≡ byte_len w → from_be_bytes w bs ≡ number (reverse bs)
from_be w8 bs long = be_sum bs 0 long
from_be w16 bs long = be_sum bs 1 long
from_be w32 bs long = be_sum bs 3 long
from_be w64 bs long = be_sum bs 7 long
from_be w128 bs long = be_sum bs 15 long

other : (k n : ℕ) → n / 256 / 256 ^ k ≡ n / 256 ^ suc k
other k n = div-div-eq-div-mul n 256 (256 ^ k) ∙ ap (λ x. n / x) (mul_comm 256 (256 ^ k) ∙ sym (pow-suc 256 k))

last_byte : (k n : ℕ) → bytes_of (suc k) n ≡ bytes_of k n ++ (byte_at k n ∷ [])
unfolding bytes_of
last_byte zero n = refl
last_byte (suc k) n = ap (λ (l : List ℕ). n % 256 ∷ l) (last_byte k (n / 256) ∙ ap (λ x. bytes_of k (n / 256) ++ (x ∷ [])) (digit k (n / 256) ∙ ap (λ x. x % 256) (other k n)))

high_first : (k n : ℕ) → bytes_high_first k n ≡ reverse (bytes_of k n)
unfolding bytes_of
high_first zero n = refl
high_first (suc k) n = ap (λ (l : List ℕ). byte_at k n ∷ l) (high_first k n) ∙ sym (reverse-append (bytes_of k n) (byte_at k n ∷ [])) ∙ ap reverse (sym (last_byte k n))

pub to_be : (w : Width) (n : ℕ) → to_be_bytes w n ≡ reverse (bytes_of (byte_len w) n)
to_be w n = high_first (byte_len w) n

bytes_reverse : (bs : List ℕ) → Bytes bs → Bytes (reverse bs)
bytes_reverse [] h = tt
bytes_reverse (b ∷ bs) h = subst Bytes (sym (reverse-append (b ∷ []) bs)) (bytes_++ (reverse bs) (b ∷ []) (bytes_reverse bs h.1) (h.0, tt))

pub be_joined : (w : Width) (bs : List ℕ) → length bs ≡ byte_len w → Bytes bs → {r : ℕ} → r ≡ from_be_bytes w bs → Joined (reverse bs) r
be_joined w bs long small {r} e = joined_by (reverse bs) r (bytes_reverse bs small) (e ∙ from_be w bs long)

pub swapped : (w : Width) (n : ℕ) → swap_bytes w n ≡ number (reverse (bytes_of (byte_len w) n))
swapped w n =
    let same = to_le w n in
    from_be w (to_le_bytes w n) (ap length same ∙ bytes_of-length (byte_len w) n) ∙ ap (λ l. number (reverse l)) same
