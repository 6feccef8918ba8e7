-- Laws of the state as four words, and of the rounds on it. Assumes nothing.
use mathlib.Core.Path.{◌≡◌, refl, sym, ap, ap₂, ◌∙◌, subst}
use mathlib.Core.List.{List, [], ◌∷◌, ◌++◌}
use Prim.Native.Nat.{ℕ, zero, suc, ◌+◌, ◌-◌, ◌*◌, ◌/◌, ◌%◌, ◌^◌, ◌<◌}
use native.Mathlib.Omega.{arith}
use native.Mathlib.Nat.{add_comm}
use lib.Pow.{pow-add, shl_lt, shr-shr, high, low}
use lib.Bits.{bit_or, or_shifted}
use lib.ListN.{length, get_or, take, drop}
use lib.Seq.{get_or-take, get_or-drop, drop-drop}
use Rattle.std.specs.Int.{w32, from_le_bytes}
use Rattle.std.specs.Simd.{first_chunks}
use Rattle.octets.proofs.Endian.{le_joined}
use Rattle.octets.specs.Xor.{◌⊕◌}
use Rattle.octets.specs.Numbers.{number, bytes_of}
use Rattle.octets.proofs.Xor.{⊕-mod, ⊕-shr, ⊕-comm, ⊕-assoc}
use Rattle.octets.proofs.Numbers.{Bytes, bytes_++, number_lt, number_++, bytes_of-number, cells, cells_part, cells_all}
use Rattle.fips197.specs.Table.{tab}
use Rattle.fips197.specs.Field.{gmul}
use Rattle.fips197.specs.Cipher.{mix, mix_column, sub_bytes, shift_rows, mix_columns, add_round_key, rounds, cipher}
use Rattle.fips197.proofs.Field.{gmul_lt}
use Rattle.aes_tables.specs.Words.{mixed0}
use Rattle.aes.specs.State.{column_row, state_of}

-- bytes added one by one
abbrev pub xors : List ℕ → List ℕ → List ℕ
xors [] m = []
xors (a ∷ l) [] = []
xors (a ∷ l) (b ∷ m) = (a ⊕ b) ∷ xors l m

pub bytes_of_⊕ : (k x y : ℕ) → bytes_of k (x ⊕ y) ≡ xors (bytes_of k x) (bytes_of k y)
unfolding bytes_of
bytes_of_⊕ zero x y = refl
bytes_of_⊕ (suc k) x y =
    ap₂ (λ (a : ℕ) (l : List ℕ). a ∷ l) (⊕-mod x y 8) (ap (bytes_of k) (⊕-shr x y 8) ∙ bytes_of_⊕ k (x / 256) (y / 256))

-- the rows of a column as the code reads them
pub row0 : (x : ℕ) → x % 256 ≡ column_row 0 x
unfolding bytes_of
row0 x = refl

pub row1 : (x : ℕ) → x / 2 ^ 8 % 256 ≡ column_row 1 x
unfolding bytes_of
row1 x = refl

pub row2 : (x : ℕ) → x / 2 ^ 16 % 256 ≡ column_row 2 x
unfolding bytes_of
row2 x = ap (λ (n : ℕ). n % 256) (sym (shr-shr x 8 8))

pub row3 : (x : ℕ) → x / 2 ^ 24 % 256 ≡ column_row 3 x
unfolding bytes_of
row3 x = ap (λ (n : ℕ). n % 256) (sym (ap (λ (n : ℕ). n / 256) (shr-shr x 8 8) ∙ shr-shr x 16 8))

-- a number of j + k bits turned left by k
abbrev pub turned : (j k x : ℕ) → ℕ
turned j k x = bit_or (x * 2 ^ k % 2 ^ (j + k)) (x / 2 ^ j)

turn_parts : (j k l m : ℕ) → l < 2 ^ j → m < 2 ^ k → turned j k (m * 2 ^ j + l) ≡ l * 2 ^ k + m
turn_parts j k l m hl hm =
    let x : ℕ = m * 2 ^ j + l in
    let p : ℕ = 2 ^ j in
    let q : ℕ = 2 ^ k in
    let cut : x * q ≡ m * (p * q) + l * q = omega arith in
    let low_part : x * q % 2 ^ (j + k) ≡ l * q = ap (λ (n : ℕ). n % 2 ^ (j + k)) (cut ∙ ap (λ (n : ℕ). m * n + l * q) (sym (pow-add 2 j k))) ∙ low m (j + k) (shl_lt j k hl) in
    ap₂ bit_or low_part (high m j hl) ∙ or_shifted l k m hm

-- bytes turned by as many as m has
turn_bytes : (j k : ℕ) (l m : List ℕ) → Bytes l → Bytes m → 256 ^ length l ≡ 2 ^ j → 256 ^ length m ≡ 2 ^ k
    → bytes_of (length (m ++ l)) (turned j k (number (l ++ m))) ≡ m ++ l
turn_bytes j k l m hl hm ej ek =
    let whole : number (l ++ m) ≡ number m * 2 ^ j + number l =
    number_++ l m ∙ add_comm (number l) (number m * 256 ^ length l) ∙ ap (λ (n : ℕ). number m * n + number l) ej in
    let turned_whole : number l * 2 ^ k + number m ≡ number (m ++ l) =
    sym (number_++ m l ∙ add_comm (number m) (number l * 256 ^ length m) ∙ ap (λ (n : ℕ). number l * n + number m) ek) in
    ap (bytes_of (length (m ++ l)))
    (ap (turned j k) whole ∙ turn_parts j k (number l) (number m) (subst (λ (n : ℕ). number l < n) ej (number_lt l hl)) (subst (λ (n : ℕ). number m < n) ek (number_lt m hm)) ∙ turned_whole)
    ∙ bytes_of-number (m ++ l) (bytes_++ m l hm hl)

-- the first of four goes to the end
turn : (a b c d : ℕ) → a ⊕ b ⊕ c ⊕ d ≡ b ⊕ c ⊕ d ⊕ a
turn a b c d = ap (λ (n : ℕ). n ⊕ d) (⊕-assoc a b c) ∙ ⊕-assoc a (b ⊕ c) d ∙ ⊕-comm a (b ⊕ c ⊕ d)

-- the words of four bytes, turned to their rows, add up to the mixed column
pub column_law : (p q r s : ℕ) → p < 256 → q < 256 → r < 256 → s < 256
    → bytes_of 4 (mixed0 p ⊕ turned 24 8 (mixed0 q) ⊕ turned 16 16 (mixed0 r) ⊕ turned 8 24 (mixed0 s)) ≡ mix_column p q r s
unfolding mixed0 mix
column_law p q r s hp hq hr hs =
    let x : ℕ = mixed0 p in
    let y : ℕ = turned 24 8 (mixed0 q) in
    let z : ℕ = turned 16 16 (mixed0 r) in
    let t : ℕ = turned 8 24 (mixed0 s) in
    bytes_of_⊕ 4 (x ⊕ y ⊕ z) t
    ∙ ap₂ xors (bytes_of_⊕ 4 (x ⊕ y) z ∙ ap₂ xors (bytes_of_⊕ 4 x y ∙ ap₂ xors
    (bytes_of-number (gmul 2 p ∷ p ∷ p ∷ gmul 3 p ∷ []) (gmul_lt 2 p, (hp, (hp, (gmul_lt 3 p, tt)))))
    (turn_bytes 24 8 (gmul 2 q ∷ q ∷ q ∷ []) (gmul 3 q ∷ []) (gmul_lt 2 q, (hq, (hq, tt))) (gmul_lt 3 q, tt) refl refl))
    (turn_bytes 16 16 (gmul 2 r ∷ r ∷ []) (r ∷ gmul 3 r ∷ []) (gmul_lt 2 r, (hr, tt)) (hr, (gmul_lt 3 r, tt)) refl refl))
    (turn_bytes 8 24 (gmul 2 s ∷ []) (s ∷ s ∷ gmul 3 s ∷ []) (gmul_lt 2 s, tt) (hs, (hs, (gmul_lt 3 s, tt))) refl refl)
    ∙ (λ i. mix p q r s ∷ turn p (gmul 2 q) (gmul 3 r) s i ∷ (turn p q (gmul 2 r) (gmul 3 s) ∙ turn q (gmul 2 r) (gmul 3 s) p) i
    ∷ (turn (gmul 3 p) q r (gmul 2 s) ∙ turn q r (gmul 2 s) (gmul 3 p) ∙ turn r (gmul 2 s) (gmul 3 p) q) i ∷ [])

-- row 1 of a byte's word is the byte
pub middle : (y : ℕ) → y < 256 → mixed0 y / 256 % 256 ≡ y
unfolding mixed0 number
middle y h =
    let u : ℕ = gmul 2 y in
    let v : ℕ = gmul 3 y in
    let hu : u < 256 = gmul_lt 2 y in
    let hv : v < 256 = gmul_lt 3 y in
    omega arith

-- the four columns side by side
abbrev pub beside : List ℕ → List ℕ → List ℕ → List ℕ → List ℕ
beside p q r s = p ++ (q ++ (r ++ s))

-- the same, element by element
abbrev pub sixteen : List ℕ → List ℕ → List ℕ → List ℕ → List ℕ
sixteen p q r s =
    get_or p 0 0 ∷ get_or p 1 0 ∷ get_or p 2 0 ∷ get_or p 3 0 ∷ get_or q 0 0 ∷ get_or q 1 0 ∷ get_or q 2 0 ∷ get_or q 3 0
    ∷ get_or r 0 0 ∷ get_or r 1 0 ∷ get_or r 2 0 ∷ get_or r 3 0 ∷ get_or s 0 0 ∷ get_or s 1 0 ∷ get_or s 2 0 ∷ get_or s 3 0 ∷ []

-- a word that was read from four bytes of b gives them back
pub read_back : (b : List ℕ) → ((i : ℕ) → get_or b i 0 < 256) → (k : ℕ) {bs : List ℕ} {r : ℕ} → bs ≡ cells k 4 b → r ≡ from_le_bytes w32 bs → bytes_of 4 r ≡ cells k 4 b
read_back b small k e er =
    (le_joined w32 (cells k 4 b) refl (small k, (small (suc k), (small (suc (suc k)), (small (suc (suc (suc k))), tt)))) (er ∙ ap (from_le_bytes w32) e)).back

-- 16 bytes in fours
abbrev pub fours : List ℕ → List (List ℕ)
fours b = cells 0 4 b ∷ cells 4 4 b ∷ cells 8 4 b ∷ cells 12 4 b ∷ []

pub in_fours : (b : List ℕ) {ws : List (List ℕ)} → length b ≡ 16 → ws ≡ first_chunks 4 (length b / 4) b → ws ≡ fours b
in_fours b l e =
    e ∙ ap (λ n. first_chunks 4 (n / 4) b) l
    ∙ (λ i. sym (cells_part 0 4 b (omega arith)) i ∷ sym (cells_part 4 4 b (omega arith)) i
    ∷ (ap (take 4) (drop-drop 4 4 b) ∙ sym (cells_part 8 4 b (omega arith))) i
    ∷ (ap (λ (x : List ℕ). take 4 (drop 4 x)) (drop-drop 4 4 b) ∙ ap (take 4) (drop-drop 4 8 b) ∙ sym (cells_part 12 4 b (omega arith))) i ∷ [])

pub sixteen_cells : (b : List ℕ) → length b ≡ 16 → b ≡ tab 16 (λ j. get_or b (16 * 0 + j) 0)
sixteen_cells b l = sym (ap (λ n. cells 0 n b) (sym l) ∙ cells_all b)

-- adding a round key, word by word
pub key_law : (s k key : List ℕ) → length key ≡ 16 → state_of k ≡ key → state_of (tab 4 (λ j. get_or s j 0 ⊕ get_or k j 0)) ≡ add_round_key (state_of s) key 0
unfolding add_round_key bytes_of
key_law s k key l ek =
    (λ i. beside (bytes_of_⊕ 4 (get_or s 0 0) (get_or k 0 0) i) (bytes_of_⊕ 4 (get_or s 1 0) (get_or k 1 0) i)
    (bytes_of_⊕ 4 (get_or s 2 0) (get_or k 2 0) i) (bytes_of_⊕ 4 (get_or s 3 0) (get_or k 3 0) i))
    ∙ ap (xors (state_of s)) (ek ∙ sixteen_cells key l)

-- the round key of round r by itself
pub key_of_round : (s key w : List ℕ) (r : ℕ) → key ≡ take 16 (drop (16 * r) w) → add_round_key s key 0 ≡ add_round_key s w r
unfolding add_round_key
key_of_round s key w r e =
    let at : (j : ℕ) → j < 16 → get_or key (16 * 0 + j) 0 ≡ get_or w (16 * r + j) 0 =
    λ j h. let none : 16 * 0 + j ≡ j = omega arith in ap₂ (λ (x : List ℕ) (n : ℕ). get_or x n 0) e none ∙ get_or-take 16 (drop (16 * r) w) j 0 h ∙ get_or-drop (16 * r) w j 0 in
    tab_same 16 _ _ (λ j h. ap (λ n. get_or s j 0 ⊕ n) (at j h))
  where
    tab_same : (n : ℕ) (f g : ℕ → ℕ) → ((i : ℕ) → i < n → f i ≡ g i) → tab n f ≡ tab n g
    tab_same zero f g h = refl
    tab_same (suc n) f g h = ap₂ (λ (a : ℕ) (l : List ℕ). a ∷ l) (h 0 (omega arith)) (tab_same n (λ i. f (suc i)) (λ i. g (suc i)) (λ i k. h (suc i) (omega arith)))

-- a round key among those that a schedule's bytes are cut to
key_at : (n r : ℕ) (w d : List ℕ) → r < n → get_or (first_chunks 16 n w) r d ≡ take 16 (drop (16 * r) w)
key_at zero r w d h = absurd (omega (arith, h))
key_at (suc n) zero w d h = refl
key_at (suc n) (suc r) w d h =
    let further : 16 + 16 * r ≡ 16 * suc r = omega arith in
    key_at n r (drop 16 w) d (omega arith) ∙ ap (take 16) (drop-drop (16 * r) 16 w ∙ ap (λ k. drop k w) further)

module _ (n : ℕ) (w : List ℕ) (keys : List (List ℕ)) (cut : keys ≡ first_chunks 16 n w) (d : List ℕ) where
  pub round_key : (r : ℕ) → r < n → get_or keys r d ≡ take 16 (drop (16 * r) w)
  round_key r h = ap (λ (ks : List (List ℕ)). get_or ks r d) cut ∙ key_at n r w d h

  -- and among those that follow the first
  pub inner_key : (m r : ℕ) → r < m → suc r < n → get_or (take m (drop 1 keys)) r d ≡ take 16 (drop (16 * suc r) w)
  inner_key m r h k =
      let next : 1 + r ≡ suc r = omega arith in
      get_or-take m (drop 1 keys) r d h ∙ get_or-drop 1 keys r d ∙ ap (λ i. get_or keys i d) next ∙ round_key (suc r) k

-- a turn of the rounds, and their end
pub round_turn : (w s t m k key : List ℕ) (r : ℕ) → key ≡ take 16 (drop (16 * suc r) w) → t ≡ rounds w s r → m ≡ mix_columns (shift_rows (sub_bytes t)) → k ≡ add_round_key m key 0
    → k ≡ rounds w s (r + 1)
unfolding rounds
round_turn w s t m k key r known e em ek =
    let next : r + 1 ≡ suc r = omega arith in
    ek ∙ ap (λ (x : List ℕ). add_round_key x key 0) (em ∙ ap (λ (x : List ℕ). mix_columns (shift_rows (sub_bytes x))) e)
    ∙ key_of_round (mix_columns (shift_rows (sub_bytes (rounds w s r)))) key w (suc r) known ∙ sym (ap (rounds w s) next)

pub last_round : (w block b s t m k first key : List ℕ) (nr : ℕ) → first ≡ take 16 (drop (16 * 0) w) → key ≡ take 16 (drop (16 * nr) w) → b ≡ block
    → s ≡ add_round_key b first 0 → t ≡ rounds w s (nr - 1) → m ≡ shift_rows (sub_bytes t) → k ≡ add_round_key m key 0 → k ≡ cipher nr w block
unfolding cipher
last_round w block b s t m k first key nr known last eb es et em ek =
    let s' : s ≡ add_round_key block w 0 = es ∙ ap (λ (x : List ℕ). add_round_key x first 0) eb ∙ key_of_round block first w 0 known in
    let m' = em ∙ ap (λ (x : List ℕ). shift_rows (sub_bytes x)) (et ∙ ap (λ (x : List ℕ). rounds w x (nr - 1)) s') in
    ek ∙ ap (λ (x : List ℕ). add_round_key x key 0) m' ∙ key_of_round _ key w nr last
