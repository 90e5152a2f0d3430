-- A number of n bytes is its n digits to the base 256, so that reading and writing undo each other at every width; each law is
-- stated once, over the width. Assumes nothing.
use mathlib.Core.Path.{◌≡◌, refl, sym, ap, ◌∙◌}
use mathlib.Core.Bool.{Bool, true, false, cond, ◌&&◌}
use Prim.Native.Nat.{ℕ, zero, suc, ◌+◌, ◌-◌, ◌*◌, ◌/◌, ◌%◌, ◌^◌, ◌≤◌, ◌<◌}
use native.Mathlib.Nat.{pow-suc, mul_assoc, add_assoc, add-suc, add-zero, zero-add, one-le-pow, mod-lt, div-add-mod'}
use native.Mathlib.Omega.{arith}
use native.Mathlib.Numerals.{add-one}
use mathlib.Core.List.{List, [], ◌∷◌, ◌++◌, append_assoc, append-nil}
use lib.Dec.{leb, ltb}
use lib.ListN.{length, get_or, take, drop, set, replicate, length-append, length-set, length-drop, replicate-append-replicate, get_or-append}
use lib.Arith.{digits_div, digits_mod}
use lib.Seq.{drop-drop, drop-set-lt, drop-cons, get_or-set_same, get_or-append-add, take-suc, get_or-take, get_or-drop, get_or_at}
use borrow.Author.Tests.{le-leb, lt-leb, ltb-true, ltb-false}
use borrow.Rule.Slice.PartMut.{put_mid}
use Rattle.std.specs.Int.{w64, byte_at, bytes_high_first, to_be_bytes, from_be_bytes}
use Rattle.std.proofs.lemmas.List.{take-replicate}
use Rattle.std.proofs.Math.ListN.{length-replicate}
use Rattle.std.proofs.Math.Seq.{drop-append_seam}
use Rattle.laws.proofs.Bools.{and_true, and_false}
use Rattle.laws.proofs.Lists.{back_tail}
use Rattle.wire.specs.Be.{be_at, be_bytes, written, fits, get_be, put_be, Got}

-- one byte more fits the next power
pub step_lt : (i : ℕ) {a x : ℕ} → a < 256 ^ i → x < 256 → a * 256 + x < 256 ^ suc i
step_lt i {a} {x} ha hx = omega arith

-- a field of n bytes is below 256 ^ n
pub be_at_lt : (s : List ℕ) (at n : ℕ) → ((i : ℕ) → get_or s i 0 < 256) → be_at s at n < 256 ^ n
be_at_lt s at zero hb = omega arith
be_at_lt s at (suc n) hb = step_lt n (be_at_lt s at n hb) (hb (at + n))

pub length-be_bytes : (n v : ℕ) → length (be_bytes n v) ≡ n
length-be_bytes zero v = refl
length-be_bytes (suc n) v = length-append (be_bytes n (v / 256)) (v % 256 ∷ []) ∙ omega (arith, length-be_bytes n (v / 256))

-- what stands in the first list alone is read there
be_at_front : (n : ℕ) (xs ys : List ℕ) → n ≤ length xs → be_at (xs ++ ys) 0 n ≡ be_at xs 0 n
be_at_front zero xs ys h = refl
be_at_front (suc n) xs ys h =
    let here : get_or (xs ++ ys) (0 + n) 0 ≡ get_or xs (0 + n) 0 = get_or-append xs ys 0 (0 + n) (omega arith) in
    let rest : be_at (xs ++ ys) 0 n ≡ be_at xs 0 n = be_at_front n xs ys (omega arith) in
    omega arith

-- and what stands in a part of a list is read there
pub be_at_part : (s : List ℕ) (at m n : ℕ) → n ≤ m → be_at (take m (drop at s)) 0 n ≡ be_at s at n
be_at_part s at m zero h = refl
be_at_part s at m (suc n) h =
    let here : get_or (take m (drop at s)) (0 + n) 0 ≡ get_or s (at + n) 0 =
    ap (λ (i : ℕ). get_or (take m (drop at s)) i 0) (zero-add n) ∙ get_or-take m (drop at s) n 0 (omega arith) ∙ get_or-drop at s n 0 in
    let rest : be_at (take m (drop at s)) 0 n ≡ be_at s at n = be_at_part s at m n (omega arith) in
    omega arith

-- ROUND TRIP 1, at every width: what was written is read
pub be_at-be_bytes : (n v : ℕ) → v < 256 ^ n → be_at (be_bytes n v) 0 n ≡ v
be_at-be_bytes zero v h = omega arith
be_at-be_bytes (suc n) v h =
    let b = be_bytes n (v / 256) in
    let len : length b ≡ n = length-be_bytes n (v / 256) in
    let front : be_at (b ++ (v % 256 ∷ [])) 0 n ≡ v / 256 = be_at_front n b (v % 256 ∷ []) (omega arith) ∙ be_at-be_bytes n (v / 256) (omega arith) in
    let last : get_or (b ++ (v % 256 ∷ [])) (0 + n) 0 ≡ v % 256 = get_or_at b (v % 256) [] 0 (0 + n) (omega arith) in
    omega arith

-- ROUND TRIP 2, at every width: what was read is written
pub be_bytes-be_at : (s : List ℕ) (at n : ℕ) → ((i : ℕ) → get_or s i 0 < 256) → at + n ≤ length s → be_bytes n (be_at s at n) ≡ take n (drop at s)
be_bytes-be_at s at zero hb h = refl
be_bytes-be_at s at (suc n) hb h =
    let a = be_at s at n in
    let x = get_or s (at + n) 0 in
    let len : n < length (drop at s) = simp length-drop (omega arith) in
    rw (digits_div a (hb (at + n)), digits_mod a (hb (at + n)), be_bytes-be_at s at n hb (omega arith), take-suc (drop at s) n 0 len, get_or-drop at s n 0)

-- a field of one byte is that byte
pub one_byte : (s : List ℕ) (at : ℕ) → be_at s at 1 ≡ get_or s at 0
one_byte s at = let here : get_or s (at + 0) 0 ≡ get_or s at 0 = ap (λ (i : ℕ). get_or s i 0) (add-zero at) in omega arith

-- the same of one byte, and of a field of which the number is known
pub byte_back : (s : List ℕ) (at : ℕ) → ((i : ℕ) → get_or s i 0 < 256) → at < length s → be_bytes 1 (get_or s at 0) ≡ take 1 (drop at s)
byte_back s at hb h = ap (be_bytes 1) (sym (one_byte s at)) ∙ be_bytes-be_at s at 1 hb (omega arith)

pub known_back : (s : List ℕ) (at n : ℕ) {v : ℕ} → ((i : ℕ) → get_or s i 0 < 256) → at + n ≤ length s → be_at s at n ≡ v → be_bytes n v ≡ take n (drop at s)
known_back s at n hb h is = ap (be_bytes n) (sym is) ∙ be_bytes-be_at s at n hb h

-- two fields side by side are one, at every width of each
pub be_at_join : (s : List ℕ) (at m n : ℕ) → be_at s at (m + n) ≡ be_at s at m * 256 ^ n + be_at s (at + m) n
be_at_join s at m zero = ap (be_at s at) (add-zero m) ∙ omega arith
be_at_join s at m (suc n) =
    let a = be_at s at m in
    let b = be_at s (at + m) n in
    let x = get_or s (at + m + n) 0 in
    let here : get_or s (at + (m + n)) 0 ≡ x = ap (λ (i : ℕ). get_or s i 0) (sym (add_assoc at m n)) in
    let next : a * 256 ^ suc n ≡ a * 256 ^ n * 256 = ap (λ (p : ℕ). a * p) (pow-suc 256 n) ∙ sym (mul_assoc a (256 ^ n) 256) in
    ap (be_at s at) (add-suc m n)
    ∙ (λ i. be_at_join s at m n i * 256 + here i)
    ∙ omega arith

module _ (s : List ℕ) (small : (i : ℕ) → get_or s i 0 < 256) (at m n : ℕ) where
  pub high : be_at s at (m + n) / 256 ^ n ≡ be_at s at m
  high = ap (λ (w : ℕ). w / 256 ^ n) (be_at_join s at m n) ∙ digits_div (be_at s at m) (be_at_lt s (at + m) n small)

  pub low : be_at s at (m + n) % 256 ^ n ≡ be_at s (at + m) n
  low = ap (λ (w : ℕ). w % 256 ^ n) (be_at_join s at m n) ∙ digits_mod (be_at s at m) (be_at_lt s (at + m) n small)

pub be_bytes_join : (m n a b : ℕ) → b < 256 ^ n → be_bytes (m + n) (a * 256 ^ n + b) ≡ be_bytes m a ++ be_bytes n b
be_bytes_join m zero a b h =
    let same : a * 256 ^ 0 + b ≡ a = omega arith in
    (λ i. be_bytes (add-zero m i) (same i)) ∙ sym (append-nil (be_bytes m a))
be_bytes_join m (suc n) a b h =
    let next : a * 256 ^ suc n ≡ a * 256 ^ n * 256 = ap (λ (p : ℕ). a * p) (pow-suc 256 n) ∙ sym (mul_assoc a (256 ^ n) 256) in
    let v = a * 256 ^ suc n + b in
    let high : v / 256 ≡ a * 256 ^ n + b / 256 = omega arith in
    let low : v % 256 ≡ b % 256 = omega arith in
    ap (λ (k : ℕ). be_bytes k v) (add-suc m n)
    ∙ (λ i. be_bytes (m + n) (high i) ++ (low i ∷ []))
    ∙ ap (λ (l : List ℕ). l ++ (b % 256 ∷ [])) (be_bytes_join m n a (b / 256) (omega arith))
    ∙ append_assoc (be_bytes m a) (be_bytes n (b / 256)) (b % 256 ∷ [])

-- a number is 0 exactly if all its bytes are
pub zero_bytes : (s : List ℕ) (at n : ℕ) → be_at s at n ≡ 0 → (i : ℕ) → i < n → get_or s (at + i) 0 ≡ 0
zero_bytes s at zero e i h = absurd (omega arith)
zero_bytes s at (suc n) e i h = by (ltb i n) refl (zero_bytes s at n (omega arith) i)
  where
    by : (t : Bool) → ltb i n ≡ t → (i < n → get_or s (at + i) 0 ≡ 0) → get_or s (at + i) 0 ≡ 0
    by true e' rest = rest (ltb-true i n e')
    by false e' rest =
        let last : n ≡ i = omega (arith, ltb-false i n e') in
        ap (λ (k : ℕ). get_or s (at + k) 0) (sym last) ∙ omega arith

pub bytes_zero : (s : List ℕ) (at n : ℕ) → ((i : ℕ) → i < n → get_or s (at + i) 0 ≡ 0) → be_at s at n ≡ 0
bytes_zero s at zero h = refl
bytes_zero s at (suc n) h = let rest : be_at s at n ≡ 0 = bytes_zero s at n (λ i l. h i (omega arith)) in omega (arith, h n (omega arith))

-- only the low n bytes of a number count
pub be_bytes_low : (n v : ℕ) → be_bytes n (v % 256 ^ n) ≡ be_bytes n v
be_bytes_low n v =
    sym (be_bytes_join 0 n (v / 256 ^ n) (v % 256 ^ n) (mod-lt v (one-le-pow n 256 (omega arith))))
    ∙ (λ i. be_bytes (zero-add n i) (div-add-mod' v (256 ^ n) i))

-- what stands behind the first list is read from its start
be_at_behind : (n : ℕ) (xs ys : List ℕ) → be_at (xs ++ ys) (length xs) n ≡ be_at ys 0 n
be_at_behind zero xs ys = refl
be_at_behind (suc n) xs ys =
    let here : get_or (xs ++ ys) (length xs + n) 0 ≡ get_or ys (0 + n) 0 = get_or-append-add xs ys n 0 ∙ ap (λ (k : ℕ). get_or ys k 0) (sym (zero-add n)) in
    let rest : be_at (xs ++ ys) (length xs) n ≡ be_at ys 0 n = be_at_behind n xs ys in
    omega arith

-- n zeros are the number 0 in n bytes
pub zeros : (n : ℕ) → be_bytes n 0 ≡ replicate n 0
zeros zero = refl
zeros (suc n) = ap (λ (l : List ℕ). l ++ (0 ∷ [])) (zeros n) ∙ replicate-append-replicate n 1 0 ∙ ap (λ (k : ℕ). replicate k 0) (add-one n)

pub zeros_behind : (xs : List ℕ) (n : ℕ) → be_at (xs ++ replicate n 0) (length xs) n ≡ 0
zeros_behind xs n = be_at_behind n xs (replicate n 0) ∙ ap (λ (l : List ℕ). be_at l 0 n) (sym (zeros n)) ∙ be_at-be_bytes n 0 (one-le-pow n 256 (omega arith))

byte_is : (n v : ℕ) → byte_at n v ≡ v / 256 ^ n % 256
byte_is zero v = omega arith
byte_is (suc n) v = refl

high_first : (n v : ℕ) → bytes_high_first n v ≡ be_bytes n v
high_first zero v = refl
high_first (suc n) v =
    let a = v / 256 ^ n in
    let b = v % 256 ^ n in
    let is : v ≡ a * 256 ^ n + b = sym (div-add-mod' v (256 ^ n)) in
    let more : suc n ≡ 1 + n = omega arith in
    (λ i. byte_is n v i ∷ high_first n v i)
    ∙ ap (λ (l : List ℕ). a % 256 ∷ l) (sym (be_bytes_low n v))
    ∙ sym (be_bytes_join 1 n a b (mod-lt v (one-le-pow n 256 (omega arith))))
    ∙ (λ i. be_bytes (sym more i) (sym is i))

-- a block of eight bytes is the number that std reads in it and writes into it
pub block_read : (b : List ℕ) → from_be_bytes w64 b ≡ be_at b 0 8
block_read b = omega arith

pub block_written : (v : ℕ) → to_be_bytes w64 v ≡ be_bytes 8 v
block_written v = high_first 8 v

-- a field at the end of a block of zeros is the block's number
pub at_end : (k n : ℕ) (field : List ℕ) → k + n ≡ 8 → be_at (take k (replicate 8 0) ++ field) 0 8 ≡ be_at field 0 n
at_end k n field e =
    let zeros : ◌≡◌ {A = List ℕ} (take k (replicate 8 0)) (replicate k 0) = take-replicate k 8 0 (omega arith) in
    let b = replicate k 0 ++ field in
    let none : be_at b 0 k ≡ 0 = be_at_front k (replicate k 0) field (omega (arith, length-replicate {A = ℕ} k 0)) ∙ zeros_behind [] k in
    let some : be_at b (0 + k) n ≡ be_at field 0 n = ap (λ (i : ℕ). be_at b i n) (omega (arith, length-replicate {A = ℕ} k 0)) ∙ be_at_behind n (replicate k 0) field in
    (λ i. be_at (zeros i ++ field) 0 (sym e i))
    ∙ be_at_join b 0 k n
    ∙ (λ i. none i * 256 ^ n + some i)
    ∙ omega arith

-- the low n bytes of a number are the last n of its eight
pub last_bytes : (k n v : ℕ) → k + n ≡ 8 → drop k (be_bytes 8 v) ≡ be_bytes n v
last_bytes k n v e =
    let a = v / 256 ^ n in
    let b = v % 256 ^ n in
    let is : v ≡ a * 256 ^ n + b = sym (div-add-mod' v (256 ^ n)) in
    let long : length (be_bytes k a) ≡ k = length-be_bytes k a in
    (λ i. drop k (be_bytes (sym e i) (is i)))
    ∙ ap (drop k) (be_bytes_join k n a b (mod-lt v (one-le-pow n 256 (omega arith))))
    ∙ (λ i. drop (sym long i) (be_bytes k a ++ be_bytes n b))
    ∙ drop-append_seam (be_bytes k a) (be_bytes n b)
    ∙ be_bytes_low n v

module _ (s : List ℕ) (at n : ℕ) where
  pub fit : n ≤ 8 → at + n ≤ length s → fits s at n ≡ true
  fit few room = and_true (le-leb n 8 few) (le-leb (at + n) (length s) room)

  pub too_wide : 8 < n → fits s at n ≡ false
  too_wide many = ap (λ (t : Bool). t && leb (at + n) (length s)) (lt-leb n 8 many)

  pub outside : leb (at + n) (length s) ≡ false → fits s at n ≡ false
  outside out = and_false (leb n 8) out

  -- a field that fits is read, any other reads as 0
  pub get_in : fits s at n ≡ true → be_at s at n ≡ get_be s at n
  get_in e = sym (ap (λ (t : Bool). cond t (be_at s at n) 0) e)

  pub get_out : fits s at n ≡ false → 0 ≡ get_be s at n
  get_out e = sym (ap (λ (t : Bool). cond t (be_at s at n) 0) e)

  pub found : {r : ℕ} → n ≤ 8 → at + n ≤ length s → Got s at n r → r ≡ be_at s at n
  found few room got = got.number ∙ sym (get_in (fit few room))

  -- a field that fits is written, and for any other nothing is
  pub put_in : (v : ℕ) → fits s at n ≡ true → written s at n v ≡ put_be s at n v
  put_in v e = sym (ap (λ (t : Bool). cond t (written s at n v) s) e)

  pub put_out : (v : ℕ) → fits s at n ≡ false → s ≡ put_be s at n v
  put_out v e = sym (ap (λ (t : Bool). cond t (written s at n v) s) e)

-- the number that std reads in a block of zeros with a field at its end
pub read_at_end : (field : List ℕ) (n r : ℕ) → n ≤ 8 → r ≡ from_be_bytes w64 (put_mid (8 - n) (8 - (8 - n)) (replicate 8 0) field) → r ≡ be_at field 0 n
read_at_end field n r few is =
    is
    ∙ block_read (put_mid (8 - n) (8 - (8 - n)) (replicate 8 0) field)
    ∙ ap (λ (b : List ℕ). be_at b 0 8) (back_tail (8 - n) (replicate 8 0) field)
    ∙ at_end (8 - n) n field (omega arith)

-- the stores of `digits`, last byte first
abbrev pub stores : List ℕ → ℕ → ℕ → List ℕ
stores s zero v = s
stores s (suc n) v = stores (set s n (v % 256)) n (v / 256)

pub stores_are : (s : List ℕ) (n v : ℕ) → n ≤ length s → stores s n v ≡ be_bytes n v ++ drop n s
stores_are s zero v h = refl
stores_are s (suc n) v h =
    let x = v % 256 in
    let s' = set s n x in
    let tail : drop n s' ≡ x ∷ drop (suc n) s = drop-cons s' n 0 (omega (arith, length-set s n x)) ∙ rw (get_or-set_same s n x 0 (omega arith), drop-set-lt (suc n) s n x (omega arith)) in
    stores_are s' n (v / 256) (omega (arith, length-set s n x)) ∙ rw (tail, append_assoc)

-- v's low n bytes, stored in the part of s from at to e
pub placed : (s ys : List ℕ) (at n e v : ℕ) → e ≡ at + n → ys ≡ be_bytes n v → put_mid at (e - at) s ys ≡ written s at n v
placed s ys at n e v end field =
    let size : e - at ≡ n = omega arith in
    (λ i. take at s ++ (field i ++ drop (size i) (drop at s)))
    ∙ ap (λ (z : List ℕ). take at s ++ (be_bytes n v ++ z)) (drop-drop n at s)
