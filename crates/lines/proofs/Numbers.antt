-- A number is read as it is written, and written as it is read: a digit behind a number is one step of both. Assumes nothing.
use Rattle.std.specs.Prelude.{None, Option, Some}
use Prim.Native.Nat.{ℕ, zero, suc, ◌+◌, ◌-◌, ◌*◌, ◌/◌, ◌%◌, ◌^◌, ◌≤◌, ◌<◌}
use mathlib.Core.Bool.{Bool, true, false, not, cond, ◌&&◌}
use mathlib.Core.List.{List, [], ◌∷◌, ◌++◌, append-nil, append_assoc}
use mathlib.Core.Path.{◌≡◌, refl, sym, ap, ◌∙◌}
use native.Mathlib.Nat.{pow-suc}
use native.Mathlib.Omega.{arith}
use native.Mathlib.Numerals.{add-one}
use borrow.Author.Tests.{ltb-true, ltb-false, leb-true, eqb-false, lt-ltb, le-ltb, le-leb, lt-leb, ne_eqb}
use lib.Dec.{ltb, leb, eqb}
use lib.ListN.{length, take, drop, get_or, set, length-append, length-set, length-drop, drop_of_length-le, get_or-append}
use lib.Seq.{drop-cons, drop-set-lt, get_or-set_same, take_all}
use Rattle.laws.proofs.Bools.{never, and_left, and_right, and_true, and_false, by_test, on_false}
use Rattle.lines.specs.Numbers.{is_digit, digit_read, all_digits, begins, value_from, is_number, read_number, digits_by, decimal}

-- ---- how a number is written

enough : (f g n : ℕ) → n < f → n < g → digits_by f n ≡ digits_by g n
enough zero g n h k = absurd (omega arith)
enough (suc f) zero n h k = absurd (omega arith)
enough (suc f) (suc g) n h k =
    on_false (ltb n 10) _ _ _ (λ e.
    let l : 10 ≤ n = ltb-false n 10 e in
    let p : n / 10 < f = omega arith in
    let q : n / 10 < g = omega arith in
    ap (λ (s : List ℕ). s ++ ((48 + n % 10) ∷ [])) (enough f g (n / 10) p q))

pub decimal_one : (n : ℕ) → n < 10 → decimal n ≡ (48 + n) ∷ []
unfolding decimal
decimal_one n h = rw (lt-ltb n 10 h)

pub decimal_more : (n : ℕ) → 10 ≤ n → decimal n ≡ decimal (n / 10) ++ ((48 + n % 10) ∷ [])
unfolding decimal
decimal_more n h =
    let p : n / 10 < n = omega arith in
    let q : n / 10 < suc (n / 10) = omega arith in
    rw (le-ltb n 10 h) (ap (λ (s : List ℕ). s ++ ((48 + n % 10) ∷ [])) (enough n (suc (n / 10)) (n / 10) p q))

-- a property of numbers' digits, by one digit and by one digit more
pub on_decimal : (P : ℕ → List ℕ → Type 0) → ((n : ℕ) → n < 10 → P n ((48 + n) ∷ [])) → ((n : ℕ) → 10 ≤ n → P (n / 10) (decimal (n / 10)) → P n (decimal (n / 10) ++ ((48 + n % 10) ∷ []))) → (n : ℕ) → P n (decimal n)
on_decimal P one more n = up (suc n) n (omega arith)
  where
    by : (n : ℕ) (t : Bool) → ltb n 10 ≡ t → (10 ≤ n → P (n / 10) (decimal (n / 10))) → P n (decimal n)
    by n true e rest = rw (decimal_one n (ltb-true n 10 e)) (one n (ltb-true n 10 e))
    by n false e rest = let l : 10 ≤ n = ltb-false n 10 e in rw (decimal_more n l) (more n l (rest l))

    up : (f n : ℕ) → n < f → P n (decimal n)
    up zero n h = absurd (omega arith)
    up (suc f) n h = by n (ltb n 10) refl (λ l. let p : n / 10 < f = omega arith in up f (n / 10) p)

pub decimal_filled : (n : ℕ) → 0 < length (decimal n)
decimal_filled = on_decimal (λ n s. 0 < length s) (λ n h. omega arith) (λ n h r. rw (length-append (decimal (n / 10)) ((48 + n % 10) ∷ [])) (omega arith))

-- a number below 10 ^ (k + 1) has at most k + 1 digits
pub decimal_short : (k n : ℕ) → n < 10 ^ suc k → length (decimal n) ≤ suc k
decimal_short k n h = on_decimal (λ n s. (k : ℕ) → n < 10 ^ suc k → length s ≤ suc k) (λ n l k h. omega arith) step n k h
  where
    step : (n : ℕ) → 10 ≤ n → ((k : ℕ) → n / 10 < 10 ^ suc k → length (decimal (n / 10)) ≤ suc k) → (k : ℕ) → n < 10 ^ suc k → length (decimal (n / 10) ++ ((48 + n % 10) ∷ [])) ≤ suc k
    step n l r zero h = let z : n < 10 = h in absurd (omega arith)
    step n l r (suc k) h =
        let m : n < 10 ^ suc k * 10 = rw (pow-suc 10 (suc k)) at h in
        let d : n / 10 < 10 ^ suc k = omega (arith, m) in
        rw (length-append (decimal (n / 10)) ((48 + n % 10) ∷ [])) (omega (arith, r k d))

-- ---- what is read

pub digit_range : (b : ℕ) → is_digit b ≡ true → (48 ≤ b) × (b ≤ 57)
digit_range b d = (leb-true 48 b (and_left (leb 48 b) (leb b 57) d), leb-true b 57 (and_right (leb 48 b) (leb b 57) d))

pub value_append : (v : ℕ) (s t : List ℕ) → value_from v (s ++ t) ≡ value_from (value_from v s) t
value_append v [] t = refl
value_append v (b ∷ s) t = value_append (v * 10 + (b - 48)) s t

pub digits_append : (s t : List ℕ) → all_digits (s ++ t) ≡ all_digits s && all_digits t
digits_append [] t = refl
digits_append (b ∷ s) t = by (is_digit b) (digits_append s t)
  where
    by : (u : Bool) → all_digits (s ++ t) ≡ all_digits s && all_digits t → u && all_digits (s ++ t) ≡ (u && all_digits s) && all_digits t
    by true e = e
    by false e = refl

-- a value only grows
pub grows : (v : ℕ) (s : List ℕ) → v ≤ value_from v s
grows v [] = omega arith
grows v (b ∷ s) = omega (arith, grows (v * 10 + (b - 48)) s)

digit_glyph : (d : ℕ) → d < 10 → is_digit (48 + d) ≡ true
digit_glyph d h = and_true (le-leb 48 (48 + d) (omega arith)) (le-leb (48 + d) 57 (omega arith))

pub decimal_digits : (n : ℕ) → all_digits (decimal n) ≡ true
decimal_digits = on_decimal (λ n s. all_digits s ≡ true)
    (λ n h. and_true (digit_glyph n h) refl)
    (λ n h r. digits_append (decimal (n / 10)) ((48 + n % 10) ∷ []) ∙ and_true r (and_true (digit_glyph (n % 10) (omega arith)) refl))

pub decimal_value : (n : ℕ) → value_from 0 (decimal n) ≡ n
decimal_value = on_decimal (λ n s. value_from 0 s ≡ n)
    (λ n h. let z : 0 * 10 + (48 + n - 48) ≡ n = omega arith in z)
    (λ n h r.
    let z : n / 10 * 10 + (48 + n % 10 - 48) ≡ n = omega arith in
    value_append 0 (decimal (n / 10)) ((48 + n % 10) ∷ []) ∙ ap (λ (v : ℕ). v * 10 + (48 + n % 10 - 48)) r ∙ z)

-- no zero in front but that of 0
front : (n : ℕ) → 1 ≤ n → 48 < get_or (decimal n) 0 0
front = on_decimal (λ n s. 1 ≤ n → 48 < get_or s 0 0)
    (λ n h k. omega arith)
    (λ n h r k. rw (get_or-append (decimal (n / 10)) ((48 + n % 10) ∷ []) 0 0 (decimal_filled (n / 10))) (r (omega arith)))

begins_by : (s : List ℕ) → 0 < length s → 48 < get_or s 0 0 → begins s ≡ true
begins_by [] h k = absurd (omega arith)
begins_by (b ∷ []) h k = refl
begins_by (b ∷ c ∷ s) h k = ap not (ne_eqb b 48 (λ e. omega arith))

decimal_begins : (n : ℕ) → begins (decimal n) ≡ true
decimal_begins zero = rw (decimal_one 0 (omega arith))
decimal_begins (suc n) = begins_by (decimal (suc n)) (decimal_filled (suc n)) (front (suc n) (omega arith))

-- ROUND TRIP 1: what was written is read
pub read_written : (most n : ℕ) → n ≤ most → read_number most (decimal n) ≡ Some n
unfolding read_number
read_written most n h = rw (decimal_begins n, decimal_digits n, decimal_value n, le-leb n most h)

-- what is left of reading, with v read already
abbrev pub read_from : ℕ → ℕ → List ℕ → Option ℕ
read_from most v s = cond (all_digits s && leb (value_from v s) most) (Some (value_from v s)) None

-- a digit behind v's digits
grown : (v b : ℕ) → 1 ≤ v → is_digit b ≡ true → decimal (v * 10 + (b - 48)) ≡ decimal v ++ (b ∷ [])
grown v b h d =
    let lo : 48 ≤ b = (digit_range b d).0 in
    let hi : b ≤ 57 = (digit_range b d).1 in
    let t : (v * 10 + (b - 48)) / 10 ≡ v = omega arith in
    let u : 48 + (v * 10 + (b - 48)) % 10 ≡ b = omega arith in
    decimal_more (v * 10 + (b - 48)) (omega arith) ∙ (λ i. decimal (t i) ++ (u i ∷ []))

all_grown : (v : ℕ) (s : List ℕ) → 1 ≤ v → all_digits s ≡ true → decimal (value_from v s) ≡ decimal v ++ s
all_grown v [] h d = sym (append-nil (decimal v))
all_grown v (b ∷ s) h d =
    let hi : 1 ≤ v * 10 + (b - 48) = omega arith in
    all_grown (v * 10 + (b - 48)) s hi (and_right (is_digit b) (all_digits s) d)
    ∙ ap (λ (l : List ℕ). l ++ s) (grown v b h (and_left (is_digit b) (all_digits s) d))
    ∙ append_assoc (decimal v) (b ∷ []) s

-- what is a number is its value's digits
pub number_is : (s : List ℕ) → begins s ≡ true → all_digits s ≡ true → decimal (value_from 0 s) ≡ s
number_is [] p d = absurd (never p)
number_is (b ∷ s) p d =
    let lo : 48 ≤ b = (digit_range b (and_left (is_digit b) (all_digits s) d)).0 in
    let hi : b ≤ 57 = (digit_range b (and_left (is_digit b) (all_digits s) d)).1 in
    let one : decimal (0 * 10 + (b - 48)) ≡ b ∷ [] = decimal_one (0 * 10 + (b - 48)) (omega arith) ∙ (let w : 48 + (0 * 10 + (b - 48)) ≡ b = omega arith in ap (λ (x : ℕ). x ∷ []) w) in
    by s p (and_right (is_digit b) (all_digits s) d) lo one
  where
    by : (s : List ℕ) → begins (b ∷ s) ≡ true → all_digits s ≡ true → 48 ≤ b → decimal (0 * 10 + (b - 48)) ≡ b ∷ [] → decimal (value_from (0 * 10 + (b - 48)) s) ≡ b ∷ s
    by [] p d lo one = one
    by (c ∷ s) p d lo one =
        let q : eqb b 48 ≡ false = off (eqb b 48) p in
        let ne : b ≡ 48 → ⊥ = eqb-false b 48 q in
        all_grown (0 * 10 + (b - 48)) (c ∷ s) (omega (arith, ne)) d ∙ ap (λ (l : List ℕ). l ++ (c ∷ s)) one
      where
        off : (t : Bool) → not t ≡ true → t ≡ false
        off true e = absurd (never e)
        off false e = refl

-- ROUND TRIP 2: what was read is written, and it is no larger than it may be
pub written_read : (most : ℕ) (s : List ℕ) (n : ℕ) → read_number most s ≡ Some n → (decimal n ≡ s) × (n ≤ most)
unfolding read_number
written_read most s n =
    by_test (λ (x : Option ℕ). x ≡ Some n → (decimal n ≡ s) × (n ≤ most)) (is_number most s)
    (λ t e.
    let v : value_from 0 s ≡ n = cc in
    let r : all_digits s && leb (value_from 0 s) most ≡ true = and_right (begins s) _ t in
    let m : value_from 0 s ≤ most = leb-true (value_from 0 s) most (and_right (all_digits s) _ r) in
    (ap decimal (sym v) ∙ number_is s (and_left (begins s) _ t) (and_left (all_digits s) _ r), omega arith))
    (λ t e. let z : ◌≡◌ {A = ℕ} 0 1 = cc in absurd (omega arith))

-- ---- the reader's turns

pub read_empty : (most : ℕ) (s : List ℕ) → length s ≡ 0 → read_number most s ≡ None
unfolding read_number
read_empty most [] h = refl
read_empty most (b ∷ s) h = absurd (omega arith)

pub read_zero : (most : ℕ) (s : List ℕ) → ltb 1 (length s) && eqb (get_or s 0 0) 48 ≡ true → read_number most s ≡ None
unfolding read_number
read_zero most [] h = absurd (never h)
read_zero most (b ∷ []) h = absurd (never h)
read_zero most (b ∷ c ∷ s) h =
    let e : eqb b 48 ≡ true = and_right (ltb 1 (suc (suc (length s)))) _ h in
    rw e

pub read_rest : (most : ℕ) (s : List ℕ) → (length s ≡ 0 → ⊥) → ltb 1 (length s) && eqb (get_or s 0 0) 48 ≡ false → read_number most s ≡ read_from most 0 s
unfolding read_number
read_rest most [] n h = absurd (n refl)
read_rest most (b ∷ []) n h = refl
read_rest most (b ∷ c ∷ s) n h =
    let l : ltb 1 (suc (suc (length s))) ≡ true = lt-ltb 1 (suc (suc (length s))) (omega arith) in
    let e : eqb b 48 ≡ false = rw l at h in
    rw e

-- what is read of a byte tells whether it is a digit
no_digit : (b : ℕ) → digit_read b ≡ None → is_digit b ≡ false
no_digit b = by (is_digit b)
  where
    by : (t : Bool) → ◌≡◌ {A = Option ℕ} (cond t (Some (b - 48)) None) None → t ≡ false
    by true e = cc
    by false e = refl

is_digit_lem : (b d : ℕ) → digit_read b ≡ Some d → (is_digit b ≡ true) × (b - 48 ≡ d)
is_digit_lem b d = by (is_digit b)
  where
    by : (t : Bool) → ◌≡◌ {A = Option ℕ} (cond t (Some (b - 48)) None) (Some d) → (t ≡ true) × (b - 48 ≡ d)
    by true e = (refl, cc)
    by false e = (cc, cc)

module _ (most : ℕ) (s : List ℕ) (v i : ℕ) (h : i < length s) where
  turn : read_from most v (drop i s) ≡ cond ((is_digit (get_or s i 0) && all_digits (drop (i + 1) s)) && leb (value_from (v * 10 + (get_or s i 0 - 48)) (drop (i + 1) s)) most) (Some (value_from (v * 10 + (get_or s i 0 - 48)) (drop (i + 1) s))) None
  turn = rw (add-one i, drop-cons s i 0 h)

  pub turn_other : digit_read (get_or s i 0) ≡ None → read_from most v (drop i s) ≡ None
  turn_other e = turn ∙ rw (no_digit (get_or s i 0) e)

  pub turn_digit : (d : ℕ) → digit_read (get_or s i 0) ≡ Some d → read_from most v (drop i s) ≡ read_from most (v * 10 + d) (drop (i + 1) s)
  turn_digit d e =
      let is = is_digit_lem (get_or s i 0) d e in
      turn ∙ (λ j. cond ((is.0 j && all_digits (drop (i + 1) s)) && leb (value_from (v * 10 + is.1 j) (drop (i + 1) s)) most) (Some (value_from (v * 10 + is.1 j) (drop (i + 1) s))) None)

  pub turn_large : (d : ℕ) → digit_read (get_or s i 0) ≡ Some d → most < v * 10 + d → read_from most v (drop i s) ≡ None
  turn_large d e m =
      turn_digit d e
      ∙ ap (λ (t : Bool). cond t (Some (value_from (v * 10 + d) (drop (i + 1) s))) None)
      (and_false (all_digits (drop (i + 1) s)) (lt-leb (value_from (v * 10 + d) (drop (i + 1) s)) most (omega (arith, m, grows (v * 10 + d) (drop (i + 1) s)))))

-- ---- the writer's turns: the digits stand at the end of ds, the last first

stored : (ds : List ℕ) (i g : ℕ) → 1 ≤ i → i ≤ length ds → drop (i - 1) (set ds (i - 1) g) ≡ g ∷ drop i ds
stored ds i g h k =
    let z : suc (i - 1) ≡ i = omega arith in
    drop-cons (set ds (i - 1) g) (i - 1) 0 (omega (arith, length-set ds (i - 1) g))
    ∙ rw (get_or-set_same ds (i - 1) g 0 (omega arith), drop-set-lt (suc (i - 1)) ds (i - 1) g (omega arith), z)

-- what holds at each turn
pub record Spelled (n : ℕ) (ds : List ℕ) (i rest : ℕ) : Type 0 where
  pub places : length ds ≡ 20
  pub inside : i ≤ 20
  pub room : length (decimal rest) ≤ i
  pub digits : decimal n ≡ decimal rest ++ drop i ds

pub spelled_none : (n : ℕ) (ds : List ℕ) → n < 18446744073709551616 → length ds ≡ 20 → Spelled n ds 20 n
spelled_none n ds h l =
    record {
      places = l;
      inside = omega arith;
      room = decimal_short 19 n (omega (arith, h));
      digits = sym (ap (λ (s : List ℕ). decimal n ++ s) (drop_of_length-le ds {i = 20} (omega arith)) ∙ append-nil (decimal n));
    }

module _ {n : ℕ} {ds : List ℕ} {i rest : ℕ} (s : Spelled n ds i rest) where
  pub room_left : 1 ≤ i
  room_left = omega (arith, s.room, decimal_filled rest)

  put : (g : ℕ) → drop (i - 1) (set ds (i - 1) g) ≡ g ∷ drop i ds
  put g = stored ds i g room_left (omega (arith, s.inside, s.places))

  pub spelled_more : 10 ≤ rest → (g : ℕ) → g ≡ 48 + rest % 10 → Spelled n (set ds (i - 1) g) (i - 1) (rest / 10)
  spelled_more h g e =
      let longer : length (decimal rest) ≡ length (decimal (rest / 10)) + 1 = ap length (decimal_more rest h) ∙ length-append (decimal (rest / 10)) ((48 + rest % 10) ∷ []) in
      record {
        places = length-set ds (i - 1) g ∙ s.places;
        inside = omega (arith, s.inside);
        room = omega (arith, s.room, longer);
        digits =
            s.digits
            ∙ ap (λ (t : List ℕ). t ++ drop i ds) (decimal_more rest h ∙ ap (λ (x : ℕ). decimal (rest / 10) ++ (x ∷ [])) (sym e))
            ∙ append_assoc (decimal (rest / 10)) (g ∷ []) (drop i ds)
            ∙ ap (λ (t : List ℕ). decimal (rest / 10) ++ t) (sym (put g));
      }

  -- the last digit, and then they all stand there
  pub spelled_all : rest < 10 → (g : ℕ) → g ≡ 48 + rest → take (20 - (i - 1)) (drop (i - 1) (set ds (i - 1) g)) ≡ decimal n
  spelled_all h g e =
      let long : length (drop (i - 1) (set ds (i - 1) g)) ≤ 20 - (i - 1) = omega (arith, length-drop (i - 1) (set ds (i - 1) g), length-set ds (i - 1) g, s.places) in
      take_all (20 - (i - 1)) (drop (i - 1) (set ds (i - 1) g)) long
      ∙ put g
      ∙ ap (λ (x : ℕ). x ∷ drop i ds) e
      ∙ sym (s.digits ∙ ap (λ (t : List ℕ). t ++ drop i ds) (decimal_one rest h))
