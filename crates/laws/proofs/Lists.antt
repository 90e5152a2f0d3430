-- A list of known length is its elements written out, so that stores and parts at numerals compute; and a part that is lent
-- from some place to the end is the list behind that place. Assumes nothing.
use mathlib.Core.Path.{◌≡◌, refl, ◌∙◌, ap}
use mathlib.Core.List.{List, [], ◌∷◌, ◌++◌, append-nil}
use Prim.Native.Nat.{ℕ, zero, suc, ◌-◌, ◌≤◌}
use native.Mathlib.Omega.{arith}
use lib.ListN.{length, get_or, take, drop, length-drop, drop_of_length-le}
use lib.Seq.{take_all}
use borrow.Rule.Slice.PartMut.{put_mid}

-- the first n elements, written out
abbrev pub spread : ℕ → List ℕ → List ℕ
spread zero s = []
spread (suc n) s = get_or s 0 0 ∷ spread n (drop 1 s)

pub spread_is : (n : ℕ) (s : List ℕ) → length s ≡ n → s ≡ spread n s
spread_is zero [] h = refl
spread_is zero (x ∷ s) h = absurd (omega arith)
spread_is (suc n) [] h = absurd (omega arith)
spread_is (suc n) (x ∷ s) h = ap (λ (l : List ℕ). x ∷ l) (spread_is n s (omega arith))

-- the same of a longer list
pub front_is : (n : ℕ) (s : List ℕ) → n ≤ length s → s ≡ spread n s ++ drop n s
front_is zero s h = refl
front_is (suc n) [] h = absurd (omega arith)
front_is (suc n) (x ∷ s) h = ap (λ (l : List ℕ). x ∷ l) (front_is n s (omega arith))

-- `&mut l[a..]`: what is lent, and the whole once it is back
pub lent_tail : (a : ℕ) (l : List ℕ) → take (length l - a) (drop a l) ≡ drop a l
lent_tail a l = take_all (length l - a) (drop a l) (omega (arith, length-drop a l))

pub back_tail : (a : ℕ) (l ys : List ℕ) → put_mid a (length l - a) l ys ≡ take a l ++ ys
back_tail a l ys =
    ap (λ (z : List ℕ). take a l ++ (ys ++ z)) (drop_of_length-le (drop a l) {i = length l - a} (omega (arith, length-drop a l)))
    ∙ ap (λ (z : List ℕ). take a l ++ z) (append-nil ys)

-- as many elements as a front has are that front
pub front_again : (n : ℕ) (s : List ℕ) → take (length (take n s)) s ≡ take n s
front_again zero s = refl
front_again (suc n) [] = refl
front_again (suc n) (x ∷ s) = ap (λ (l : List ℕ). x ∷ l) (front_again n s)
