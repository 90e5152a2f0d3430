-- Bytes put behind bytes are both put at once: each writer goes on at the place behind the last, and past the end nothing is stored
-- by either. Assumes nothing.
use Prim.Native.Nat.{ℕ, zero, suc, ◌+◌, ◌-◌, ◌≤◌, ◌<◌, min}
use mathlib.Core.Bool.{Bool, true, false}
use mathlib.Core.List.{List, [], ◌∷◌, ◌++◌, append_assoc}
use mathlib.Core.Path.{◌≡◌, refl, sym, ap, ◌∙◌}
use native.Mathlib.Nat.{add-zero, add-suc, suc-add}
use native.Mathlib.Omega.{arith}
use borrow.Author.Tests.{leb-true, leb-false}
use lib.Dec.{leb}
use lib.ListN.{length, length-append, length-take, set, take, drop, drop_of_length-le}
use lib.Seq.{sets, length-sets, set_out, take_all, take-nil, drop-nil, drop-drop, length-take-le}
use borrow.Rule.Slice.PartMut.{put_mid}
use Rattle.std.proofs.lemmas.List.{take-append-drop}
use Rattle.std.proofs.lemmas.List.Edits.{sets-eq}
use Rattle.lines.specs.Puts.{behind, Put}

sets_append : (l : List ℕ) (at : ℕ) (xs ys : List ℕ) → sets (sets l at xs) (at + length xs) ys ≡ sets l at (xs ++ ys)
sets_append l at [] ys = ap (λ (k : ℕ). sets l k ys) (add-zero at)
sets_append l at (x ∷ xs) ys =
    ap (λ (k : ℕ). sets (sets (set l at x) (suc at) xs) k ys) (add-suc at (length xs) ∙ sym (suc-add at (length xs)))
    ∙ sets_append (set l at x) (suc at) xs ys

sets_out : (l : List ℕ) (at : ℕ) (xs : List ℕ) → length l ≤ at → sets l at xs ≡ l
sets_out l at [] h = refl
sets_out l at (x ∷ xs) h = ap (λ (m : List ℕ). sets m (suc at) xs) (set_out l at x h) ∙ sets_out l (suc at) xs (omega arith)

sets_behind : (l : List ℕ) (at : ℕ) (xs ys : List ℕ) → sets (sets l at xs) (behind (length l) at (length xs)) ys ≡ sets l at (xs ++ ys)
sets_behind l at xs ys = by (leb (at + length xs) (length l)) refl
  where
    by : (t : Bool) → leb (at + length xs) (length l) ≡ t → sets (sets l at xs) (behind (length l) at (length xs)) ys ≡ sets l at (xs ++ ys)
    by true e =
        let h : at + length xs ≤ length l = leb-true (at + length xs) (length l) e in
        let z : behind (length l) at (length xs) ≡ at + length xs = omega arith in
        ap (λ (k : ℕ). sets (sets l at xs) k ys) z ∙ sets_append l at xs ys
    by false e =
        let h : length l < at + length xs = leb-false (at + length xs) (length l) e in
        let n : length (sets l at xs) ≡ length l = length-sets l at xs in
        let p : length (sets l at xs) ≤ behind (length l) at (length xs) = omega arith in
        let q : length (sets l at xs) ≤ at + length xs = omega arith in
        sets_out (sets l at xs) (behind (length l) at (length xs)) ys p
        ∙ sym (sets_out (sets l at xs) (at + length xs) ys q)
        ∙ sets_append l at xs ys

pub kept : {l m : List ℕ} {at r : ℕ} {xs : List ℕ} → Put l at xs r m → length m ≡ length l
kept {l} {m} {at} {r} {xs} a = ap length a.bytes ∙ length-sets l at xs

pub then : {l m k : List ℕ} {at r q : ℕ} {xs ys : List ℕ} → Put l at xs r m → Put m r ys q k → Put l at (xs ++ ys) q k
then {l} {m} {k} {at} {r} {q} {xs} {ys} a b =
    let n : length m ≡ length l = kept a in
    let e : length (xs ++ ys) ≡ length xs + length ys = length-append xs ys in
    record {
      place = omega (arith, a.place, b.place);
      bytes = b.bytes ∙ (λ i. sets (a.bytes i) (a.place i) ys) ∙ sets_behind l at xs ys;
    }

pub nothing : (l : List ℕ) (at : ℕ) → Put l at [] at l
nothing l at = record { place = omega arith; bytes = refl }

-- one byte, where there is room and where there is none
pub stored : (l : List ℕ) (at b : ℕ) → at < length l → Put l at (b ∷ []) (at + 1) (set l at b)
stored l at b h = record { place = omega arith; bytes = refl }

pub lost : (l : List ℕ) (at b : ℕ) → length l ≤ at → Put l at (b ∷ []) at l
lost l at b h = record { place = omega arith; bytes = sym (set_out l at b h) }

pub none_stored : (l xs : List ℕ) (at : ℕ) → length l ≤ at → Put l at xs at l
none_stored l xs at h = record { place = omega arith; bytes = sym (sets_out l at xs h) }

-- as many bytes as there is room for, copied to their place
pub copied : (l xs : List ℕ) (at n k : ℕ) → at ≤ length l → n ≡ min (length xs) (length l - at) → k ≡ n → Put l at xs (at + n) (put_mid at k l (take n xs))
copied l xs at n k h e f =
    let ys = take n xs in
    let long : length ys ≡ n = length-take-le n xs (omega arith) in
    let room : at + length ys ≤ length l = omega arith in
    let size : at + k ≡ at + length ys = omega arith in
    let stored : sets l at ys ≡ take at l ++ (ys ++ drop (at + length ys) l) = sets-eq ys l at room ∙ append_assoc (take at l) ys (drop (at + length ys) l) in
    let all : ys ++ drop n xs ≡ xs = take-append-drop n xs in
    record {
      place = omega arith;
      bytes =
          ap (λ (z : List ℕ). take at l ++ (ys ++ z)) (drop-drop k at l ∙ ap (λ (i : ℕ). drop i l) size)
          ∙ sym stored
          ∙ sym (rest (leb (length xs) n) refl)
          ∙ sets_append l at ys (drop n xs)
          ∙ ap (sets l at) all;
    }
  where
    rest : (t : Bool) → leb (length xs) n ≡ t → sets (sets l at (take n xs)) (at + length (take n xs)) (drop n xs) ≡ sets l at (take n xs)
    rest true q = rw (drop_of_length-le xs {i = n} (leb-true (length xs) n q))
    rest false q =
        let less : n < length xs = leb-false (length xs) n q in
        sets_out (sets l at (take n xs)) (at + length (take n xs)) (drop n xs) (omega (arith, length-sets l at (take n xs), length-take-le n xs (omega arith)))

-- ---- what was put, as a part of what stands there

sets_none : (at : ℕ) (xs : List ℕ) → ◌≡◌ {A = List ℕ} (sets [] at xs) []
sets_none at xs = sets_out [] at xs (omega arith)

sets_cons : (x : ℕ) (l : List ℕ) (at : ℕ) (xs : List ℕ) → sets (x ∷ l) (suc at) xs ≡ x ∷ sets l at xs
sets_cons x l at [] = refl
sets_cons x l at (y ∷ ys) = sets_cons x (set l at y) (suc at) ys

take_behind : (l : List ℕ) (at : ℕ) (xs : List ℕ) → take (behind (length l) at (length xs)) (sets l at xs) ≡ take (length l) (take at l ++ xs)
take_behind [] at xs = ap (take (behind 0 at (length xs))) (sets_none at xs) ∙ take-nil (behind 0 at (length xs))
take_behind (x ∷ l) (suc at) xs =
    let z : behind (suc (length l)) (suc at) (length xs) ≡ suc (behind (length l) at (length xs)) = omega arith in
    (λ i. take (z i) (sets_cons x l at xs i)) ∙ ap (λ (t : List ℕ). x ∷ t) (take_behind l at xs)
take_behind (x ∷ l) zero [] = let z : behind (suc (length l)) 0 0 ≡ 0 = omega arith in ap (λ (k : ℕ). take k (x ∷ l)) z
take_behind (x ∷ l) zero (y ∷ ys) =
    let z : behind (suc (length l)) 0 (suc (length ys)) ≡ suc (behind (length l) 0 (length ys)) = omega arith in
    (λ i. take (z i) (sets_cons y l 0 ys i)) ∙ ap (λ (t : List ℕ). y ∷ t) (take_behind l 0 ys)

-- all up to the place behind it
pub up_to : {l m : List ℕ} {at r : ℕ} {xs : List ℕ} → Put l at xs r m → take r m ≡ take (length l) (take at l ++ xs)
up_to {l} {m} {at} {r} {xs} a = (λ i. take (a.place i) (a.bytes i)) ∙ take_behind l at xs

sets_front : (l xs : List ℕ) → sets l 0 xs ≡ take (length l) xs ++ drop (length xs) l
sets_front [] xs = sets_none 0 xs ∙ sym (drop-nil (length xs))
sets_front (x ∷ l) [] = refl
sets_front (x ∷ l) (y ∷ ys) = sets_cons y l 0 ys ∙ ap (λ (t : List ℕ). y ∷ t) (sets_front l ys)

-- all that stands there, where it was put at the front
pub at_front : {l m : List ℕ} {r : ℕ} {xs : List ℕ} → Put l 0 xs r m → (r ≡ length (take (length l) xs)) × (m ≡ take (length l) xs ++ drop (length xs) l)
at_front {l} {m} {r} {xs} a = (omega (arith, a.place, length-take (length l) xs), a.bytes ∙ sets_front l xs)

-- and for which there is room
pub fits_front : {l m : List ℕ} {r : ℕ} {xs : List ℕ} → Put l 0 xs r m → length xs ≤ length l → m ≡ xs ++ drop (length xs) l
fits_front {l} {m} {r} {xs} a h = (at_front a).1 ∙ ap (λ (t : List ℕ). t ++ drop (length xs) l) (take_all (length l) xs h)
