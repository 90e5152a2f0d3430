-- Fields that are written one behind the other leave the layout's bytes, since each store keeps what stands before it; and a
-- layout whose fields were read one behind the other is the part that they were read from. Assumes nothing.
use mathlib.Core.Path.{◌≡◌, refl, sym, ap, ◌∙◌}
use mathlib.Core.Bool.{Bool, true, ◌&&◌}
use mathlib.Core.List.{List, [], ◌∷◌, ◌++◌, append_assoc, append-nil}
use Prim.Native.Nat.{ℕ, ◌+◌, ◌≤◌}
use native.Mathlib.Nat.{add_assoc, add-zero}
use native.Mathlib.Omega.{arith}
use lib.ListN.{length, take, drop, length-append, length-drop, take-append-drop, drop_of_length-le}
use lib.Seq.{take_at, take-add, drop-append-add, drop-drop, length-take-le}
use lib.Dec.{leb}
use borrow.Author.Tests.{leb-true}
use Rattle.laws.proofs.Bools.{and_left, and_right}
use Rattle.wire.specs.Be.{be_bytes, put_be}
use Rattle.wire.specs.Fields.{Field, lay_bytes, size}
use Rattle.wire.proofs.Laws.{length-be_bytes, fit, put_in}

-- one store for each field, from at on
abbrev pub puts : List Field → ℕ → List ℕ → List ℕ
puts [] at l = l
puts (f ∷ fs) at l = puts fs (at + f.width) (put_be l at f.width f.value)

-- a store after others: of a value, and of what a call computed
pub after : (at n v : ℕ) {l m l' : List ℕ} → l ≡ m → l' ≡ put_be l at n v → l' ≡ put_be m at n v
after at n v e p = p ∙ (λ i. put_be (e i) at n v)

pub computed : (at n : ℕ) {v w : ℕ} {l m l' : List ℕ} → v ≡ w → l ≡ m → l' ≡ put_be l at n v → l' ≡ put_be m at n w
computed at n d e p = p ∙ (λ i. put_be (e i) at n (d i))

-- no field is wider than eight bytes
abbrev pub narrow : List Field → Bool
narrow [] = true
narrow (f ∷ fs) = leb f.width 8 && narrow fs

pub puts_are : (fs : List Field) → narrow fs ≡ true → (at : ℕ) (l : List ℕ) → at + size fs ≤ length l → puts fs at l ≡ take at l ++ (lay_bytes fs ++ drop (at + size fs) l)
puts_are [] n at l h = sym (rw (add-zero, take-append-drop))
puts_are (f ∷ fs) n at l h =
    let w = f.width in
    let k = size fs in
    let p = take at l ++ be_bytes w f.value in
    let q = drop (at + w) l in
    let long : length p ≡ at + w = length-append (take at l) (be_bytes w f.value) ∙ omega (arith, length-take-le at l (omega arith), length-be_bytes w f.value) in
    let one : put_be l at w f.value ≡ p ++ q = sym (put_in l at w f.value (fit l at w (leb-true w 8 (and_left (leb w 8) _ n)) (omega arith))) ∙ sym (append_assoc (take at l) (be_bytes w f.value) q) in
    let room : at + w + k ≤ length (p ++ q) = omega (arith, length-append p q, length-drop (at + w) l) in
    let behind : drop (at + w + k) (p ++ q) ≡ drop (at + (w + k)) l =
    ap (λ (n : ℕ). drop (n + k) (p ++ q)) (sym long) ∙ drop-append-add p q k ∙ drop-drop k (at + w) l ∙ ap (λ (n : ℕ). drop n l) (add_assoc at w k) in
    ap (puts fs (at + w)) one
    ∙ puts_are fs (and_right (leb w 8) _ n) (at + w) (p ++ q) room
    ∙ (λ i. take_at p q (at + w) long i ++ (lay_bytes fs ++ behind i))
    ∙ simp append_assoc

-- and where the fields fill the list, nothing else is left
pub puts_fill : (fs : List Field) → narrow fs ≡ true → (l : List ℕ) → length l ≡ size fs → puts fs 0 l ≡ lay_bytes fs
puts_fill fs n l h =
    puts_are fs n 0 l (omega arith)
    ∙ ap (λ (z : List ℕ). lay_bytes fs ++ z) (drop_of_length-le l {i = 0 + size fs} (omega arith))
    ∙ append-nil (lay_bytes fs)

-- each field holds what stands at its place of s, the first at at
infixr 10 ◌then◌
pub data Holds (s : List ℕ) : ℕ → List Field → Type 0 where
  nothing : {at : ℕ} → Holds s at []
  ◌then◌ : {at : ℕ} {f : Field} {fs : List Field} → be_bytes f.width f.value ≡ take f.width (drop at s) → Holds s (at + f.width) fs → Holds s at (f ∷ fs)

pub holds_are : {s : List ℕ} {at : ℕ} {fs : List Field} → Holds s at fs → lay_bytes fs ≡ take (size fs) (drop at s)
holds_are nothing = refl
holds_are {s} {at} (◌then◌ {f = f} {fs = fs} e h) =
    (λ i. e i ++ holds_are h i)
    ∙ ap (λ (l : List ℕ). take f.width (drop at s) ++ take (size fs) l) (sym (drop-drop f.width at s))
    ∙ sym (take-add f.width (size fs) (drop at s))
