-- The reader stands behind some fields of the line: each is a number, and a tab stands behind it. A turn passes one field more. Where no
-- tab is left there are too few fields, and where a field is no number the front has one that is none. Assumes nothing.
use Rattle.std.specs.Prelude.{None, Option, Some}
use Prim.Native.Nat.{ℕ, zero, suc, ◌+◌, ◌-◌, ◌≤◌, ◌<◌}
use mathlib.Core.Bool.{Bool, true, false, ◌&&◌}
use mathlib.Core.List.{List, [], ◌∷◌, ◌++◌, append_assoc, map-append}
use mathlib.Core.Path.{◌≡◌, refl, sym, ap, ◌∙◌}
use native.Mathlib.Numerals.{add-one}
use native.Mathlib.Omega.{arith}
use borrow.Author.Tests.{lt-ltb, le-ltb}
use lib.Dec.{ltb}
use lib.ListN.{length, take, drop, set, length-append, length-drop, length-set}
use lib.Seq.{take-suc-set, take_all, take_at, drop-drop}
use Rattle.laws.proofs.Bools.{and_left, and_right, and_true, and_false, by_test}
use Rattle.lines.specs.Numbers.{is_number, value_from, read_number}
use Rattle.lines.specs.Parts.{tab, fields_of, place_of, place_from}
use Rattle.lines.proofs.Parts.{on_fields, one_field, first_part, front_free, at_place, nowhere, place_within}
use Rattle.saved.specs.Saved.{largest, all_numbers, front, numbers_of}
use Rattle.saved.specs.Walk.{has_columns, Columned}

-- ---- fields that are numbers

all_append : (ps qs : List (List ℕ)) → all_numbers ps ≡ true → all_numbers qs ≡ true → all_numbers (ps ++ qs) ≡ true
all_append [] qs a b = b
all_append (p ∷ ps) qs a b =
    and_true (and_left (is_number largest p) (all_numbers ps) a) (all_append ps qs (and_right (is_number largest p) (all_numbers ps) a) b)

-- one that is none, among the first n
one_not : (n : ℕ) (ps : List (List ℕ)) (f : List ℕ) (fs : List (List ℕ)) → length ps < n → is_number largest f ≡ false →
    all_numbers (take n (ps ++ (f ∷ fs))) ≡ false
one_not zero ps f fs h e = absurd (omega arith)
one_not (suc n) [] f fs h e = ap (λ (t : Bool). t && all_numbers (take n fs)) e
one_not (suc n) (p ∷ ps) f fs h e = and_false (is_number largest p) (one_not n ps f fs (omega arith) e)

value_is : (s : List ℕ) (n : ℕ) → read_number largest s ≡ Some n → (is_number largest s ≡ true) × (n ≡ value_from 0 s)
unfolding read_number
value_is s n =
    by_test (λ (x : Option ℕ). x ≡ Some n → (is_number largest s ≡ true) × (n ≡ value_from 0 s)) (is_number largest s)
    (λ t e. (t, cc))
    (λ t e. let z : ◌≡◌ {A = ℕ} 0 1 = cc in absurd (omega arith))

not_is : (s : List ℕ) → read_number largest s ≡ None → is_number largest s ≡ false
unfolding read_number
not_is s =
    by_test (λ (x : Option ℕ). x ≡ None → is_number largest s ≡ false) (is_number largest s)
    (λ t e. let z : ◌≡◌ {A = ℕ} 0 1 = cc in absurd (omega arith))
    (λ t e. t)

-- ---- the walk

-- what holds at each turn: i fields are passed, their numbers stand in front, and the rest of the line begins at a place
pub record Walked (line numbers : List ℕ) (at i : ℕ) : Type 0 where
  pub passed : List (List ℕ)
  pub many : length passed ≡ i
  pub few : i ≤ 10
  pub within : at ≤ length line
  pub split : fields_of line ≡ passed ++ fields_of (drop at line)
  pub good : all_numbers passed ≡ true
  pub values : take i numbers ≡ numbers_of passed
  pub size : length numbers ≡ 10

pub walk_first : (line numbers : List ℕ) → length numbers ≡ 10 → Walked line numbers 0 0
walk_first line numbers h =
    record { passed = []; many = refl; few = omega arith; within = omega arith; split = refl; good = refl; values = refl; size = h }

some_field : (s : List ℕ) → 0 < length (fields_of s)
some_field s = on_fields (λ ps. 0 < length ps) (λ p ps. omega arith) s

fields_cut : (s : List ℕ) → place_of tab s < length s → fields_of s ≡ take (place_of tab s) s ∷ fields_of (drop (suc (place_of tab s)) s)
fields_cut s h = ap fields_of (at_place tab s h) ∙ first_part tab ([] ∷ []) (take (place_of tab s) s) (drop (suc (place_of tab s)) s) (front_free tab s)

module _ {line numbers : List ℕ} {at i : ℕ} (w : Walked line numbers at i) where
  abbrev left : List ℕ
  left = drop at line

  counted : length (fields_of line) ≡ i + length (fields_of left)
  counted = ap length w.split ∙ length-append w.passed (fields_of left) ∙ ap (λ (n : ℕ). n + length (fields_of left)) w.many

  module _ {end : ℕ} (e : end ≡ place_from tab line at) where
    pub end_inside : end ≤ length line
    end_inside = omega (arith, e, place_within tab line at w.within)

    pub end_behind : at ≤ end
    end_behind = omega (arith, e)

    -- no tab is left
    pub walk_short : end ≡ length line → i < 10 → has_columns line ≡ false
    walk_short z h =
        let last : length left ≤ place_of tab left = omega (arith, e, length-drop at line) in
        let one : length (fields_of left) ≡ 1 = ap length (one_field left (nowhere tab left last)) in
        let few : length (fields_of line) ≤ 10 = omega (arith, counted) in
        rw (le-ltb 10 (length (fields_of line)) few)

    -- the field up to the next tab
    abbrev field : List ℕ
    field = take (end - at) left

    split_on : (end ≡ length line → ⊥) → fields_of line ≡ w.passed ++ (field ∷ fields_of (drop (end + 1) line))
    split_on h =
        let there : place_of tab left < length left = omega (arith, e, length-drop at line, end_inside, h) in
        let far : place_of tab left ≡ end - at = omega (arith, e) in
        let next : at + suc (place_of tab left) ≡ end + 1 = omega (arith, e) in
        let behind : drop (suc (place_of tab left)) left ≡ drop (end + 1) line = drop-drop (suc (place_of tab left)) at line ∙ ap (λ (k : ℕ). drop k line) next in
        w.split ∙ ap (λ (ps : List (List ℕ)). w.passed ++ ps) (fields_cut left there ∙ (λ n. take (far n) left ∷ fields_of (behind n)))

    -- it is no number
    pub walk_other : (end ≡ length line → ⊥) → i < 10 → read_number largest field ≡ None → has_columns line ≡ false
    walk_other h l o =
        let here : length w.passed < 10 = omega (arith, w.many) in
        let none : all_numbers (front line) ≡ false = ap (λ (ps : List (List ℕ)). all_numbers (take 10 ps)) (split_on h) ∙ one_not 10 w.passed field _ here (not_is field o) in
        and_false (ltb 10 (length (fields_of line))) none

    -- it is a number
    pub walk_on : {n : ℕ} → (end ≡ length line → ⊥) → i < 10 → read_number largest field ≡ Some n → Walked line (set numbers i n) (end + 1) (i + 1)
    walk_on {n} h l v =
        let room : i < length numbers = omega (arith, w.size) in
        record {
          passed = w.passed ++ (field ∷ []);
          many = length-append w.passed (field ∷ []) ∙ ap (λ (k : ℕ). k + 1) w.many;
          few = omega arith;
          within = omega (arith, end_inside, h);
          split = split_on h ∙ rw append_assoc;
          good = all_append w.passed (field ∷ []) w.good (and_true (value_is field n v).0 refl);
          values = rw (add-one i, take-suc-set numbers i n room, map-append (value_from 0) w.passed (field ∷ []), w.values, (value_is field n v).1);
          size = length-set numbers i n ∙ w.size;
        }

  -- all ten are passed
  pub walk_end : 10 ≤ i → Columned line (record { numbers = numbers; next = at })
  walk_end h =
      let ten : length w.passed ≡ 10 = omega (arith, w.many, w.few) in
      let first : front line ≡ w.passed = ap (take 10) w.split ∙ take_at w.passed (fields_of left) 10 ten in
      let more : 10 < length (fields_of line) = omega (arith, counted, some_field left) in
      record {
        there = and_true (lt-ltb 10 (length (fields_of line)) more) (ap all_numbers first ∙ w.good);
        numbers = sym (take_all i numbers (omega (arith, w.size))) ∙ w.values ∙ ap numbers_of (sym first);
        within = w.within;
        rest = w.split ∙ ap (λ (fs : List (List ℕ)). fs ++ fields_of (drop at line)) (sym first);
      }
