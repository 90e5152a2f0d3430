-- A text is its parts with separators between them: a separator ends a part, and every other byte goes to the part that it stands
-- in. Each law is stated once, for any separator. Assumes nothing.
use Prim.Native.Nat.{ℕ, zero, suc, ◌+◌, ◌-◌, ◌≤◌, ◌<◌}
use mathlib.Core.Bool.{Bool, true, false, not, cond, ◌&&◌}
use mathlib.Core.List.{List, [], ◌∷◌, ◌++◌}
use mathlib.Core.Path.{◌≡◌, refl, sym, ap, ◌∙◌}
use native.Mathlib.Nat.{add-zero, add-suc}
use native.Mathlib.Omega.{arith}
use native.Mathlib.Numerals.{add-one}
use borrow.Author.Tests.{eqb-true, eq-eqb, ltb-true, ltb-false, lt-leb, le-leb}
use lib.Dec.{eqb, ltb}
use lib.ListN.{length, take, drop, get_or, length-drop, drop_of_length-le}
use lib.Seq.{drop-drop, drop-length, take_all}
use Rattle.std.specs.Prelude.{count_by, position, Some, None}
use Rattle.std.specs.Option.{unwrap_or}
use Rattle.std.specs.List.{position_or_len}
use Rattle.std.proofs.lemmas.List.Sums.{sum_by-cons}
use Rattle.laws.proofs.Bools.{never, and_left, and_right, and_true, by_test}
use Rattle.lines.specs.Parts.{tab, add_to, parts_of, fields_of, fields_within, field_at, joined, place_of, place_from, behind_tabs, same}

-- ---- parts

-- no separator stands in s
abbrev pub free : ℕ → List ℕ → Bool
free sep [] = true
free sep (b ∷ s) = not (eqb b sep) && free sep s

pub not_sep : (sep b : ℕ) (s : List ℕ) → free sep (b ∷ s) ≡ true → eqb b sep ≡ false
not_sep sep b s = by (eqb b sep)
  where
    by : (t : Bool) → not t && free sep s ≡ true → t ≡ false
    by true e = absurd (never e)
    by false e = refl

pub free_rest : (sep b : ℕ) (s : List ℕ) → free sep (b ∷ s) ≡ true → free sep s ≡ true
free_rest sep b s e = and_right (not (eqb b sep)) (free sep s) e

pub free_end : (sep : ℕ) (s : List ℕ) (b : ℕ) → free sep s ≡ true → eqb b sep ≡ false → free sep (s ++ (b ∷ [])) ≡ true
free_end sep [] b f e = ap (λ (t : Bool). not t && true) e
free_end sep (x ∷ s) b f e = and_true (and_left (not (eqb x sep)) (free sep s) f) (free_end sep s b (free_rest sep x s f) e)

-- the first part ends at the first separator
pub first_part : (sep : ℕ) (last : List (List ℕ)) (p s : List ℕ) → free sep p ≡ true → parts_of sep last (p ++ (sep ∷ s)) ≡ p ∷ parts_of sep last s
first_part sep last [] s f = ap (λ (t : Bool). cond t ([] ∷ parts_of sep last s) (add_to sep (parts_of sep last s))) (eq-eqb sep sep refl)
first_part sep last (b ∷ p) s f =
    ap (λ (t : Bool). cond t ([] ∷ parts_of sep last (p ++ (sep ∷ s))) (add_to b (parts_of sep last (p ++ (sep ∷ s))))) (not_sep sep b p f)
    ∙ ap (add_to b) (first_part sep last p s (free_rest sep b p f))

-- with no separator all goes to the part that stands behind
only_part : (sep : ℕ) (last : List (List ℕ)) (b : ℕ) (p : List ℕ) → free sep (b ∷ p) ≡ true → parts_of sep last (b ∷ p) ≡ add_to b (parts_of sep last p)
only_part sep last b p f = ap (λ (t : Bool). cond t ([] ∷ parts_of sep last p) (add_to b (parts_of sep last p))) (not_sep sep b p f)

pub one_field : (s : List ℕ) → free tab s ≡ true → fields_of s ≡ s ∷ []
one_field [] f = refl
one_field (b ∷ s) f = only_part tab ([] ∷ []) b s f ∙ ap (add_to b) (one_field s (free_rest tab b s f))

pub one_line : (sep b : ℕ) (s : List ℕ) → free sep (b ∷ s) ≡ true → parts_of sep [] (b ∷ s) ≡ (b ∷ s) ∷ []
one_line sep b [] f = only_part sep [] b [] f
one_line sep b (c ∷ s) f = only_part sep [] b (c ∷ s) f ∙ ap (add_to b) (one_line sep c s (free_rest sep b (c ∷ s) f))

-- a line has a first field
pub on_fields {ℓ} : (P : List (List ℕ) → Type ℓ) → ((p : List ℕ) (ps : List (List ℕ)) → P (p ∷ ps)) → (s : List ℕ) → P (fields_of s)
on_fields P g [] = g [] []
on_fields P g (b ∷ s) = by (eqb b tab) (on_fields (λ ps. P (add_to b ps)) (λ p ps. g (b ∷ p) ps) s)
  where
    by : (t : Bool) → P (add_to b (fields_of s)) → P (cond t ([] ∷ fields_of s) (add_to b (fields_of s)))
    by true r = g [] (fields_of s)
    by false r = r

-- the fields joined again are the line
pub fields_joined : (s : List ℕ) → joined tab (fields_of s) ≡ s
fields_joined [] = refl
fields_joined (b ∷ s) = by (eqb b tab) refl (fields_joined s)
  where
    inner : (ps : List (List ℕ)) → joined tab (add_to b ps) ≡ b ∷ joined tab ps
    inner [] = refl
    inner (p ∷ []) = refl
    inner (p ∷ q ∷ ps) = refl

    by : (t : Bool) → eqb b tab ≡ t → joined tab (fields_of s) ≡ s → joined tab (cond t ([] ∷ fields_of s) (add_to b (fields_of s))) ≡ b ∷ s
    by true e r = on_fields (λ ps. joined tab ([] ∷ ps) ≡ tab ∷ joined tab ps) (λ p ps. refl) s ∙ (λ i. sym (eqb-true b tab e) i ∷ r i)
    by false e r = inner (fields_of s) ∙ ap (λ (l : List ℕ). b ∷ l) r

-- ---- places

pub place_le : (b : ℕ) (s : List ℕ) → place_of b s ≤ length s
place_le b [] = omega arith
place_le b (x ∷ s) = by_test (λ (k : ℕ). k ≤ suc (length s)) (eqb x b) (λ e. omega arith) (λ e. omega (arith, place_le b s))

pub front_free : (b : ℕ) (s : List ℕ) → free b (take (place_of b s) s) ≡ true
front_free b [] = refl
front_free b (x ∷ s) = by (eqb x b) refl (front_free b s)
  where
    by : (t : Bool) → eqb x b ≡ t → free b (take (place_of b s) s) ≡ true → free b (take (cond t 0 (suc (place_of b s))) (x ∷ s)) ≡ true
    by true e r = refl
    by false e r = ap (λ (u : Bool). not u && free b (take (place_of b s) s)) e ∙ r

-- what stands there, if anything does
pub at_place : (b : ℕ) (s : List ℕ) → place_of b s < length s → s ≡ take (place_of b s) s ++ (b ∷ drop (suc (place_of b s)) s)
at_place b [] h = absurd (omega arith)
at_place b (x ∷ s) h = by (eqb x b) refl (at_place b s) h
  where
    by : (t : Bool) → eqb x b ≡ t → (place_of b s < length s → s ≡ take (place_of b s) s ++ (b ∷ drop (suc (place_of b s)) s)) → cond t 0 (suc (place_of b s)) < suc (length s) →
        x ∷ s ≡ take (cond t 0 (suc (place_of b s))) (x ∷ s) ++ (b ∷ drop (suc (cond t 0 (suc (place_of b s)))) (x ∷ s))
    by true e r h = ap (λ (y : ℕ). y ∷ s) (eqb-true x b e)
    by false e r h = ap (λ (l : List ℕ). x ∷ l) (r (omega arith))

pub nowhere : (b : ℕ) (s : List ℕ) → length s ≤ place_of b s → free b s ≡ true
nowhere b [] h = refl
nowhere b (x ∷ s) h = by (eqb x b) (nowhere b s) h
  where
    by : (t : Bool) → (length s ≤ place_of b s → free b s ≡ true) → suc (length s) ≤ cond t 0 (suc (place_of b s)) → not t && free b s ≡ true
    by true r h = absurd (omega arith)
    by false r h = r (omega arith)

-- std counts the bytes in front of it
passed : (b : ℕ) (s : List ℕ) → position_or_len (λ (x : ℕ). eqb x b) s ≡ place_of b s
passed b [] = refl
passed b (x ∷ s) = by (eqb x b) (passed b s)
  where
    by : (t : Bool) → position_or_len (λ (x : ℕ). eqb x b) s ≡ place_of b s → cond (not t) (1 + position_or_len (λ (x : ℕ). eqb x b) s) 0 ≡ cond t 0 (suc (place_of b s))
    by true e = refl
    by false e = omega (arith, e)

pub place_is : (b : ℕ) (s : List ℕ) → unwrap_or (position (λ (x : ℕ). eqb x b) s) (length s) ≡ place_of b s
place_is b s = by (ltb (position_or_len (λ (x : ℕ). eqb x b) s) (length s)) refl ∙ passed b s
  where
    by : (t : Bool) → ltb (position_or_len (λ (x : ℕ). eqb x b) s) (length s) ≡ t → unwrap_or (cond t (Some (position_or_len (λ (x : ℕ). eqb x b) s)) None) (length s) ≡ position_or_len (λ (x : ℕ). eqb x b) s
    by true e = refl
    by false e = omega (arith, ltb-false (position_or_len (λ (x : ℕ). eqb x b) s) (length s) e, passed b s, place_le b s)

pub past : (b : ℕ) (s : List ℕ) (i : ℕ) → length s ≤ i → place_from b s i ≡ i
past b s i h = ap (λ (l : List ℕ). i + place_of b l) (drop_of_length-le s h) ∙ add-zero i

pub place_within : (b : ℕ) (s : List ℕ) (i : ℕ) → i ≤ length s → place_from b s i ≤ length s
place_within b s i h = omega (arith, place_le b (drop i s), length-drop i s)

-- ---- fields by their number

-- how many there are
added : (b : ℕ) (s : List ℕ) → length (add_to b (fields_of s)) ≡ length (fields_of s)
added b s = on_fields (λ ps. length (add_to b ps) ≡ length ps) (λ p ps. refl) s

pub counted : (s : List ℕ) → length (fields_of s) ≡ count_by (λ (b : ℕ). eqb b tab) s + 1
counted [] = refl
counted (b ∷ s) = by (eqb b tab) (counted s) ∙ ap (λ (n : ℕ). n + 1) (sym (sum_by-cons (λ (x : ℕ). cond (eqb x tab) 1 0) b s))
  where
    by : (t : Bool) → length (fields_of s) ≡ count_by (λ (x : ℕ). eqb x tab) s + 1 → length (cond t ([] ∷ fields_of s) (add_to b (fields_of s))) ≡ (cond t 1 0 + count_by (λ (x : ℕ). eqb x tab) s) + 1
    by true e = omega (arith, e)
    by false e = added b s ∙ e ∙ omega arith

pub within : (longest : ℕ) (s : List ℕ) → length s ≤ longest → fields_within longest s ≡ fields_of s
within longest s h = ap (λ (t : Bool). cond t (fields_of s) []) (le-leb (length s) longest h)

pub too_long : (longest : ℕ) (s : List ℕ) → longest < length s → fields_within longest s ≡ []
too_long longest s h = ap (λ (t : Bool). cond t (fields_of s) []) (lt-leb (length s) longest h)

fields_cut : (s : List ℕ) → place_of tab s < length s → fields_of s ≡ take (place_of tab s) s ∷ fields_of (drop (suc (place_of tab s)) s)
fields_cut s h = ap fields_of (at_place tab s h) ∙ first_part tab ([] ∷ []) (take (place_of tab s) s) (drop (suc (place_of tab s)) s) (front_free tab s)

-- where field k stands
pub field_front : (k : ℕ) (s : List ℕ) → field_at s k ≡ take (place_of tab (behind_tabs k s)) (behind_tabs k s)
field_front zero s = by (ltb (place_of tab s) (length s)) refl
  where
    by : (t : Bool) → ltb (place_of tab s) (length s) ≡ t → field_at s 0 ≡ take (place_of tab s) s
    by true e = ap (λ (ps : List (List ℕ)). get_or ps 0 []) (fields_cut s (ltb-true (place_of tab s) (length s) e))
    by false e =
        let h : length s ≤ place_of tab s = ltb-false (place_of tab s) (length s) e in
        ap (λ (ps : List (List ℕ)). get_or ps 0 []) (one_field s (nowhere tab s h)) ∙ sym (take_all (place_of tab s) s h)
field_front (suc k) s = by (ltb (place_of tab s) (length s)) refl (field_front k (drop (suc (place_of tab s)) s))
  where
    none : (k : ℕ) → ◌≡◌ {A = List ℕ} [] (take (place_of tab (behind_tabs k [])) (behind_tabs k []))
    none zero = refl
    none (suc k) = none k

    by : (t : Bool) → ltb (place_of tab s) (length s) ≡ t → field_at (drop (suc (place_of tab s)) s) k ≡ take (place_of tab (behind_tabs k (drop (suc (place_of tab s)) s))) (behind_tabs k (drop (suc (place_of tab s)) s)) →
        field_at s (suc k) ≡ take (place_of tab (behind_tabs k (drop (suc (place_of tab s)) s))) (behind_tabs k (drop (suc (place_of tab s)) s))
    by true e rest = ap (λ (ps : List (List ℕ)). get_or ps (suc k) []) (fields_cut s (ltb-true (place_of tab s) (length s) e)) ∙ rest
    by false e rest =
        let h : length s ≤ place_of tab s = ltb-false (place_of tab s) (length s) e in
        let gone : [] ≡ drop (suc (place_of tab s)) s = sym (drop_of_length-le s {i = suc (place_of tab s)} (omega arith)) in
        ap (λ (ps : List (List ℕ)). get_or ps (suc k) []) (one_field s (nowhere tab s h))
        ∙ none k
        ∙ ap (λ (l : List ℕ). take (place_of tab (behind_tabs k l)) (behind_tabs k l)) gone

pub field_is : (s : List ℕ) (k from to : ℕ) → drop from s ≡ behind_tabs k s → to ≡ place_from tab s from → take (to - from) (drop from s) ≡ field_at s k
field_is s k from to e p =
    let z : to - from ≡ place_of tab (drop from s) = omega (arith, p) in
    ap (λ (n : ℕ). take n (drop from s)) z ∙ ap (λ (l : List ℕ). take (place_of tab l) l) e ∙ sym (field_front k s)

-- behind one tab more
pub behind_suc : (k : ℕ) (s : List ℕ) → behind_tabs (suc k) s ≡ drop (suc (place_of tab (behind_tabs k s))) (behind_tabs k s)
behind_suc zero s = refl
behind_suc (suc k) s = behind_suc k (drop (suc (place_of tab s)) s)

-- nothing stands behind the end
behind_end : (j : ℕ) (s : List ℕ) → behind_tabs j s ≡ [] → (m : ℕ) → behind_tabs (j + m) s ≡ []
behind_end j s e zero = ap (λ (k : ℕ). behind_tabs k s) (add-zero j) ∙ e
behind_end j s e (suc m) =
    ap (λ (k : ℕ). behind_tabs k s) (add-suc j m)
    ∙ behind_suc (j + m) s
    ∙ ap (λ (l : List ℕ). drop (suc (place_of tab l)) l) (behind_end j s e m)

-- the walk to field k: it begins behind its j-th tab, or there is no such field
module _ (s : List ℕ) (at j i : ℕ) (h : at ≤ length s) (inv : drop at s ≡ behind_tabs j s) (e : i ≡ place_from tab s at) where
  behind_next : behind_tabs (suc j) s ≡ drop (suc i) s
  behind_next =
      behind_suc j s
      ∙ (λ n. drop (suc (place_of tab (sym inv n))) (sym inv n))
      ∙ drop-drop (suc (place_of tab (drop at s))) at s
      ∙ (let z : at + suc (place_of tab (drop at s)) ≡ suc i = omega (arith, e) in ap (λ (n : ℕ). drop n s) z)

  pub next_field : drop (i + 1) s ≡ behind_tabs (j + 1) s
  next_field = ap (λ (n : ℕ). drop n s) (add-one i) ∙ sym behind_next ∙ ap (λ (n : ℕ). behind_tabs n s) (sym (add-one j))

  -- with no tab left every later field is nothing
  pub no_field : length s ≤ i → (k : ℕ) → j < k → drop (length s) s ≡ behind_tabs k s
  no_field l k m =
      let none : behind_tabs (suc j) s ≡ [] = behind_next ∙ drop_of_length-le s {i = suc i} (omega arith) in
      let z : suc j + (k - suc j) ≡ k = omega arith in
      drop-length s ∙ sym (behind_end (suc j) s none (k - suc j)) ∙ ap (λ (n : ℕ). behind_tabs n s) z

-- ---- the same bytes

pub same_is : (s t : List ℕ) → same s t ≡ true → s ≡ t
same_is [] [] e = refl
same_is [] (y ∷ t) e = absurd (never e)
same_is (x ∷ s) [] e = absurd (never e)
same_is (x ∷ s) (y ∷ t) e = λ i. eqb-true x y (and_left (eqb x y) (same s t) e) i ∷ same_is s t (and_right (eqb x y) (same s t) e) i

pub same_self : (s : List ℕ) → same s s ≡ true
same_self [] = refl
same_self (x ∷ s) = rw (eq-eqb x x refl) (same_self s)

pub same_other : (s t : List ℕ) → (length s ≡ length t → ⊥) → same s t ≡ false
same_other s t f = by (same s t) refl
  where
    by : (u : Bool) → same s t ≡ u → u ≡ false
    by true e = absurd (f (ap length (same_is s t e)))
    by false e = refl
