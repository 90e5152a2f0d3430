-- The tags that the history says are there are those of the destination's SSP requests in the list: a tag is among them exactly where its key stands there, since the same
-- entries bring and take both. So there are none exactly if the list holds no SSP request to the destination. Assumes nothing.
use Prim.Native.Nat.{ℕ, ◌<◌}
use mathlib.Core.Path.{◌≡◌, refl, sym, ap, subst, ◌∙◌}
use mathlib.Core.Bool.{Bool, true, false, cond, ◌&&◌, ◌||◌}
use mathlib.Core.List.{List, [], ◌∷◌}
use lib.Dec.{eqb, ltb}
use lib.ListN.{get_or}
use borrow.Author.Tests.{eqb-true, eq-eqb}
use Rattle.laws.proofs.Bools.{never}
use Rattle.port_parts.specs.Parts.{blank, is_ssp}
use Rattle.port_rows.specs.declared.Answer.{Answer}
use Rattle.port_rows.specs.declared.Key.{Key}
use Rattle.port.specs.History.{State, Entry, is_last}
use Rattle.port_history.specs.Standing.{is_setup, is_submitted, Standing, gone, there, wrong, agrees, accepted, ended, spoken, standing}
use Rattle.port_history.specs.Turns.{Holds, Ssp}
use Rattle.port_history.specs.Times.{without, tags_of, is_none}
use Rattle.port_history.proofs.Entries.{words}
use Rattle.port_history.proofs.Runs.{Tells}

-- ---- lists of numbers

abbrev is_in : ℕ → List ℕ → Bool
is_in n [] = false
is_in n (m ∷ ms) = eqb m n || is_in n ms

taken_off : (n t : ℕ) (ms : List ℕ) → eqb t n ≡ true → is_in n (without t ms) ≡ false
taken_off n t [] same = refl
taken_off n t (m ∷ ms) same = by (eqb m t) refl (taken_off n t ms same)
  where
    by : (u : Bool) → eqb m t ≡ u → is_in n (without t ms) ≡ false → is_in n (cond u (without t ms) (m ∷ without t ms)) ≡ false
    by true e rest = rest
    by false e rest = let other : eqb m n ≡ false = ap (eqb m) (sym (eqb-true t n same)) ∙ e in λ i. other i || rest i

left_on : (n t : ℕ) (ms : List ℕ) → eqb t n ≡ false → is_in n (without t ms) ≡ is_in n ms
left_on n t [] other = refl
left_on n t (m ∷ ms) other = by (eqb m t) refl (left_on n t ms other)
  where
    by : (u : Bool) → eqb m t ≡ u → is_in n (without t ms) ≡ is_in n ms → is_in n (cond u (without t ms) (m ∷ without t ms)) ≡ eqb m n || is_in n ms
    by true e rest = rest ∙ ap (λ (u : Bool). u || is_in n ms) (sym (ap (λ (k : ℕ). eqb k n) (eqb-true m t e) ∙ other))
    by false e rest = ap (λ (u : Bool). eqb m n || u) rest

-- ---- a tag is among them exactly where its key stands there

abbrev is_there : Standing → Bool
is_there gone = false
is_there (there slot head) = true
is_there wrong = false

module _ (destination tag : ℕ) where
  abbrev x : Key
  x = record { destination = destination; protocol = 1; tag = tag }

  module _ (e : Entry) where
    abbrev a : Answer
    a = e.answer

    abbrev own : ℕ
    own = a.frame.head.tag

    -- by whether the entry is a setup, a last word, Submitted, names a slot, and is of the destination, of SSP, of the tag
    step : (s l f n d p : Bool) (v : Standing) (ts : List ℕ) → (q : Bool) → eqb own tag ≡ q → (l ≡ true → f ≡ false) → ((v ≡ wrong → ⊥) → is_in tag ts ≡ is_there v)
        → (cond s gone (cond (l && (d && (p && q))) (ended a v) (cond (f && (d && (p && q))) (accepted a v) (cond (n && (d && (p && q))) (spoken a v) v))) ≡ wrong → ⊥)
        → is_in tag (cond s [] (cond (l && (d && p)) (without own ts) (cond (f && (d && p)) (own ∷ ts) ts)))
        ≡ is_there (cond s gone (cond (l && (d && (p && q))) (ended a v) (cond (f && (d && (p && q))) (accepted a v) (cond (n && (d && (p && q))) (spoken a v) v))))
    step true l f n d p v ts q is apart before fine = refl
    step false true true n d p v ts q is apart before fine = absurd (never (sym (apart refl)))
    step false true false n true true gone ts true is apart before fine = absurd (fine refl)
    step false true false n true true (there slot head) ts true is apart before fine = by (agrees a slot head) fine
      where
        by : (t : Bool) → (cond t gone wrong ≡ wrong → ⊥) → is_in tag (without own ts) ≡ is_there (cond t gone wrong)
        by true ok = taken_off tag own ts is
        by false ok = absurd (ok refl)
    step false true false n true true wrong ts true is apart before fine = absurd (fine refl)
    step false true false true true true v ts false is apart before fine = left_on tag own ts is ∙ before fine
    step false true false false true true v ts false is apart before fine = left_on tag own ts is ∙ before fine
    step false true false true true false v ts q is apart before fine = before fine
    step false true false false true false v ts q is apart before fine = before fine
    step false true false true false p v ts q is apart before fine = before fine
    step false true false false false p v ts q is apart before fine = before fine
    step false false true n true true gone ts true is apart before fine = ap (λ (t : Bool). t || is_in tag ts) is
    step false false true n true true (there slot head) ts true is apart before fine = absurd (fine refl)
    step false false true n true true wrong ts true is apart before fine = absurd (fine refl)
    step false false true true true true v ts false is apart before fine = ap (λ (t : Bool). t || is_in tag ts) is ∙ before fine
    step false false true false true true v ts false is apart before fine = ap (λ (t : Bool). t || is_in tag ts) is ∙ before fine
    step false false true true true false v ts q is apart before fine = before fine
    step false false true false true false v ts q is apart before fine = before fine
    step false false true true false p v ts q is apart before fine = before fine
    step false false true false false p v ts q is apart before fine = before fine
    step false false false true true true gone ts true is apart before fine = absurd (fine refl)
    step false false false true true true (there slot head) ts true is apart before fine = by (agrees a slot head) fine
      where
        by : (t : Bool) → (cond t (there slot head) wrong ≡ wrong → ⊥) → is_in tag ts ≡ is_there (cond t (there slot head) wrong)
        by true ok = before ok
        by false ok = absurd (ok refl)
    step false false false true true true wrong ts true is apart before fine = absurd (fine refl)
    step false false false true true true v ts false is apart before fine = before fine
    step false false false true true false v ts q is apart before fine = before fine
    step false false false true false p v ts q is apart before fine = before fine
    step false false false false d p v ts q is apart before fine = before fine

  tags_are : (h : List Entry) → (standing x h ≡ wrong → ⊥) → is_in tag (tags_of destination h) ≡ is_there (standing x h)
  tags_are [] fine = refl
  tags_are (e ∷ h) fine = step e (is_setup e.call) (is_last e.answer.word) (is_submitted e.answer.word) (ltb e.answer.slot 32) (eqb e.answer.frame.head.destination destination) (is_ssp e.answer.frame.head) (standing x h) (tags_of destination h) (eqb e.answer.frame.head.tag tag) refl (λ l. ((words e.answer.word).0 l).0) (tags_are h) fine

-- ---- there are none exactly if no such request is there

module _ (h : List Entry) (s : State) (t : Tells h s) (destination : ℕ) where
  abbrev of : ℕ → Key
  of tag = record { destination = destination; protocol = 1; tag = tag }

  fine : (tag : ℕ) → standing (of tag) h ≡ wrong → ⊥
  fine tag e = subst (λ (v : Standing). Holds (of tag) v s.list) e (t.holds (of tag))

  -- one that is there has its tag among them
  pub some_there : (i : ℕ) → i < 32 → Ssp destination (get_or s.list i blank) → is_none (tags_of destination h) ≡ false
  some_there i below ssp = by (tags_of destination h) (tags_are destination tag h (fine tag) ∙ stands (standing (of tag) h) (t.holds (of tag)))
    where
      tag : ℕ
      tag = (get_or s.list i blank).head.tag

      stands : (v : Standing) → Holds (of tag) v s.list → is_there v ≡ true
      stands gone off = absurd (off i below (ssp.0, (ssp.1.1, (ssp.1.0, refl))))
      stands (there slot head) q = refl
      stands wrong q = absurd q

      by : (ts : List ℕ) → is_in tag ts ≡ true → is_none ts ≡ false
      by [] e = absurd (never e)
      by (u ∷ ts) e = refl

  pub none_there : ((i : ℕ) → i < 32 → Ssp destination (get_or s.list i blank) → ⊥) → is_none (tags_of destination h) ≡ true
  none_there off = by (tags_of destination h) refl
    where
      stands : (tag : ℕ) → is_there (standing (of tag) h) ≡ true → ⊥
      stands tag = at (standing (of tag) h) (t.holds (of tag))
        where
          at : (v : Standing) → Holds (of tag) v s.list → is_there v ≡ true → ⊥
          at gone q e = never e
          at (there slot head) q e = off slot q.0 (q.1.0.0, (q.1.0.1.1.0, q.1.0.1.0))
          at wrong q e = q

      by : (ts : List ℕ) → tags_of destination h ≡ ts → is_none ts ≡ true
      by [] e = refl
      by (u ∷ ts) e = absurd (stands u (sym (tags_are destination u h (fine u)) ∙ ap (is_in u) e ∙ ap (λ (t : Bool). t || is_in u ts) (eq-eqb u u refl)))
