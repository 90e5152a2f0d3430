-- Submits and last words of a key are counted along the history, and as they alternate the counts differ by one or not at all.
-- Assumes nothing.
use Prim.Native.Nat.{ℕ, ◌+◌}
use mathlib.Core.Path.{◌≡◌, refl, sym, ap}
use mathlib.Core.Bool.{Bool, true, false, cond, ◌&&◌}
use mathlib.Core.List.{List, [], ◌∷◌}
use native.Mathlib.Omega.{arith}
use Rattle.laws.specs.Sets.{bit}
use Rattle.laws.proofs.Bools.{never}
use Rattle.open_frame.specs.declared.Head.{Head}
use Rattle.port_rows.specs.Finds.{is_of}
use Rattle.port_rows.specs.declared.Answer.{Answer}
use Rattle.port_rows.specs.declared.Key.{Key}
use Rattle.port.specs.History.{Entry, is_last}
use Rattle.port_history.specs.Standing.{is_setup, accepts, ends, speaks, submits, last_words, Standing, gone, there, wrong, agrees, accepted, ended, spoken, standing}
use Rattle.port_history.proofs.Entries.{last_is_not_first}

-- ---- the counts

abbrev pub one : Standing → ℕ
one gone = 0
one (there slot head) = 1
one wrong = 0

pub there_not_wrong : {slot : ℕ} {head : Head} → there slot head ≡ wrong → ⊥
there_not_wrong e = let z : ◌≡◌ {A = ℕ} 0 1 = cc in omega arith

pub gone_not_wrong : gone ≡ wrong → ⊥
gone_not_wrong e = let z : ◌≡◌ {A = ℕ} 0 1 = cc in omega arith

-- one entry more: whether it is a setup, a last word, Submitted, another answer that names the key
count_step : (a : Answer) (s l f n : Bool) (v : Standing) (i j : ℕ) → (l ≡ true → f ≡ false) → ((v ≡ wrong → ⊥) → i ≡ j + one v)
    → (cond s gone (cond l (ended a v) (cond f (accepted a v) (cond n (spoken a v) v))) ≡ wrong → ⊥)
    → cond s 0 (bit f + i) ≡ cond s 0 (bit l + j) + one (cond s gone (cond l (ended a v) (cond f (accepted a v) (cond n (spoken a v) v))))
count_step a true l f n v i j apart before fine = refl
count_step a false true true n v i j apart before fine = absurd (never (sym (apart refl)))
count_step a false true false n gone i j apart before fine = absurd (fine refl)
count_step a false true false n (there slot head) i j apart before fine = by (agrees a slot head) fine
  where
    by : (t : Bool) → (cond t gone wrong ≡ wrong → ⊥) → 0 + i ≡ (1 + j) + one (cond t gone wrong)
    by true ok = let were = before there_not_wrong in omega (arith, were)
    by false ok = absurd (ok refl)
count_step a false true false n wrong i j apart before fine = absurd (fine refl)
count_step a false false true n gone i j apart before fine = let were = before gone_not_wrong in omega (arith, were)
count_step a false false true n (there slot head) i j apart before fine = absurd (fine refl)
count_step a false false true n wrong i j apart before fine = absurd (fine refl)
count_step a false false false true gone i j apart before fine = absurd (fine refl)
count_step a false false false true (there slot head) i j apart before fine = by (agrees a slot head) fine
  where
    by : (t : Bool) → (cond t (there slot head) wrong ≡ wrong → ⊥) → 0 + i ≡ (0 + j) + one (cond t (there slot head) wrong)
    by true ok = let were = before there_not_wrong in omega (arith, were)
    by false ok = absurd (ok refl)
count_step a false false false true wrong i j apart before fine = absurd (fine refl)
count_step a false false false false v i j apart before fine = let were = before fine in omega (arith, were)

apart_words : (x : Key) (e : Entry) → ends x e ≡ true → accepts x e ≡ false
apart_words x e l = by (is_last e.answer.word) refl l
  where
    by : (t : Bool) → is_last e.answer.word ≡ t → t && is_of e.answer.frame.head x ≡ true → accepts x e ≡ false
    by true last k = ap (λ (u : Bool). u && is_of e.answer.frame.head x) (last_is_not_first e.answer.word last)
    by false last k = absurd (never k)

-- submits and last words of a key that alternate differ by one where a request is there, and by none where it is gone
pub counted : (x : Key) (h : List Entry) → (standing x h ≡ wrong → ⊥) → submits x h ≡ last_words x h + one (standing x h)
counted x [] fine = refl
counted x (e ∷ h) fine = count_step e.answer (is_setup e.call) (ends x e) (accepts x e) (speaks x e) (standing x h) (submits x h) (last_words x h) (apart_words x e) (counted x h) fine
