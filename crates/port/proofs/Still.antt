-- A call leaves the records before and behind its walk as they were: unless it changes all, it stores one record, at the place that
-- its answer names, and no timer; and one that frees all leaves blank ones. Assumes nothing.
use Rattle.std.specs.Prelude.{Option, Some, None, is_some}
use Prim.Native.Nat.{ℕ, suc, ◌<◌, ◌≤◌}
use mathlib.Core.Path.{◌≡◌, refl, sym, ap, ◌∙◌}
use mathlib.Core.List.{List}
use mathlib.Core.Bool.{Bool, true, false, not, cond, ◌&&◌, ◌||◌}
use native.Mathlib.Omega.{arith}
use lib.Dec.{T, eqb, ltb, ltb→lt, nltb→le}
use borrow.Author.Tests.{ne_eqb}
use Rattle.laws.proofs.Bools.{never}
use Rattle.std.proofs.lemmas.List.{ext_get_or, get_or-replicate}
use Rattle.std.proofs.Math.ListN.{length-replicate}
use lib.ListN.{length, get_or, replicate}
use Rattle.laws.proofs.Maps.{map-length, map_at}
use Rattle.port_parts.specs.Parts.{blank}
use Rattle.port_parts.specs.declared.Request.{Request}
use Rattle.port_rows.specs.declared.Done.{Done}
use Rattle.port_rows.specs.Records.{spread, left_step}
use Rattle.port_rows.specs.declared.Loss.{Loss}
use Rattle.port.specs.Calls.{left_of}
use Rattle.port.specs.Walk.{changes_all, walk_from, walk_to}

-- a record that isn't the one stored, where nothing else changes
unchanged : (cleared same : Bool) (b e r : Request) (x : Option Loss) → cleared || is_some x ≡ false → same ≡ false → cond cleared b (cond same e (spread x r)) ≡ r
unchanged true same b e r x p q = absurd (never (sym p))
unchanged false same b e r (Some x) p q = absurd (never (sym p))
unchanged false true b e r None p q = absurd (never (sym q))
unchanged false false b e r None p q = refl

elsewhere : (d : Done) (r : Request) (i : ℕ) → changes_all d ≡ false → (i ≡ d.answer.slot → ⊥) → left_step r i d ≡ r
elsewhere d r i p off = unchanged d.cleared (eqb i d.answer.slot) _ _ r d.loss p (ne_eqb i d.answer.slot off)

-- the two ends of a walk, of which t says whether s is a place of the list
abbrev from_by : Bool → Bool → ℕ → ℕ
from_by all t s = cond all 0 (cond t s 32)

abbrev to_by : Bool → Bool → ℕ → ℕ
to_by all t s = cond all 32 (cond t (suc s) 32)

record Ends (all t : Bool) (s : ℕ) : Type 0 where
  ordered : from_by all t s ≤ to_by all t s
  within : to_by all t s ≤ 32
  before : (i : ℕ) → i < from_by all t s → (all ≡ false) × (i < s)
  behind : (i : ℕ) → to_by all t s ≤ i → i < 32 → (all ≡ false) × (i ≡ s → ⊥)

ends : (all t : Bool) (s : ℕ) → (T t → s < 32) → (T (not t) → 32 ≤ s) → Ends all t s
ends true t s lo hi = record { ordered = omega arith; within = omega arith; before = λ (i : ℕ) (h : i < 0). absurd (omega (arith, h)); behind = λ (i : ℕ) (h : 32 ≤ i) (k : i < 32). absurd (omega (arith, h, k)) }
ends false true s lo hi =
    let l : s < 32 = lo tt in
    record { ordered = omega arith; within = omega (arith, l); before = λ (i : ℕ) (h : i < s). (refl, h); behind = λ (i : ℕ) (h : suc s ≤ i) (k : i < 32). (refl, λ (z : i ≡ s). omega (arith, h, z)) }
ends false false s lo hi =
    let l : 32 ≤ s = hi tt in
    record { ordered = omega arith; within = omega arith; before = λ (i : ℕ) (h : i < 32). (refl, omega (arith, h, l)); behind = λ (i : ℕ) (h : 32 ≤ i) (k : i < 32). absurd (omega (arith, h, k)) }

ends_of : (d : Done) → Ends (changes_all d) (ltb d.answer.slot 32) d.answer.slot
ends_of d = ends (changes_all d) (ltb d.answer.slot 32) d.answer.slot (ltb→lt d.answer.slot 32) (nltb→le d.answer.slot 32)

pub ordered : (d : Done) → walk_from d ≤ walk_to d
unfolding walk_from walk_to
ordered d = (ends_of d).ordered

pub within : (d : Done) → walk_to d ≤ 32
unfolding walk_to
within d = (ends_of d).within

pub before : (d : Done) (r : Request) (i : ℕ) → i < walk_from d → left_step r i d ≡ r
unfolding walk_from
before d r i h = let e = (ends_of d).before i h in let l : i < d.answer.slot = e.1 in elsewhere d r i e.0 (λ (z : i ≡ d.answer.slot). omega (arith, l, z))

pub behind : (d : Done) (r : Request) (i : ℕ) → walk_to d ≤ i → i < 32 → left_step r i d ≡ r
unfolding walk_to
behind d r i h k = let e = (ends_of d).behind i h k in elsewhere d r i e.0 e.1

-- a call that frees all leaves blank records, as many as there are
pub freed : (l : List Request) (d : Done) → d.cleared ≡ true → length l ≡ 32 → replicate (length l) blank ≡ left_of l d
freed l d all long =
    ext_get_or blank (replicate (length l) blank) (left_of l d) (length-replicate (length l) blank ∙ sym (map-length blank (λ r i. left_step r i d) l 32))
    (λ i h.
    let here : i < length l = omega (arith, h, length-replicate (length l) blank) in
    get_or-replicate (length l) i blank blank here
    ∙ sym (map_at blank (λ r i. left_step r i d) l 32 i (omega arith) (omega arith) ∙ ap (λ (t : Bool). cond t blank (cond (eqb i d.answer.slot) d.entry (spread d.loss (get_or l i blank)))) all))
