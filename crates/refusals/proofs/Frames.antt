-- A frame's reader or writer has three ways out, which its two tests decide. Assumes nothing.
use Rattle.std.specs.Prelude.{Err, Ok, Result}
use mathlib.Core.Path.{◌≡◌, refl, sym, ◌∙◌}
use mathlib.Core.Bool.{Bool, true, false}
use mathlib.Core.Logic.{◌↔◌}
use mathlib.Core.List.{List}
use Prim.Native.Nat.{ℕ}
use native.Mathlib.Omega.{arith}
use Rattle.refusals.specs.Causes.{Cause, refuse, buffer_causes, Wrote, buffer_grounds, Decides, nil, cons}
use Rattle.refusals.specs.declared.Refusal.{Refusal}
use Rattle.refusals.specs.declared.Refusal.TheVariants.{Length, Unlisted}
use Rattle.laws.proofs.Tests.{unless}

module _ {A : Type 0} (refused : Refusal → A) (a : A) {s : Bool} where
  pub by_length : (t : Bool) → s ≡ false → refused Length ≡ refuse refused (buffer_causes s t) a
  by_length t p = sym (λ i. refuse refused (buffer_causes (p i) t) a)

  pub by_field : {t : Bool} → s ≡ true → t ≡ false → refused Unlisted ≡ refuse refused (buffer_causes s t) a
  by_field p q = sym (λ i. refuse refused (buffer_causes (p i) (q i)) a)

  pub by_none : {t : Bool} → s ≡ true → t ≡ true → a ≡ refuse refused (buffer_causes s t) a
  by_none p q = sym (λ i. refuse refused (buffer_causes (p i) (q i)) a)

-- an answer x that is no refusal shows that both tests were passed
pub passed : {A : Type 0} (refused : Refusal → A) (a x : A) → ((k : Refusal) → refused k ≡ x → ⊥) → (s t : Bool) → refuse refused (buffer_causes s t) a ≡ x → (s ≡ true) × ((t ≡ true) × (a ≡ x))
passed refused a x apart true true e = (refl, (refl, e))
passed refused a x apart true false e = absurd (apart Unlisted e)
passed refused a x apart false t e = absurd (apart Length e)

-- the three ways out of a writer's answer and bytes
module _ (new before : List ℕ) {s : Bool} where
  pub wrote_length : (t : Bool) → s ≡ false → Wrote (buffer_causes s t) new before (Err Length) before
  wrote_length t p = record { answer = by_length Err (Ok tt) t p; bytes = by_length (λ _. before) new t p }

  pub wrote_field : {t : Bool} → s ≡ true → t ≡ false → Wrote (buffer_causes s t) new before (Err Unlisted) before
  wrote_field p q = record { answer = by_field Err (Ok tt) p q; bytes = by_field (λ _. before) new p q }

  pub wrote_done : {t : Bool} → s ≡ true → t ≡ true → Wrote (buffer_causes s t) new before (Ok tt) new
  wrote_done p q = record { answer = by_none Err (Ok tt) p q; bytes = by_none (λ _. before) new p q }

not_done : (k : Refusal) → ◌≡◌ {A = Result (Unit {0}) Refusal} (Err k) (Ok tt) → ⊥
not_done k e = let z : ◌≡◌ {A = ℕ} 0 1 = cc in omega arith

-- a writer that is done passed both tests and left the new bytes, and the other way round
pub done_wrote : (new before : List ℕ) (s t : Bool) {r : Result (Unit {0}) Refusal} {after : List ℕ} → Wrote (buffer_causes s t) new before r after → r ≡ Ok tt → (s ≡ true) × ((t ≡ true) × (after ≡ new))
done_wrote new before s t p e =
    let tests = passed Err (Ok tt) (Ok tt) not_done s t (sym p.answer ∙ e) in
    (tests.0, (tests.1.0, p.bytes ∙ sym (by_none (λ _. before) new tests.0 tests.1.0)))

pub wrote_is : (new before : List ℕ) {s t : Bool} {r : Result (Unit {0}) Refusal} {after : List ℕ} → Wrote (buffer_causes s t) new before r after → s ≡ true → t ≡ true → (r ≡ Ok tt) × (after ≡ new)
wrote_is new before p sized listed = (p.answer ∙ sym (by_none Err (Ok tt) sized listed), p.bytes ∙ sym (by_none (λ _. before) new sized listed))

-- a writer's promise admits one answer and one list of bytes
pub wrote_once : {cs : List Cause} {new before : List ℕ} {r r' : Result (Unit {0}) Refusal} {o o' : List ℕ} → Wrote cs new before r o → Wrote cs new before r' o' → (r ≡ r') × (o ≡ o')
wrote_once p q = (p.answer ∙ sym q.answer, p.bytes ∙ sym q.bytes)

-- tests of lengths and fields decide the grounds
pub frame_decides : {s t : Bool} {P Q : Type 0} → (s ≡ true) ↔ P → (t ≡ true) ↔ Q → Decides (buffer_causes s t) (buffer_grounds P Q)
frame_decides d e = cons (unless d) (cons (unless e) nil)
