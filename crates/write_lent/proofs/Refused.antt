-- What C is refused for: the write's own grounds, of the write that the numbers say; 3 tells apart what no calls gave back, and whatever is
-- refused comes back as it was lent. Assumes nothing.
use Rattle.std.specs.Prelude.{Err}
use Prim.Native.Nat.{ℕ, ◌^◌, ◌<◌}
use mathlib.Core.Bool.{Bool, true, false, cond, ◌&&◌}
use mathlib.Core.List.{List}
use mathlib.Core.Logic.{◌⊎◌, inl, inr, ◌↔◌}
use mathlib.Core.Path.{◌≡◌, refl, sym, ap, ◌∙◌}
use native.Mathlib.Omega.{arith}
use lib.ListN.{length}
use Rattle.laws.specs.Tests.{Says}
use Rattle.laws.proofs.Bools.{clash}
use Rattle.refusals.specs.Causes.{Ground, First}
use Rattle.refusals.specs.Refusals.{number_of}
use Rattle.refusals.specs.declared.Refusal.{Refusal}
use Rattle.ssp_frame.specs.Header.{header_of}
use Rattle.ssp_frame.specs.Data.{frame_sized, rest_zero}
use Rattle.ssp_frame.specs.Out.{out_kind, out_of}
use Rattle.write.specs.Rules.{keeps_rules}
use Rattle.write.specs.Steps.{limit}
use Rattle.write.specs.Calls as plainly
use Rattle.write.specs.Grounds.{grounds_of}
use Rattle.write.proofs.Refusals.{refused_exactly}
use Rattle.take.specs.Grounds.{ask_grounds, take_grounds}
use Rattle.take.proofs.Refusals.{ask_refuses, take_refuses}
use Rattle.take_history.specs.Calls as machine
use Rattle.take_history.specs.Calls.{Call, plain, ask, take}
use Rattle.write_lent.specs.Numbers.{answer_number}
use Rattle.write_lent.specs.Lent.{formed, state_of, shown, is_refusal}
use Rattle.write_lent.specs.Face.{face_of}
use Rattle.write_lent.specs.Grounds.{OutOfRange, InOrder}
use Rattle.write_lent.specs.History.{Reached}
use Rattle.write_lent.specs.declared.State.{State}
use Rattle.write_lent.proofs.Trips.{one_answer, refusal_told}
use Rattle.write_lent.proofs.Three.{three_is, taken_kept, off_says}
use Rattle.write_lent.proofs.Reach.{kept_formed, exact_seen}

-- a refusal gives back the state that was lent, to the last member
pub refused_stays : (c : Call) (s : State) → is_refusal (face_of c s).answer ≡ true → (face_of c s).state ≡ s
refused_stays c s e = ap (λ (t : Bool). cond t s (shown (machine.step_of limit c (state_of s)).state)) e

-- numbers that aren't formed are refused with 3, and come back
pub unformed_three : (c : Call) (s : State) → formed s ≡ false → InOrder c → face_of c s ≡ record { state = s; answer = 3 }
unformed_three c s off order =
    let broken : keeps_rules limit (state_of s) ≡ false = by (keeps_rules limit (state_of s)) refl in
    let three : (face_of c s).answer ≡ 3 = (three_is c (state_of s)).1 (order, (off_says c (state_of s) (λ e. e, λ e. e)).1 (inr (λ e. clash (keeps_rules limit (state_of s)) e broken))) in
    λ i. record { state = refused_stays c s (ap is_refusal three) i; answer = three i }
  where
    by : (t : Bool) → keeps_rules limit (state_of s) ≡ t → keeps_rules limit (state_of s) ≡ false
    by true e = absurd (clash (formed s) (kept_formed s e) off)
    by false e = e

-- a call is refused with the number of j exactly if j is the first of its grounds that holds
module _ (s : State) (small : s.tags < 2 ^ limit) where
  by_number : (c : Call) (gs : List Ground) → ((j : Refusal) → ((machine.step_of limit c (state_of s)).answer ≡ Err j) ↔ First gs j)
      → (j : Refusal) → ((face_of c s).answer ≡ number_of j) ↔ First gs j
  by_number c gs exactly j =
      (λ e. (exactly j).0 (one_answer (machine.step_of limit c (state_of s)).answer (Err j) e), λ f. ap answer_number ((exactly j).1 f))

  pub refused_seen : (c : plainly.Call) → plainly.Typed limit c → (j : Refusal) → ((face_of (plain c) s).answer ≡ number_of j) ↔ First (grounds_of limit c (state_of s)) j
  refused_seen c typed = by_number (plain c) (grounds_of limit c (state_of s)) (refused_exactly limit (state_of s) c (omega arith) small typed)

  module _ (destination source tag : ℕ) where
    pub ask_seen : (others : ℕ) → others < 2 ^ limit → (out : List ℕ) (j : Refusal)
        → ((face_of (ask others destination source tag out) s).answer ≡ number_of j) ↔ First (ask_grounds limit others (state_of s) destination source out) j
    ask_seen others typed out =
        by_number (ask others destination source tag out) (ask_grounds limit others (state_of s) destination source out)
        (ask_refuses limit (omega arith) (state_of s) small destination source tag others typed out).exactly

    -- with what the reader's tests say of a frame
    pub take_seen : (frame store : List ℕ) {right listed : Type 0} → Says (frame_sized (length frame)) right
        → Says (rest_zero frame && out_kind (header_of frame)) listed → (j : Refusal)
        → ((face_of (take destination source tag frame store) s).answer ≡ number_of j)
        ↔ First (take_grounds right listed limit (state_of s) (out_of frame) destination source tag (length store)) j
    take_seen frame store {right} {listed} sized laid =
        by_number (take destination source tag frame store) (take_grounds right listed limit (state_of s) (out_of frame) destination source tag (length store))
        (take_refuses limit (omega arith) (state_of s) small destination source tag frame store sized laid).exactly

module _ (c : Call) (s : State) (small : s.tags < 2 ^ limit) where
  -- where what the call is given is in order, 3 is START's own numbers, or numbers that no calls gave back
  pub three_exactly : ((face_of c s).answer ≡ 3) ↔ (InOrder c × (OutOfRange c ⊎ (Reached s → ⊥)))
  three_exactly =
      let three = three_is c (state_of s) in
      let off = off_says c (state_of s) (exact_seen s small) in
      (λ e. let h = three.0 e in (h.0, off.0 h.1), λ h. three.1 (h.0, off.1 h.1))

  -- whatever C lends, changed or not: it is refused, or calls gave it back
  pub told_apart : (is_refusal (face_of c s).answer ≡ true) ⊎ Reached s
  told_apart = by (is_refusal (face_of c s).answer) refl
    where
      by : (t : Bool) → is_refusal (face_of c s).answer ≡ t → (is_refusal (face_of c s).answer ≡ true) ⊎ Reached s
      by true e = inl e
      by false e = inr ((exact_seen s small).0 (taken_kept c (state_of s) (sym (refusal_told (machine.step_of limit c (state_of s)).answer) ∙ e)))
