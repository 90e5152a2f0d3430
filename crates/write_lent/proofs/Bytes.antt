-- What an ask leaves in its output and a take in its store: on a refusal all that was there, since the same causes decide both, and an ask that
-- goes the frame that it was asked for. Assumes nothing.
use Rattle.std.specs.Prelude.{Ok}
use Prim.Native.Nat.{ℕ, ◌^◌, ◌<◌}
use mathlib.Core.Bool.{true, false}
use mathlib.Core.List.{List}
use mathlib.Core.Path.{◌≡◌, refl, sym, ap, ◌∙◌}
use native.Mathlib.Omega.{arith}
use lib.ListN as list
use Rattle.laws.proofs.Bools.{clash, impossible}
use Rattle.refusals.specs.Causes.{Cause, refuse}
use Rattle.refusals.proofs.Causes.{Verdict, stopped, passes, verdict}
use Rattle.ssp_frame.specs.Xfer.{xfer_left, read_xfer_rdy}
use Rattle.ssp_frame.specs.Out.{out_of}
use Rattle.write.specs.Steps.{limit, refused, free, asked, got}
use Rattle.write.specs.Calls as plainly
use Rattle.write.specs.Calls.{is_refused}
use Rattle.write.specs.declared.Stepped.{Stepped}
use Rattle.write.specs.declared.Write.{Write}
use Rattle.write.proofs.Refusals.{goes_on, taken}
use Rattle.take.specs.Ask.{head_of, ask_causes, ask_step, ask_bytes}
use Rattle.take.specs.Take.{take_causes, take_step, stored_by, take_store}
use Rattle.take_history.specs.Calls.{ask, take, step_of}
use Rattle.take_history.proofs.Asks as asking
use Rattle.write_lent.specs.Lent.{state_of, is_refusal}
use Rattle.write_lent.specs.Face.{face_of, bytes_of, store_of}
use Rattle.write_lent.specs.declared.State.{State}
use Rattle.write_lent.proofs.Trips.{refusal_told}

-- a step and bytes that the same causes decide
stays : (w : Write) (cs : List Cause) (goes : Stepped) → is_refused goes.answer ≡ false → (new before : List ℕ)
    → is_refused (refuse (refused w) cs goes).answer ≡ true → refuse (λ _. before) cs new ≡ before
stays w cs goes on new before off = by (verdict cs)
  where
    by : Verdict cs → refuse (λ _. before) cs new ≡ before
    by (stopped k v) = v (List ℕ) (λ _. before) new
    by (passes none v) = absurd (clash (is_refused goes.answer) (sym (ap (λ (st : Stepped). is_refused st.answer) (v Stepped (refused w) goes)) ∙ off) on)

module _ (s : State) (destination source tag : ℕ) where
  abbrev w : Write
  w = state_of s

  -- a refused ask leaves every byte of its output
  pub keeps_bytes : (others : ℕ) (out : List ℕ) → is_refusal (face_of (ask others destination source tag out) s).answer ≡ true → bytes_of others destination source tag out s ≡ out
  unfolding ask_step ask_bytes
  keeps_bytes others out off =
      stays w (ask_causes limit others w destination source out) (asked (free limit others w) w) refl (xfer_left (head_of limit others w destination source tag) out) out
      (sym (refusal_told (step_of limit (ask others destination source tag out) w).answer) ∙ off)

  -- a refused take every byte of its store
  pub keeps_store : (frame store : List ℕ) → is_refusal (face_of (take destination source tag frame store) s).answer ≡ true → store_of destination source tag frame store s ≡ store
  unfolding take_step take_store goes_on
  keeps_store frame store off =
      let f = out_of frame in
      let c = plainly.Call.got f.head.transfer f.head.offset f.length in
      stays w (take_causes limit w destination source tag frame store) (got f.head.transfer f.head.offset f.length w) (taken limit c w) (stored_by w frame store) store
      (sym (refusal_told (step_of limit (take destination source tag frame store) w).answer) ∙ off)

  -- in the bytes of an ask that goes the XFER_RDY reader finds what the call was given, the state's next byte and the range's rest
  pub addressed_seen : (others : ℕ) (out : List ℕ) → s.tags < 2 ^ limit → tag < 65536 → is_refusal (face_of (ask others destination source tag out) s).answer ≡ false
      → read_xfer_rdy (list.take 36 (bytes_of others destination source tag out s)) ≡ Ok (head_of limit others w destination source tag)
  addressed_seen others out small typed on = by (asking.outcome limit others w destination source tag out (omega arith) small typed)
    where
      by : asking.Outcome limit others w destination source tag out → read_xfer_rdy (list.take 36 (bytes_of others destination source tag out s)) ≡ Ok (head_of limit others w destination source tag)
      by (asking.kept r) =
          impossible
          (sym on ∙ refusal_told (step_of limit (ask others destination source tag out) w).answer ∙ ap (λ (st : Stepped). is_refused st.answer) r.step)
      by (asking.passed p) = p.read
