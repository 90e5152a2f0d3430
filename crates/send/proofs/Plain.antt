-- For any calls of both kinds there are plain calls that leave the same state and the same frames in the history: a next-frame call
-- that is taken is a frame call, and one that is refused is no call. So what holds of plain calls holds of both. Assumes nothing.
use Prim.Native.Nat.{ℕ, ◌+◌, ◌*◌, ◌≤◌}
use mathlib.Core.List.{List, [], ◌∷◌, ◌++◌}
use mathlib.Core.Path.{◌≡◌, refl, sym, ap, subst, ◌∙◌}
use Rattle.transfer.specs.Rules.{unstarted, frames as frames_of}
use Rattle.transfer.specs.Steps.{frame_step}
use Rattle.transfer.specs.Calls as plainly
use Rattle.transfer.specs.Log as log
use Rattle.transfer.specs.History.{Entry, EntryOf, entries, frames_sent}
use Rattle.transfer.specs.declared.Transfer.{Transfer}
use Rattle.transfer.specs.declared.Stepped.{Stepped}
use Rattle.transfer.proofs.Endless.{ends}
use Rattle.send.specs.Calls.{Call, plain, next, step_of, run, Typed, AllTyped}
use Rattle.send.specs.History.{Sent, unwritten, entries_of, history, frames}
use Rattle.send.proofs.Bytes.{entry_frames, joined, Outcome, taken, kept, outcome, next_frames}

-- plain calls that take s to t, and the history h to g
pub record Plainly (bound : ℕ) (s t : Transfer) (h g : List Entry) : Type 0 where
  pub calls : List plainly.Call
  pub state : plainly.run bound calls s ≡ t
  pub same : log.history bound calls s h ≡ g

pub frame_step_lem : (bound : ℕ) (s : Transfer) → plainly.step_of bound plainly.Call.frame s ≡ frame_step bound s
unfolding plainly.step_of
frame_step_lem bound s = refl

module _ (bound : ℕ) {s u t : Transfer} {h k g : List Entry} where
  -- a call before others
  with_call : (c : plainly.Call) → (plainly.step_of bound c s).state ≡ u → log.entries_of bound c s ++ h ≡ k → Plainly bound u t k g → Plainly bound s t h g
  with_call c moved added p =
      record {
        calls = c ∷ p.calls;
        state = ap (plainly.run bound p.calls) moved ∙ p.state;
        same = (λ i. log.history bound p.calls (moved i) (added i)) ∙ p.same;
      }

  -- no call, where nothing moved
  with_none : s ≡ u → h ≡ k → Plainly bound u t k g → Plainly bound s t h g
  with_none moved added p =
      record {
        calls = p.calls;
        state = ap (plainly.run bound p.calls) moved ∙ p.state;
        same = (λ i. log.history bound p.calls (moved i) (added i)) ∙ p.same;
      }

-- what a next-frame call that answers as x does leaves in the history
abbrev next_entries : Transfer → Stepped → List Entry
next_entries s x = entries plainly.Call.frame (log.next_frame s) x.answer

module _ (bound : ℕ) (s : Transfer) (destination source tag : ℕ) (body out : List ℕ) (typed : Typed (next destination source tag body out)) (h : List (EntryOf Sent)) where
  abbrev call : Call
  call = next destination source tag body out

  left : frames (entries_of bound call s) ≡ next_entries s (step_of bound call s)
  left = next_frames bound s destination source tag body out typed

  -- a next-frame call before others
  with_next : {t : Transfer} {g : List Entry} → Outcome bound s destination source tag body out typed → Plainly bound (step_of bound call s).state t (frames (entries_of bound call s ++ h)) g → Plainly bound s t (frames h) g
  with_next (taken x) rest =
      let step : plainly.step_of bound plainly.Call.frame s ≡ step_of bound call s = frame_step_lem bound s ∙ sym x.step in
      let added = joined (entries_of bound call s) (log.entries_of bound plainly.Call.frame s) h (left ∙ ap (next_entries s) (sym step)) in
      with_call bound plainly.Call.frame (ap (λ (st : Stepped). st.state) step) added rest
  with_next (kept x) rest =
      let added = joined (entries_of bound call s) [] h (left ∙ ap (next_entries s) x.step) in
      with_none bound (ap (λ (st : Stepped). st.state) (sym x.step)) added rest

pub as_plain : (bound : ℕ) (cs : List Call) (s : Transfer) (h : List (EntryOf Sent)) → AllTyped cs → Plainly bound s (run bound cs s) (frames h) (frames (history bound cs s h))
as_plain bound [] s h typed = record { calls = []; state = refl; same = refl }
as_plain bound (plain c ∷ cs) s h typed =
    let es = entries_of bound (plain c) s in
    let added = joined es (log.entries_of bound c s) h (entry_frames c (unwritten s) (plainly.step_of bound c s).answer) in
    with_call bound c refl added (as_plain bound cs (plainly.step_of bound c s).state (es ++ h) typed.1)
as_plain bound (next destination source tag body out ∷ cs) s h typed =
    let c = next destination source tag body out in
    with_next bound s destination source tag body out typed.0 h (outcome bound s destination source tag body out typed.0)
    (as_plain bound cs (step_of bound c s).state (entries_of bound c s ++ h) typed.1)

-- over any calls of both kinds at most (R+1) times ⌈N/M⌉ frames go for one START
pub sends_end : (bound : ℕ) (cs : List Call) → AllTyped cs → let s = run bound cs unstarted in frames_sent (frames (history bound cs unstarted [])) ≤ (s.resends + 1) * frames_of s.count s.size
sends_end bound cs typed =
    let p = as_plain bound cs unstarted [] typed in
    subst (λ (s : Transfer). frames_sent (frames (history bound cs unstarted [])) ≤ (s.resends + 1) * frames_of s.count s.size) p.state
    (subst (λ (h : List Entry). frames_sent h ≤ ((plainly.run bound p.calls unstarted).resends + 1) * frames_of (plainly.run bound p.calls unstarted).count (plainly.run bound p.calls unstarted).size) p.same (ends bound p.calls))
