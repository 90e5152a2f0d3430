-- Over any calls, each lent the store that the last one left, the store holds what was taken: a call that takes data lays it behind the rest,
-- and no other touches the store. Assumes nothing.
use Rattle.ssp_frame.specs.declared.data_out.OutHead.{OutHead}
use Rattle.ssp_frame.specs.declared.Frame.{Frame}
use Rattle.refusals.specs.declared.Refusal.{Refusal}
use Rattle.std.specs.Prelude.{Result}
use Prim.Native.Nat.{ℕ, ◌+◌, ◌-◌, ◌≤◌}
use mathlib.Core.Bool.{Bool, true, false, cond}
use mathlib.Core.List.{List, [], ◌∷◌, ◌++◌}
use mathlib.Core.Path.{◌≡◌, refl, sym, ap, subst, ◌∙◌}
use native.Mathlib.Omega.{arith}
use lib.Dec.{ltb}
use lib.ListN.{length, drop}
use Rattle.laws.proofs.Bools.{by_test}
use Rattle.ssp_frame.specs.Out.{out_of}
use Rattle.write.specs.Rules.{unstarted, end_of}
use Rattle.write.specs.Steps.{awaited, taken, got}
use Rattle.write.specs.Rules.{until}
use Rattle.write.specs.Calls as plainly
use Rattle.write.specs.declared.Write.{Write}
use Rattle.write.specs.declared.Stepped.{Stepped}
use Rattle.write.specs.declared.Answer.{Answer}
use Rattle.write.specs.Calls.{is_refused}
use Rattle.write_history.specs.History.{Data, Entry, started, asked, acked, nacked, timed_out, was_lost, came, ended, entries, View, note, view, takes}
use Rattle.write_history.proofs.Invariant.{Inv}
use Rattle.write_history.proofs.Demand.{at_first}
use Rattle.write_history.proofs.Came.{takes_awaited}
use Rattle.take.specs.Take.{payload, laid}
use Rattle.take_history.specs.Calls.{Call, plain, step_of, run, Typed, AllTyped}
use Rattle.take_history.specs.Calls as calls
use Rattle.take_history.specs.History.{found_data, data_in, entry_of, entries_of, history}
use Rattle.take_history.specs.Store.{store_after, store_of, Lent, AllLent, first_after, first_of, payloads}
use Rattle.take_history.proofs.Takes as taking
use Rattle.take_history.proofs.Demand.{says_so, alike_data}
use Rattle.take_history.proofs.Store.{Sized, filled, Holds, laid_behind, took, left}

-- the store holds what the history says was taken
pub record Keeps (h : List Entry) (store first : List ℕ) : Type 0 where
  pub holds : Holds (view h).taken store first
  pub sized : Sized (view h).taken

-- an entry that takes nothing
abbrev Still : Entry → Type 0
Still (started q) = ⊥
Still (asked x) = Unit {0}
Still acked = Unit {0}
Still nacked = Unit {0}
Still timed_out = Unit {0}
Still was_lost = Unit {0}
Still (came d) = ⊥
Still ended = Unit {0}

still_taken : (h : List Entry) (e : Entry) → Still e → (note e (view h)).taken ≡ (view h).taken
still_taken h (started q) s = absurd s
still_taken h (asked x) s = refl
still_taken h acked s = refl
still_taken h nacked s = refl
still_taken h timed_out s = refl
still_taken h was_lost s = refl
still_taken h (came d) s = absurd s
still_taken h ended s = refl

module _ (h : List Entry) (store first : List ℕ) (p : Keeps h store first) where
  -- the same was taken
  same : (g : List Entry) → (view g).taken ≡ (view h).taken → Keeps g store first
  same g e = record { holds = subst (λ (ds : List Data). Holds ds store first) (sym e) p.holds; sized = subst Sized (sym e) p.sized }

  still : (e : Entry) → Still e → (a : Result Answer Refusal) → Keeps (entries e a ++ h) store first
  still e s a = by_test (λ (es : List Entry). Keeps (es ++ h) store first) (is_refused a) (λ _. p) (λ _. same (e ∷ h) (still_taken h e s))

  -- a START that is taken begins with the store as it is
  begins : (e : Entry) → (note e (view h)).taken ≡ [] → (a : Result Answer Refusal) → Keeps (entries e a ++ h) store (cond (is_refused a) first store)
  begins e none a = by (is_refused a)
    where
      by : (b : Bool) → Keeps (cond b [] (e ∷ []) ++ h) store (cond b first store)
      by true = p
      by false = record { holds = subst (λ (ds : List Data). Holds ds store store) (sym none) refl; sized = subst Sized (sym none) tt }

-- DATA that is not refused by its causes is not refused
not_refused : (t o n : ℕ) (s : Write) → is_refused (got t o n s).answer ≡ false
unfolding got taken
not_refused t o n s =
    by_test (λ (st : Stepped). is_refused st.answer ≡ false) (awaited t s)
    (λ _. by_test (λ (st : Stepped). is_refused st.answer ≡ false) (ltb (o + n) (until s)) (λ _. refl)
    (λ _. by_test (λ (st : Stepped). is_refused st.answer ≡ false) (ltb (o + n) (end_of s)) (λ _. refl) (λ _. refl)))
    (λ _. refl)

-- data with its bytes
module _ (k : ℕ) (s : Write) (h : List Entry) (i : Inv k s (view h)) (store first : List ℕ) (p : Keeps h store first) (destination source tag : ℕ) (frame : List ℕ) where
  abbrev c : Call
  c = calls.Call.take destination source tag frame store

  -- where the next byte goes
  place : s.next - s.offset ≡ length (payloads (view h).taken)
  place = let all = filled s.offset (view h).taken i.order p.sized in let at = i.next in omega arith

  module _ (w : taking.Passed k s destination source tag frame store) where
    held : (data_in frame).bytes ≡ payload frame
    held = ap (λ (r : Result (Frame OutHead) Refusal). (found_data r frame).bytes) w.read

    -- it was taken, and lies behind the rest; or it is late, and does nothing
    laid_so : (b : Bool) → takes (view h) (data_in frame) ≡ b → Keeps (came (data_in frame) ∷ h) (cond b (laid (s.next - s.offset) (payload frame) store) store) first
    laid_so false e = same h store first p (came (data_in frame) ∷ h) (ap (λ (v : View). v.taken) (left (view h) (data_in frame) e))
    laid_so true e =
        let ds = (view h).taken in
        let new = took (view h) (data_in frame) e in
        let size : length (data_in frame).bytes ≡ (data_in frame).length = ap length held ∙ w.long.count ∙ sym (ap (λ (r : Result (Frame OutHead) Refusal). (found_data r frame).length) w.read) in
        let moved : laid (s.next - s.offset) (payload frame) store ≡ payloads (data_in frame ∷ ds) ++ drop (length (payloads (data_in frame ∷ ds))) first =
        (λ j. laid (place j) (sym held j) (p.holds j)) ∙ laid_behind (payloads ds) (data_in frame).bytes first in
        record { holds = subst (λ (es : List Data). Holds es (laid (s.next - s.offset) (payload frame) store) first) (sym new) moved; sized = subst Sized (sym new) (size, p.sized) }

    added : entries_of k c s ≡ came (data_in frame) ∷ []
    added =
        let t = (out_of frame).head.transfer in
        let o = (out_of frame).head.offset in
        let n = (out_of frame).length in
        ap (λ (b : Bool). cond b [] (came (data_in frame) ∷ [])) (ap (λ (st : Stepped). is_refused st.answer) w.does ∙ not_refused t o n s)

    stores : Keeps (entries_of k c s ++ h) (store_after k c s store) first
    stores =
        let t = (out_of frame).head.transfer in
        let o = (out_of frame).head.offset in
        let n = (out_of frame).length in
        let just = laid_so (awaited t s) (takes_awaited k s h i t o n (data_in frame) (alike_data frame w.read) w.off) in
        subst (λ (es : List Entry). Keeps (es ++ h) (store_after k c s store) first) (sym added) (subst (λ (xs : List ℕ). Keeps (came (data_in frame) ∷ h) xs first) (sym w.leaves) just)

  pub take_keeps : Keeps (entries_of k c s ++ h) (store_after k c s store) first
  take_keeps = by (taking.outcome k s destination source tag frame store)
    where
      by : taking.Outcome k s destination source tag frame store → Keeps (entries_of k c s ++ h) (store_after k c s store) first
      by (taking.passed w) = stores w
      by (taking.kept r) =
          let none : entries_of k c s ≡ [] = ap (λ (st : Stepped). entries (came (data_in frame)) st.answer) r.step in
          subst (λ (es : List Entry). Keeps (es ++ h) (store_after k c s store) first) (sym none) (subst (λ (xs : List ℕ). Keeps h xs first) (sym r.stays) p)

-- no call but START begins anew
module _ (first : List ℕ) where
  no_start : (b : Bool) → cond b first first ≡ first
  no_start true = refl
  no_start false = refl

  unstarting : {h : List Entry} {store : List ℕ} (b : Bool) → Keeps h store first → Keeps h store (cond b first first)
  unstarting {h} {store} b p = subst (Keeps h store) (sym (no_start b)) p

module _ (k : ℕ) (few : k ≤ 65536) (s : Write) (h : List Entry) (i : Inv k s (view h)) (store first : List ℕ) (p : Keeps h store first) where
  abbrev pub After : Call → Type 0
  After c = Keeps (entries_of k c s ++ h) (store_after k c s store) (first_after c (step_of k c s).answer store first)

  -- a call that takes nothing and doesn't start
  quiet : (c : Call) → Still (entry_of k c s) → Keeps (entries_of k c s ++ h) store (cond (is_refused (step_of k c s).answer) first first)
  quiet c e = unstarting first (is_refused (step_of k c s).answer) (still h store first p (entry_of k c s) e (step_of k c s).answer)

  pub steps : (c : Call) → Lent c store → After c
  steps (plain (plainly.Call.start b n x r)) l = begins h store first p (started (record { offset = b; count = n; burst = x; resends = r })) refl (plainly.step_of k (plainly.Call.start b n x r) s).answer
  steps (plain (plainly.Call.xfer others)) l = quiet (plain (plainly.Call.xfer others)) tt
  steps (plain plainly.Call.ack) l = quiet (plain plainly.Call.ack) tt
  steps (plain plainly.Call.nak) l = quiet (plain plainly.Call.nak) tt
  steps (plain plainly.Call.timeout) l = quiet (plain plainly.Call.timeout) tt
  steps (plain plainly.Call.lost) l = quiet (plain plainly.Call.lost) tt
  steps (plain (plainly.Call.got t o n)) l = absurd l
  steps (plain plainly.Call.nexus) l = quiet (plain plainly.Call.nexus) tt
  steps (plain plainly.Call.cancel) l = quiet (plain plainly.Call.cancel) tt
  steps (calls.Call.ask others destination source tag out) l = quiet (calls.Call.ask others destination source tag out) tt
  steps (calls.Call.take destination source tag frame lent) l =
      let own = calls.Call.take destination source tag frame store in
      subst (λ (xs : List ℕ). After (calls.Call.take destination source tag frame xs)) (sym l)
      (unstarting first (is_refused (step_of k own s).answer) (take_keeps k s h i store first p destination source tag frame))

module _ (k : ℕ) (few : k ≤ 65536) where
  pub all_stored : (cs : List Call) (s : Write) (h : List Entry) (store first : List ℕ) → AllTyped k cs → AllLent k cs s store → Inv k s (view h) → Keeps h store first
      → Keeps (history k cs s h) (store_of k cs s store) (first_of k cs s store first)
  all_stored [] s h store first typed lent i p = p
  all_stored (c ∷ cs) s h store first typed lent i p =
      all_stored cs (step_of k c s).state (entries_of k c s ++ h) (store_after k c s store) (first_after c (step_of k c s).answer store first) typed.1 lent.1
      (says_so k s h i few c typed.0).keeps (steps k few s h i store first p c lent.0)

  -- over any calls from the state before START, the store is the payloads of the taken frames and behind them what was lent first
  pub stored : (cs : List Call) (store : List ℕ) → AllTyped k cs → AllLent k cs unstarted store →
      Keeps (history k cs unstarted []) (store_of k cs unstarted store) (first_of k cs unstarted store store)
  stored cs store typed lent = all_stored cs unstarted [] store store typed lent (at_first k) (record { holds = refl; sized = tt })
