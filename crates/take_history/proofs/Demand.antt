-- What request c) asks, down to the bytes: of each call the history that is read from the bytes says what the plain call's says, so the
-- write's invariant is kept by calls with and without bytes alike. Assumes nothing.
use Rattle.ssp_frame.specs.declared.data_out.OutHead.{OutHead}
use Rattle.ssp_frame.specs.declared.Frame.{Frame}
use Rattle.refusals.specs.declared.Refusal.{Refusal}
use Rattle.std.specs.Prelude.{Ok as DataOut, Result}
use Prim.Native.Nat.{ℕ, ◌^◌, ◌≤◌, ◌<◌}
use mathlib.Core.List.{List, [], ◌∷◌, ◌++◌}
use mathlib.Core.Path.{◌≡◌, refl, sym, ap, subst}
use native.Mathlib.Omega.{arith}
use lib.Pow.{suc_ones}
use Rattle.ssp_frame.specs.Out.{out_of, read_data_out}
use Rattle.write.specs.Rules.{unstarted}
use Rattle.write.specs.Steps.{unfinished}
use Rattle.write.specs.Calls as plainly
use Rattle.write.specs.declared.Write.{Write}
use Rattle.write.specs.declared.Phase.{Phase}
use Rattle.write_history.specs.History.{Entry, asked, came, view}
use Rattle.write_history.specs.Words.{underway}
use Rattle.write_history.specs.Log.{data_of}
use Rattle.write_history.specs.Log as plainly'
use Rattle.write_history.specs.Demand.{WriteDemand}
use Rattle.write_history.proofs.Alike.{AlikeData, self}
use Rattle.write_history.proofs.Invariant.{Live, Inv}
use Rattle.write_history.proofs.Says as says
use Rattle.write_history.proofs.Made.{stays}
use Rattle.write_history.proofs.Steps.{makes}
use Rattle.write_history.proofs.Demand.{lives_on, demand, at_first}
use Rattle.take.specs.Ask.{ask_step}
use Rattle.take.specs.Take.{take_step}
use Rattle.take_history.specs.Calls.{Call, plain, step_of, run, Typed, AllTyped}
use Rattle.take_history.specs.Calls as calls
use Rattle.take_history.specs.History.{xfer_in, found_data, data_in, entry_of, entries_of, history}
use Rattle.take_history.proofs.Asks.{wrote}
use Rattle.take_history.proofs.Asks as asking
use Rattle.take_history.proofs.Takes.{Outcome, kept, passed, outcome}

-- data that was read says what the plain call's numbers say
pub alike_data : (frame : List ℕ) → read_data_out frame ≡ DataOut (out_of frame) → let f = out_of frame in AlikeData (data_in frame) (data_of f.head.transfer f.head.offset f.length)
alike_data frame e = record {
  transfer = ap (λ (r : Result (Frame OutHead) Refusal). (found_data r frame).transfer) e;
  offset = ap (λ (r : Result (Frame OutHead) Refusal). (found_data r frame).offset) e;
  length = ap (λ (r : Result (Frame OutHead) Refusal). (found_data r frame).length) e;
}

module _ (k : ℕ) (s : Write) (h : List Entry) (i : Inv k s (view h)) where
  -- data with its bytes
  takes : (destination source tag : ℕ) (frame store : List ℕ) → says.Call k s h (came (data_in frame)) (take_step k s destination source tag frame store)
  unfolding plainly.step_of
  takes destination source tag frame store = by (outcome k s destination source tag frame store)
    where
      by : Outcome k s destination source tag frame store → says.Call k s h (came (data_in frame)) (take_step k s destination source tag frame store)
      by (kept r) = subst (says.Call k s h (came (data_in frame))) (sym r.step) (stays k s h i (came (data_in frame)) r.why)
      by (passed p) =
          let f = out_of frame in
          subst (says.Call k s h (came (data_in frame))) (sym p.step)
          (makes k s h i (plainly.Call.got f.head.transfer f.head.offset f.length) tt (came (data_in frame)) (record { one = data_in frame; is = refl; like = alike_data frame p.read }))

  -- the tags in use are a set of k tags
  small : (p : Phase) → Live k p s (view h) → s.tags < 2 ^ k
  small Phase.New l = omega (arith, l, suc_ones k)
  small Phase.Ask l = l.is.small
  small Phase.Wait l = l.is.small
  small Phase.Take l = l.is.small
  small Phase.Done l = omega (arith, l, suc_ones k)
  small Phase.Fail l = omega (arith, l, suc_ones k)
  small Phase.End l = omega (arith, l, suc_ones k)

  pub all_small : s.tags < 2 ^ k
  all_small = small s.phase i.live

  module _ (few : k ≤ 65536) where
    -- an XFER_RDY with its bytes
    asks : (others destination source tag : ℕ) (out : List ℕ) → Typed k (calls.Call.ask others destination source tag out)
        → says.Call k s h (asked (xfer_in others (wrote k others s destination source tag out))) (ask_step k others s destination source out)
    unfolding plainly.step_of
    asks others destination source tag out typed = by (asking.outcome k others s destination source tag out few all_small typed.1)
      where
        by : asking.Outcome k others s destination source tag out
            → says.Call k s h (asked (xfer_in others (wrote k others s destination source tag out))) (ask_step k others s destination source out)
        by (asking.kept r) =
            let e = asked (xfer_in others (wrote k others s destination source tag out)) in
            subst (says.Call k s h e) (sym r.step) (stays k s h i e r.why)
        by (asking.passed p) =
            let e = asked (xfer_in others (wrote k others s destination source tag out)) in
            subst (says.Call k s h e) (sym p.step) (makes k s h i (plainly.Call.xfer others) typed.0 e (asking.like k others s destination source tag out p))

    -- any call keeps the invariant, and says of its entry and by its word what the history has it say
    pub says_so : (c : Call) → Typed k c → says.Call k s h (entry_of k c s) (step_of k c s)
    says_so (plain c) typed = makes k s h i c typed (plainly'.entry_of k c s) (self (plainly'.entry_of k c s))
    says_so (calls.Call.ask others destination source tag out) typed = asks others destination source tag out typed
    says_so (calls.Call.take destination source tag frame store) typed = takes destination source tag frame store

module _ (k : ℕ) (few : k ≤ 65536) where
  pub all_keep : (cs : List Call) (s : Write) (h : List Entry) → AllTyped k cs → Inv k s (view h) → Inv k (run k cs s) (view (history k cs s h))
  all_keep [] s h typed i = i
  all_keep (c ∷ cs) s h typed i = all_keep cs (step_of k c s).state (entries_of k c s ++ h) typed.1 (says_so k s h i few c typed.0).keeps

  all_live : (cs : List Call) (s : Write) (h : List Entry) → AllTyped k cs → Inv k s (view h) → unfinished s.phase ≡ underway h
      → unfinished (run k cs s).phase ≡ underway (history k cs s h)
  all_live [] s h typed i l = l
  all_live (c ∷ cs) s h typed i l =
      let m = says_so k s h i few c typed.0 in
      all_live cs (step_of k c s).state (entries_of k c s ++ h) typed.1 m.keeps (lives_on k s h i (entry_of k c s) (step_of k c s) m l)

  -- over any calls from the state before START, with bytes and without, and one call more
  pub demand_bytes : (cs : List Call) (c : Call) → AllTyped k cs → Typed k c →
      let s = run k cs unstarted in
      let h = history k cs unstarted [] in
      WriteDemand k s h (entries_of k c s) (step_of k c s)
  demand_bytes cs c typed one =
      let s = run k cs unstarted in
      let h = history k cs unstarted [] in
      let i = all_keep cs unstarted [] typed (at_first k) in
      demand k s h i (entry_of k c s) (step_of k c s) (says_so k s h i few c one) (all_live cs unstarted [] typed (at_first k) refl)
