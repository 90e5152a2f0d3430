-- Demand 3 down to the bytes: of each call the history that is read from the bytes says what the transfer's own history says, so
-- the invariant of the transfer is kept by plain calls and next-frame calls alike. Assumes nothing.
use Prim.Native.Nat.{ℕ}
use mathlib.Core.List.{List, [], ◌∷◌, ◌++◌}
use mathlib.Core.Path.{sym, subst}
use Rattle.laws.proofs.Bools.{never}
use Rattle.refusals.specs.declared.Refusal.{Refusal}
use Rattle.transfer.specs.Rules.{unstarted}
use Rattle.transfer.specs.Steps.{refused, frame_step}
use Rattle.transfer.specs.Calls as plainly
use Rattle.transfer.specs.Log.{next_frame}
use Rattle.transfer.specs.Demand.{Demand3}
use Rattle.transfer.specs.History.{Entry, EntryOf, entries, view}
use Rattle.transfer.specs.declared.Transfer.{Transfer}
use Rattle.transfer.specs.declared.Stepped.{Stepped}
use Rattle.transfer.proofs.Invariant.{Inv}
use Rattle.transfer.proofs.Balance.{After, keeps, at_first}
use Rattle.transfer.proofs.Demand.{demand, demand_of, apart}
use Rattle.send.specs.Send.{head_of, next_step}
use Rattle.send.specs.Calls.{Call, plain, next, step_of, run, Typed, AllTyped}
use Rattle.send.specs.History.{Sent, unwritten, entries_of, history, frames}
use Rattle.send.proofs.Bytes.{entry_frames, joined, Outcome, taken, kept, outcome, next_frames}

module _ (bound : ℕ) (s : Transfer) (h : List Entry) (i : Inv bound s (view h)) where
  -- what is claimed of a frame call that did st
  abbrev Meets : Stepped → Type 0
  Meets st = After bound s h plainly.Call.frame st × Demand3 bound s h (entries plainly.Call.frame (next_frame s) st.answer) st

  plainly_meets : Meets (frame_step bound s)
  unfolding plainly.step_of
  plainly_meets = (keeps bound s h i plainly.Call.frame, demand bound s h i plainly.Call.frame)

  refused_meets : (k : Refusal) → Meets (refused s k)
  refused_meets k = (i, demand_of bound s h i [] (refused s k) (λ f e. absurd (apart (cc))) (λ e. absurd (never e)) i)

  next_meets : (destination source tag : ℕ) (body out : List ℕ) → Typed (next destination source tag body out) → Meets (next_step bound s (head_of s destination source tag) body out)
  next_meets destination source tag body out typed = by (outcome bound s destination source tag body out typed)
    where
      by : Outcome bound s destination source tag body out typed → Meets (next_step bound s (head_of s destination source tag) body out)
      by (taken t) = subst Meets (sym t.step) plainly_meets
      by (kept k) = subst Meets (sym k.step) (refused_meets k.why)

-- a call of either kind keeps the invariant, and demand 3 holds of it
pub record Sound (bound : ℕ) (s : Transfer) (h : List (EntryOf Sent)) (c : Call) : Type 0 where
  pub holds : Inv bound (step_of bound c s).state (view (frames (entries_of bound c s ++ h)))
  pub demand : Demand3 bound s (frames h) (frames (entries_of bound c s)) (step_of bound c s)

pub sound : (bound : ℕ) (s : Transfer) (h : List (EntryOf Sent)) (c : Call) → Typed c → Inv bound s (view (frames h)) → Sound bound s h c
sound bound s h (plain c) typed i =
    let same = entry_frames c (unwritten s) (plainly.step_of bound c s).answer in
    record {
      holds = subst (λ (es : List Entry). Inv bound (plainly.step_of bound c s).state (view es)) (joined (entries_of bound (plain c) s) _ h same) (keeps bound s (frames h) i c);
      demand = subst (λ (es : List Entry). Demand3 bound s (frames h) es (plainly.step_of bound c s)) (sym same) (demand bound s (frames h) i c);
    }
sound bound s h (next destination source tag body out) typed i =
    let same = next_frames bound s destination source tag body out typed in
    let meets = next_meets bound s (frames h) i destination source tag body out typed in
    let st = next_step bound s (head_of s destination source tag) body out in
    record {
      holds = subst (λ (es : List Entry). Inv bound st.state (view es)) (joined (entries_of bound (next destination source tag body out) s) _ h same) meets.0;
      demand = subst (λ (es : List Entry). Demand3 bound s (frames h) es st) (sym same) meets.1;
    }

pub all_sound : (bound : ℕ) (cs : List Call) (s : Transfer) (h : List (EntryOf Sent)) → AllTyped cs → Inv bound s (view (frames h)) → Inv bound (run bound cs s) (view (frames (history bound cs s h)))
all_sound bound [] s h typed i = i
all_sound bound (c ∷ cs) s h typed i = all_sound bound cs (step_of bound c s).state (entries_of bound c s ++ h) typed.1 (sound bound s h c typed.0 i).holds

-- DEMAND 3, over any calls of both kinds from the state before START, and one call more
pub demand_3 : (bound : ℕ) (cs : List Call) (c : Call) → AllTyped cs → Typed c →
    let s = run bound cs unstarted in
    let h = history bound cs unstarted [] in
    Demand3 bound s (frames h) (frames (entries_of bound c s)) (step_of bound c s)
demand_3 bound cs c typed one = (sound bound (run bound cs unstarted) (history bound cs unstarted []) c one (all_sound bound cs unstarted [] typed (at_first bound))).demand
