-- The changing data pointer against the history: a frame goes in run, where a resend was used exactly if the attempt is one, and a
-- frame was sent exactly if the attempt has one. Assumes nothing.
use Prim.Native.Nat.{ℕ}
use mathlib.Core.Bool.{Bool, cond}
use mathlib.Core.List.{List, [], ◌∷◌}
use mathlib.Core.Path.{◌≡◌, sym, ap, ◌∙◌}
use lib.ListN.{length}
use Rattle.transfer.specs.Rules.{unstarted}
use Rattle.transfer.specs.Calls as plainly
use Rattle.transfer.specs.Log.{next_frame}
use Rattle.transfer.specs.History.{sent, entries, view, first_resent}
use Rattle.transfer.specs.declared.Transfer.{Transfer}
use Rattle.transfer.specs.declared.Stepped.{Stepped}
use Rattle.transfer.specs.declared.Phase.{Phase}
use Rattle.transfer.proofs.Balance.{at_first}
use Rattle.transfer.proofs.Demand.{goes, first_again, apart}
use Rattle.send.specs.Send.{changing_of, head_of, next_bytes}
use Rattle.send.specs.Calls.{Call, plain, next, step_of, run, Typed, AllTyped}
use Rattle.send.specs.History.{Sent, written, unwritten, entries_of, history, frame_of, frames}
use Rattle.send.proofs.Bytes.{entry_frames, the_sent, Outcome, taken, kept, outcome, next_frames}
use Rattle.send.proofs.Demand.{all_sound}

-- what is said of a frame that a call adds to the history: it went in run, and its pointer is the row's
record Points (s : Transfer) (f : Sent) : Type 0 where
  runs : s.phase ≡ Phase.Run
  row : f.changing ≡ changing_of s

module _ (bound : ℕ) (s : Transfer) (f : Sent) where
  points : (c : Call) → Typed c → entries_of bound c s ≡ sent f ∷ [] → Points s f
  unfolding plainly.step_of
  points (plain c) typed e =
      let a = (plainly.step_of bound c s).answer in
      record {
        runs = (goes bound s c (frame_of f) (sym (entry_frames c (unwritten s) a) ∙ ap frames e)).0;
        row = ap (λ (g : Sent). g.changing) (the_sent c (unwritten s) f a e);
      }
  points (next destination source tag body out) typed e = by (outcome bound s destination source tag body out typed)
    where
      by : Outcome bound s destination source tag body out typed → Points s f
      by (kept k) = let wrote = written (length body) (next_bytes bound s (head_of s destination source tag) body out) in
          absurd (apart (ap length (ap (λ (st : Stepped). entries plainly.Call.frame wrote st.answer) (sym k.step) ∙ e)))
      by (taken t) = let wrote = written (length body) (next_bytes bound s (head_of s destination source tag) body out) in record {
        runs = (goes bound s plainly.Call.frame (frame_of f) (ap (λ (st : Stepped). entries plainly.Call.frame (next_frame s) st.answer) (sym t.step) ∙ sym (next_frames bound s destination source tag body out typed) ∙ ap frames e)).0;
        row = ap (λ (g : Sent). g.changing) (the_sent plainly.Call.frame wrote f (step_of bound (next destination source tag body out) s).answer e ∙ t.bytes);
      }

-- over any calls of both kinds, and one call more that adds a frame
pub changing_is : (bound : ℕ) (cs : List Call) (c : Call) → AllTyped cs → Typed c →
    let s = run bound cs unstarted in
    let h = history bound cs unstarted [] in
    (f : Sent) → entries_of bound c s ≡ sent f ∷ [] → f.changing ≡ cond (first_resent (view (frames h))) 1 0
changing_is bound cs c typed one f e =
    let s = run bound cs unstarted in
    let h = history bound cs unstarted [] in
    let p = points bound s f c one e in
    p.row ∙ ap (λ (t : Bool). cond t 1 0) (first_again bound s (frames h) (all_sound bound cs unstarted [] typed (at_first bound)) p.runs)
