-- The words and columns against the history, over plain calls and next-frame calls mixed: for any calls of both kinds there are plain
-- ones that leave the same state and frames, and a next-frame call that is taken is a frame call. Assumes nothing.
use Rattle.std.specs.Prelude.{Err}
use Prim.Native.Nat.{ℕ, ◌≤◌}
use mathlib.Core.Bool.{true, false}
use mathlib.Core.List.{List, [], ◌∷◌}
use mathlib.Core.Logic.{◌↔◌}
use mathlib.Core.Path.{◌≡◌, refl, sym, ap, subst, ◌∙◌}
use lib.ListN.{drop}
use Rattle.laws.proofs.Bools.{impossible}
use Rattle.refusals.specs.declared.Refusal.{Refusal}
use Rattle.transfer.specs.Rules.{unstarted, keeps_rules}
use Rattle.transfer.specs.Steps.{unfinished, frame_length, framed}
use Rattle.transfer.specs.Calls as plainly
use Rattle.transfer.specs.Log.{next_frame, asked_of}
use Rattle.transfer.specs.Grounds.{OutOfRange}
use Rattle.transfer.specs.History.{Frame, Entry, sent, entries, is_refused, view}
use Rattle.transfer.specs.Words.{Asked, unasked, last_end, word_of, word_by}
use Rattle.transfer.specs.declared.Transfer.{Transfer}
use Rattle.transfer.specs.declared.Stepped.{Stepped}
use Rattle.transfer.proofs.Invariant.{Inv}
use Rattle.transfer.proofs.Balance.{at_first}
use Rattle.transfer.proofs.Calls.{underway}
use Rattle.transfer.proofs.Exact.{keeps_rules_lem}
use Rattle.transfer.proofs.Three.{none, unbroken, three}
use Rattle.transfer.proofs.Request.{Asks, asks}
use Rattle.transfer.proofs.Words.{Tally, tallied, says, read_is}
use Rattle.transfer.proofs.Finished.{Stays, stays}
use Rattle.send.specs.Send.{head_of, next_causes, next_step}
use Rattle.send.specs.Calls.{Call, plain, next, plain_of, step_of, run, Typed, AllTyped}
use Rattle.send.specs.History.{unwritten, entries_of, history, frames, asked}
use Rattle.send.proofs.Bytes.{entry_frames, the_sent, Outcome, taken, kept, outcome, next_frames}
use Rattle.send.proofs.Demand.{all_sound}
use Rattle.send.proofs.Plain.{frame_step_lem, as_plain}

-- what holds of a frame call and of every refusal holds of a next-frame call
module _ (bound : ℕ) (s : Transfer) (P : Stepped → Type 0) (goes : P (plainly.step_of bound plainly.Call.frame s)) (stops : (k : Refusal) → P (record { answer = Err k; state = s })) where
  as_frame : (destination source tag : ℕ) (body out : List ℕ) → Typed (next destination source tag body out) → P (next_step bound s (head_of s destination source tag) body out)
  as_frame destination source tag body out typed = by (outcome bound s destination source tag body out typed)
    where
      by : Outcome bound s destination source tag body out typed → P (next_step bound s (head_of s destination source tag) body out)
      by (taken t) = subst P (frame_step_lem bound s ∙ sym t.step) goes
      by (kept k) = subst P (sym k.step) (stops k.why)

module _ (bound : ℕ) (s : Transfer) where
  asks_either : (c : Call) → Typed c → Asks s (plain_of c) (step_of bound c s)
  asks_either (plain c) typed = asks bound s c
  asks_either (next destination source tag body out) typed = as_frame bound s (Asks s plainly.Call.frame) (asks bound s plainly.Call.frame) (λ k. refl) destination source tag body out typed

  -- a call that leaves the transfer finished leaves its read offset and the resends used
  pub stays_either : (c : Call) → Typed c → Stays s (step_of bound c s)
  stays_either (plain c) typed = stays bound s c
  stays_either (next destination source tag body out) typed = as_frame bound s (Stays s) (stays bound s plainly.Call.frame) (λ k e. (refl, refl)) destination source tag body out typed

  -- what a call adds to the history
  added_is : (c : Call) → Typed c → frames (entries_of bound c s) ≡ entries (plain_of c) (next_frame s) (step_of bound c s).answer
  added_is (plain c) typed = entry_frames c (unwritten s) (plainly.step_of bound c s).answer
  added_is (next destination source tag body out) typed = next_frames bound s destination source tag body out typed

  -- a frame that it adds
  pub frame_is : (c : Call) → Typed c → (f : Frame) → frames (entries_of bound c s) ≡ sent f ∷ [] → f ≡ next_frame s
  frame_is c typed f e = the_sent (plain_of c) (next_frame s) f (step_of bound c s).answer (sym (added_is c typed) ∙ e)

  module _ (h : List Entry) (i : Inv bound s (view h)) (w : Tally s h) where
    -- the word of a call that is taken
    says_either : (c : Call) → Typed c → is_refused (step_of bound c s).answer ≡ false → word_of (step_of bound c s).answer ≡ word_by (asked_of s) h (plain_of c)
    says_either (plain c) typed = says bound s h i w c
    says_either (next destination source tag body out) typed =
        as_frame bound s (λ (st : Stepped). is_refused st.answer ≡ false → word_of st.answer ≡ word_by (asked_of s) h plainly.Call.frame) (says bound s h i w plainly.Call.frame)
        (λ k e. impossible (sym e)) destination source tag body out typed

  -- refusal 3
  pub three_either : keeps_rules bound s ≡ true → (c : Call) → ((step_of bound c s).answer ≡ Err Refusal.Rules) ↔ OutOfRange (plain_of c)
  unfolding next_step
  three_either good (plain c) = three bound s good c
  three_either good (next destination source tag body out) =
      none (unbroken bound s good (drop 1 (next_causes bound s (head_of s destination source tag) body out)) (framed (frame_length s) s) (refl, (refl, (refl, (refl, (refl, (refl, tt)))))) refl)

all_asked : (bound : ℕ) (cs : List Call) (s : Transfer) → AllTyped cs → asked_of (run bound cs s) ≡ asked bound cs s (asked_of s)
all_asked bound [] s typed = refl
all_asked bound (c ∷ cs) s typed =
    all_asked bound cs (step_of bound c s).state typed.1 ∙ ap (asked bound cs (step_of bound c s).state) (asks_either bound s c typed.0)

-- over any calls of both kinds from the state before START
module _ (bound : ℕ) (cs : List Call) (typed : AllTyped cs) where
  -- the numbers that the state holds are those of the last START that was taken
  pub asked_is : asked_of (run bound cs unstarted) ≡ asked bound cs unstarted unasked
  asked_is = all_asked bound cs unstarted typed

  pub holds : Inv bound (run bound cs unstarted) (view (frames (history bound cs unstarted [])))
  holds = all_sound bound cs unstarted [] typed (at_first bound)

  pub tally_is : Tally (run bound cs unstarted) (frames (history bound cs unstarted []))
  tally_is =
      let p = as_plain bound cs unstarted [] typed in
      subst (λ (s : Transfer). Tally s (frames (history bound cs unstarted []))) p.state (subst (Tally (plainly.run bound p.calls unstarted)) p.same (tallied bound p.calls))

  -- what calls leave passes the test of a state
  pub keeps : keeps_rules bound (run bound cs unstarted) ≡ true
  keeps = let p = as_plain bound cs unstarted [] typed in subst (λ (s : Transfer). keeps_rules bound s ≡ true) p.state (keeps_rules_lem bound p.calls)

  -- no more resends are used than were allowed
  pub allowed : unfinished (run bound cs unstarted).phase ≡ true → (run bound cs unstarted).used ≤ (run bound cs unstarted).resends
  allowed u = (underway bound (run bound cs unstarted) keeps u).0.0.1.1.1.1

  pub reads : unfinished (run bound cs unstarted).phase ≡ true → (run bound cs unstarted).read ≡ last_end (run bound cs unstarted).balance (view (frames (history bound cs unstarted []))).attempt
  reads = read_is bound (run bound cs unstarted) (frames (history bound cs unstarted [])) holds tally_is

  -- and one call more
  module _ (c : Call) (one : Typed c) where
    pub word_is : is_refused (step_of bound c (run bound cs unstarted)).answer ≡ false → word_of (step_of bound c (run bound cs unstarted)).answer ≡ word_by (asked bound cs unstarted unasked) (frames (history bound cs unstarted [])) (plain_of c)
    word_is e =
        says_either bound (run bound cs unstarted) (frames (history bound cs unstarted [])) holds tally_is c one e
        ∙ ap (λ (a : Asked). word_by a (frames (history bound cs unstarted [])) (plain_of c)) asked_is

    pub never_three : ((step_of bound c (run bound cs unstarted)).answer ≡ Err Refusal.Rules) ↔ OutOfRange (plain_of c)
    never_three = three_either bound (run bound cs unstarted) keeps c
