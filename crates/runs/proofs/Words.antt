-- A line that is not refused has one of its command's words, and drain if it leaves the transfer so: each way out of a step answers
-- one. Assumes nothing.
use Rattle.refusals.specs.declared.Refusal.{Refusal}
use Rattle.std.specs.Prelude.{Ok, Result, None, Option, Some}
use Prim.Native.Nat.{◌-◌}
use mathlib.Core.Bool.{true, false}
use mathlib.Core.List.{List}
use mathlib.Core.Logic.{inl, inr}
use mathlib.Core.Path.{◌≡◌, refl, sym}
use lib.Dec.{eqb, leb}
use Rattle.laws.proofs.Bools.{impossible, by_test}
use Rattle.refusals.proofs.Causes.{NoneGiven, by_causes}
use Rattle.refusals.specs.Causes.{Cause, refuse}
use Rattle.transfer.specs.Steps.{limit, unfinished, draining, say, refused, started, framed, frame_length, answered, all_sent, settled, drained, acked, nacked, dropped, ended}
use Rattle.transfer.specs.Steps.{start_causes, frame_causes, answer_causes, end_causes, start_step, frame_step, ack_step, nak_step, drop_step, end_step}
use Rattle.transfer.specs.Calls.{step_of}
use Rattle.transfer.specs.History.{View, is_refused}
use Rattle.transfer.specs.declared.Transfer.{Transfer}
use Rattle.transfer.specs.declared.Stepped.{Stepped}
use Rattle.transfer.specs.declared.Answer.{Answer}
use Rattle.transfer.specs.declared.Phase.{Phase}
use Rattle.transfer.proofs.Invariant.{Live}
use Rattle.runs.specs.Commands.{obeyed}
use Rattle.runs.specs.Ledger.{Among, words_for, is_drain}
use Rattle.runs.specs.declared.Command.{Command}
use Rattle.runs.specs.declared.Command.TheVariants.{Start, Frame, Ack, Nak, Timeout, Lost, Nexus, Cancel}

-- an answer among these, which is drain if the transfer is left so; unless it is a refusal
abbrev pub Has : List (Result Answer Refusal) → Stepped → Type 0
Has ws st = is_refused st.answer ≡ false → Among st.answer ws × (is_drain st.answer ≡ draining st.state.phase)

module _ (s : Transfer) where
  unless_refused : (ws : List (Result Answer Refusal)) (cs : List Cause) (st : Stepped) → (NoneGiven cs → Has ws st) → Has ws (refuse (refused s) cs st)
  unless_refused ws = by_causes (Has ws) (refused s) (λ k e. impossible (sym e))

  drain_words : (ws : List (Result Answer Refusal)) → Among (Ok Answer.Retry) ws → Among (Ok Answer.Drain) ws → Has ws (drained (answered s))
  unfolding drained
  drain_words ws retry drain = by_test (Has ws) (eqb (s.unanswered - 1) 0) (λ e q. (retry, refl)) (λ e q. (drain, refl))

  ack_words : Has (words_for (Some Ack)) (acked (answered s))
  unfolding acked settled
  ack_words =
      let P = Has (words_for (Some Ack)) in
      by_test P (draining s.phase) (λ d. drain_words (words_for (Some Ack)) (inr (inr (inl refl))) (inr (inl refl)))
      (λ d. by_test P (eqb (s.unanswered - 1) 0) (λ z. by_test P (all_sent s) (λ q e. (inr (inr (inr (inl refl))), refl)) (λ q e. (inl refl, sym d))) (λ z e. (inl refl, sym d)))

  nak_words : Has (words_for (Some Nak)) (nacked (answered s))
  unfolding nacked
  nak_words = by_test (Has (words_for (Some Nak))) (leb s.resends s.used) (λ u e. (inr (inr (inl refl)), refl)) (λ u. drain_words (words_for (Some Nak)) (inr (inl refl)) (inl refl))

  drop_words : Has (words_for (Some Lost)) (dropped s)
  unfolding dropped
  drop_words = by_test (Has (words_for (Some Lost))) (leb s.resends s.used) (λ u e. (inr (inl refl), refl)) (λ u e. (inl refl, refl))

  pub said_word : (c : Option Command) → Has (words_for c) (obeyed c s)
  unfolding obeyed step_of start_step frame_step ack_step nak_step drop_step end_step
  said_word (Some (Start b n m r)) = unless_refused (words_for (Some (Start b n m r))) (start_causes limit b n m r s) (say (Ok Answer.Ok) (started b n m r)) (λ off e. (inl refl, refl))
  said_word (Some Frame) = unless_refused (words_for (Some Frame)) (frame_causes limit s) (framed (frame_length s) s) (λ off e. (inl refl, sym off.1.1.0))
  said_word (Some Ack) = unless_refused (words_for (Some Ack)) (answer_causes limit s) (acked (answered s)) (λ off. ack_words)
  said_word (Some Nak) = unless_refused (words_for (Some Nak)) (answer_causes limit s) (nacked (answered s)) (λ off. nak_words)
  said_word (Some Timeout) = unless_refused (words_for (Some Timeout)) (answer_causes limit s) (dropped s) (λ off. drop_words)
  said_word (Some Lost) = unless_refused (words_for (Some Lost)) (answer_causes limit s) (dropped s) (λ off. drop_words)
  said_word (Some Nexus) = unless_refused (words_for (Some Nexus)) (end_causes limit s) (ended s) (λ off e. (inl refl, refl))
  said_word (Some Cancel) = unless_refused (words_for (Some Cancel)) (end_causes limit s) (ended s) (λ off e. (inl refl, refl))
  said_word None = λ e. impossible (sym e)

-- a transfer that goes on drains exactly if its history has a NAK in the present attempt
pub nak_drains : (s : Transfer) (v : View) (p : Phase) → unfinished p ≡ true → Live p s v → draining p ≡ v.nak
nak_drains s v Phase.New u l = impossible u
nak_drains s v Phase.Run u l = sym l.calm
nak_drains s v Phase.Drain u l = sym l.seen
nak_drains s v Phase.Done u l = impossible u
nak_drains s v Phase.Fail u l = impossible u
nak_drains s v Phase.End u l = impossible u
