-- Any call keeps the invariant, and says of its entry and by its word what the history has it say: the causes that it passed give what the
-- effect asks for. Assumes nothing.
use Rattle.std.specs.Prelude.{Ok}
use Prim.Native.Nat.{ℕ, suc, ◌+◌}
use mathlib.Core.Bool.{Bool, not, cond}
use mathlib.Core.List.{List}
use mathlib.Core.Path.{◌≡◌, refl, sym, ap, subst, ◌∙◌}
use native.Mathlib.Omega.{arith}
use lib.Dec.{leb}
use borrow.Author.Tests.{leb-true, leb-false, not-false}
use Rattle.laws.proofs.Bools.{impossible, by_test, nor}
use Rattle.refusals.proofs.Causes.{by_causes}
use Rattle.write.specs.Rules.{in_range, keeps_rules}
use Rattle.write.specs.Steps as steps
use Rattle.write.specs.Steps.{with, say, refused, finished, asking}
use Rattle.write.specs.Steps.{start_causes, answer_causes, end_causes, start_step, xfer_step, ack_step, miss_step, got_step, end_step}
use Rattle.write.specs.Calls.{Call, start, xfer, ack, nak, timeout, lost, got, nexus, cancel, step_of, Typed}
use Rattle.write.specs.declared.Write.{Write}
use Rattle.write.specs.declared.Stepped.{Stepped}
use Rattle.write.specs.declared.Answer.{Answer}
use Rattle.write.specs.declared.Phase.{Phase}
use Rattle.write.proofs.Kept.{in_range_lem}
use Rattle.write.proofs.Phases.{wait_phase}
use Rattle.write_history.specs.History.{Entry, View, due, failed, view, note}
use Rattle.write_history.specs.History as history
use Rattle.write_history.specs.Words.{missed_by, word_by}
use Rattle.write_history.specs.Log.{entry_of}
use Rattle.write_history.proofs.Alike.{Alike}
use Rattle.write_history.proofs.Invariant.{Waiting, Inv}
use Rattle.write_history.proofs.Effects as effects
use Rattle.write_history.proofs.Says.{Said}
use Rattle.write_history.proofs.Says as says
use Rattle.write_history.proofs.Made.{calm}
use Rattle.write_history.proofs.Made as made
use Rattle.write_history.proofs.Asked as asking
use Rattle.write_history.proofs.Came as coming

module _ (k : ℕ) (s : Write) (h : List Entry) (i : Inv k s (view h)) where
  abbrev Makes : Entry → Stepped → Type 0
  Makes e st = says.Call k s h e st

  -- START
  starts : (b n x r : ℕ) → Makes (history.started (record { offset = b; count = n; burst = x; resends = r })) (start_step k b n x r s)
  unfolding start_step
  starts b n x r =
      let e = history.started (record { offset = b; count = n; burst = x; resends = r }) in
      by_causes (Makes e) (refused s) (made.stays k s h i e) (start_causes k b n x r s) (say (Ok Answer.Ok) (steps.started b n x r))
      (λ off.
      let range = (in_range_lem k b n x r).0 (not-false _ (nor (not (in_range k b n x r)) (not (keeps_rules k s)) off.0).0) in
      record {
        keeps = effects.begun k b n x r range;
        says = (tt, tt);
        word = record { done = λ e. cc; fails = (λ e. cc, λ p. (let two = p.1 in absurd (omega arith))) };
        told = (refl, tt);
        goes = λ _. refl;
        kept = impossible;
      })

  -- NEXUS, CANCEL
  ends : Makes history.ended (end_step k s)
  unfolding end_step
  ends =
      by_causes (Makes history.ended) (refused s) (made.stays k s h i history.ended) (end_causes k s) (steps.ended s)
      (λ off. record {
        keeps = effects.overs k s (view h) i Phase.End (view h) refl refl refl refl;
        says = (tt, tt);
        word = calm (view h) (view h) (Ok Answer.End) (λ e. cc) (λ e. cc) refl;
        told = (refl, tt);
        goes = λ _. refl;
        kept = impossible;
      })

  -- ACK
  acks : Makes history.acked (ack_step k s)
  unfolding ack_step
  acks =
      by_causes (Makes history.acked) (refused s) (made.stays k s h i history.acked) (answer_causes k s) (steps.acked s)
      (λ off.
      let w = made.live k s h i Phase.Wait (wait_phase s.phase (not-false _ off.1.0)) in
      record { keeps = effects.acks k s (view h) i w; says = (w.due, tt); word = calm (view h) (note history.acked (view h)) (Ok Answer.Ok) (λ e. cc) (λ e. cc) refl; told = (refl, tt); goes = λ _. refl; kept = impossible })

  -- whether every retry was used, by the history
  spent_is : Waiting k s (view h) → {t : Bool} → leb s.resends s.used ≡ t → missed_by (view h) ≡ cond t (Ok Answer.Fail) (Ok Answer.Retry)
  spent_is w {t} e = (λ j. cond (leb (made.resends_is k s h i j) (sym w.is.failures j)) (Ok Answer.Fail) (Ok Answer.Retry)) ∙ ap (λ (b : Bool). cond b (Ok Answer.Fail) (Ok Answer.Retry)) e

  -- NAK, TIMEOUT and LOST alike
  misses : (e : Entry) → note e (view h) ≡ history.with_fate (history.fated failed (view h).fate) (suc (view h).failures) (view h)
      → ((st : Stepped) → (view h).fate ≡ due → Said k s (view h) st e) → missed_by (view h) ≡ word_by (view h) e → Makes e (miss_step k s)
  unfolding miss_step steps.missed
  misses e is said word =
      by_causes (Makes e) (refused s) (made.stays k s h i e) (answer_causes k s) (steps.missed s)
      (λ off.
      let w = made.live k s h i Phase.Wait (wait_phase s.phase (not-false _ off.1.0)) in
      let same = w.is.failures in
      let r = made.resends_is k s h i in
      let used = i.used in
      let more : (note e (view h)).failures ≡ suc (view h).failures = ap (λ (v : View). v.failures) is in
      by_test (Makes e) (leb s.resends s.used)
      (λ t. let l = leb-true s.resends s.used t in
      record {
        keeps = effects.overs k s (view h) i Phase.Fail (note e (view h)) refl (ap (λ (v : View). v.request) is) (ap (λ (v : View). v.taken) is) (ap (λ (v : View). v.asks) is);
        says = (said (finished (Ok Answer.Fail) Phase.Fail s) w.due, tt);
        word = record { done = λ e. cc; fails = (λ _. (omega arith, omega arith), λ _. refl) };
        told = (sym (spent_is w t) ∙ word, tt);
        goes = λ _. refl;
        kept = impossible;
      })
      (λ t. let l = leb-false s.resends s.used t in
      record {
        keeps = subst (Inv k (with s s.next s.tag s.tags (s.used + 1) Phase.Ask)) (sym is) (effects.misses k s (view h) i w (omega arith));
        says = (said (say (Ok Answer.Retry) (with s s.next s.tag s.tags (s.used + 1) Phase.Ask)) w.due, tt);
        word = record { done = λ e. cc; fails = (λ e. cc, λ p. (let one = p.0 in absurd (omega arith))) };
        told = (sym (spent_is w t) ∙ word, tt);
        goes = λ _. refl;
        kept = impossible;
      }))

  -- any call, with an entry that says what it does
  pub makes : (c : Call) → Typed k c → (e : Entry) → Alike e (entry_of k c s) → Makes e (step_of k c s)
  unfolding step_of
  makes (start b n x r) typed e like = subst (λ (f : Entry). Makes f (start_step k b n x r s)) (sym like) (starts b n x r)
  makes (xfer others) typed e like = subst (λ (f : Entry). Makes f (xfer_step k others s)) (sym like.is) (asking.goes k s h i others typed like.one like.like)
  makes ack typed e like = subst (λ (f : Entry). Makes f (ack_step k s)) (sym like) acks
  makes nak typed e like = subst (λ (f : Entry). Makes f (miss_step k s)) (sym like) (misses history.nacked refl (λ st d. d) refl)
  makes timeout typed e like = subst (λ (f : Entry). Makes f (miss_step k s)) (sym like) (misses history.timed_out refl (λ st d. d) refl)
  makes lost typed e like = subst (λ (f : Entry). Makes f (miss_step k s)) (sym like) (misses history.was_lost refl (λ st d. d) refl)
  makes (got t o n) typed e like = subst (λ (f : Entry). Makes f (got_step k t o n s)) (sym like.is) (coming.comes_in k s h i t o n like.one like.like)
  makes nexus typed e like = subst (λ (f : Entry). Makes f (end_step k s)) (sym like) ends
  makes cancel typed e like = subst (λ (f : Entry). Makes f (end_step k s)) (sym like) ends
