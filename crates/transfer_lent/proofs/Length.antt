-- FRAME answers 16 exactly if nothing refuses it, by the verdict of its causes, and then a byte is left to send. Assumes nothing.
use Prim.Native.Nat.{ℕ, ◌<◌}
use mathlib.Core.Bool.{Bool, true, false}
use Rattle.std.specs.Result.{is_ok}
use mathlib.Core.List.{List}
use mathlib.Core.Logic.{◌↔◌}
use mathlib.Core.Path.{◌≡◌, sym, ap, ◌∙◌}
use native.Mathlib.Omega.{arith}
use borrow.Author.Tests.{not-false, eqb-true, eqb-false}
use lib.Dec.{eqb}
use lib.ListN.{length}
use Rattle.laws.proofs.Bools.{never, and_left}
use Rattle.refusals.specs.Causes.{refuse}
use Rattle.refusals.proofs.Causes.{NoneGiven, Verdict, stopped, passes, verdict, through, none_append, unrefused}
use Rattle.transfer.specs.Rules.{end_of, keeps_rules}
use Rattle.transfer.specs.Steps.{limit, unfinished, frame_length, frame_causes, frame_step, framed, refused}
use Rattle.transfer.specs.History.{is_refused}
use Rattle.transfer.specs.declared.Transfer.{Transfer}
use Rattle.transfer.specs.declared.Stepped.{Stepped}
use Rattle.transfer.proofs.Calls.{underway}
use Rattle.ssp_frame.specs.Data.{data_listed}
use Rattle.ssp_frame.specs.declared.data.DataHead.{DataHead}
use Rattle.send.specs.Send.{fitting, next_causes, next_step}
use Rattle.send.proofs.Laws.{own}
use Rattle.transfer_lent.specs.Lent.{next_length}

module _ (t : Transfer) where
  frame_goes : is_ok (frame_step limit t).answer ≡ refuse (λ _. false) (frame_causes limit t) true
  unfolding frame_step
  frame_goes = through (λ (r : Stepped). is_ok r.answer) (refused t) (frame_causes limit t) (framed (frame_length t) t)

  pub sends : is_ok (frame_step limit t).answer ≡ true → frame_length t ≡ next_length limit t
  unfolding next_length
  sends e = by (verdict (frame_causes limit t))
    where
      by : Verdict (frame_causes limit t) → frame_length t ≡ next_length limit t
      by (stopped k h) = absurd (never (sym (h Bool (λ _. false) true) ∙ sym frame_goes ∙ e))
      by (passes off h) = sym (h ℕ (λ _. 0) (frame_length t))

  pub stays : is_ok (frame_step limit t).answer ≡ false → 0 ≡ next_length limit t
  unfolding next_length
  stays off = by (verdict (frame_causes limit t))
    where
      by : Verdict (frame_causes limit t) → 0 ≡ next_length limit t
      by (stopped k h) = sym (h ℕ (λ _. 0) (frame_length t))
      by (passes clear h) = absurd (never (sym off ∙ frame_goes ∙ h Bool (λ _. false) true))

  pub sent_length : is_refused (frame_step limit t).answer ≡ false → next_length limit t ≡ frame_length t
  unfolding next_length frame_step
  sent_length off = by (verdict (frame_causes limit t))
    where
      by : Verdict (frame_causes limit t) → next_length limit t ≡ frame_length t
      by (stopped k h) = absurd (never (sym off ∙ ap (λ (r : Stepped). is_refused r.answer) (h Stepped (refused t) (framed (frame_length t) t))))
      by (passes clear h) = h ℕ (λ _. 0) (frame_length t)

  -- a frame that goes has a byte or more
  long : NoneGiven (frame_causes limit t) → 0 < frame_length t
  long off =
      let placed = (underway limit t (not-false (keeps_rules limit t) off.0) (not-false (unfinished t.phase) off.1.0)).0.0 in
      let size = placed.0.1.1.1.0 in
      let last = placed.1.1.1.0 in
      let short = eqb-false t.read (end_of t) off.1.1.1.0 in
      omega arith

  pub zero_exactly : (next_length limit t ≡ 0) ↔ (is_refused (frame_step limit t).answer ≡ true)
  unfolding next_length frame_step
  zero_exactly = by (verdict (frame_causes limit t))
    where
      by : Verdict (frame_causes limit t) → (next_length limit t ≡ 0) ↔ (is_refused (frame_step limit t).answer ≡ true)
      by (stopped k h) = (λ e. ap (λ (r : Stepped). is_refused r.answer) (h Stepped (refused t) (framed (frame_length t) t)), λ e. h ℕ (λ _. 0) (frame_length t))
      by (passes clear h) =
          let positive = long clear in (
            λ e. let zero : frame_length t ≡ 0 = sym (h ℕ (λ _. 0) (frame_length t)) ∙ e in absurd (omega (arith, positive, zero)),
            λ e. absurd (never (sym (ap (λ (r : Stepped). is_refused r.answer) (h Stepped (refused t) (framed (frame_length t) t))) ∙ e)),
          )

  -- a next-frame call that goes was given data of that length
  pub wants : (h : DataHead) (body out : List ℕ) → is_refused (next_step limit t h body out).answer ≡ false → length body ≡ next_length limit t
  unfolding next_step next_length
  wants h body out on = by (verdict (next_causes limit t h body out))
    where
      by : Verdict (next_causes limit t h body out) → length body ≡ next_length limit t
      by (stopped k v) = absurd (never (sym on ∙ ap (λ (r : Stepped). is_refused r.answer) (v Stepped (refused t) (framed (frame_length t) t))))
      by (passes clear v) =
          let parts = none_append (frame_causes limit t) (own (data_listed h) (fitting t body out)) clear in
          let fits = not-false (fitting t body out) parts.1.1.0 in
          eqb-true (length body) (frame_length t) (and_left (eqb (length body) (frame_length t)) _ fits) ∙ unrefused (λ _. 0) (frame_length t) (frame_causes limit t) parts.0
