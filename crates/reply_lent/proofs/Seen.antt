-- A call hands the reply that it was lent to a step, and gives back what is seen of it. Assumes nothing.
use Prim.Native.Nat.{ℕ}
use mathlib.Core.List.{List}
use mathlib.Core.Path.{◌≡◌, ap, ◌∙◌}
use Rattle.reply.specs.Calls.{Call, step_of}
use Rattle.reply.specs.declared.Reply.{Reply}
use Rattle.reply.specs.declared.Stepped.{Stepped}
use Rattle.take.specs.Respond.{response_head, respond_step, respond_bytes, Responds}
use Rattle.reply_lent.specs.Lent.{state_of, seen}
use Rattle.reply_lent.specs.Face.{Responded}
use Rattle.reply_lent.specs.declared.State.{State}
use Rattle.reply_lent.specs.declared.Step.{Step}

pub steps : (step : Reply → Stepped) (s : State) {t : Reply} {r : Stepped} {q : Step}
    → t ≡ state_of s → r ≡ step t → q ≡ seen s r → q ≡ seen s (step (state_of s))
steps step s state does sees = sees ∙ ap (seen s) (does ∙ ap step state)

-- one of the reply's own
pub seen_by : (c : Call) (s : State) {t : Reply} {r : Stepped} {q : Step} → t ≡ state_of s → r ≡ step_of c t → q ≡ seen s r → q ≡ seen s (step_of c (state_of s))
seen_by c s = steps (step_of c) s

-- with the output
pub responds : (s : State) (destination source tag present status : ℕ) (body before : List ℕ) {t : Reply} {r : Stepped} {q : Step} {after : List ℕ}
    → t ≡ state_of s → Responds t (response_head t destination source tag present status) body before r after → q ≡ seen s r
    → Responded s destination source tag present status body before q after
responds s destination source tag present status body before state does sees =
    record {
      step = steps (λ u. respond_step u (response_head u destination source tag present status) body before) s state does.step sees;
      bytes = does.bytes ∙ ap (λ (u : Reply). respond_bytes u (response_head u destination source tag present status) body before) state;
    }
