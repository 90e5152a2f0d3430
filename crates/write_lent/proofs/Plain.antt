-- A call with bytes leaves the write as it was, or as the same call without them does: its causes have that call's among them. Assumes nothing.
use mathlib.Core.Logic.{◌⊎◌, inl, inr}
use mathlib.Core.Path.{◌≡◌, refl, ap, ◌∙◌}
use Rattle.refusals.proofs.Causes.{Verdict, stopped, passes, verdict, unrefused}
use Rattle.write.specs.Steps.{limit, refused, free, asked, xfer_causes, xfer_step}
use Rattle.write.specs.Calls as plainly
use Rattle.write.specs.declared.Stepped.{Stepped}
use Rattle.write.specs.declared.Write.{Write}
use Rattle.take.specs.Ask.{ask_causes, ask_step}
use Rattle.take_history.specs.Calls.{Call, plain, ask, take, plain_of, step_of, Typed}
use Rattle.take_history.proofs.Takes as taking

pub typed_plain : (c : Call) → Typed limit c → plainly.Typed limit (plain_of c)
typed_plain (plain c) typed = typed
typed_plain (ask others destination source tag out) typed = typed.0
typed_plain (take destination source tag frame store) typed = tt

-- the write as it was, or the plain call's
abbrev Moved : Call → Write → Type 0
Moved c w = ((step_of limit c w).state ≡ w) ⊎ ((step_of limit c w).state ≡ (plainly.step_of limit (plain_of c) w).state)

pub moved : (c : Call) (w : Write) → Moved c w
unfolding plainly.step_of ask_step xfer_step
moved (plain c) w = inr refl
moved (ask others destination source tag out) w = by (verdict (ask_causes limit others w destination source out))
  where
    by : Verdict (ask_causes limit others w destination source out) → Moved (ask others destination source tag out) w
    by (stopped k v) = inl (ap (λ (st : Stepped). st.state) (v Stepped (refused w) (asked (free limit others w) w)))
    by (passes off v) =
        inr (ap (λ (st : Stepped). st.state) (v Stepped (refused w) (asked (free limit others w) w) ∙ unrefused (refused w) (asked (free limit others w) w) (xfer_causes limit others w) off.1.1))
moved (take destination source tag frame store) w = by (taking.outcome limit w destination source tag frame store)
  where
    by : taking.Outcome limit w destination source tag frame store → Moved (take destination source tag frame store) w
    by (taking.kept r) = inl (ap (λ (st : Stepped). st.state) r.step)
    by (taking.passed p) = inr (ap (λ (st : Stepped). st.state) p.step)
