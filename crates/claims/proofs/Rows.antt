-- Demand 2, the expander link, sentence by sentence: what a call does is what document 01 says of its event in its state, with every part of the
-- new memory and every action typed out from document 01, and so do events behind each other. Assumes nothing.
use Rattle.std.specs.Prelude.{Ok}
use Prim.Native.Nat.{ℕ}
use mathlib.Core.Bool.{true}
use mathlib.Core.Path.{◌≡◌}
use Rattle.open_frame.specs.declared.OpenFrame.{OpenFrame}
use Rattle.xl_parts.specs.declared.Event.{Event}
use Rattle.xl_parts.specs.declared.Memory.{Memory}
use Rattle.xl_parts.specs.declared.State.{State}
use Rattle.xl_rows.specs.Table.{takes}
use Rattle.xl_rows.specs.Sentences.{Sentences}
use Rattle.xl_rows.specs.Chains.{Chains}
use Rattle.xl_rows.proofs.Sentences.{sentences}
use Rattle.xl_rows.proofs.Chains.{chains}
use Rattle.xl.specs.Rules.{keeps_rules}
use Rattle.xl.specs.Steps.{step_of}
use Rattle.xl.specs.Status.{status_of}
use Rattle.xl_calls.specs.After.{answers}
use Rattle.xl_calls.specs.Statuses.{Statuses}
use Rattle.xl_calls.proofs.After.{does}
use Rattle.xl_calls.proofs.Statuses.{statuses}

-- 01 XL.1
pub record Rows : Type 0 where
  -- a step that is done leaves the state and the actions that `takes` says, in order
  pub steps : (f : OpenFrame) (e : Event) (s : State) → (step_of f e s).answer ≡ Ok tt → step_of f e s ≡ answers (takes f e s).state (takes f e s).actions
  -- and `takes` does what each sentence of document 01 says, whatever is remembered
  pub each : (f : OpenFrame) (m : Memory) (n : ℕ) → Sentences takes f m n
  pub chained : (f g : OpenFrame) (m : Memory) (n : ℕ) → Chains takes f g m n
  -- 01 XL.39
  pub status : (s : State) → keeps_rules s ≡ true → Statuses status_of s

pub rows : Rows
rows = record { steps = does; each = sentences; chained = chains; status = statuses }
