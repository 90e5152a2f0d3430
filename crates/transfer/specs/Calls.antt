-- A call on a transfer, and what some calls leave. Assumes nothing.
use Rattle.std.specs.Prelude.{ℕ, ◌≡◌, List, [], ◌∷◌, ◌⊎◌, Ok}
use Rattle.transfer.specs.Rules.{unstarted}
use Rattle.transfer.specs.Steps.{start_step, frame_step, ack_step, nak_step, drop_step, end_step}
use Rattle.transfer.specs.declared.Transfer.{Transfer}
use Rattle.transfer.specs.declared.Stepped.{Stepped}
use Rattle.transfer.specs.declared.Answer.{Answer}
use Rattle.transfer.specs.declared.Phase.{Phase}

pub data Call : Type 0 where
  start : ℕ → ℕ → ℕ → ℕ → Call
  frame ack nak timeout lost nexus cancel : Call

unfoldable pub step_of : ℕ → Call → Transfer → Stepped
step_of bound (start b n m r) s = start_step bound b n m r s
step_of bound frame s = frame_step bound s
step_of bound ack s = ack_step bound s
step_of bound nak s = nak_step bound s
step_of bound timeout s = drop_step bound s
step_of bound lost s = drop_step bound s
step_of bound nexus s = end_step bound s
step_of bound cancel s = end_step bound s

-- the state after some calls, the first first
abbrev pub run : ℕ → List Call → Transfer → Transfer
run bound [] s = s
run bound (c ∷ cs) s = run bound cs (step_of bound c s).state

-- a START of the state before START is taken, and the calls after it leave s
pub record Left (bound : ℕ) (s : Transfer) : Type 0 where
  pub b : ℕ
  pub n : ℕ
  pub m : ℕ
  pub r : ℕ
  pub taken : (start_step bound b n m r unstarted).answer ≡ Ok Answer.Ok
  pub calls : List Call
  pub leave : run bound calls (start_step bound b n m r unstarted).state ≡ s

-- s is the state before START, or what some START and calls after it leave
abbrev pub Reachable : ℕ → Transfer → Type 0
Reachable bound s = (s ≡ unstarted) ⊎ Left bound s

-- some calls deliver all
abbrev pub Finishes : ℕ → Transfer → Type 0
Finishes bound s = (cs : List Call) × ((run bound cs s).phase ≡ Phase.Done)
