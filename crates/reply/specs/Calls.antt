-- A call on a reply, and what some calls leave. Assumes nothing.
use Rattle.std.specs.Prelude.{ℕ, not, ◌≡◌, List, [], ◌∷◌, ◌⊎◌, Ok}
use Rattle.refusals.specs.Causes.{Cause, ◌when◌, refuse}
use Rattle.refusals.specs.declared.Refusal.{Refusal}
use Rattle.reply.specs.Rules.{in_range, unstarted}
use Rattle.reply.specs.Steps.{refused, asks, waits, unfinished, started, responded, acked, failed, ended, causes}
use Rattle.reply.specs.declared.Reply.{Reply}
use Rattle.reply.specs.declared.Stepped.{Stepped}
use Rattle.reply.specs.declared.Answer.{Answer}
use Rattle.reply.specs.declared.Phase.{Phase}

pub data Call : Type 0 where
  start : ℕ → Call
  respond ack nak timeout lost nexus cancel : Call

-- start: 3 R out of range or state broken, 6 unfinished; respond: 3, 6 phase not Ask; answers: 3, 6 phase not Wait; ends: 3, 6 not unfinished
abbrev pub causes_of : Call → Reply → List Cause
causes_of (start r) s = (Refusal.Rules when not (in_range r)) ∷ causes (unfinished s.phase) s
causes_of respond s = causes (not (asks s.phase)) s
causes_of ack s = causes (not (waits s.phase)) s
causes_of nak s = causes (not (waits s.phase)) s
causes_of timeout s = causes (not (waits s.phase)) s
causes_of lost s = causes (not (waits s.phase)) s
causes_of nexus s = causes (not (unfinished s.phase)) s
causes_of cancel s = causes (not (unfinished s.phase)) s

-- what a call answers and leaves that is not refused
abbrev pub goes_on : Call → Reply → Stepped
goes_on (start r) s = started r
goes_on respond s = responded s
goes_on ack s = acked s
goes_on nak s = failed s
goes_on timeout s = failed s
goes_on lost s = failed s
goes_on nexus s = ended s
goes_on cancel s = ended s

abbrev pub step_of : Call → Reply → Stepped
step_of c s = refuse (refused s) (causes_of c s) (goes_on c s)

-- the state after some calls, the first first
abbrev pub run : List Call → Reply → Reply
run [] s = s
run (c ∷ cs) s = run cs (step_of c s).state

-- a START of the state before START is taken, and the calls after it leave s
pub record Left (s : Reply) : Type 0 where
  pub r : ℕ
  pub taken : (step_of (start r) unstarted).answer ≡ Ok Answer.Ok
  pub calls : List Call
  pub leave : run calls (step_of (start r) unstarted).state ≡ s

-- s is the state before START, or what some START and calls after it leave
abbrev pub Reachable : Reply → Type 0
Reachable s = (s ≡ unstarted) ⊎ Left s

-- some calls deliver the RESPONSE
abbrev pub Finishes : Reply → Type 0
Finishes s = (cs : List Call) × ((run cs s).phase ≡ Phase.Done)
