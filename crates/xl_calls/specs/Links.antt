-- What the claims about a link say in words of their own: its calls, its frames and its actions. Assumes nothing.
use Rattle.refusals.specs.declared.Refusal.{Refusal}
use Rattle.std.specs.Prelude.{ℕ, ◌+◌, Bool, true, false, not, cond, ◌||◌, List, [], ◌∷◌, ◌++◌, ◌≡◌, Err, Ok, Result, None, Option, Some}
use Rattle.open_frame.specs.Open.{read_open}
use Rattle.open_frame.specs.declared.OpenFrame.{OpenFrame}
use Rattle.xl_parts.specs.declared.Primitive.{Primitive}
use Rattle.xl_parts.specs.declared.Message.{Message}
use Rattle.xl_parts.specs.declared.Event.{Event}
use Rattle.xl_parts.specs.declared.Action.{Action}
use Rattle.xl_parts.specs.declared.State.{State}
use Rattle.xl_parts.specs.declared.Stepped.{Stepped}
use Rattle.xl_parts.specs.Parts.{Actions}
use Rattle.xl_rows.specs.Table.{is_listed}
use Rattle.xl.specs.Steps.{has_frame, step_of, receive_of}

-- a call: an event with the frame beside it, or an OPEN received as bytes
pub data Call : Type 0 where
  event : Event → OpenFrame → Call
  bytes : List ℕ → Call

unfoldable pub call_of : Call → State → Stepped
call_of (event e f) s = step_of f e s
call_of (bytes b) s = receive_of b s

-- the state after some calls, the first first
abbrev pub run : List Call → State → State
run [] s = s
run (c ∷ cs) s = run cs (call_of c s).state

abbrev pub is_done : Result (Unit {0}) Refusal → Bool
is_done (Ok tt) = true
is_done (Err k) = false

-- an event that was taken, and is not listed for the state that it met
abbrev pub surprise : Event → OpenFrame → State → ℕ
surprise e f s = cond (is_done (step_of f e s).answer) (cond (is_listed f e s) 0 1) 0

abbrev pub surprise_read : Result OpenFrame Refusal → State → ℕ
surprise_read (Ok f) s = surprise (Event.Line Primitive.Open) f s
surprise_read (Err k) s = 0

unfoldable pub surprise_of : Call → State → ℕ
surprise_of (event e f) s = surprise e f s
surprise_of (bytes b) s = surprise_read (read_open b) s

-- how many of some calls were so
abbrev pub surprises : List Call → State → ℕ
surprises [] s = 0
surprises (c ∷ cs) s = surprise_of c s + surprises cs (call_of c s).state

-- the frames that an event or bytes bring
abbrev pub brought_read : Result OpenFrame Refusal → List OpenFrame
brought_read (Ok f) = f ∷ []
brought_read (Err k) = []

abbrev pub brought : Call → List OpenFrame
brought (event e f) = cond (has_frame e) (f ∷ []) []
brought (bytes b) = brought_read (read_open b)

-- those of some calls, the last call's first
abbrev pub frames : List Call → List OpenFrame → List OpenFrame
frames [] known = known
frames (c ∷ cs) known = frames cs (brought c ++ known)

-- the actions that name a frame: OPEN is transmitted, SendOpen and BackoffReversePath forward one, RequestPath shows one
abbrev pub names : Action → Bool
names (Action.Transmit Primitive.Open) = true
names (Action.Transmit Primitive.OpenAccept) = false
names (Action.Transmit (Primitive.OpenReject k)) = false
names (Action.Transmit (Primitive.Aip w)) = false
names (Action.Transmit Primitive.Close) = false
names (Action.Send Message.SendOpen) = true
names (Action.Send Message.SendClose) = false
names (Action.Send (Message.ArbStatus w)) = false
names (Action.Send Message.OpenAccept) = false
names (Action.Send (Message.OpenReject k)) = false
names (Action.Send Message.BackoffRetry) = false
names (Action.Send Message.BackoffReversePath) = true
names (Action.RequestPath t) = true
names (Action.Break b) = false

-- some action of those that there are is such
abbrev pub some : (Action → Bool) → Actions → Bool
some test [] = false
some test (None ∷ acts) = some test acts
some test (Some a ∷ acts) = test a || some test acts

-- None stands behind every other
abbrev pub gapless : Actions → Bool
gapless [] = true
gapless (None ∷ acts) = not (some (λ a. true) acts)
gapless (Some a ∷ acts) = gapless acts

-- what holds of the frame that is held, if one is
abbrev pub Each : (OpenFrame → Type 0) → Option OpenFrame → Type 0
Each Q None = Unit {0}
Each Q (Some g) = Q g

-- a frame is held, and Q holds of it
pub record Shows (Q : OpenFrame → Type 0) (h : Option OpenFrame) : Type 0 where
  pub frame : OpenFrame
  pub held : h ≡ Some frame
  pub from : Q frame

pub data In (f : OpenFrame) : List OpenFrame → Type 0 where
  here : {fs : List OpenFrame} → In f (f ∷ fs)
  there : {g : OpenFrame} {fs : List OpenFrame} → In f fs → In f (g ∷ fs)
