-- What a link met and answered, call by call: the state that the event met, the event and its frame, the actions and theirs. Assumes
-- nothing.
use Rattle.open_frame.specs.declared.OpenFrame.{OpenFrame}
use Rattle.refusals.specs.declared.Refusal.{Refusal}
use Rattle.std.specs.Prelude.{Bool, false, cond, ◌||◌, List, [], ◌∷◌, Err, Ok, Result, None, Option, Some}
use Rattle.open_frame.specs.Open.{read_open}
use Rattle.xl_parts.specs.declared.Phase.{Phase}
use Rattle.xl_parts.specs.declared.Primitive.{Primitive}
use Rattle.xl_parts.specs.declared.Event.{Event}
use Rattle.xl_parts.specs.declared.Event.TheVariants.{Line}
use Rattle.xl_parts.specs.declared.Action.{Action}
use Rattle.xl_parts.specs.declared.State.{State}
use Rattle.xl_parts.specs.declared.Stepped.{Stepped}
use Rattle.xl_parts.specs.Parts.{Actions}
use Rattle.xl_calls.specs.Links.{Call, event, bytes, call_of, is_done, some}

pub record Met : Type 0 where
  pub phase : Phase
  pub event : Event
  pub frame : Option OpenFrame
  pub actions : Actions
  -- the frame that goes beside the actions, which is the one that the new state holds
  pub shown : Option OpenFrame

-- bytes are an OPEN received
abbrev pub said_in : Call → Event
said_in (event e f) = e
said_in (bytes b) = Line Primitive.Open

abbrev pub frame_read : Result OpenFrame Refusal → Option OpenFrame
frame_read (Ok f) = Some f
frame_read (Err k) = None

abbrev pub frame_in : Call → Option OpenFrame
frame_in (event e f) = Some f
frame_in (bytes b) = frame_read (read_open b)

-- an event in a state, with its frame and its answer; one that is refused meets nothing
abbrev pub noted : Phase → Event → Option OpenFrame → Stepped → List Met → List Met
noted p e f r earlier = cond (is_done r.answer) (record { phase = p; event = e; frame = f; actions = r.actions; shown = r.state.memory.held } ∷ earlier) earlier

-- what some calls met, the last first, before what was met earlier
abbrev pub met : List Call → State → List Met → List Met
met [] s earlier = earlier
met (c ∷ cs) s earlier = met cs (call_of c s).state (noted s.phase (said_in c) (frame_in c) (call_of c s) earlier)

-- the frame beside the last such action
abbrev pub shown_at : (Action → Bool) → List Met → Option OpenFrame
shown_at test [] = None
shown_at test (m ∷ ms) = cond (some test m.actions) m.shown (shown_at test ms)

-- what was met since then
abbrev pub since : (Action → Bool) → List Met → List Met
since test [] = []
since test (m ∷ ms) = cond (some test m.actions) [] (m ∷ since test ms)

-- some event of them is such
abbrev pub came : (Event → Bool) → List Met → Bool
came test [] = false
came test (m ∷ ms) = test m.event || came test ms
