-- Document 01, 'XL: one event, one step': what a step and a received OPEN answer, and when they are refused. Assumes nothing.
use Rattle.std.specs.Prelude.{ℕ, Bool, not, ◌&&◌, ◌||◌, List, [], ◌∷◌, Err, Ok, Result}
use Rattle.refusals.specs.Causes.{Cause, ◌when◌, refuse}
use Rattle.refusals.specs.declared.Refusal.{Refusal}
use Rattle.open_frame.specs.Open.{head_listed, read_open}
use Rattle.open_frame.specs.declared.OpenFrame.{OpenFrame}
use Rattle.xl_parts.specs.declared.Primitive.{Primitive}
use Rattle.xl_parts.specs.declared.Message.{Message}
use Rattle.xl_parts.specs.declared.Event.{Event}
use Rattle.xl_parts.specs.declared.Event.TheVariants.{Line, Router}
use Rattle.xl_parts.specs.declared.State.{State}
use Rattle.xl_parts.specs.declared.Stepped.{Stepped}
use Rattle.xl_parts.specs.Parts.{packed, done}
use Rattle.xl_parts.specs.Kinds.{kind_of, same}
use Rattle.xl_rows.specs.Table.{takes}
use Rattle.xl.specs.Rules.{keeps_rules}

-- the events that a frame goes with
abbrev pub has_frame : Event → Bool
has_frame e =
    same (kind_of e) (kind_of (Line Primitive.Open))
    || (same (kind_of e) (kind_of (Router Message.SendOpen)) || same (kind_of e) (kind_of (Router Message.BackoffReversePath)))

-- 01 REFUSAL.2: a field, event or line isn't one listed here
-- 01 REFUSAL.3: a setup number is out of range, or a lent state breaks its rules
abbrev pub causes : OpenFrame → Event → State → List Cause
causes f e s = (Refusal.Unlisted when (has_frame e && not (head_listed f.head))) ∷ (Refusal.Rules when not (keeps_rules s)) ∷ []

-- a refusal leaves the state as it was, and does nothing
abbrev pub refused : State → Refusal → Stepped
refused s k = record { answer = Err k; state = s; actions = packed [] }

-- 01 XL.1
unfoldable pub step_of : OpenFrame → Event → State → Stepped
step_of f e s = refuse (refused s) (causes f e s) (done (takes f e s))

-- 01 XL.6: An OPEN that the frame reader refuses is refused with that number.
abbrev pub opened : Result OpenFrame Refusal → State → Stepped
opened (Err k) s = refused s k
opened (Ok f) s = step_of f (Line Primitive.Open) s

unfoldable pub receive_of : List ℕ → State → Stepped
receive_of bytes s = opened (read_open bytes) s
