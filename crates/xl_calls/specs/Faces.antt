-- The calls of a link that C makes, one behind the other, each with the link that the call before gave back. Assumes nothing.
use Rattle.xl_parts.specs.declared.Event.{Event}
use Rattle.std.specs.Prelude.{ℕ, List, [], ◌∷◌, ◌++◌, None, Option, Some}
use Rattle.open_lent.specs.Lent.{frame_of}
use Rattle.open_lent.specs.declared.Open.{Open}
use Rattle.xl_numbers.specs.declared.codes.Code.{Code}
use Rattle.xl_numbers.specs.Codes.{event_of}
use Rattle.xl_lent.specs.declared.Link.{Link}
use Rattle.xl_lent.specs.declared.Step.{Step}
use Rattle.xl_lent.specs.Face.{link_event, link_receive}
use Rattle.xl_calls.specs.Links.{Call, event, bytes}

-- an event as two numbers with a frame beside it, or an OPEN received as bytes
pub data FaceCall : Type 0 where
  numbers : Code → Open → FaceCall
  frame : List ℕ → FaceCall

abbrev pub face_of : FaceCall → Link → Step
face_of (numbers c o) l = link_event l c o
face_of (frame b) l = link_receive l b

-- the link after some calls, the first first
abbrev pub face_run : List FaceCall → Link → Link
face_run [] l = l
face_run (c ∷ cs) l = face_run cs (face_of c l).state

-- the machine's calls that they make: two numbers that name no event make none
abbrev pub named : Option Event → Open → List Call
named (Some e) o = event e (frame_of o) ∷ []
named None o = []

abbrev pub makes : FaceCall → List Call
makes (numbers c o) = named (event_of c) o
makes (frame b) = bytes b ∷ []

abbrev pub made : List FaceCall → List Call
made [] = []
made (c ∷ cs) = makes c ++ made cs
