-- Calls from C one after another, each lent what the call before it gave back. Assumes nothing.
use Rattle.std.specs.Prelude.{ℕ, Bool, true, cond, ◌&&◌, List, [], ◌∷◌, ◌≡◌, leb}
use Rattle.port_parts.specs.declared.Port.{Port}
use Rattle.port_parts.specs.declared.Request.{Request}
use Rattle.port_rules.specs.Kept.{Kept}
use Rattle.port.specs.Calls.{on32, left_of}
use Rattle.port.specs.History.{State, Call, setup, submit, cancel, choose, opened, open_failed, frame_status, closed, enable, disable, done_of, short_of, stepped_by}
use Rattle.port_lent.specs.declared.Port.{Port as LentPort}
use Rattle.port_lent.specs.declared.PortStep.{PortStep}
use Rattle.port_lent.specs.Lent.{formed, no_port, phys_of, port_of}
use Rattle.port_lent.specs.Face.{shown, Seen}

-- what C lends: a port as numbers, and the list
pub record Lent : Type 0 where
  pub port : LentPort
  pub list : List Request

-- what that says
abbrev pub state_of : Lent → State
state_of s = record { port = port_of s.port; list = s.list }

-- the numbers as they stand, whatever the zero members are
abbrev pub plainly : LentPort → Port
plainly p = record { count = p.count; loss = p.loss; last = p.last; phys = phys_of p.phys }

-- a lent state that is well formed and keeps document 01's rules
pub record Keeps (s : Lent) : Type 0 where
  pub formed : formed s.port ≡ true
  pub rules : Kept (plainly s.port) s.list

-- the port that C sees of a refused call: the lent one, and of a setup none
abbrev pub lent_to : Call → LentPort → LentPort
lent_to (setup count loss) p = no_port
lent_to (submit x) p = p
lent_to (cancel x) p = p
lent_to (choose x) p = p
lent_to (opened x) p = p
lent_to (open_failed x) p = p
lent_to (frame_status x) p = p
lent_to (closed x) p = p
lent_to (enable x) p = p
lent_to (disable x) p = p

-- what C sees of a call
abbrev pub face_of : Call → Lent → PortStep
face_of c s = shown (lent_to c s.port) (stepped_by c (state_of s))

-- the list behind the call
abbrev pub list_of : Call → Lent → List Request
list_of c s = on32 s.list (left_of s.list (done_of c (state_of s))) s.list

-- what the call promises of what C sees, r, and of the list behind it
abbrev pub Sees : Call → Lent → PortStep → List Request → Type 0
Sees c s r after = Seen (shown (lent_to c s.port)) s.list (done_of c (state_of s)) (short_of c (state_of s)) r after

-- an answer from 1 to 10 is a refusal
abbrev pub is_refusal : ℕ → Bool
is_refusal n = leb 1 n && leb n 10

-- what C has behind a call; one whose setup is refused keeps the port that it has
abbrev pub leave : Call → Lent → Lent
leave c s = cond (is_refusal (face_of c s).answer) s (record { port = (face_of c s).port; list = list_of c s })

abbrev pub run : List Call → Lent → Lent
run [] s = s
run (c ∷ cs) s = run cs (leave c s)
