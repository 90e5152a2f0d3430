-- The numbers of a link as C lends them, the state that they say, and a state as numbers. Assumes nothing.
use Rattle.xl_parts.specs.declared.Wait.{Wait}
use Rattle.open_frame.specs.declared.OpenFrame.{OpenFrame}
use Rattle.std.specs.Prelude.{ℕ, Bool, cond, ◌&&◌, List, [], ◌∷◌, map, eqb, ltb, is_some, None, Option, Some}
use Rattle.std.specs.Option.{option_flatten, unwrap_or}
use Rattle.laws.specs.Names.{flag}
use Rattle.open_lent.specs.Lent as frames
use Rattle.open_lent.specs.declared.Open.{Open}
use Rattle.xl_parts.specs.declared.Phase.{Phase}
use Rattle.xl_parts.specs.declared.State.{State}
use Rattle.xl_parts.specs.Parts.{Actions, phase_number}
use Rattle.xl_numbers.specs.States.{phase_of, aip_number, aip_of}
use Rattle.xl_numbers.specs.Codes.{coded as numbered, action_number}
use Rattle.xl_lent.specs.declared.Link.{Link}
use Rattle.xl_numbers.specs.declared.codes.Code.{Code}

-- a number that names none stands in for the first, and nobody asks
abbrev pub phase_in : Option Phase → Phase
phase_in r = unwrap_or r Phase.Xl0

abbrev pub aip_in : Option (Option Wait) → Option Wait
aip_in r = option_flatten r

-- a frame, if the flag says that one is there
abbrev pub held_of : ℕ → Open → Option OpenFrame
held_of there o = cond (eqb there 1) (Some (frames.frame_of o)) None

abbrev pub held_number : Option OpenFrame → ℕ
held_number h = flag (is_some h)

abbrev pub frame_shown : Option OpenFrame → Open
frame_shown None = frames.clear
frame_shown (Some f) = frames.shown f

-- the state that the numbers say
abbrev pub state_of : Link → State
state_of l = record {
  phase = phase_in (phase_of l.phase);
  memory = record {
    held = held_of l.holds l.held;
    heard = held_of l.hears l.heard;
    aip = aip_in (aip_of l.aip);
    broke = eqb l.broke 1;
    close = eqb l.close 1;
    blocked = eqb l.blocked 1;
  };
  count = l.unexpected;
}

-- a state as C sees it
abbrev pub shown : State → Link
shown s = record {
  held = frame_shown s.memory.held;
  heard = frame_shown s.memory.heard;
  unexpected = s.count;
  zero4 = 0;
  phase = phase_number s.phase;
  holds = held_number s.memory.held;
  hears = held_number s.memory.heard;
  aip = aip_number s.memory.aip;
  broke = flag s.memory.broke;
  close = flag s.memory.close;
  blocked = flag s.memory.blocked;
  zero1 = 0;
}

-- a frame that is there has 0 in its zero members; one that is not is all zeros
abbrev pub well_held : ℕ → Open → Bool
well_held there o = cond (eqb there 1) (frames.formed o) (frames.is_clear o)

-- the numbers say a state: a phase, flags and an AIP in range, every zero member 0, and no number of a frame that is not there
unfoldable pub formed : Link → Bool
formed l =
    ltb l.phase 11
    && (ltb l.holds 2
    && (ltb l.hears 2
    && (ltb l.aip 5
    && (ltb l.broke 2
    && (ltb l.close 2
    && (ltb l.blocked 2
    && (eqb l.zero4 0 && (eqb l.zero1 0 && (well_held l.holds l.held && well_held l.hears l.heard)))))))))

-- the actions of a step, number for number
abbrev pub coded : Actions → List Code
coded acts = map action_number acts

abbrev pub silent : List Code
silent = numbered 0 0 ∷ numbered 0 0 ∷ numbered 0 0 ∷ numbered 0 0 ∷ []

-- all zeros
abbrev pub zeros : Link
zeros = record {
  held = frames.clear;
  heard = frames.clear;
  unexpected = 0;
  zero4 = 0;
  phase = 0;
  holds = 0;
  hears = 0;
  aip = 0;
  broke = 0;
  close = 0;
  blocked = 0;
  zero1 = 0;
}

-- the features and rate of a frame held, as C sees them, are bytes
abbrev pub NarrowHeld : Option OpenFrame → Type 0
NarrowHeld None = Unit {0}
NarrowHeld (Some f) = frames.Narrow f

pub record Narrow (s : State) : Type 0 where
  pub held : NarrowHeld s.memory.held
  pub heard : NarrowHeld s.memory.heard
