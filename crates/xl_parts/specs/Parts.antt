-- Document 01, 'XL': what a link remembers, what entering a state clears and does, and the form of a row's effect. Assumes nothing.
use Rattle.std.specs.Prelude.{ℕ, Bool, true, false, List, [], ◌∷◌, ◌++◌, get_or, None, Ok, Option, Some}
use Rattle.open_frame.specs.declared.OpenFrame.{OpenFrame}
use Rattle.xl_parts.specs.declared.Phase.{Phase}
use Rattle.xl_parts.specs.declared.Wait.{Wait}
use Rattle.xl_parts.specs.declared.Primitive.{Primitive}
use Rattle.xl_parts.specs.declared.Message.{Message}
use Rattle.xl_parts.specs.declared.BreakAction.{BreakAction}
use Rattle.xl_parts.specs.declared.Action.{Action}
use Rattle.xl_parts.specs.declared.Memory.{Memory}
use Rattle.xl_parts.specs.declared.State.{State}
use Rattle.xl_parts.specs.declared.Stepped.{Stepped}

-- 01 XL.4
-- a state's number, which is its name in document 01
abbrev pub phase_number : Phase → ℕ
phase_number Phase.Xl0 = 0
phase_number Phase.Xl1 = 1
phase_number Phase.Xl2 = 2
phase_number Phase.Xl3 = 3
phase_number Phase.Xl4 = 4
phase_number Phase.Xl5 = 5
phase_number Phase.Xl6 = 6
phase_number Phase.Xl7 = 7
phase_number Phase.Xl8 = 8
phase_number Phase.Xl9 = 9
phase_number Phase.Xl10 = 10

abbrev pub nothing : Memory
nothing = record { held = None; heard = None; aip = None; broke = false; close = false; blocked = false }

-- XL0 with nothing remembered and nothing counted
abbrev pub ready : State
ready = record { phase = Phase.Xl0; memory = nothing; count = 0 }

-- a memory with one thing put in
abbrev pub holds : OpenFrame → Memory → Memory
holds f m = record { held = Some f; heard = m.heard; aip = m.aip; broke = m.broke; close = m.close; blocked = m.blocked }

abbrev pub hears : OpenFrame → Memory → Memory
hears f m = record { held = m.held; heard = Some f; aip = m.aip; broke = m.broke; close = m.close; blocked = m.blocked }

abbrev pub sees : Wait → Memory → Memory
sees k m = record { held = m.held; heard = m.heard; aip = Some k; broke = m.broke; close = m.close; blocked = m.blocked }

abbrev pub breaks : Memory → Memory
breaks m = record { held = m.held; heard = m.heard; aip = m.aip; broke = true; close = m.close; blocked = m.blocked }

abbrev pub closes : Memory → Memory
closes m = record { held = m.held; heard = m.heard; aip = m.aip; broke = m.broke; close = true; blocked = m.blocked }

abbrev pub blocks : Bool → Memory → Memory
blocks b m = record { held = m.held; heard = m.heard; aip = m.aip; broke = m.broke; close = m.close; blocked = b }

-- a memory with BREAK and OPEN forgotten
abbrev pub forgets : Memory → Memory
forgets m = record { held = m.held; heard = None; aip = m.aip; broke = false; close = m.close; blocked = m.blocked }

-- s with its memory changed
abbrev pub remembering : (Memory → Memory) → State → State
remembering change s = record { phase = s.phase; memory = change s.memory; count = s.count }

-- s with one thing more in its memory
abbrev pub holding : OpenFrame → State → State
holding f s = remembering (holds f) s

abbrev pub hearing : OpenFrame → State → State
hearing f s = remembering (hears f) s

abbrev pub seeing : Wait → State → State
seeing k s = remembering (sees k) s

abbrev pub breaking : State → State
breaking s = remembering breaks s

abbrev pub closing : State → State
closing s = remembering closes s

abbrev pub blocking : Bool → State → State
blocking b s = remembering (blocks b) s

-- 01 XL.10: Entering XL0 clears all memory but the count; XL1 and XL2, BREAK and AIP memory; XL5, these and OPEN's.
-- a stay in XL1 begins with no Arbitrating
abbrev pub cleared : Phase → Memory → Memory
cleared Phase.Xl0 m = nothing
cleared Phase.Xl1 m = record { held = m.held; heard = m.heard; aip = None; broke = false; close = m.close; blocked = false }
cleared Phase.Xl2 m = record { held = m.held; heard = m.heard; aip = None; broke = false; close = m.close; blocked = m.blocked }
cleared Phase.Xl3 m = m
cleared Phase.Xl4 m = m
cleared Phase.Xl5 m = record { held = m.held; heard = None; aip = None; broke = false; close = m.close; blocked = m.blocked }
cleared Phase.Xl6 m = m
cleared Phase.Xl7 m = m
cleared Phase.Xl8 m = m
cleared Phase.Xl9 m = m
cleared Phase.Xl10 m = m

abbrev pub entered : Phase → State → State
entered p s = record { phase = p; memory = cleared p s.memory; count = s.count }

-- 01 XL.11: XL1, on entry RequestPath, AIP(NORMAL).
-- 01 XL.36: XL9 and XL10 transmit BREAK on entry.
abbrev pub on_entry : Phase → List Action
on_entry Phase.Xl0 = []
on_entry Phase.Xl1 = Action.RequestPath false ∷ Action.Transmit (Primitive.Aip Wait.Normal) ∷ []
on_entry Phase.Xl2 = []
on_entry Phase.Xl3 = []
on_entry Phase.Xl4 = []
on_entry Phase.Xl5 = []
on_entry Phase.Xl6 = Action.Send (Message.ArbStatus Wait.Device) ∷ []
on_entry Phase.Xl7 = []
on_entry Phase.Xl8 = []
on_entry Phase.Xl9 = Action.Break BreakAction.Transmit ∷ []
on_entry Phase.Xl10 = Action.Break BreakAction.Transmit ∷ []

-- what a row does: the state that it leaves, and its actions in order
pub record Effect : Type 0 where
  pub state : State
  pub actions : List Action

-- the state stays
abbrev pub stay : List Action → State → Effect
stay acts s = record { state = s; actions = acts }

-- another state is entered: what the row names, then the actions on entry
abbrev pub to : Phase → List Action → State → Effect
to p acts s = record { state = entered p s; actions = acts ++ on_entry p }

-- some actions before those of an effect
abbrev pub first : List Action → Effect → Effect
first acts e = record { state = e.state; actions = acts ++ e.actions }

-- the four places of what a step answers
abbrev pub Actions : Type 0
Actions = List (Option Action)

abbrev pub four : Option Action → Option Action → Option Action → Option Action → Actions
four a b c d = a ∷ b ∷ c ∷ d ∷ []

-- 01 XL.1
-- no row has a fifth
abbrev pub packed : List Action → Actions
packed [] = four None None None None
packed (a ∷ []) = four (Some a) None None None
packed (a ∷ b ∷ []) = four (Some a) (Some b) None None
packed (a ∷ b ∷ c ∷ []) = four (Some a) (Some b) (Some c) None
packed (a ∷ b ∷ c ∷ d ∷ more) = four (Some a) (Some b) (Some c) (Some d)

-- one action ahead of the others
abbrev pub pushed : Option Action → Actions → Actions
pushed a acts = four a (get_or acts 0 None) (get_or acts 1 None) (get_or acts 2 None)

abbrev pub ahead : Option Action → Stepped → Stepped
ahead a r = record { answer = r.answer; state = r.state; actions = pushed a r.actions }

abbrev pub done : Effect → Stepped
done e = record { answer = Ok tt; state = e.state; actions = packed e.actions }
