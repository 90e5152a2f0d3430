-- Document 01, 'XL': the rules of a state. Assumes nothing.
use Rattle.open_frame.specs.declared.OpenFrame.{OpenFrame}
use Rattle.std.specs.Prelude.{Bool, true, false, not, ◌&&◌, ◌||◌, is_some, None, Option, Some}
use Rattle.open_frame.specs.Open.{head_listed}
use Rattle.xl_parts.specs.declared.Phase.{Phase}
use Rattle.xl_parts.specs.declared.State.{State}

-- a frame, if there is one, has fields as in OPEN
abbrev pub fielded : Option OpenFrame → Bool
fielded None = true
fielded (Some f) = head_listed f.head

abbrev pub is_frame : Option OpenFrame → Bool
is_frame h = is_some h

-- XL1 to XL6
abbrev pub works : Phase → Bool
works Phase.Xl0 = false
works Phase.Xl1 = true
works Phase.Xl2 = true
works Phase.Xl3 = true
works Phase.Xl4 = true
works Phase.Xl5 = true
works Phase.Xl6 = true
works Phase.Xl7 = false
works Phase.Xl8 = false
works Phase.Xl9 = false
works Phase.Xl10 = false

-- 01 XL.4: Rules of a state: XL0 to XL10; held or remembered frames have fields as in OPEN; XL1 to XL6 hold a frame.
unfoldable pub keeps_rules : State → Bool
keeps_rules s = fielded s.memory.held && (fielded s.memory.heard && (not (works s.phase) || is_frame s.memory.held))
