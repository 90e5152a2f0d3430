-- The reply: the number that START takes, and which states some START and the calls after it leave, in closed form, which is exact.
-- Assumes nothing.
use Rattle.std.specs.Prelude.{ℕ, Bool, ◌&&◌, leb, eqb}
use Rattle.reply.specs.declared.Reply.{Reply}
use Rattle.reply.specs.declared.Phase.{Phase}

-- R of 0 to 255
abbrev pub in_range : ℕ → Bool
in_range r = leb r 255

-- the state before START
abbrev pub unstarted : Reply
unstarted = record { resends = 0; used = 0; phase = Phase.New }

abbrev pub zeros : Reply → Bool
zeros s = eqb s.resends 0 && eqb s.used 0

-- what holds of every state from START on
abbrev pub counted : Reply → Bool
counted s = in_range s.resends && leb s.used s.resends

-- New all zeros; R at most 255, used at most R, Fail only with used = R
abbrev pub phase_rule : Phase → Reply → Bool
phase_rule Phase.New s = zeros s
phase_rule Phase.Ask s = counted s
phase_rule Phase.Wait s = counted s
phase_rule Phase.Done s = counted s
phase_rule Phase.Fail s = counted s && eqb s.used s.resends
phase_rule Phase.End s = counted s

-- a reply's rules: it is the state before START, or what some START and calls after it leave
unfoldable pub keeps_rules : Reply → Bool
keeps_rules s = phase_rule s.phase s
