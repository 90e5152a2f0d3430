-- Document 01, 'Port': phys, requests and time stamps. Assumes nothing.
use Rattle.std.specs.Prelude.{ℕ, min, Bool, ◌&&◌, ◌||◌, eqb, leb, ltb}
use Rattle.open_frame.specs.declared.Head.{Head}
use Rattle.port_parts.specs.PhyStage as phy-stage
use Rattle.port_parts.specs.RequestStage as request-stage
use Rattle.port_parts.specs.declared.Phy.{Phy}
use Rattle.port_parts.specs.declared.Stamp.{Stamp}
use Rattle.port_parts.specs.declared.Request.{Request}

-- a mark of a lent record, which is a number
abbrev pub no : ℕ
no = 0

abbrev pub yes : ℕ
yes = 1

-- what names no slot of the list, which has 32, and no phy of the port, which has 8 at most
abbrev pub no_slot : ℕ
no_slot = 32

abbrev pub no_phy : ℕ
no_phy = 8

-- 01 OPEN.2
-- protocols by their numbers, of which there are three: SMP 0, SSP 1 and STP 2
abbrev pub ssp : ℕ
ssp = 1

abbrev pub protocols : ℕ
protocols = 3

-- no time yet
abbrev pub no_stamp : Stamp
no_stamp = record { set = no; at = 0 }

abbrev pub stamped : ℕ → Stamp
stamped now = record { set = yes; at = now }

abbrev pub is_set : Stamp → Bool
is_set t = eqb t.set yes

-- a disabled phy, which names no request
abbrev pub disabled_phy : Phy
disabled_phy = record { stage = phy-stage.disabled; slot = no_slot; protocol = 0; destination = 0 }

-- what stands where a port has no phy
abbrev pub absent_phy : Phy
absent_phy = record { stage = phy-stage.disabled; slot = 0; protocol = 0; destination = 0 }

-- 01 PORT.1: 1 to 8 phys from 0, each disabled (at setup), unconnected, opening, connected or closing (these two idle or with a frame out); loss time 1 to 65,535 ms (65,535: never).
abbrev pub in_range : ℕ → ℕ → Bool
in_range count loss = leb 1 count && (leb count 8 && (leb 1 loss && leb loss 65535))

-- 01 PORT.1
abbrev pub is_disabled : Phy → Bool
is_disabled p = eqb p.stage phy-stage.disabled

abbrev pub is_unconnected : Phy → Bool
is_unconnected p = eqb p.stage phy-stage.unconnected

abbrev pub is_opening : Phy → Bool
is_opening p = eqb p.stage phy-stage.opening

-- connected and idle
abbrev pub is_idle : Phy → Bool
is_idle p = eqb p.stage phy-stage.idle

-- connected with a frame out
abbrev pub is_sending : Phy → Bool
is_sending p = eqb p.stage phy-stage.sending

-- closing and idle
abbrev pub is_closing_idle : Phy → Bool
is_closing_idle p = eqb p.stage phy-stage.closing

-- closing with a frame out
abbrev pub is_closing_sending : Phy → Bool
is_closing_sending p = eqb p.stage phy-stage.closing_sending

abbrev pub has_frame_out : Phy → Bool
has_frame_out p = is_sending p || is_closing_sending p

-- it names a request
abbrev pub names : Phy → Bool
names p = ltb p.slot no_slot

abbrev pub no_head : Head
no_head = record { initiator = 0; protocol = 0; features = 0; rate = 0; tag = 0; destination = 0; source = 0 }

-- 01 PORT.11: Submit takes the lowest free slot; a record set free, at setup too, becomes all zeros.
abbrev pub blank : Request
blank =
    record {
      stage = request-stage.free;
      phy = 0;
      cancelled = no;
      closed = no;
      pbc = record { 0 = 0 };
      awt = record { 0 = 0 };
      head = no_head;
      submitted = 0;
      retry = no_stamp;
      first = no_stamp;
      loss = no_stamp;
    }

abbrev pub is_free : Request → Bool
is_free r = eqb r.stage request-stage.free

abbrev pub is_waiting : Request → Bool
is_waiting r = eqb r.stage request-stage.waiting

abbrev pub is_in_progress : Request → Bool
is_in_progress r = eqb r.stage request-stage.in_progress

abbrev pub is_ssp : Head → Bool
is_ssp h = eqb h.protocol ssp

-- a place in the list as a slot
abbrev pub slot_at : ℕ → ℕ
slot_at i = min i no_slot

-- of one destination, protocol and tag
abbrev pub same_key : Head → Head → Bool
same_key g h = eqb g.destination h.destination && (eqb g.protocol h.protocol && eqb g.tag h.tag)

-- two SSP requests to one destination
abbrev pub same_nexus : Head → Head → Bool
same_nexus g h = eqb g.destination h.destination && (eqb g.protocol h.protocol && is_ssp h)
