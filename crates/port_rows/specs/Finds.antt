-- Document 01, 'Port': what submit and cancel look for in the list, one record at a time. Assumes nothing.
use Rattle.std.specs.Prelude.{ℕ, Bool, false, not, cond, ◌&&◌, ◌||◌, List, eqb}
use Rattle.laws.specs.Folds.{fold_to}
use Rattle.open_frame.specs.declared.Head.{Head}
use Rattle.port_parts.specs.Parts.{no_slot, slot_at, no_stamp, blank, is_free, same_key, same_nexus}
use Rattle.port_parts.specs.declared.Request.{Request}
use Rattle.port_rows.specs.declared.Room.{Room}
use Rattle.port_rows.specs.declared.Key.{Key}

-- submit looks for the lowest free slot, the same key, and the loss timer of the destination
abbrev pub no_room : Room
no_room = record { free = no_slot; same = false; loss = no_stamp }

-- 01 PORT.11 01 PORT.26
-- one record more: the lowest free slot, whether the key is there, and the timer of a request to the same destination
abbrev pub room_step : Room → Request → ℕ → Head → Room
room_step a r i h =
    record {
      free = cond (eqb a.free no_slot && is_free r) (slot_at i) a.free;
      same = a.same || (not (is_free r) && same_key r.head h);
      loss = cond (not (is_free r) && same_nexus r.head h) r.loss a.loss;
    }

abbrev pub room_of : List Request → Head → Room
room_of l h = fold_to blank (λ a r i. room_step a r i h) no_room l 32

-- a head has the key x
abbrev pub is_of : Head → Key → Bool
is_of h x = eqb h.destination x.destination && (eqb h.protocol x.protocol && eqb h.tag x.tag)

-- cancel looks for the request with a key
abbrev pub has_key : Request → Key → Bool
has_key r x = not (is_free r) && is_of r.head x

abbrev pub key_step : ℕ → Request → ℕ → Key → ℕ
key_step a r i x = cond (eqb a no_slot && has_key r x) (slot_at i) a

abbrev pub slot_of : List Request → Key → ℕ
slot_of l x = fold_to blank (λ a r i. key_step a r i x) no_slot l 32
