-- Links a second time, typed: each as C lends it and as the machine has it, so that no two members can stand for each other. Assumes nothing.
use Rattle.std.specs.Prelude.{true, false, None, Some}
use Rattle.open_lent.specs.Lent.{clear}
use Rattle.open_lent.specs.Typed.{typed_open, typed_frame}
use Rattle.xl_parts.specs.declared.Phase.{Phase}
use Rattle.xl_parts.specs.declared.Wait.{Wait}
use Rattle.xl_parts.specs.declared.State.{State}
use Rattle.xl_lent.specs.declared.Link.{Link}

-- in XL6 with two OPENs, of which no number is the other's, an AIP and BREAK
abbrev pub typed_link : Link
typed_link = record {
  held = typed_open;
  heard = record { destination = 31; source = 32; zero4 = 0; tag = 33; awt = 34; zero2 = 0; initiator = 0; protocol = 1; features = 4; rate = 10; pbc = 35; zero1 = 0 };
  unexpected = 7;
  zero4 = 0;
  phase = 6;
  holds = 1;
  hears = 1;
  aip = 3;
  broke = 1;
  close = 0;
  blocked = 0;
  zero1 = 0;
}

abbrev pub typed_state : State
typed_state = record {
  phase = Phase.Xl6;
  memory = record {
    held = Some typed_frame;
    heard = Some (record {
      head = record { initiator = 0; protocol = 1; features = 4; rate = 10; tag = 33; destination = 31; source = 32 };
      pbc = record { 0 = 35 };
      awt = record { 0 = 34 };
    });
    aip = Some Wait.Connection;
    broke = true;
    close = false;
    blocked = false;
  };
  count = 7;
}

-- in XL1 behind Blocked On Partial with a frame held alone, and in XL8 behind CLOSE with one heard alone
abbrev pub blocked_link : Link
blocked_link = record {
  held = typed_open;
  heard = clear;
  unexpected = 0;
  zero4 = 0;
  phase = 1;
  holds = 1;
  hears = 0;
  aip = 0;
  broke = 0;
  close = 0;
  blocked = 1;
  zero1 = 0;
}

abbrev pub blocked_state : State
blocked_state = record {
  phase = Phase.Xl1;
  memory = record { held = Some typed_frame; heard = None; aip = None; broke = false; close = false; blocked = true };
  count = 0;
}

abbrev pub closed_link : Link
closed_link = record {
  held = clear;
  heard = typed_open;
  unexpected = 0;
  zero4 = 0;
  phase = 8;
  holds = 0;
  hears = 1;
  aip = 0;
  broke = 0;
  close = 1;
  blocked = 0;
  zero1 = 0;
}

abbrev pub closed_state : State
closed_state = record {
  phase = Phase.Xl8;
  memory = record { held = None; heard = Some typed_frame; aip = None; broke = false; close = true; blocked = false };
  count = 0;
}
