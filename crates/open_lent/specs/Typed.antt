-- An OPEN frame a second time, typed: one whose numbers all differ, as C lends it and as document 01's fields have it. Assumes nothing.
use Rattle.open_frame.specs.declared.OpenFrame.{OpenFrame}
use Rattle.open_lent.specs.declared.Open.{Open}

abbrev pub typed_open : Open
typed_open = record { destination = 21; source = 22; zero4 = 0; tag = 23; awt = 24; zero2 = 0; initiator = 1; protocol = 2; features = 3; rate = 9; pbc = 25; zero1 = 0 }

abbrev pub typed_frame : OpenFrame
typed_frame = record {
  head = record { initiator = 1; protocol = 2; features = 3; rate = 9; tag = 23; destination = 21; source = 22 };
  pbc = record { 0 = 25 };
  awt = record { 0 = 24 };
}
