-- The numbers of an OPEN frame as C lends them, the frame that they say, and a frame as numbers. Assumes nothing.
use Rattle.std.specs.Prelude.{◌%◌, ◌<◌, Bool, ◌&&◌, eqb}
use Rattle.open_frame.specs.declared.OpenFrame.{OpenFrame}
use Rattle.open_lent.specs.declared.Open.{Open}

-- no zero member is looked at
abbrev pub frame_of : Open → OpenFrame
frame_of o = record {
  head = record { initiator = o.initiator; protocol = o.protocol; features = o.features; rate = o.rate; tag = o.tag; destination = o.destination; source = o.source };
  pbc = record { 0 = o.pbc };
  awt = record { 0 = o.awt };
}

-- features and rate are a byte to C, which holds those of every listed frame
abbrev pub shown : OpenFrame → Open
shown f = record {
  destination = f.head.destination;
  source = f.head.source;
  zero4 = 0;
  tag = f.head.tag;
  awt = f.awt.0;
  zero2 = 0;
  initiator = f.head.initiator;
  protocol = f.head.protocol;
  features = f.head.features % 256;
  rate = f.head.rate % 256;
  pbc = f.pbc.0;
  zero1 = 0;
}

-- no frame
abbrev pub clear : Open
clear = record { destination = 0; source = 0; zero4 = 0; tag = 0; awt = 0; zero2 = 0; initiator = 0; protocol = 0; features = 0; rate = 0; pbc = 0; zero1 = 0 }

abbrev pub formed : Open → Bool
formed o = eqb o.zero4 0 && (eqb o.zero2 0 && eqb o.zero1 0)

abbrev pub is_clear : Open → Bool
is_clear o =
    eqb o.destination 0
    && (eqb o.source 0
    && (eqb o.tag 0
    && (eqb o.awt 0
    && (eqb o.initiator 0 && (eqb o.protocol 0 && (eqb o.features 0 && (eqb o.rate 0 && (eqb o.pbc 0 && formed o))))))))

-- the two that C sees as a byte are one, of a frame and of what C lends
pub record Narrow (f : OpenFrame) : Type 0 where
  pub features : f.head.features < 256
  pub rate : f.head.rate < 256
