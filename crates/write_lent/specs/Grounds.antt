-- What refusal 3 is told for, and what is looked at before it. Assumes nothing.
use Rattle.std.specs.Prelude.{◌≤◌, ◌≡◌, length, Ok}
use Rattle.ssp_frame.specs.Out.{out_of, read_data_out}
use Rattle.write.specs.Steps.{limit}
use Rattle.write.specs.Calls as plainly
use Rattle.write.specs.Calls.{start, xfer, ack, nak, timeout, lost, got, nexus, cancel}
use Rattle.write.specs.Grounds.{InRange}
use Rattle.take.specs.Grounds.{Addressed}
use Rattle.take_history.specs.Calls.{Call, plain, ask, take, plain_of}

-- a START whose own numbers are out of range
abbrev pub StartOut : plainly.Call → Type 0
StartOut (start b n x r) = InRange limit b n x r → ⊥
StartOut (xfer others) = ⊥
StartOut ack = ⊥
StartOut nak = ⊥
StartOut timeout = ⊥
StartOut lost = ⊥
StartOut (got t o n) = ⊥
StartOut nexus = ⊥
StartOut cancel = ⊥

abbrev pub OutOfRange : Call → Type 0
OutOfRange c = StartOut (plain_of c)

-- data of a length that a frame can have
abbrev pub Sized : plainly.Call → Type 0
Sized (start b n x r) = Unit {0}
Sized (xfer others) = Unit {0}
Sized ack = Unit {0}
Sized nak = Unit {0}
Sized timeout = Unit {0}
Sized lost = Unit {0}
Sized (got t o n) = (1 ≤ n) × (n ≤ 1024)
Sized nexus = Unit {0}
Sized cancel = Unit {0}

-- what a call is given besides the state, and looks at before it, is in order
abbrev pub InOrder : Call → Type 0
InOrder (plain c) = Sized c
InOrder (ask others destination source tag out) = (36 ≤ length out) × Addressed destination source
InOrder (take destination source tag frame store) = (read_data_out frame ≡ Ok (out_of frame)) × Addressed destination source
