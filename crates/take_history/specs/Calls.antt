-- A call on a write: a plain one, or one with what it is given of bytes. Assumes nothing.
use Rattle.std.specs.Prelude.{ℕ, ◌^◌, ◌<◌, List, [], ◌∷◌}
use Rattle.write.specs.Calls as plainly
use Rattle.write.specs.declared.Write.{Write}
use Rattle.write.specs.declared.Stepped.{Stepped}
use Rattle.ssp_frame.specs.Out.{out_of}
use Rattle.take.specs.Ask.{ask_step}
use Rattle.take.specs.Take.{take_step}

pub data Call : Type 0 where
  plain : plainly.Call → Call
  -- the others' tags, hashed destination, hashed source and tag, and the output as it was
  ask : ℕ → ℕ → ℕ → ℕ → List ℕ → Call
  -- hashed destination, hashed source and tag, the frame, and the store as it was
  take : ℕ → ℕ → ℕ → List ℕ → List ℕ → Call

-- XFER that writes its frame, and DATA that reads its own
abbrev pub plain_of : Call → plainly.Call
plain_of (plain c) = c
plain_of (ask others destination source tag out) = plainly.Call.xfer others
plain_of (take destination source tag frame store) = plainly.Call.got (out_of frame).head.transfer (out_of frame).head.offset (out_of frame).length

abbrev pub step_of : ℕ → Call → Write → Stepped
step_of k (plain c) s = plainly.step_of k c s
step_of k (ask others destination source tag out) s = ask_step k others s destination source out
step_of k (take destination source tag frame store) s = take_step k s destination source tag frame store

-- the state after some calls, the first first
abbrev pub run : ℕ → List Call → Write → Write
run k [] s = s
run k (c ∷ cs) s = run k cs (step_of k c s).state

-- the others' tags are a set of k tags, and a tag has two bytes
abbrev pub Typed : ℕ → Call → Type 0
Typed k (plain c) = plainly.Typed k c
Typed k (ask others destination source tag out) = (others < 2 ^ k) × (tag < 65536)
Typed k (take destination source tag frame store) = Unit {0}

abbrev pub AllTyped : ℕ → List Call → Type 0
AllTyped k [] = Unit {0}
AllTyped k (c ∷ cs) = Typed k c × AllTyped k cs
