-- The history of a write whose frames are written and read: of an XFER_RDY it holds what the XFER_RDY reader finds in the bytes that were
-- written, and of data what the data-out reader finds in the bytes that were received; nothing of the write's own word. Assumes nothing.
use Rattle.ssp_frame.specs.declared.data_out.OutHead.{OutHead}
use Rattle.ssp_frame.specs.declared.Frame.{Frame}
use Rattle.refusals.specs.declared.Refusal.{Refusal}
use Rattle.std.specs.Prelude.{ℕ, List, [], ◌∷◌, ◌++◌, ◌≡◌, take, drop, set, Err as NotDataOut, Err as NotXferRdy, Ok as DataOut, Ok as XferRdy, Result}
use Rattle.ssp_frame.specs.Xfer.{read_xfer_rdy}
use Rattle.ssp_frame.specs.Out.{read_data_out}
use Rattle.ssp_frame.specs.declared.xfer_rdy.XferHead.{XferHead}
use Rattle.write.specs.declared.Write.{Write}
use Rattle.write_history.specs.History.{Xfer, Data, Entry, asked, came, entries}
use Rattle.write_history.specs.Log as plainly
use Rattle.take.specs.Ask.{ask_bytes}
use Rattle.take_history.specs.Calls as calls
use Rattle.take_history.specs.Calls.{Call, plain, step_of}

-- what the XFER_RDY reader finds in these bytes, written by a call that was given the others' tags
abbrev pub found_xfer : Result XferHead Refusal → ℕ → List ℕ → Xfer
found_xfer (XferRdy h) others bytes =
    record { retransmit = h.retransmit; retry = h.retry; transfer = h.transfer; offset = h.offset; length = h.length; others = others; bytes = bytes }
found_xfer (NotXferRdy r) others bytes = record { retransmit = 0; retry = 0; transfer = 0; offset = 0; length = 0; others = others; bytes = [] }

abbrev pub xfer_in : ℕ → List ℕ → Xfer
xfer_in others bytes = found_xfer (read_xfer_rdy bytes) others bytes

-- what the data-out reader finds in a frame
abbrev pub found_data : Result (Frame OutHead) Refusal → List ℕ → Data
found_data (DataOut f) frame = record { transfer = f.head.transfer; offset = f.head.offset; length = f.length; bytes = take f.length (drop 24 frame) }
found_data (NotDataOut r) frame = record { transfer = 0; offset = 0; length = 0; bytes = [] }

abbrev pub data_in : List ℕ → Data
data_in frame = found_data (read_data_out frame) frame

-- what the history holds of a call that was taken; an XFER_RDY is at the front of the output, 36 bytes long
abbrev pub entry_of : ℕ → Call → Write → Entry
entry_of k (plain c) s = plainly.entry_of k c s
entry_of k (calls.Call.ask others destination source tag out) s = asked (xfer_in others (take 36 (ask_bytes k others s destination source tag out)))
entry_of k (calls.Call.take destination source tag frame store) s = came (data_in frame)

abbrev pub entries_of : ℕ → Call → Write → List Entry
entries_of k c s = entries (entry_of k c s) (step_of k c s).answer

-- the history that some calls of s add to h, its latest entry first
abbrev pub history : ℕ → List Call → Write → List Entry → List Entry
history k [] s h = h
history k (c ∷ cs) s h = history k cs (step_of k c s).state (entries_of k c s ++ h)

-- a frame's bytes without byte 10, which has the retransmit bit
abbrev pub blank_bits : List ℕ → List ℕ
blank_bits bytes = set bytes 10 0

-- and without bytes 18-19, which have the transfer tag
abbrev pub blanked : List ℕ → List ℕ
blanked bytes = set (set (blank_bits bytes) 18 0) 19 0

-- the bytes of two XFER_RDYs to one host under one tag are the same but for those
abbrev pub SameBytes : List ℕ → List ℕ → Type 0
SameBytes a b =
    (g h : XferHead) → read_xfer_rdy a ≡ XferRdy g → read_xfer_rdy b ≡ XferRdy h → g.destination ≡ h.destination → g.source ≡ h.source → g.tag ≡ h.tag
    → blanked a ≡ blanked b

-- the XFER_RDY reader takes these bytes, and finds these addresses and this tag
pub record Names (bytes : List ℕ) (destination source tag : ℕ) : Type 0 where
  pub head : XferHead
  pub read : read_xfer_rdy bytes ≡ XferRdy head
  pub destined : head.destination ≡ destination
  pub sourced : head.source ≡ source
  pub tagged : head.tag ≡ tag

-- the data-out reader takes this frame, and finds that it came to the source from the destination, under this tag
pub record Comes (bytes : List ℕ) (destination source tag : ℕ) : Type 0 where
  pub frame : Frame OutHead
  pub read : read_data_out bytes ≡ DataOut frame
  pub to : frame.head.destination ≡ source
  pub from : frame.head.source ≡ destination
  pub tagged : frame.head.tag ≡ tag
