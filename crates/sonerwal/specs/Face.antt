-- What a call from C was given and lent, and what it answers and leaves. Assumes nothing.
use Rattle.ssp_frame.specs.declared.Frame.{Frame}
use Rattle.std.specs.Prelude.{◌≡◌, List, ℕ}
use denote.MutBor.{MutBor}
use denote.Triple.Both.{Both}
use Rattle.laws.specs.Names.{flag}
use Rattle.refusals.specs.Refusals.{number_of}
use Rattle.refusals.specs.Causes.{Cause, refuse}
use Rattle.open_frame.specs.Open.{frame_of, open_bytes, read_causes as open_read_causes, write_causes as open_write_causes}
use Rattle.open_frame.specs.Priority.{higher_than}
use Rattle.open_frame.specs.declared.OpenFrame.{OpenFrame}
use Rattle.ssp_frame.specs.Data.{data_of, data_left, read_causes as data_read_causes, write_causes as data_write_causes}
use Rattle.ssp_frame.specs.declared.data.DataHead.{DataHead}
use Rattle.ssp_frame.specs.Xfer.{xfer_of, xfer_left, read_causes as xfer_read_causes, write_causes as xfer_write_causes}
use Rattle.ssp_frame.specs.declared.xfer_rdy.XferHead.{XferHead}
use Rattle.ssp_frame.specs.Out.{out_of, out_left, read_causes as out_read_causes, write_causes as out_write_causes}
use Rattle.ssp_frame.specs.declared.data_out.OutHead.{OutHead}
use Rattle.ssp_frame.specs.Response.{response_of, response_left, read_causes as response_read_causes, write_causes as response_write_causes}
use Rattle.ssp_frame.specs.declared.response.ResponseHead.{ResponseHead}

-- ---- numbers in the order of include/sonerwal.h

-- 0.4.0
abbrev pub version : ℕ
version = 400

-- nine as an OPEN frame
abbrev pub open9 : ℕ → ℕ → ℕ → ℕ → ℕ → ℕ → ℕ → ℕ → ℕ → OpenFrame
open9 initiator protocol features rate tag destination source pbc awt = record {
  head = record { initiator = initiator; protocol = protocol; features = features; rate = rate; tag = tag; destination = destination; source = source };
  pbc = record { 0 = pbc };
  awt = record { 0 = awt };
}

-- five as the head of a DATA frame, and with its length six
abbrev pub data5 : ℕ → ℕ → ℕ → ℕ → ℕ → DataHead
data5 destination source changing tag offset = record { destination = destination; source = source; changing = changing; tag = tag; offset = offset }

abbrev pub data6 : ℕ → ℕ → ℕ → ℕ → ℕ → ℕ → Frame DataHead
data6 destination source changing tag offset length = record { head = data5 destination source changing tag offset; length = length }

-- eight as an XFER_RDY
abbrev pub xfer8 : ℕ → ℕ → ℕ → ℕ → ℕ → ℕ → ℕ → ℕ → XferHead
xfer8 destination source retransmit retry tag transfer offset length = record {
  destination = destination;
  source = source;
  retransmit = retransmit;
  retry = retry;
  tag = tag;
  transfer = transfer;
  offset = offset;
  length = length;
}

-- six as the head of data out, and with its length seven
abbrev pub out6 : ℕ → ℕ → ℕ → ℕ → ℕ → ℕ → OutHead
out6 destination source changing tag transfer offset = record { destination = destination; source = source; changing = changing; tag = tag; transfer = transfer; offset = offset }

abbrev pub out7 : ℕ → ℕ → ℕ → ℕ → ℕ → ℕ → ℕ → Frame OutHead
out7 destination source changing tag transfer offset length = record { head = out6 destination source changing tag transfer offset; length = length }

-- six as the head of a RESPONSE, and with its data's length seven
abbrev pub response6 : ℕ → ℕ → ℕ → ℕ → ℕ → ℕ → ResponseHead
response6 destination source retransmit tag present status = record { destination = destination; source = source; retransmit = retransmit; tag = tag; present = present; status = status }

abbrev pub response7 : ℕ → ℕ → ℕ → ℕ → ℕ → ℕ → ℕ → Frame ResponseHead
response7 destination source retransmit tag present status length = record { head = response6 destination source retransmit tag present status; length = length }

-- ---- what a call was lent and left

-- a number or bytes behind a pointer that may write, as they are when the call begins and when it ends
abbrev pub Lent : Type 0 → Type 0
Lent A = Both (MutBor A) (MutBor A)

abbrev pub before : {A : Type 0} → Lent A → A
before x = x.entry.now

abbrev pub after : {A : Type 0} → Lent A → A
after x = x.exit.now

-- the numbers that a reader is lent for the fields of an F, as an F at the one time or the other
abbrev pub Fields : Type 0 → Type 0
Fields F = (Lent ℕ → ℕ) → F

abbrev pub open_lent : Lent ℕ → Lent ℕ → Lent ℕ → Lent ℕ → Lent ℕ → Lent ℕ → Lent ℕ → Lent ℕ → Lent ℕ → Fields OpenFrame
open_lent initiator protocol features rate tag destination source pbc awt at = open9 (at initiator) (at protocol) (at features) (at rate) (at tag) (at destination) (at source) (at pbc) (at awt)

abbrev pub data_lent : Lent ℕ → Lent ℕ → Lent ℕ → Lent ℕ → Lent ℕ → Lent ℕ → Fields (Frame DataHead)
data_lent destination source changing tag offset length at = data6 (at destination) (at source) (at changing) (at tag) (at offset) (at length)

abbrev pub xfer_lent : Lent ℕ → Lent ℕ → Lent ℕ → Lent ℕ → Lent ℕ → Lent ℕ → Lent ℕ → Lent ℕ → Fields XferHead
xfer_lent destination source retransmit retry tag transfer offset length at = xfer8 (at destination) (at source) (at retransmit) (at retry) (at tag) (at transfer) (at offset) (at length)

abbrev pub out_lent : Lent ℕ → Lent ℕ → Lent ℕ → Lent ℕ → Lent ℕ → Lent ℕ → Lent ℕ → Fields (Frame OutHead)
out_lent destination source changing tag transfer offset length at = out7 (at destination) (at source) (at changing) (at tag) (at transfer) (at offset) (at length)

abbrev pub response_lent : Lent ℕ → Lent ℕ → Lent ℕ → Lent ℕ → Lent ℕ → Lent ℕ → Lent ℕ → Fields (Frame ResponseHead)
response_lent destination source retransmit tag present status length at = response7 (at destination) (at source) (at retransmit) (at tag) (at present) (at status) (at length)

-- a reader's call with an answer of A: the bytes that it reads, and the fields that it is lent and leaves
pub record Read (A F : Type 0) : Type 0 where
  pub frame : List ℕ
  pub lent : F
  pub answer : A
  pub left : F

abbrev pub reading : {F : Type 0} → List ℕ → Fields F → ℕ → Read ℕ F
reading frame fields answer = record { frame = frame; lent = fields before; answer = answer; left = fields after }

-- a writer's call: what it is given to write, and the bytes that it is lent and leaves
pub record Write (A G : Type 0) : Type 0 where
  pub given : G
  pub lent : List ℕ
  pub answer : A
  pub left : List ℕ

abbrev pub writing : {G : Type 0} → G → Lent (List ℕ) → ℕ → Write ℕ G
writing given frame answer = record { given = given; lent = before frame; answer = answer; left = after frame }

-- what a writer is given whose frame has data: numbers as a head of H, and the data
pub record Given (H : Type 0) : Type 0 where
  pub head : H
  pub body : List ℕ

abbrev pub DataGiven : Type 0
DataGiven = Given DataHead

abbrev pub data_given : ℕ → ℕ → ℕ → ℕ → ℕ → List ℕ → DataGiven
data_given destination source changing tag offset body = record { head = data5 destination source changing tag offset; body = body }

abbrev pub out_given : ℕ → ℕ → ℕ → ℕ → ℕ → ℕ → List ℕ → Given OutHead
out_given destination source changing tag transfer offset body = record { head = out6 destination source changing tag transfer offset; body = body }

abbrev pub response_given : ℕ → ℕ → ℕ → ℕ → ℕ → ℕ → List ℕ → Given ResponseHead
response_given destination source retransmit tag present status body = record { head = response6 destination source retransmit tag present status; body = body }

-- ---- what a call promises

-- a call with these causes answers 0, and what it was lent becomes new; or it answers the number of the first cause, and what it
-- was lent stays
pub record Called {A : Type 0} (cs : List Cause) (new lent : A) (r : ℕ) (left : A) : Type 0 where
  pub answer : r ≡ refuse number_of cs 0
  pub leaves : left ≡ refuse (λ _. lent) cs new

abbrev pub OpenReads : Read ℕ OpenFrame → Type 0
OpenReads c = Called (open_read_causes c.frame) (frame_of c.frame) c.lent c.answer c.left

abbrev pub OpenWrites : Write ℕ OpenFrame → Type 0
OpenWrites c = Called (open_write_causes c.given c.lent) (open_bytes c.given) c.lent c.answer c.left

abbrev pub DataReads : Read ℕ (Frame DataHead) → Type 0
DataReads c = Called (data_read_causes c.frame) (data_of c.frame) c.lent c.answer c.left

abbrev pub DataWrites : Write ℕ DataGiven → Type 0
DataWrites c = Called (data_write_causes c.given.head c.given.body c.lent) (data_left c.given.head c.given.body c.lent) c.lent c.answer c.left

abbrev pub XferReads : Read ℕ XferHead → Type 0
XferReads c = Called (xfer_read_causes c.frame) (xfer_of c.frame) c.lent c.answer c.left

abbrev pub XferWrites : Write ℕ XferHead → Type 0
XferWrites c = Called (xfer_write_causes c.given c.lent) (xfer_left c.given c.lent) c.lent c.answer c.left

abbrev pub OutReads : Read ℕ (Frame OutHead) → Type 0
OutReads c = Called (out_read_causes c.frame) (out_of c.frame) c.lent c.answer c.left

abbrev pub OutWrites : Write ℕ (Given OutHead) → Type 0
OutWrites c = Called (out_write_causes c.given.head c.given.body c.lent) (out_left c.given.head c.given.body c.lent) c.lent c.answer c.left

abbrev pub ResponseReads : Read ℕ (Frame ResponseHead) → Type 0
ResponseReads c = Called (response_read_causes c.frame) (response_of c.frame) c.lent c.answer c.left

abbrev pub ResponseWrites : Write ℕ (Given ResponseHead) → Type 0
ResponseWrites c = Called (response_write_causes c.given.head c.given.body c.lent) (response_left c.given.head c.given.body c.lent) c.lent c.answer c.left

-- ---- priority

-- an OPEN of which nothing counts but what priority looks at
abbrev pub crossing : ℕ → ℕ → OpenFrame
crossing awt source = open9 0 0 0 0 0 0 source 0 awt

-- 01 OPEN.9
-- 1 if the first of two OPENs, by AWT and source, is of higher priority, else 0
abbrev pub open_higher : ℕ → ℕ → ℕ → ℕ → ℕ
open_higher awt source waited peer = flag (higher_than (crossing awt source) (crossing waited peer))
