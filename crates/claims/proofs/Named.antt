-- What the calls of frames, of a transfer and of text were given, lent and left, by name. The checker has a call's arguments as pairs
-- within pairs, in the order of its source; they are counted out here, C's as include/sonerwal.h lists them. Assumes nothing.
use Rattle.ssp_frame.specs.declared.Frame.{Frame}
use Rattle.refusals.specs.declared.Refusal.{Refusal}
use Rattle.std.specs.Prelude.{Result}
use Prim.Native.Nat.{ℕ}
use mathlib.Core.List.{List, [], ◌∷◌, ◌++◌, map}
use lib.ListN.{get_or}
use Rattle.open_frame.specs.declared.OpenFrame.{OpenFrame}
use Rattle.ssp_frame.specs.declared.data.DataHead.{DataHead}
use Rattle.ssp_frame.specs.declared.xfer_rdy.XferHead.{XferHead}
use Rattle.ssp_frame.specs.declared.data_out.OutHead.{OutHead}
use Rattle.ssp_frame.specs.declared.response.ResponseHead.{ResponseHead}
use Rattle.transfer.specs.Calls.{Call, start}
use Rattle.transfer.specs.declared.Stepped.{Stepped}
use Rattle.send.specs.Send.{head_of}
use Rattle.send.specs.Calls as sending
use Rattle.runs.specs.declared.Run.{Run}
use Rattle.sonerwal.specs.Face.{Read, Write, Given, DataGiven, open9, data5, data6, xfer8, out6, out7, response6, response7}
use Rattle.take.specs.declared.Command.{Command}
use Rattle.claims.proofs.Calls.{ReadOpen, WriteOpen, ReadData, WriteData, FaceOpenRead, FaceOpenWrite, FaceDataRead, FaceDataWrite, HigherThan, Start, NextFrame, ReadNumber, Feed, Close}
use Rattle.claims.proofs.Calls.{ReadXfer, WriteXfer, ReadOut, WriteOut, ReadResponse, WriteResponse, FaceXferRead, FaceXferWrite, FaceOutRead, FaceOutWrite, FaceResponseRead, FaceResponseWrite}

-- a command's three numbers
abbrev pub of_command : Command → List ℕ
of_command m = m.destination ∷ m.source ∷ m.tag ∷ []

-- three and six to nine of A, whatever R stands behind them
abbrev pub first3 : {A R : Type 0} → A × (A × (A × R)) → List A
first3 x = x.0 ∷ x.1.0 ∷ x.1.1.0 ∷ []

abbrev pub behind3 : {A B C R : Type 0} → A × (B × (C × R)) → R
behind3 x = x.1.1.1

abbrev pub first6 : {A R : Type 0} → A × (A × (A × (A × (A × (A × R))))) → List A
first6 x = first3 x ++ first3 (behind3 x)

abbrev pub behind6 : {A B C D E F R : Type 0} → A × (B × (C × (D × (E × (F × R))))) → R
behind6 x = behind3 (behind3 x)

abbrev pub first7 : {A R : Type 0} → A × (A × (A × (A × (A × (A × (A × R)))))) → List A
first7 x = first6 x ++ ((behind6 x).0 ∷ [])

abbrev pub first8 : {A R : Type 0} → A × (A × (A × (A × (A × (A × (A × (A × R))))))) → List A
first8 x = first6 x ++ ((behind6 x).0 ∷ (behind6 x).1.0 ∷ [])

abbrev pub first9 : {A R : Type 0} → A × (A × (A × (A × (A × (A × (A × (A × (A × R)))))))) → List A
first9 x = first6 x ++ first3 (behind3 (behind3 x))

abbrev pub behind9 : {A B C D E F G H I R : Type 0} → A × (B × (C × (D × (E × (F × (G × (H × (I × R)))))))) → R
behind9 x = behind3 (behind3 (behind3 x))

-- numbers by their places, as an OPEN frame, as the head of a DATA frame and as a DATA frame
abbrev pub open_of : List ℕ → OpenFrame
open_of ns = open9 (get_or ns 0 0) (get_or ns 1 0) (get_or ns 2 0) (get_or ns 3 0) (get_or ns 4 0) (get_or ns 5 0) (get_or ns 6 0) (get_or ns 7 0) (get_or ns 8 0)

abbrev pub head_of_lem : List ℕ → DataHead
head_of_lem ns = data5 (get_or ns 0 0) (get_or ns 1 0) (get_or ns 2 0) (get_or ns 3 0) (get_or ns 4 0)

abbrev pub data_of : List ℕ → Frame DataHead
data_of ns = data6 (get_or ns 0 0) (get_or ns 1 0) (get_or ns 2 0) (get_or ns 3 0) (get_or ns 4 0) (get_or ns 5 0)

-- as an XFER_RDY, and as the heads and frames of data out and RESPONSE
abbrev pub xfer_of : List ℕ → XferHead
xfer_of ns = xfer8 (get_or ns 0 0) (get_or ns 1 0) (get_or ns 2 0) (get_or ns 3 0) (get_or ns 4 0) (get_or ns 5 0) (get_or ns 6 0) (get_or ns 7 0)

abbrev pub out_head_of : List ℕ → OutHead
out_head_of ns = out6 (get_or ns 0 0) (get_or ns 1 0) (get_or ns 2 0) (get_or ns 3 0) (get_or ns 4 0) (get_or ns 5 0)

abbrev pub out_of : List ℕ → Frame OutHead
out_of ns = out7 (get_or ns 0 0) (get_or ns 1 0) (get_or ns 2 0) (get_or ns 3 0) (get_or ns 4 0) (get_or ns 5 0) (get_or ns 6 0)

abbrev pub response_head_of : List ℕ → ResponseHead
response_head_of ns = response6 (get_or ns 0 0) (get_or ns 1 0) (get_or ns 2 0) (get_or ns 3 0) (get_or ns 4 0) (get_or ns 5 0)

abbrev pub response_of : List ℕ → Frame ResponseHead
response_of ns = response7 (get_or ns 0 0) (get_or ns 1 0) (get_or ns 2 0) (get_or ns 3 0) (get_or ns 4 0) (get_or ns 5 0) (get_or ns 6 0)

-- ---- the calls from Rattle; a reader is lent no fields

abbrev pub open_read : ReadOpen → Read (Result OpenFrame Refusal) (Unit {0})
open_read c = record { frame = c.args.0.now; lent = tt; answer = c.answer; left = tt }

abbrev pub open_write : WriteOpen → Write (Result (Unit {0}) Refusal) OpenFrame
open_write c = record { given = c.args.0; lent = c.args.1.0.now; answer = c.answer; left = c.exit.1.0.now }

abbrev pub data_read : ReadData → Read (Result (Frame DataHead) Refusal) (Unit {0})
data_read c = record { frame = c.args.0.now; lent = tt; answer = c.answer; left = tt }

abbrev pub data_write : WriteData → Write (Result (Unit {0}) Refusal) DataGiven
data_write c =
    let out = c.args.1.1.0 in
    record { given = record { head = c.args.0; body = c.args.1.0.now }; lent = out.now; answer = c.answer; left = c.exit.1.1.0.now }

abbrev pub xfer_read : ReadXfer → Read (Result XferHead Refusal) (Unit {0})
xfer_read c = record { frame = c.args.0.now; lent = tt; answer = c.answer; left = tt }

abbrev pub xfer_write : WriteXfer → Write (Result (Unit {0}) Refusal) XferHead
xfer_write c = record { given = c.args.0; lent = c.args.1.0.now; answer = c.answer; left = c.exit.1.0.now }

abbrev pub out_read : ReadOut → Read (Result (Frame OutHead) Refusal) (Unit {0})
out_read c = record { frame = c.args.0.now; lent = tt; answer = c.answer; left = tt }

abbrev pub out_write : WriteOut → Write (Result (Unit {0}) Refusal) (Given OutHead)
out_write c =
    let out = c.args.1.1.0 in
    record { given = record { head = c.args.0; body = c.args.1.0.now }; lent = out.now; answer = c.answer; left = c.exit.1.1.0.now }

abbrev pub response_read : ReadResponse → Read (Result (Frame ResponseHead) Refusal) (Unit {0})
response_read c = record { frame = c.args.0.now; lent = tt; answer = c.answer; left = tt }

abbrev pub response_write : WriteResponse → Write (Result (Unit {0}) Refusal) (Given ResponseHead)
response_write c =
    let out = c.args.1.1.0 in
    record { given = record { head = c.args.0; body = c.args.1.0.now }; lent = out.now; answer = c.answer; left = c.exit.1.1.0.now }

-- the one frame and the other, whose priorities are compared
abbrev pub one_open : HigherThan → OpenFrame
one_open c = c.args.0

abbrev pub other_open : HigherThan → OpenFrame
other_open c = c.args.1.0

-- ---- the calls from C

-- the numbers that a reader was lent and left, and that a writer was given, in the order of the calls
abbrev pub open_lent : FaceOpenRead → List ℕ
open_lent c = map (λ x. x.now) (first9 c.args.1)

abbrev pub open_left : FaceOpenRead → List ℕ
open_left c = map (λ x. x.now) (first9 c.exit.1)

abbrev pub open_given : FaceOpenWrite → List ℕ
open_given c = first9 c.args

abbrev pub data_lent : FaceDataRead → List ℕ
data_lent c = map (λ x. x.now) (first6 c.args.1)

abbrev pub data_left_lem : FaceDataRead → List ℕ
data_left_lem c = map (λ x. x.now) (first6 c.exit.1)

abbrev pub data_given : FaceDataWrite → List ℕ
data_given c = let more = behind3 c.args in first3 c.args ++ (more.0 ∷ more.1.0 ∷ [])

abbrev pub c_open_read : FaceOpenRead → Read ℕ OpenFrame
c_open_read c = record { frame = c.args.0.now; lent = open_of (open_lent c); answer = c.answer; left = open_of (open_left c) }

abbrev pub c_open_write : FaceOpenWrite → Write ℕ OpenFrame
c_open_write c = record { given = open_of (open_given c); lent = (behind9 c.args).0.now; answer = c.answer; left = (behind9 c.exit).0.now }

abbrev pub c_data_read : FaceDataRead → Read ℕ (Frame DataHead)
c_data_read c = record { frame = c.args.0.now; lent = data_of (data_lent c); answer = c.answer; left = data_of (data_left_lem c) }

abbrev pub c_data_write : FaceDataWrite → Write ℕ DataGiven
c_data_write c =
    let slices = (behind3 c.args).1.1 in
    record { given = record { head = head_of_lem (data_given c); body = slices.0.now }; lent = slices.1.0.now; answer = c.answer; left = (behind3 (behind3 c.exit)).0.now }

abbrev pub xfer_lent : FaceXferRead → List ℕ
xfer_lent c = map (λ x. x.now) (first8 c.args.1)

abbrev pub xfer_left_lem : FaceXferRead → List ℕ
xfer_left_lem c = map (λ x. x.now) (first8 c.exit.1)

abbrev pub xfer_given : FaceXferWrite → List ℕ
xfer_given c = first8 c.args

abbrev pub out_lent : FaceOutRead → List ℕ
out_lent c = map (λ x. x.now) (first7 c.args.1)

abbrev pub out_left_lem : FaceOutRead → List ℕ
out_left_lem c = map (λ x. x.now) (first7 c.exit.1)

abbrev pub out_given : FaceOutWrite → List ℕ
out_given c = first6 c.args

abbrev pub response_lent : FaceResponseRead → List ℕ
response_lent c = map (λ x. x.now) (first7 c.args.1)

abbrev pub response_left_lem : FaceResponseRead → List ℕ
response_left_lem c = map (λ x. x.now) (first7 c.exit.1)

abbrev pub response_given : FaceResponseWrite → List ℕ
response_given c = first6 c.args

abbrev pub c_xfer_read : FaceXferRead → Read ℕ XferHead
c_xfer_read c = record { frame = c.args.0.now; lent = xfer_of (xfer_lent c); answer = c.answer; left = xfer_of (xfer_left_lem c) }

abbrev pub c_xfer_write : FaceXferWrite → Write ℕ XferHead
c_xfer_write c = record { given = xfer_of (xfer_given c); lent = (behind6 c.args).1.1.0.now; answer = c.answer; left = (behind6 c.exit).1.1.0.now }

abbrev pub c_out_read : FaceOutRead → Read ℕ (Frame OutHead)
c_out_read c = record { frame = c.args.0.now; lent = out_of (out_lent c); answer = c.answer; left = out_of (out_left_lem c) }

abbrev pub c_out_write : FaceOutWrite → Write ℕ (Given OutHead)
c_out_write c =
    let slices = behind6 c.args in
    record { given = record { head = out_head_of (out_given c); body = slices.0.now }; lent = slices.1.0.now; answer = c.answer; left = (behind6 c.exit).1.0.now }

abbrev pub c_response_read : FaceResponseRead → Read ℕ (Frame ResponseHead)
c_response_read c = record { frame = c.args.0.now; lent = response_of (response_lent c); answer = c.answer; left = response_of (response_left_lem c) }

abbrev pub c_response_write : FaceResponseWrite → Write ℕ (Given ResponseHead)
c_response_write c =
    let slices = behind6 c.args in
    record { given = record { head = response_head_of (response_given c); body = slices.0.now }; lent = slices.1.0.now; answer = c.answer; left = (behind6 c.exit).1.0.now }

-- ---- the calls of a transfer

-- START's four numbers
abbrev pub asking : Start → Call
asking c = let b = c.args.1 in let n = b.1 in let m = n.1 in let r = m.1 in start b.0 n.0 m.0 r.0

-- the next-frame call's three, its data and its output
abbrev pub next_numbers : NextFrame → List ℕ
next_numbers c = first3 c.args.1

abbrev pub next_write : NextFrame → Write Stepped DataGiven
next_write c =
    let ns = next_numbers c in
    let slices = behind3 c.args.1 in
    record {
      given = record { head = head_of c.args.0 (get_or ns 0 0) (get_or ns 1 0) (get_or ns 2 0); body = slices.0.now };
      lent = slices.1.0.now;
      answer = c.answer;
      left = (behind3 c.exit.1).1.0.now;
    }

abbrev pub next_call : NextFrame → sending.Call
next_call c = let ns = next_numbers c in sending.Call.next (get_or ns 0 0) (get_or ns 1 0) (get_or ns 2 0) (next_write c).given.body (next_write c).lent

-- ---- the calls of text

-- the bytes that are read as a number, and the largest that is taken
abbrev pub digits : ReadNumber → List ℕ
digits c = c.args.0.now

abbrev pub most : ReadNumber → ℕ
most c = c.args.1.0

-- the run that is fed, the block, and the output as it was lent and as it is left
abbrev pub feed_run : Feed → Run
feed_run c = c.args.0

abbrev pub feed_block : Feed → List ℕ
feed_block c = c.args.1.0.now

abbrev pub feed_lent : Feed → List ℕ
feed_lent c = c.args.1.1.0.now

abbrev pub feed_left : Feed → List ℕ
feed_left c = c.exit.1.1.0.now

abbrev pub close_run : Close → Run
close_run c = c.args.0

abbrev pub close_lent : Close → List ℕ
close_lent c = c.args.1.0.now

abbrev pub close_left : Close → List ℕ
close_left c = c.exit.1.0.now
