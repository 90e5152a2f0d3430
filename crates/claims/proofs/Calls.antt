-- A call as the claims see it: arguments, an answer and what is left of the lent that together meet the promise generated from
-- the source. What is shown of every such outcome is shown of what the call does. Assumes nothing.
use Prim.Native.Nat.{ℕ}
use mathlib.Core.List.{List}
use mathlib.Core.Path.{◌≡◌}
use borrow.Fn.Kinds as kinds
use contract.Lifetimes
use denote.Triple.Clauses
use Rattle.open_frame.proofs.read_open.Kinds as read-open-of
use Rattle.open_frame.proofs.read_open.Reads as read_open_lem
use Rattle.open_frame.proofs.write_open.Kinds as write-open-of
use Rattle.open_frame.proofs.write_open.Reads as write_open
use Rattle.open_frame.proofs.wait_value.Kinds as wait-value-of
use Rattle.open_frame.proofs.wait_value.Reads as wait_value
use Rattle.open_frame.proofs.higher_than.Kinds as higher-than-of
use Rattle.open_frame.proofs.higher_than.Reads as higher_than
use Rattle.ssp_frame.proofs.data.read_data.Kinds as read-data-of
use Rattle.ssp_frame.proofs.data.read_data.Reads as read_data_lem
use Rattle.ssp_frame.proofs.data.write_data.Kinds as write-data-of
use Rattle.ssp_frame.proofs.data.write_data.Reads as write_data
use Rattle.ssp_frame.proofs.xfer_rdy.read_xfer_rdy.Kinds as read-xfer-rdy-of
use Rattle.ssp_frame.proofs.xfer_rdy.read_xfer_rdy.Reads as read_xfer_rdy_lem
use Rattle.ssp_frame.proofs.xfer_rdy.write_xfer_rdy.Kinds as write-xfer-rdy-of
use Rattle.ssp_frame.proofs.xfer_rdy.write_xfer_rdy.Reads as write_xfer_rdy
use Rattle.ssp_frame.proofs.data_out.read_data_out.Kinds as read-data-out-of
use Rattle.ssp_frame.proofs.data_out.read_data_out.Reads as read_data_out_lem
use Rattle.ssp_frame.proofs.data_out.write_data_out.Kinds as write-data-out-of
use Rattle.ssp_frame.proofs.data_out.write_data_out.Reads as write_data_out
use Rattle.ssp_frame.proofs.response.read_response.Kinds as read-response-of
use Rattle.ssp_frame.proofs.response.read_response.Reads as read_response_lem
use Rattle.ssp_frame.proofs.response.write_response.Kinds as write-response-of
use Rattle.ssp_frame.proofs.response.write_response.Reads as write_response
use Rattle.sonerwal.proofs.frames.sonerwal_open_read.Kinds as sonerwal-open-read-of
use Rattle.sonerwal.proofs.frames.sonerwal_open_read.Reads as sonerwal_open_read
use Rattle.sonerwal.proofs.frames.sonerwal_open_write.Kinds as sonerwal-open-write-of
use Rattle.sonerwal.proofs.frames.sonerwal_open_write.Reads as sonerwal_open_write
use Rattle.sonerwal.proofs.frames.sonerwal_data_read.Kinds as sonerwal-data-read-of
use Rattle.sonerwal.proofs.frames.sonerwal_data_read.Reads as sonerwal_data_read
use Rattle.sonerwal.proofs.frames.sonerwal_data_write.Kinds as sonerwal-data-write-of
use Rattle.sonerwal.proofs.frames.sonerwal_data_write.Reads as sonerwal_data_write
use Rattle.sonerwal.proofs.frames.sonerwal_xfer_rdy_read.Kinds as sonerwal-xfer-rdy-read-of
use Rattle.sonerwal.proofs.frames.sonerwal_xfer_rdy_read.Reads as sonerwal_xfer_rdy_read
use Rattle.sonerwal.proofs.frames.sonerwal_xfer_rdy_write.Kinds as sonerwal-xfer-rdy-write-of
use Rattle.sonerwal.proofs.frames.sonerwal_xfer_rdy_write.Reads as sonerwal_xfer_rdy_write
use Rattle.sonerwal.proofs.frames.sonerwal_data_out_read.Kinds as sonerwal-data-out-read-of
use Rattle.sonerwal.proofs.frames.sonerwal_data_out_read.Reads as sonerwal_data_out_read
use Rattle.sonerwal.proofs.frames.sonerwal_data_out_write.Kinds as sonerwal-data-out-write-of
use Rattle.sonerwal.proofs.frames.sonerwal_data_out_write.Reads as sonerwal_data_out_write
use Rattle.sonerwal.proofs.frames.sonerwal_response_read.Kinds as sonerwal-response-read-of
use Rattle.sonerwal.proofs.frames.sonerwal_response_read.Reads as sonerwal_response_read
use Rattle.sonerwal.proofs.frames.sonerwal_response_write.Kinds as sonerwal-response-write-of
use Rattle.sonerwal.proofs.frames.sonerwal_response_write.Reads as sonerwal_response_write
use Rattle.sonerwal.proofs.frames.sonerwal_wait_value.Kinds as sonerwal-wait-value-of
use Rattle.sonerwal.proofs.frames.sonerwal_wait_value.Reads as sonerwal_wait_value
use Rattle.sonerwal.proofs.frames.sonerwal_open_higher.Kinds as sonerwal-open-higher-of
use Rattle.sonerwal.proofs.frames.sonerwal_open_higher.Reads as sonerwal_open_higher
use Rattle.transfer.proofs.Transfer.start.Kinds as start_of_lem
use Rattle.transfer.proofs.Transfer.start.Reads as start
use Rattle.transfer.proofs.Transfer.frame.Kinds as frame-of
use Rattle.transfer.proofs.Transfer.frame.Reads as frame
use Rattle.transfer.proofs.Transfer.ack.Kinds as ack-of
use Rattle.transfer.proofs.Transfer.ack.Reads as ack
use Rattle.transfer.proofs.Transfer.nak.Kinds as nak-of
use Rattle.transfer.proofs.Transfer.nak.Reads as nak
use Rattle.transfer.proofs.Transfer.timeout.Kinds as timeout-of
use Rattle.transfer.proofs.Transfer.timeout.Reads as timeout
use Rattle.transfer.proofs.Transfer.lost.Kinds as lost-of
use Rattle.transfer.proofs.Transfer.lost.Reads as lost
use Rattle.transfer.proofs.Transfer.nexus.Kinds as nexus-of
use Rattle.transfer.proofs.Transfer.nexus.Reads as nexus
use Rattle.transfer.proofs.Transfer.cancel.Kinds as cancel-of
use Rattle.transfer.proofs.Transfer.cancel.Reads as cancel
use Rattle.transfer.proofs.Transfer.keeps_rules.Kinds as keeps-rules-of
use Rattle.transfer.proofs.Transfer.keeps_rules.Reads as keeps_rules_lem
use Rattle.send.proofs.next_frame.Kinds as next-frame-of
use Rattle.send.proofs.next_frame.Reads as next_frame
use Rattle.lines.proofs.read_number.Kinds as read-number-of
use Rattle.lines.proofs.read_number.Reads as read_number
use Rattle.runs.proofs.fresh.Kinds as fresh-of
use Rattle.runs.proofs.fresh.Reads as fresh
use Rattle.runs.proofs.feed.Kinds as feed-of
use Rattle.runs.proofs.feed.Reads as feed
use Rattle.runs.proofs.close.Kinds as close_of
use Rattle.runs.proofs.close.Reads as close
use Rattle.xl.proofs.step.Kinds as step_of_lem
use Rattle.xl.proofs.step.Reads as step
use Rattle.xl.proofs.receive.Kinds as receive-of
use Rattle.xl.proofs.receive.Reads as receive
use Rattle.xl.proofs.status.Kinds as status-of
use Rattle.xl.proofs.status.Reads as status

-- of a function of n lifetimes, parameters ps and result r, with this promise
pub record Outcome (n : ℕ) (ps : List (kinds.ParamKind n)) (r : kinds.ResultKind n) (post : kinds.Out n ps r) : Type 0 where
  pub lifetimes : Lifetimes.Lfts n
  pub args : kinds.Dens lifetimes ps
  pub answer : (kinds.res_t r lifetimes).Denot
  pub exit : Clauses.AtExit (kinds.ended_of n ps r) lifetimes
  pub met : post lifetimes args answer exit

-- a function of n lifetimes and parameters ps that asks pre of them takes anything
abbrev pub Anything : (n : ℕ) (ps : List (kinds.ParamKind n)) → kinds.In n ps → Type 0
Anything n ps pre = (κs : Lifetimes.Lfts n) (a : kinds.Dens κs ps) → pre κs a

-- a function of n lifetimes, parameters ps and result r has one outcome: its answer, and what `left` reads of the lent at exit
abbrev pub One : (n : ℕ) (ps : List (kinds.ParamKind n)) (r : kinds.ResultKind n) {L : Type 0} → ((κs : Lifetimes.Lfts n) → Clauses.AtExit (kinds.ended_of n ps r) κs → L) → kinds.Out n ps r → Type 0
One n ps r left post = (κs : Lifetimes.Lfts n) (a : kinds.Dens κs ps) (x y : (kinds.res_t r κs).Denot) (s t : Clauses.AtExit (kinds.ended_of n ps r) κs) → post κs a x s → post κs a y t → (x ≡ y) × (left κs s ≡ left κs t)

-- nothing lent can change
abbrev pub none : (n : ℕ) (ps : List (kinds.ParamKind n)) (r : kinds.ResultKind n) (κs : Lifetimes.Lfts n) → Clauses.AtExit (kinds.ended_of n ps r) κs → Unit {0}
none n ps r κs s = tt

abbrev pub ReadOpen : Type 0
ReadOpen = Outcome 1 read-open-of.ps read-open-of.r read_open_lem.Post

abbrev pub WriteOpen : Type 0
WriteOpen = Outcome 1 write-open-of.ps write-open-of.r write_open.Post

abbrev pub WaitValue : Type 0
WaitValue = Outcome 0 wait-value-of.ps wait-value-of.r wait_value.Post

abbrev pub HigherThan : Type 0
HigherThan = Outcome 0 higher-than-of.ps higher-than-of.r higher_than.Post

abbrev pub ReadData : Type 0
ReadData = Outcome 1 read-data-of.ps read-data-of.r read_data_lem.Post

abbrev pub WriteData : Type 0
WriteData = Outcome 2 write-data-of.ps write-data-of.r write_data.Post

abbrev pub ReadXfer : Type 0
ReadXfer = Outcome 1 read-xfer-rdy-of.ps read-xfer-rdy-of.r read_xfer_rdy_lem.Post

abbrev pub WriteXfer : Type 0
WriteXfer = Outcome 1 write-xfer-rdy-of.ps write-xfer-rdy-of.r write_xfer_rdy.Post

abbrev pub ReadOut : Type 0
ReadOut = Outcome 1 read-data-out-of.ps read-data-out-of.r read_data_out_lem.Post

abbrev pub WriteOut : Type 0
WriteOut = Outcome 2 write-data-out-of.ps write-data-out-of.r write_data_out.Post

abbrev pub ReadResponse : Type 0
ReadResponse = Outcome 1 read-response-of.ps read-response-of.r read_response_lem.Post

abbrev pub WriteResponse : Type 0
WriteResponse = Outcome 2 write-response-of.ps write-response-of.r write_response.Post

abbrev pub FaceOpenRead : Type 0
FaceOpenRead = Outcome 10 sonerwal-open-read-of.ps sonerwal-open-read-of.r sonerwal_open_read.Post

abbrev pub FaceOpenWrite : Type 0
FaceOpenWrite = Outcome 1 sonerwal-open-write-of.ps sonerwal-open-write-of.r sonerwal_open_write.Post

abbrev pub FaceDataRead : Type 0
FaceDataRead = Outcome 7 sonerwal-data-read-of.ps sonerwal-data-read-of.r sonerwal_data_read.Post

abbrev pub FaceDataWrite : Type 0
FaceDataWrite = Outcome 2 sonerwal-data-write-of.ps sonerwal-data-write-of.r sonerwal_data_write.Post

abbrev pub FaceXferRead : Type 0
FaceXferRead = Outcome 9 sonerwal-xfer-rdy-read-of.ps sonerwal-xfer-rdy-read-of.r sonerwal_xfer_rdy_read.Post

abbrev pub FaceXferWrite : Type 0
FaceXferWrite = Outcome 1 sonerwal-xfer-rdy-write-of.ps sonerwal-xfer-rdy-write-of.r sonerwal_xfer_rdy_write.Post

abbrev pub FaceOutRead : Type 0
FaceOutRead = Outcome 8 sonerwal-data-out-read-of.ps sonerwal-data-out-read-of.r sonerwal_data_out_read.Post

abbrev pub FaceOutWrite : Type 0
FaceOutWrite = Outcome 2 sonerwal-data-out-write-of.ps sonerwal-data-out-write-of.r sonerwal_data_out_write.Post

abbrev pub FaceResponseRead : Type 0
FaceResponseRead = Outcome 8 sonerwal-response-read-of.ps sonerwal-response-read-of.r sonerwal_response_read.Post

abbrev pub FaceResponseWrite : Type 0
FaceResponseWrite = Outcome 2 sonerwal-response-write-of.ps sonerwal-response-write-of.r sonerwal_response_write.Post

abbrev pub FaceWaitValue : Type 0
FaceWaitValue = Outcome 0 sonerwal-wait-value-of.ps sonerwal-wait-value-of.r sonerwal_wait_value.Post

abbrev pub FaceOpenHigher : Type 0
FaceOpenHigher = Outcome 0 sonerwal-open-higher-of.ps sonerwal-open-higher-of.r sonerwal_open_higher.Post

abbrev pub Start : Type 0
Start = Outcome 0 start_of_lem.ps start_of_lem.r start.Post

abbrev pub Frame : Type 0
Frame = Outcome 0 frame-of.ps frame-of.r frame.Post

abbrev pub Ack : Type 0
Ack = Outcome 0 ack-of.ps ack-of.r ack.Post

abbrev pub Nak : Type 0
Nak = Outcome 0 nak-of.ps nak-of.r nak.Post

abbrev pub Timeout : Type 0
Timeout = Outcome 0 timeout-of.ps timeout-of.r timeout.Post

abbrev pub Lost : Type 0
Lost = Outcome 0 lost-of.ps lost-of.r lost.Post

abbrev pub Nexus : Type 0
Nexus = Outcome 0 nexus-of.ps nexus-of.r nexus.Post

abbrev pub Cancel : Type 0
Cancel = Outcome 0 cancel-of.ps cancel-of.r cancel.Post

abbrev pub KeepsRules : Type 0
KeepsRules = Outcome 0 keeps-rules-of.ps keeps-rules-of.r keeps_rules_lem.Post

abbrev pub NextFrame : Type 0
NextFrame = Outcome 2 next-frame-of.ps next-frame-of.r next_frame.Post

abbrev pub ReadNumber : Type 0
ReadNumber = Outcome 1 read-number-of.ps read-number-of.r read_number.Post

abbrev pub Fresh : Type 0
Fresh = Outcome 0 fresh-of.ps fresh-of.r fresh.Post

abbrev pub Feed : Type 0
Feed = Outcome 2 feed-of.ps feed-of.r feed.Post

abbrev pub Close : Type 0
Close = Outcome 1 close_of.ps close_of.r close.Post

abbrev pub Step : Type 0
Step = Outcome 0 step_of_lem.ps step_of_lem.r step.Post

abbrev pub Receive : Type 0
Receive = Outcome 1 receive-of.ps receive-of.r receive.Post

abbrev pub Status : Type 0
Status = Outcome 0 status-of.ps status-of.r status.Post
