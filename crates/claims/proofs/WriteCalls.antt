-- The calls of a write, as the claims see them, and what they were given, lent and left. Assumes nothing.
use Prim.Native.Nat.{ℕ}
use mathlib.Core.List.{List}
use lib.ListN.{get_or}
use Rattle.write.specs.Calls.{Call, start, xfer, got}
use Rattle.take_history.specs.Calls as taking
use Rattle.write.proofs.Write.start.Kinds as start_of_lem
use Rattle.write.proofs.Write.start.Reads as start-reads
use Rattle.write.proofs.Write.xfer.Kinds as xfer_of
use Rattle.write.proofs.Write.xfer.Reads as xfer-reads
use Rattle.write.proofs.Write.ack.Kinds as ack-of
use Rattle.write.proofs.Write.ack.Reads as ack-reads
use Rattle.write.proofs.Write.nak.Kinds as nak-of
use Rattle.write.proofs.Write.nak.Reads as nak-reads
use Rattle.write.proofs.Write.timeout.Kinds as timeout-of
use Rattle.write.proofs.Write.timeout.Reads as timeout-reads
use Rattle.write.proofs.Write.lost.Kinds as lost-of
use Rattle.write.proofs.Write.lost.Reads as lost-reads
use Rattle.write.proofs.Write.got.Kinds as got_of
use Rattle.write.proofs.Write.got.Reads as got-reads
use Rattle.write.proofs.Write.nexus.Kinds as nexus-of
use Rattle.write.proofs.Write.nexus.Reads as nexus-reads
use Rattle.write.proofs.Write.cancel.Kinds as cancel-of
use Rattle.write.proofs.Write.cancel.Reads as cancel-reads
use Rattle.write.proofs.Write.keeps_rules.Kinds as keeps-rules-of
use Rattle.write.proofs.Write.keeps_rules.Reads as keeps-rules-reads
use Rattle.take.proofs.ask.Kinds as ask-of
use Rattle.take.proofs.ask.Reads as ask-reads
use Rattle.take.proofs.take.Kinds as take-of
use Rattle.take.proofs.take.Reads as take-reads
use Rattle.claims.proofs.Calls.{Outcome}
use Rattle.claims.proofs.Named.{first3, behind3, of_command}

abbrev pub Start : Type 0
Start = Outcome 0 start_of_lem.ps start_of_lem.r start-reads.Post

abbrev pub Xfer : Type 0
Xfer = Outcome 0 xfer_of.ps xfer_of.r xfer-reads.Post

abbrev pub Ack : Type 0
Ack = Outcome 0 ack-of.ps ack-of.r ack-reads.Post

abbrev pub Nak : Type 0
Nak = Outcome 0 nak-of.ps nak-of.r nak-reads.Post

abbrev pub Timeout : Type 0
Timeout = Outcome 0 timeout-of.ps timeout-of.r timeout-reads.Post

abbrev pub Lost : Type 0
Lost = Outcome 0 lost-of.ps lost-of.r lost-reads.Post

abbrev pub Got : Type 0
Got = Outcome 0 got_of.ps got_of.r got-reads.Post

abbrev pub Nexus : Type 0
Nexus = Outcome 0 nexus-of.ps nexus-of.r nexus-reads.Post

abbrev pub Cancel : Type 0
Cancel = Outcome 0 cancel-of.ps cancel-of.r cancel-reads.Post

abbrev pub KeepsRules : Type 0
KeepsRules = Outcome 0 keeps-rules-of.ps keeps-rules-of.r keeps-rules-reads.Post

abbrev pub Ask : Type 0
Ask = Outcome 1 ask-of.ps ask-of.r ask-reads.Post

abbrev pub Take : Type 0
Take = Outcome 2 take-of.ps take-of.r take-reads.Post

-- START's four numbers, XFER's set of tags and DATA's three numbers
abbrev pub starting : Start → Call
starting c = let b = c.args.1 in let n = b.1 in let x = n.1 in let r = x.1 in start b.0 n.0 x.0 r.0

abbrev pub asking : Xfer → Call
asking c = xfer c.args.1.0

abbrev pub getting : Got → Call
getting c = let ns = first3 c.args.1 in got (get_or ns 0 0) (get_or ns 1 0) (get_or ns 2 0)

-- what `ask` was given behind the state: the others' tags, three numbers, and the output as it was lent and as it is left
abbrev pub ask_others : Ask → ℕ
ask_others c = c.args.1.0

abbrev pub ask_number : Ask → ℕ → ℕ
ask_number c i = get_or (of_command c.args.1.1.0) i 0

abbrev pub ask_out : Ask → List ℕ
ask_out c = c.args.1.1.1.0.now

abbrev pub ask_left : Ask → List ℕ
ask_left c = c.exit.1.1.1.0.now

abbrev pub ask_call : Ask → taking.Call
ask_call c = taking.Call.ask (ask_others c) (ask_number c 0) (ask_number c 1) (ask_number c 2) (ask_out c)

-- what `take` was given: three numbers, the frame, and the store as it was lent and as it is left
abbrev pub take_number : Take → ℕ → ℕ
take_number c i = get_or (of_command c.args.1.0) i 0

abbrev pub take_frame : Take → List ℕ
take_frame c = c.args.1.1.0.now

abbrev pub take_store_lem : Take → List ℕ
take_store_lem c = c.args.1.1.1.0.now

abbrev pub take_left : Take → List ℕ
take_left c = c.exit.1.1.1.0.now

abbrev pub take_call : Take → taking.Call
take_call c = taking.Call.take (take_number c 0) (take_number c 1) (take_number c 2) (take_frame c) (take_store_lem c)
