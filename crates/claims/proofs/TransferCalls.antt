-- The calls of a transfer from C, as the claims see them, and what they were given, lent and left. Assumes nothing.
use Prim.Native.Nat.{ℕ}
use mathlib.Core.List.{List}
use lib.ListN.{get_or}
use Rattle.transfer_lent.specs.Face.{Call, start}
use Rattle.sonerwal.proofs.transfers.sonerwal_transfer_start.Kinds as start_of_lem
use Rattle.sonerwal.proofs.transfers.sonerwal_transfer_start.Reads as start-reads
use Rattle.sonerwal.proofs.transfers.sonerwal_transfer_frame.Kinds as frame-of
use Rattle.sonerwal.proofs.transfers.sonerwal_transfer_frame.Reads as frame
use Rattle.sonerwal.proofs.transfers.sonerwal_transfer_ack.Kinds as ack-of
use Rattle.sonerwal.proofs.transfers.sonerwal_transfer_ack.Reads as ack
use Rattle.sonerwal.proofs.transfers.sonerwal_transfer_nak.Kinds as nak-of
use Rattle.sonerwal.proofs.transfers.sonerwal_transfer_nak.Reads as nak
use Rattle.sonerwal.proofs.transfers.sonerwal_transfer_timeout.Kinds as timeout-of
use Rattle.sonerwal.proofs.transfers.sonerwal_transfer_timeout.Reads as timeout
use Rattle.sonerwal.proofs.transfers.sonerwal_transfer_lost.Kinds as lost-of
use Rattle.sonerwal.proofs.transfers.sonerwal_transfer_lost.Reads as lost
use Rattle.sonerwal.proofs.transfers.sonerwal_transfer_nexus.Kinds as nexus-of
use Rattle.sonerwal.proofs.transfers.sonerwal_transfer_nexus.Reads as nexus
use Rattle.sonerwal.proofs.transfers.sonerwal_transfer_cancel.Kinds as cancel-of
use Rattle.sonerwal.proofs.transfers.sonerwal_transfer_cancel.Reads as cancel
use Rattle.sonerwal.proofs.transfers.sonerwal_transfer_next.Kinds as next_of
use Rattle.sonerwal.proofs.transfers.sonerwal_transfer_next.Reads as next
use Rattle.sonerwal.proofs.transfers.sonerwal_transfer_length.Kinds as length-of
use Rattle.sonerwal.proofs.transfers.sonerwal_transfer_length.Reads as length
use Rattle.claims.proofs.Calls.{Outcome}
use Rattle.claims.proofs.Named.{first3, behind3}

abbrev pub Start : Type 0
Start = Outcome 0 start_of_lem.ps start_of_lem.r start-reads.Post

abbrev pub Frame : Type 0
Frame = Outcome 0 frame-of.ps frame-of.r frame.Post

abbrev pub Ack : Type 0
Ack = Outcome 0 ack-of.ps ack-of.r ack.Post

abbrev pub Nak : Type 0
Nak = Outcome 0 nak-of.ps nak-of.r nak.Post

abbrev pub Timeout : Type 0
Timeout = Outcome 0 timeout-of.ps timeout-of.r timeout.Post

abbrev pub Lost : Type 0
Lost = Outcome 0 lost-of.ps lost-of.r lost.Post

abbrev pub Nexus : Type 0
Nexus = Outcome 0 nexus-of.ps nexus-of.r nexus.Post

abbrev pub Cancel : Type 0
Cancel = Outcome 0 cancel-of.ps cancel-of.r cancel.Post

abbrev pub Next : Type 0
Next = Outcome 2 next_of.ps next_of.r next.Post

abbrev pub Length : Type 0
Length = Outcome 0 length-of.ps length-of.r length.Post

-- START's four numbers
abbrev pub asking : Start → Call
asking c = let b = c.args.1 in let n = b.1 in let m = n.1 in let r = m.1 in start b.0 n.0 m.0 r.0

-- the next-frame call's three numbers, its data, and the output as it was lent and as it is left
abbrev pub destination : Next → ℕ
destination c = get_or (first3 c.args.1) 0 0

abbrev pub source : Next → ℕ
source c = get_or (first3 c.args.1) 1 0

abbrev pub tag : Next → ℕ
tag c = get_or (first3 c.args.1) 2 0

abbrev pub body : Next → List ℕ
body c = (behind3 c.args.1).0.now

abbrev pub out : Next → List ℕ
out c = (behind3 c.args.1).1.0.now

abbrev pub left : Next → List ℕ
left c = (behind3 c.exit.1).1.0.now
