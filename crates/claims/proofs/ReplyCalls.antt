-- The calls of a reply, from Rattle and from C, as the claims see them, and what they were given, lent and left. Assumes nothing.
use Prim.Native.Nat.{ℕ}
use mathlib.Core.List.{List, [], ◌∷◌, ◌++◌}
use lib.ListN.{get_or}
use Rattle.ssp_frame.specs.declared.response.ResponseHead.{ResponseHead}
use Rattle.reply.specs.Calls.{Call, start}
use Rattle.take.specs.Respond.{response_head}
use Rattle.take_history.specs.Replies as writing
use Rattle.reply_lent.specs.Face as face
use Rattle.reply.proofs.Reply.start.Kinds as start_of_lem
use Rattle.reply.proofs.Reply.start.Reads as start-reads
use Rattle.reply.proofs.Reply.respond.Kinds as respond-of
use Rattle.reply.proofs.Reply.respond.Reads as respond-reads
use Rattle.reply.proofs.Reply.ack.Kinds as ack-of
use Rattle.reply.proofs.Reply.ack.Reads as ack-reads
use Rattle.reply.proofs.Reply.nak.Kinds as nak-of
use Rattle.reply.proofs.Reply.nak.Reads as nak-reads
use Rattle.reply.proofs.Reply.timeout.Kinds as timeout-of
use Rattle.reply.proofs.Reply.timeout.Reads as timeout-reads
use Rattle.reply.proofs.Reply.lost.Kinds as lost-of
use Rattle.reply.proofs.Reply.lost.Reads as lost-reads
use Rattle.reply.proofs.Reply.nexus.Kinds as nexus-of
use Rattle.reply.proofs.Reply.nexus.Reads as nexus-reads
use Rattle.reply.proofs.Reply.cancel.Kinds as cancel-of
use Rattle.reply.proofs.Reply.cancel.Reads as cancel-reads
use Rattle.reply.proofs.Reply.keeps_rules.Kinds as keeps-rules-of
use Rattle.reply.proofs.Reply.keeps_rules.Reads as keeps-rules-reads
use Rattle.take.proofs.respond.respond.Kinds as write-of
use Rattle.take.proofs.respond.respond.Reads as write-reads
use Rattle.sonerwal.proofs.replies.sonerwal_reply_start.Kinds as face-start-of
use Rattle.sonerwal.proofs.replies.sonerwal_reply_start.Reads as face-start-reads
use Rattle.sonerwal.proofs.replies.sonerwal_reply_ack.Kinds as face-ack-of
use Rattle.sonerwal.proofs.replies.sonerwal_reply_ack.Reads as face-ack-reads
use Rattle.sonerwal.proofs.replies.sonerwal_reply_nak.Kinds as face-nak-of
use Rattle.sonerwal.proofs.replies.sonerwal_reply_nak.Reads as face-nak-reads
use Rattle.sonerwal.proofs.replies.sonerwal_reply_timeout.Kinds as face-timeout-of
use Rattle.sonerwal.proofs.replies.sonerwal_reply_timeout.Reads as face-timeout-reads
use Rattle.sonerwal.proofs.replies.sonerwal_reply_lost.Kinds as face-lost-of
use Rattle.sonerwal.proofs.replies.sonerwal_reply_lost.Reads as face-lost-reads
use Rattle.sonerwal.proofs.replies.sonerwal_reply_nexus.Kinds as face-nexus-of
use Rattle.sonerwal.proofs.replies.sonerwal_reply_nexus.Reads as face-nexus-reads
use Rattle.sonerwal.proofs.replies.sonerwal_reply_cancel.Kinds as face-cancel-of
use Rattle.sonerwal.proofs.replies.sonerwal_reply_cancel.Reads as face-cancel-reads
use Rattle.sonerwal.proofs.replies.sonerwal_reply_respond.Kinds as face-respond-of
use Rattle.sonerwal.proofs.replies.sonerwal_reply_respond.Reads as face-respond-reads
use Rattle.claims.proofs.Calls.{Outcome}
use Rattle.claims.proofs.Named.{first3, behind3, of_command}

-- ---- the calls from Rattle

abbrev pub Start : Type 0
Start = Outcome 0 start_of_lem.ps start_of_lem.r start-reads.Post

abbrev pub Respond : Type 0
Respond = Outcome 0 respond-of.ps respond-of.r respond-reads.Post

abbrev pub Ack : Type 0
Ack = Outcome 0 ack-of.ps ack-of.r ack-reads.Post

abbrev pub Nak : Type 0
Nak = Outcome 0 nak-of.ps nak-of.r nak-reads.Post

abbrev pub Timeout : Type 0
Timeout = Outcome 0 timeout-of.ps timeout-of.r timeout-reads.Post

abbrev pub Lost : Type 0
Lost = Outcome 0 lost-of.ps lost-of.r lost-reads.Post

abbrev pub Nexus : Type 0
Nexus = Outcome 0 nexus-of.ps nexus-of.r nexus-reads.Post

abbrev pub Cancel : Type 0
Cancel = Outcome 0 cancel-of.ps cancel-of.r cancel-reads.Post

abbrev pub KeepsRules : Type 0
KeepsRules = Outcome 0 keeps-rules-of.ps keeps-rules-of.r keeps-rules-reads.Post

abbrev pub Write : Type 0
Write = Outcome 2 write-of.ps write-of.r write-reads.Post

-- ---- the calls from C

abbrev pub FaceStart : Type 0
FaceStart = Outcome 0 face-start-of.ps face-start-of.r face-start-reads.Post

abbrev pub FaceAck : Type 0
FaceAck = Outcome 0 face-ack-of.ps face-ack-of.r face-ack-reads.Post

abbrev pub FaceNak : Type 0
FaceNak = Outcome 0 face-nak-of.ps face-nak-of.r face-nak-reads.Post

abbrev pub FaceTimeout : Type 0
FaceTimeout = Outcome 0 face-timeout-of.ps face-timeout-of.r face-timeout-reads.Post

abbrev pub FaceLost : Type 0
FaceLost = Outcome 0 face-lost-of.ps face-lost-of.r face-lost-reads.Post

abbrev pub FaceNexus : Type 0
FaceNexus = Outcome 0 face-nexus-of.ps face-nexus-of.r face-nexus-reads.Post

abbrev pub FaceCancel : Type 0
FaceCancel = Outcome 0 face-cancel-of.ps face-cancel-of.r face-cancel-reads.Post

abbrev pub FaceRespond : Type 0
FaceRespond = Outcome 2 face-respond-of.ps face-respond-of.r face-respond-reads.Post

-- ---- what they were given, lent and left

-- START's R
abbrev pub starting : Start → Call
starting c = start c.args.1.0

abbrev pub face_starting : FaceStart → face.Call
face_starting c = face.Call.start c.args.1.0

-- five of A, whatever R stands behind them
abbrev pub first5 : {A R : Type 0} → A × (A × (A × (A × (A × R)))) → List A
first5 x = first3 x ++ ((behind3 x).0 ∷ (behind3 x).1.0 ∷ [])

abbrev pub behind5 : {A B C D E R : Type 0} → A × (B × (C × (D × (E × R)))) → R
behind5 x = (behind3 x).1.1

-- the five numbers of a call that writes a RESPONSE, its data, and the output as it was lent and as it is left
abbrev pub numbers : Write → List ℕ
numbers c = of_command c.args.1.0 ++ (c.args.1.1.0 ∷ c.args.1.1.1.0 ∷ [])

abbrev pub head : Write → ResponseHead
head c = let ns = numbers c in response_head c.args.0 (get_or ns 0 0) (get_or ns 1 0) (get_or ns 2 0) (get_or ns 3 0) (get_or ns 4 0)

abbrev pub body : Write → List ℕ
body c = c.args.1.1.1.1.0.now

abbrev pub lent : Write → List ℕ
lent c = c.args.1.1.1.1.1.0.now

abbrev pub left : Write → List ℕ
left c = c.exit.1.1.1.1.1.0.now

abbrev pub writing_call : Write → writing.Call
writing_call c = let ns = numbers c in writing.Call.respond (get_or ns 0 0) (get_or ns 1 0) (get_or ns 2 0) (get_or ns 3 0) (get_or ns 4 0) (body c) (lent c)

-- and of C's
abbrev pub face_numbers : FaceRespond → List ℕ
face_numbers c = first5 c.args.1

abbrev pub face_body : FaceRespond → List ℕ
face_body c = (behind5 c.args.1).0.now

abbrev pub face_lent : FaceRespond → List ℕ
face_lent c = (behind5 c.args.1).1.0.now

abbrev pub face_left : FaceRespond → List ℕ
face_left c = (behind5 c.exit.1).1.0.now

abbrev pub face_call : FaceRespond → face.Call
face_call c =
    let ns = face_numbers c in
    face.Call.respond (get_or ns 0 0) (get_or ns 1 0) (get_or ns 2 0) (get_or ns 3 0) (get_or ns 4 0) (face_body c) (face_lent c)

abbrev pub face_bytes : FaceRespond → List ℕ
face_bytes c =
    let ns = face_numbers c in
    face.bytes_of (get_or ns 0 0) (get_or ns 1 0) (get_or ns 2 0) (get_or ns 3 0) (get_or ns 4 0) (face_body c) (face_lent c) c.args.0
