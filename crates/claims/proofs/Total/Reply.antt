-- What the functions ask of their arguments holds of all of them: the reply, RESPONSE with its bytes, and what C sees of them. Assumes nothing.
use Rattle.reply.proofs.Reply.unstarted.Kinds as unstarted-of
use Rattle.reply.proofs.Reply.unstarted.Reads as unstarted
use Rattle.reply.proofs.Reply.keeps_rules.Kinds as keeps-rules-of
use Rattle.reply.proofs.Reply.keeps_rules.Reads as keeps_rules_lem
use Rattle.reply.proofs.Reply.refused.Kinds as refused-of
use Rattle.reply.proofs.Reply.refused.Reads as refused
use Rattle.reply.proofs.Reply.retransmit.Kinds as retransmit-of
use Rattle.reply.proofs.Reply.retransmit.Reads as retransmit
use Rattle.reply.proofs.Reply.start.Kinds as start_of_lem
use Rattle.reply.proofs.Reply.start.Reads as start
use Rattle.reply.proofs.Reply.respond.Kinds as respond-of
use Rattle.reply.proofs.Reply.respond.Reads as respond
use Rattle.reply.proofs.Reply.ack.Kinds as ack-of
use Rattle.reply.proofs.Reply.ack.Reads as ack
use Rattle.reply.proofs.Reply.nak.Kinds as nak-of
use Rattle.reply.proofs.Reply.nak.Reads as nak
use Rattle.reply.proofs.Reply.timeout.Kinds as timeout-of
use Rattle.reply.proofs.Reply.timeout.Reads as timeout
use Rattle.reply.proofs.Reply.lost.Kinds as lost-of
use Rattle.reply.proofs.Reply.lost.Reads as lost
use Rattle.reply.proofs.Reply.nexus.Kinds as nexus-of
use Rattle.reply.proofs.Reply.nexus.Reads as nexus
use Rattle.reply.proofs.Reply.cancel.Kinds as cancel-of
use Rattle.reply.proofs.Reply.cancel.Reads as cancel
use Rattle.take.proofs.respond.respond.Kinds as with-bytes-of
use Rattle.take.proofs.respond.respond.Reads as with_bytes
use Rattle.reply_lent.proofs.State.start.Kinds as lent-start-of
use Rattle.reply_lent.proofs.State.start.Reads as lent_start
use Rattle.reply_lent.proofs.State.respond.Kinds as lent-respond-of
use Rattle.reply_lent.proofs.State.respond.Reads as lent_respond
use Rattle.reply_lent.proofs.State.ack.Kinds as lent-ack-of
use Rattle.reply_lent.proofs.State.ack.Reads as lent_ack
use Rattle.reply_lent.proofs.State.nak.Kinds as lent-nak-of
use Rattle.reply_lent.proofs.State.nak.Reads as lent_nak
use Rattle.reply_lent.proofs.State.timeout.Kinds as lent-timeout-of
use Rattle.reply_lent.proofs.State.timeout.Reads as lent_timeout
use Rattle.reply_lent.proofs.State.lost.Kinds as lent-lost-of
use Rattle.reply_lent.proofs.State.lost.Reads as lent_lost
use Rattle.reply_lent.proofs.State.nexus.Kinds as lent-nexus-of
use Rattle.reply_lent.proofs.State.nexus.Reads as lent_nexus
use Rattle.reply_lent.proofs.State.cancel.Kinds as lent-cancel-of
use Rattle.reply_lent.proofs.State.cancel.Reads as lent_cancel
use Rattle.reply_lent.proofs.numbers.phase_number.Kinds as phase-number-of
use Rattle.reply_lent.proofs.numbers.phase_number.Reads as phase_number
use Rattle.reply_lent.proofs.numbers.phase_of.Kinds as phase-of-of
use Rattle.reply_lent.proofs.numbers.phase_of.Reads as phase_of
use Rattle.reply_lent.proofs.numbers.answer_number.Kinds as answer-number-of
use Rattle.reply_lent.proofs.numbers.answer_number.Reads as answer_number
use Rattle.sonerwal.proofs.replies.sonerwal_reply_start.Kinds as c-start-of
use Rattle.sonerwal.proofs.replies.sonerwal_reply_start.Reads as c_start
use Rattle.sonerwal.proofs.replies.sonerwal_reply_respond.Kinds as c-respond-of
use Rattle.sonerwal.proofs.replies.sonerwal_reply_respond.Reads as c_respond
use Rattle.sonerwal.proofs.replies.sonerwal_reply_ack.Kinds as c-ack-of
use Rattle.sonerwal.proofs.replies.sonerwal_reply_ack.Reads as c_ack
use Rattle.sonerwal.proofs.replies.sonerwal_reply_nak.Kinds as c-nak-of
use Rattle.sonerwal.proofs.replies.sonerwal_reply_nak.Reads as c_nak
use Rattle.sonerwal.proofs.replies.sonerwal_reply_timeout.Kinds as c-timeout-of
use Rattle.sonerwal.proofs.replies.sonerwal_reply_timeout.Reads as c_timeout
use Rattle.sonerwal.proofs.replies.sonerwal_reply_lost.Kinds as c-lost-of
use Rattle.sonerwal.proofs.replies.sonerwal_reply_lost.Reads as c_lost
use Rattle.sonerwal.proofs.replies.sonerwal_reply_nexus.Kinds as c-nexus-of
use Rattle.sonerwal.proofs.replies.sonerwal_reply_nexus.Reads as c_nexus
use Rattle.sonerwal.proofs.replies.sonerwal_reply_cancel.Kinds as c-cancel-of
use Rattle.sonerwal.proofs.replies.sonerwal_reply_cancel.Reads as c_cancel
use Rattle.reply_lent.proofs.lent.ReplyFromState.from.Kinds as lent-reply-of
use Rattle.reply_lent.proofs.lent.ReplyFromState.from.Reads as lent_reply
use Rattle.reply_lent.proofs.lent.StateFromReply.from.Kinds as reply-shown-of
use Rattle.reply_lent.proofs.lent.StateFromReply.from.Reads as reply_shown
use Rattle.claims.proofs.Calls.{Anything}

pub record Reply : Type 2 where
  pub unstarted : Anything 0 unstarted-of.ps unstarted.Pre
  pub keeps_rules_lem : Anything 0 keeps-rules-of.ps keeps_rules_lem.Pre
  pub refused : Anything 0 refused-of.ps refused.Pre
  pub retransmit : Anything 0 retransmit-of.ps retransmit.Pre
  pub start : Anything 0 start_of_lem.ps start.Pre
  pub respond : Anything 0 respond-of.ps respond.Pre
  pub ack : Anything 0 ack-of.ps ack.Pre
  pub nak : Anything 0 nak-of.ps nak.Pre
  pub timeout : Anything 0 timeout-of.ps timeout.Pre
  pub lost : Anything 0 lost-of.ps lost.Pre
  pub nexus : Anything 0 nexus-of.ps nexus.Pre
  pub cancel : Anything 0 cancel-of.ps cancel.Pre
  pub with_bytes : Anything 2 with-bytes-of.ps with_bytes.Pre
  pub lent_start : Anything 0 lent-start-of.ps lent_start.Pre
  pub lent_respond : Anything 2 lent-respond-of.ps lent_respond.Pre
  pub lent_ack : Anything 0 lent-ack-of.ps lent_ack.Pre
  pub lent_nak : Anything 0 lent-nak-of.ps lent_nak.Pre
  pub lent_timeout : Anything 0 lent-timeout-of.ps lent_timeout.Pre
  pub lent_lost : Anything 0 lent-lost-of.ps lent_lost.Pre
  pub lent_nexus : Anything 0 lent-nexus-of.ps lent_nexus.Pre
  pub lent_cancel : Anything 0 lent-cancel-of.ps lent_cancel.Pre
  pub phase_number : Anything 0 phase-number-of.ps phase_number.Pre
  pub phase_of : Anything 0 phase-of-of.ps phase_of.Pre
  pub answer_number : Anything 0 answer-number-of.ps answer_number.Pre
  pub c_start : Anything 0 c-start-of.ps c_start.Pre
  pub c_respond : Anything 2 c-respond-of.ps c_respond.Pre
  pub c_ack : Anything 0 c-ack-of.ps c_ack.Pre
  pub c_nak : Anything 0 c-nak-of.ps c_nak.Pre
  pub c_timeout : Anything 0 c-timeout-of.ps c_timeout.Pre
  pub c_lost : Anything 0 c-lost-of.ps c_lost.Pre
  pub c_nexus : Anything 0 c-nexus-of.ps c_nexus.Pre
  pub c_cancel : Anything 0 c-cancel-of.ps c_cancel.Pre
  pub lent_reply : Anything 0 lent-reply-of.ps lent_reply.Pre
  pub reply_shown : Anything 0 reply-shown-of.ps reply_shown.Pre

pub reply : Reply
reply = record {
  unstarted = λ κs a. tt;
  keeps_rules_lem = λ κs a. tt;
  refused = λ κs a. tt;
  retransmit = λ κs a. tt;
  start = λ κs a. tt;
  respond = λ κs a. tt;
  ack = λ κs a. tt;
  nak = λ κs a. tt;
  timeout = λ κs a. tt;
  lost = λ κs a. tt;
  nexus = λ κs a. tt;
  cancel = λ κs a. tt;
  with_bytes = λ κs a. tt;
  lent_start = λ κs a. tt;
  lent_respond = λ κs a. tt;
  lent_ack = λ κs a. tt;
  lent_nak = λ κs a. tt;
  lent_timeout = λ κs a. tt;
  lent_lost = λ κs a. tt;
  lent_nexus = λ κs a. tt;
  lent_cancel = λ κs a. tt;
  phase_number = λ κs a. tt;
  phase_of = λ κs a. tt;
  answer_number = λ κs a. tt;
  c_start = λ κs a. tt;
  c_respond = λ κs a. tt;
  c_ack = λ κs a. tt;
  c_nak = λ κs a. tt;
  c_timeout = λ κs a. tt;
  c_lost = λ κs a. tt;
  c_nexus = λ κs a. tt;
  c_cancel = λ κs a. tt;
  lent_reply = λ κs a. tt;
  reply_shown = λ κs a. tt;
}
