-- Two outcomes that meet a promise are equal: the reply, RESPONSE with its bytes, and what C sees of them. Assumes nothing.
use Prim.Native.Nat.{ℕ}
use mathlib.Core.List.{List}
use mathlib.Core.Path.{refl, sym, ◌∙◌}
use borrow.Fn.Kinds as kinds
use contract.Lifetimes
use denote.Triple.Clauses
use Rattle.reply.proofs.Reply.unstarted.Kinds as unstarted-of
use Rattle.reply.proofs.Reply.unstarted.Reads as unstarted
use Rattle.reply.proofs.Reply.keeps_rules.Kinds as keeps-rules-of
use Rattle.reply.proofs.Reply.keeps_rules.Reads as keeps_rules_lem
use Rattle.reply.proofs.Reply.refused.Kinds as refused-of
use Rattle.reply.proofs.Reply.refused.Reads as refused
use Rattle.reply.proofs.Reply.retransmit.Kinds as retransmit-of
use Rattle.reply.proofs.Reply.retransmit.Reads as retransmit
use Rattle.reply.proofs.Reply.start.Kinds as start_of_lem
use Rattle.reply.proofs.Reply.start.Reads as start
use Rattle.reply.proofs.Reply.respond.Kinds as respond-of
use Rattle.reply.proofs.Reply.respond.Reads as respond
use Rattle.reply.proofs.Reply.ack.Kinds as ack-of
use Rattle.reply.proofs.Reply.ack.Reads as ack
use Rattle.reply.proofs.Reply.nak.Kinds as nak-of
use Rattle.reply.proofs.Reply.nak.Reads as nak
use Rattle.reply.proofs.Reply.timeout.Kinds as timeout-of
use Rattle.reply.proofs.Reply.timeout.Reads as timeout
use Rattle.reply.proofs.Reply.lost.Kinds as lost-of
use Rattle.reply.proofs.Reply.lost.Reads as lost
use Rattle.reply.proofs.Reply.nexus.Kinds as nexus-of
use Rattle.reply.proofs.Reply.nexus.Reads as nexus
use Rattle.reply.proofs.Reply.cancel.Kinds as cancel-of
use Rattle.reply.proofs.Reply.cancel.Reads as cancel
use Rattle.take.proofs.respond.respond.Kinds as with-bytes-of
use Rattle.take.proofs.respond.respond.Reads as with_bytes
use Rattle.reply_lent.proofs.State.start.Kinds as lent-start-of
use Rattle.reply_lent.proofs.State.start.Reads as lent_start
use Rattle.reply_lent.proofs.State.respond.Kinds as lent-respond-of
use Rattle.reply_lent.proofs.State.respond.Reads as lent_respond
use Rattle.reply_lent.proofs.State.ack.Kinds as lent-ack-of
use Rattle.reply_lent.proofs.State.ack.Reads as lent_ack
use Rattle.reply_lent.proofs.State.nak.Kinds as lent-nak-of
use Rattle.reply_lent.proofs.State.nak.Reads as lent_nak
use Rattle.reply_lent.proofs.State.timeout.Kinds as lent-timeout-of
use Rattle.reply_lent.proofs.State.timeout.Reads as lent_timeout
use Rattle.reply_lent.proofs.State.lost.Kinds as lent-lost-of
use Rattle.reply_lent.proofs.State.lost.Reads as lent_lost
use Rattle.reply_lent.proofs.State.nexus.Kinds as lent-nexus-of
use Rattle.reply_lent.proofs.State.nexus.Reads as lent_nexus
use Rattle.reply_lent.proofs.State.cancel.Kinds as lent-cancel-of
use Rattle.reply_lent.proofs.State.cancel.Reads as lent_cancel
use Rattle.reply_lent.proofs.numbers.phase_number.Kinds as phase-number-of
use Rattle.reply_lent.proofs.numbers.phase_number.Reads as phase_number
use Rattle.reply_lent.proofs.numbers.phase_of.Kinds as phase-of-of
use Rattle.reply_lent.proofs.numbers.phase_of.Reads as phase_of
use Rattle.reply_lent.proofs.numbers.answer_number.Kinds as answer-number-of
use Rattle.reply_lent.proofs.numbers.answer_number.Reads as answer_number
use Rattle.sonerwal.proofs.replies.sonerwal_reply_start.Kinds as c-start-of
use Rattle.sonerwal.proofs.replies.sonerwal_reply_start.Reads as c_start
use Rattle.sonerwal.proofs.replies.sonerwal_reply_respond.Kinds as c-respond-of
use Rattle.sonerwal.proofs.replies.sonerwal_reply_respond.Reads as c_respond
use Rattle.sonerwal.proofs.replies.sonerwal_reply_ack.Kinds as c-ack-of
use Rattle.sonerwal.proofs.replies.sonerwal_reply_ack.Reads as c_ack
use Rattle.sonerwal.proofs.replies.sonerwal_reply_nak.Kinds as c-nak-of
use Rattle.sonerwal.proofs.replies.sonerwal_reply_nak.Reads as c_nak
use Rattle.sonerwal.proofs.replies.sonerwal_reply_timeout.Kinds as c-timeout-of
use Rattle.sonerwal.proofs.replies.sonerwal_reply_timeout.Reads as c_timeout
use Rattle.sonerwal.proofs.replies.sonerwal_reply_lost.Kinds as c-lost-of
use Rattle.sonerwal.proofs.replies.sonerwal_reply_lost.Reads as c_lost
use Rattle.sonerwal.proofs.replies.sonerwal_reply_nexus.Kinds as c-nexus-of
use Rattle.sonerwal.proofs.replies.sonerwal_reply_nexus.Reads as c_nexus
use Rattle.sonerwal.proofs.replies.sonerwal_reply_cancel.Kinds as c-cancel-of
use Rattle.sonerwal.proofs.replies.sonerwal_reply_cancel.Reads as c_cancel
use Rattle.reply_lent.proofs.lent.ReplyFromState.from.Kinds as lent-reply-of
use Rattle.reply_lent.proofs.lent.ReplyFromState.from.Reads as lent_reply
use Rattle.reply_lent.proofs.lent.StateFromReply.from.Kinds as reply-shown-of
use Rattle.reply_lent.proofs.lent.StateFromReply.from.Reads as reply_shown
use Rattle.claims.proofs.Calls.{One, none}
use Rattle.claims.proofs.ReplyCalls.{behind5}

abbrev with_bytes_left : (κs : Lifetimes.Lfts 2) → Clauses.AtExit (kinds.ended_of 2 with-bytes-of.ps with-bytes-of.r) κs → List ℕ
with_bytes_left κs s = s.1.1.1.1.1.0.now

abbrev lent_respond_left : (κs : Lifetimes.Lfts 2) → Clauses.AtExit (kinds.ended_of 2 lent-respond-of.ps lent-respond-of.r) κs → List ℕ
lent_respond_left κs s = (behind5 s.1).1.0.now

abbrev c_respond_left : (κs : Lifetimes.Lfts 2) → Clauses.AtExit (kinds.ended_of 2 c-respond-of.ps c-respond-of.r) κs → List ℕ
c_respond_left κs s = (behind5 s.1).1.0.now

pub record Reply : Type 2 where
  pub unstarted : One 0 unstarted-of.ps unstarted-of.r (none 0 unstarted-of.ps unstarted-of.r) unstarted.Post
  pub keeps_rules_lem : One 0 keeps-rules-of.ps keeps-rules-of.r (none 0 keeps-rules-of.ps keeps-rules-of.r) keeps_rules_lem.Post
  pub refused : One 0 refused-of.ps refused-of.r (none 0 refused-of.ps refused-of.r) refused.Post
  pub retransmit : One 0 retransmit-of.ps retransmit-of.r (none 0 retransmit-of.ps retransmit-of.r) retransmit.Post
  pub start : One 0 start_of_lem.ps start_of_lem.r (none 0 start_of_lem.ps start_of_lem.r) start.Post
  pub respond : One 0 respond-of.ps respond-of.r (none 0 respond-of.ps respond-of.r) respond.Post
  pub ack : One 0 ack-of.ps ack-of.r (none 0 ack-of.ps ack-of.r) ack.Post
  pub nak : One 0 nak-of.ps nak-of.r (none 0 nak-of.ps nak-of.r) nak.Post
  pub timeout : One 0 timeout-of.ps timeout-of.r (none 0 timeout-of.ps timeout-of.r) timeout.Post
  pub lost : One 0 lost-of.ps lost-of.r (none 0 lost-of.ps lost-of.r) lost.Post
  pub nexus : One 0 nexus-of.ps nexus-of.r (none 0 nexus-of.ps nexus-of.r) nexus.Post
  pub cancel : One 0 cancel-of.ps cancel-of.r (none 0 cancel-of.ps cancel-of.r) cancel.Post
  pub with_bytes : One 2 with-bytes-of.ps with-bytes-of.r with_bytes_left with_bytes.Post
  pub lent_start : One 0 lent-start-of.ps lent-start-of.r (none 0 lent-start-of.ps lent-start-of.r) lent_start.Post
  pub lent_respond : One 2 lent-respond-of.ps lent-respond-of.r lent_respond_left lent_respond.Post
  pub lent_ack : One 0 lent-ack-of.ps lent-ack-of.r (none 0 lent-ack-of.ps lent-ack-of.r) lent_ack.Post
  pub lent_nak : One 0 lent-nak-of.ps lent-nak-of.r (none 0 lent-nak-of.ps lent-nak-of.r) lent_nak.Post
  pub lent_timeout : One 0 lent-timeout-of.ps lent-timeout-of.r (none 0 lent-timeout-of.ps lent-timeout-of.r) lent_timeout.Post
  pub lent_lost : One 0 lent-lost-of.ps lent-lost-of.r (none 0 lent-lost-of.ps lent-lost-of.r) lent_lost.Post
  pub lent_nexus : One 0 lent-nexus-of.ps lent-nexus-of.r (none 0 lent-nexus-of.ps lent-nexus-of.r) lent_nexus.Post
  pub lent_cancel : One 0 lent-cancel-of.ps lent-cancel-of.r (none 0 lent-cancel-of.ps lent-cancel-of.r) lent_cancel.Post
  pub phase_number : One 0 phase-number-of.ps phase-number-of.r (none 0 phase-number-of.ps phase-number-of.r) phase_number.Post
  pub phase_of : One 0 phase-of-of.ps phase-of-of.r (none 0 phase-of-of.ps phase-of-of.r) phase_of.Post
  pub answer_number : One 0 answer-number-of.ps answer-number-of.r (none 0 answer-number-of.ps answer-number-of.r) answer_number.Post
  pub c_start : One 0 c-start-of.ps c-start-of.r (none 0 c-start-of.ps c-start-of.r) c_start.Post
  pub c_respond : One 2 c-respond-of.ps c-respond-of.r c_respond_left c_respond.Post
  pub c_ack : One 0 c-ack-of.ps c-ack-of.r (none 0 c-ack-of.ps c-ack-of.r) c_ack.Post
  pub c_nak : One 0 c-nak-of.ps c-nak-of.r (none 0 c-nak-of.ps c-nak-of.r) c_nak.Post
  pub c_timeout : One 0 c-timeout-of.ps c-timeout-of.r (none 0 c-timeout-of.ps c-timeout-of.r) c_timeout.Post
  pub c_lost : One 0 c-lost-of.ps c-lost-of.r (none 0 c-lost-of.ps c-lost-of.r) c_lost.Post
  pub c_nexus : One 0 c-nexus-of.ps c-nexus-of.r (none 0 c-nexus-of.ps c-nexus-of.r) c_nexus.Post
  pub c_cancel : One 0 c-cancel-of.ps c-cancel-of.r (none 0 c-cancel-of.ps c-cancel-of.r) c_cancel.Post
  pub lent_reply : One 0 lent-reply-of.ps lent-reply-of.r (none 0 lent-reply-of.ps lent-reply-of.r) lent_reply.Post
  pub reply_shown : One 0 reply-shown-of.ps reply-shown-of.r (none 0 reply-shown-of.ps reply-shown-of.r) reply_shown.Post

pub reply : Reply
reply = record {
  unstarted = λ κs a x y s t p q. (p ∙ sym q, refl);
  keeps_rules_lem = λ κs a x y s t p q. (p ∙ sym q, refl);
  refused = λ κs a x y s t p q. (p ∙ sym q, refl);
  retransmit = λ κs a x y s t p q. (p ∙ sym q, refl);
  start = λ κs a x y s t p q. (p ∙ sym q, refl);
  respond = λ κs a x y s t p q. (p ∙ sym q, refl);
  ack = λ κs a x y s t p q. (p ∙ sym q, refl);
  nak = λ κs a x y s t p q. (p ∙ sym q, refl);
  timeout = λ κs a x y s t p q. (p ∙ sym q, refl);
  lost = λ κs a x y s t p q. (p ∙ sym q, refl);
  nexus = λ κs a x y s t p q. (p ∙ sym q, refl);
  cancel = λ κs a x y s t p q. (p ∙ sym q, refl);
  with_bytes = λ κs a x y s t p q. (p.step ∙ sym q.step, p.bytes ∙ sym q.bytes);
  lent_start = λ κs a x y s t p q. (p ∙ sym q, refl);
  lent_respond = λ κs a x y s t p q. (p.step ∙ sym q.step, p.bytes ∙ sym q.bytes);
  lent_ack = λ κs a x y s t p q. (p ∙ sym q, refl);
  lent_nak = λ κs a x y s t p q. (p ∙ sym q, refl);
  lent_timeout = λ κs a x y s t p q. (p ∙ sym q, refl);
  lent_lost = λ κs a x y s t p q. (p ∙ sym q, refl);
  lent_nexus = λ κs a x y s t p q. (p ∙ sym q, refl);
  lent_cancel = λ κs a x y s t p q. (p ∙ sym q, refl);
  phase_number = λ κs a x y s t p q. (p ∙ sym q, refl);
  phase_of = λ κs a x y s t p q. (p ∙ sym q, refl);
  answer_number = λ κs a x y s t p q. (p ∙ sym q, refl);
  c_start = λ κs a x y s t p q. (p ∙ sym q, refl);
  c_respond = λ κs a x y s t p q. (p.step ∙ sym q.step, p.bytes ∙ sym q.bytes);
  c_ack = λ κs a x y s t p q. (p ∙ sym q, refl);
  c_nak = λ κs a x y s t p q. (p ∙ sym q, refl);
  c_timeout = λ κs a x y s t p q. (p ∙ sym q, refl);
  c_lost = λ κs a x y s t p q. (p ∙ sym q, refl);
  c_nexus = λ κs a x y s t p q. (p ∙ sym q, refl);
  c_cancel = λ κs a x y s t p q. (p ∙ sym q, refl);
  lent_reply = λ κs a x y s t p q. (p ∙ sym q, refl);
  reply_shown = λ κs a x y s t p q. (p ∙ sym q, refl);
}
