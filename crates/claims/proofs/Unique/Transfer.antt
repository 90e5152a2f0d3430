-- Two outcomes that meet a promise are equal: the read transfer, the next-frame call, what C sees of them, and the bench over them. Assumes nothing.
use Prim.Native.Nat.{ℕ}
use mathlib.Core.List.{List}
use mathlib.Core.Path.{refl, sym, ◌∙◌}
use borrow.Fn.Kinds as kinds
use contract.Lifetimes
use denote.Triple.Clauses
use Rattle.transfer.proofs.Transfer.unstarted.Kinds as unstarted-of
use Rattle.transfer.proofs.Transfer.unstarted.Reads as unstarted
use Rattle.transfer.proofs.Transfer.keeps_rules.Kinds as keeps-rules-of
use Rattle.transfer.proofs.Transfer.keeps_rules.Reads as keeps_rules_lem
use Rattle.transfer.proofs.Transfer.frame_length.Kinds as frame-length-of
use Rattle.transfer.proofs.Transfer.frame_length.Reads as frame_length
use Rattle.transfer.proofs.Transfer.refused.Kinds as refused-of
use Rattle.transfer.proofs.Transfer.refused.Reads as refused
use Rattle.transfer.proofs.Transfer.start.Kinds as start_of_lem
use Rattle.transfer.proofs.Transfer.start.Reads as start
use Rattle.transfer.proofs.Transfer.frame.Kinds as frame-of
use Rattle.transfer.proofs.Transfer.frame.Reads as frame
use Rattle.transfer.proofs.Transfer.ack.Kinds as ack-of
use Rattle.transfer.proofs.Transfer.ack.Reads as ack
use Rattle.transfer.proofs.Transfer.nak.Kinds as nak-of
use Rattle.transfer.proofs.Transfer.nak.Reads as nak
use Rattle.transfer.proofs.Transfer.timeout.Kinds as timeout-of
use Rattle.transfer.proofs.Transfer.timeout.Reads as timeout
use Rattle.transfer.proofs.Transfer.lost.Kinds as lost-of
use Rattle.transfer.proofs.Transfer.lost.Reads as lost
use Rattle.transfer.proofs.Transfer.nexus.Kinds as nexus-of
use Rattle.transfer.proofs.Transfer.nexus.Reads as nexus
use Rattle.transfer.proofs.Transfer.cancel.Kinds as cancel-of
use Rattle.transfer.proofs.Transfer.cancel.Reads as cancel
use Rattle.send.proofs.next_frame.Kinds as next-frame-of
use Rattle.send.proofs.next_frame.Reads as next_frame
use Rattle.transfer_lent.proofs.State.start.Kinds as lent-start-of
use Rattle.transfer_lent.proofs.State.start.Reads as lent_start
use Rattle.transfer_lent.proofs.State.frame.Kinds as lent-frame-of
use Rattle.transfer_lent.proofs.State.frame.Reads as lent_frame
use Rattle.transfer_lent.proofs.State.ack.Kinds as lent-ack-of
use Rattle.transfer_lent.proofs.State.ack.Reads as lent_ack
use Rattle.transfer_lent.proofs.State.nak.Kinds as lent-nak-of
use Rattle.transfer_lent.proofs.State.nak.Reads as lent_nak
use Rattle.transfer_lent.proofs.State.timeout.Kinds as lent-timeout-of
use Rattle.transfer_lent.proofs.State.timeout.Reads as lent_timeout
use Rattle.transfer_lent.proofs.State.lost.Kinds as lent-lost-of
use Rattle.transfer_lent.proofs.State.lost.Reads as lent_lost
use Rattle.transfer_lent.proofs.State.nexus.Kinds as lent-nexus-of
use Rattle.transfer_lent.proofs.State.nexus.Reads as lent_nexus
use Rattle.transfer_lent.proofs.State.cancel.Kinds as lent-cancel-of
use Rattle.transfer_lent.proofs.State.cancel.Reads as lent_cancel
use Rattle.transfer_lent.proofs.State.next.Kinds as lent-next-of
use Rattle.transfer_lent.proofs.State.next.Reads as lent_next
use Rattle.transfer_lent.proofs.State.length.Kinds as lent-length-of
use Rattle.transfer_lent.proofs.State.length.Reads as lent_length
use Rattle.transfer_lent.proofs.numbers.phase_number.Kinds as phase-number-of
use Rattle.transfer_lent.proofs.numbers.phase_number.Reads as phase_number
use Rattle.transfer_lent.proofs.numbers.phase_of.Kinds as phase-of-of
use Rattle.transfer_lent.proofs.numbers.phase_of.Reads as phase_of
use Rattle.transfer_lent.proofs.numbers.answer_number.Kinds as answer-number-of
use Rattle.transfer_lent.proofs.numbers.answer_number.Reads as answer_number
use Rattle.sonerwal.proofs.transfers.sonerwal_transfer_start.Kinds as c-start-of
use Rattle.sonerwal.proofs.transfers.sonerwal_transfer_start.Reads as c_start
use Rattle.sonerwal.proofs.transfers.sonerwal_transfer_frame.Kinds as c-frame-of
use Rattle.sonerwal.proofs.transfers.sonerwal_transfer_frame.Reads as c_frame
use Rattle.sonerwal.proofs.transfers.sonerwal_transfer_ack.Kinds as c-ack-of
use Rattle.sonerwal.proofs.transfers.sonerwal_transfer_ack.Reads as c_ack
use Rattle.sonerwal.proofs.transfers.sonerwal_transfer_nak.Kinds as c-nak-of
use Rattle.sonerwal.proofs.transfers.sonerwal_transfer_nak.Reads as c_nak
use Rattle.sonerwal.proofs.transfers.sonerwal_transfer_timeout.Kinds as c-timeout-of
use Rattle.sonerwal.proofs.transfers.sonerwal_transfer_timeout.Reads as c_timeout
use Rattle.sonerwal.proofs.transfers.sonerwal_transfer_lost.Kinds as c-lost-of
use Rattle.sonerwal.proofs.transfers.sonerwal_transfer_lost.Reads as c_lost
use Rattle.sonerwal.proofs.transfers.sonerwal_transfer_nexus.Kinds as c-nexus-of
use Rattle.sonerwal.proofs.transfers.sonerwal_transfer_nexus.Reads as c_nexus
use Rattle.sonerwal.proofs.transfers.sonerwal_transfer_cancel.Kinds as c-cancel-of
use Rattle.sonerwal.proofs.transfers.sonerwal_transfer_cancel.Reads as c_cancel
use Rattle.sonerwal.proofs.transfers.sonerwal_transfer_next.Kinds as c-next-of
use Rattle.sonerwal.proofs.transfers.sonerwal_transfer_next.Reads as c_next
use Rattle.sonerwal.proofs.transfers.sonerwal_transfer_length.Kinds as c-length-of
use Rattle.sonerwal.proofs.transfers.sonerwal_transfer_length.Reads as c_length
use Rattle.transfer_lent.proofs.lent.TransferFromState.from.Kinds as lent-transfer-of
use Rattle.transfer_lent.proofs.lent.TransferFromState.from.Reads as lent_transfer
use Rattle.transfer_lent.proofs.lent.StateFromTransfer.from.Kinds as transfer-shown-of
use Rattle.transfer_lent.proofs.lent.StateFromTransfer.from.Reads as transfer_shown
use Rattle.claims.proofs.Calls.{One, none}
use Rattle.claims.proofs.Named.{behind3}

abbrev next_frame_left : (κs : Lifetimes.Lfts 2) → Clauses.AtExit (kinds.ended_of 2 next-frame-of.ps next-frame-of.r) κs → List ℕ
next_frame_left κs s = (behind3 s.1).1.0.now

abbrev lent_next_left : (κs : Lifetimes.Lfts 2) → Clauses.AtExit (kinds.ended_of 2 lent-next-of.ps lent-next-of.r) κs → List ℕ
lent_next_left κs s = (behind3 s.1).1.0.now

abbrev c_next_left : (κs : Lifetimes.Lfts 2) → Clauses.AtExit (kinds.ended_of 2 c-next-of.ps c-next-of.r) κs → List ℕ
c_next_left κs s = (behind3 s.1).1.0.now

pub record Transfer : Type 2 where
  pub unstarted : One 0 unstarted-of.ps unstarted-of.r (none 0 unstarted-of.ps unstarted-of.r) unstarted.Post
  pub keeps_rules_lem : One 0 keeps-rules-of.ps keeps-rules-of.r (none 0 keeps-rules-of.ps keeps-rules-of.r) keeps_rules_lem.Post
  pub frame_length : One 0 frame-length-of.ps frame-length-of.r (none 0 frame-length-of.ps frame-length-of.r) frame_length.Post
  pub refused : One 0 refused-of.ps refused-of.r (none 0 refused-of.ps refused-of.r) refused.Post
  pub start : One 0 start_of_lem.ps start_of_lem.r (none 0 start_of_lem.ps start_of_lem.r) start.Post
  pub frame : One 0 frame-of.ps frame-of.r (none 0 frame-of.ps frame-of.r) frame.Post
  pub ack : One 0 ack-of.ps ack-of.r (none 0 ack-of.ps ack-of.r) ack.Post
  pub nak : One 0 nak-of.ps nak-of.r (none 0 nak-of.ps nak-of.r) nak.Post
  pub timeout : One 0 timeout-of.ps timeout-of.r (none 0 timeout-of.ps timeout-of.r) timeout.Post
  pub lost : One 0 lost-of.ps lost-of.r (none 0 lost-of.ps lost-of.r) lost.Post
  pub nexus : One 0 nexus-of.ps nexus-of.r (none 0 nexus-of.ps nexus-of.r) nexus.Post
  pub cancel : One 0 cancel-of.ps cancel-of.r (none 0 cancel-of.ps cancel-of.r) cancel.Post
  pub next_frame : One 2 next-frame-of.ps next-frame-of.r next_frame_left next_frame.Post
  pub lent_start : One 0 lent-start-of.ps lent-start-of.r (none 0 lent-start-of.ps lent-start-of.r) lent_start.Post
  pub lent_frame : One 0 lent-frame-of.ps lent-frame-of.r (none 0 lent-frame-of.ps lent-frame-of.r) lent_frame.Post
  pub lent_ack : One 0 lent-ack-of.ps lent-ack-of.r (none 0 lent-ack-of.ps lent-ack-of.r) lent_ack.Post
  pub lent_nak : One 0 lent-nak-of.ps lent-nak-of.r (none 0 lent-nak-of.ps lent-nak-of.r) lent_nak.Post
  pub lent_timeout : One 0 lent-timeout-of.ps lent-timeout-of.r (none 0 lent-timeout-of.ps lent-timeout-of.r) lent_timeout.Post
  pub lent_lost : One 0 lent-lost-of.ps lent-lost-of.r (none 0 lent-lost-of.ps lent-lost-of.r) lent_lost.Post
  pub lent_nexus : One 0 lent-nexus-of.ps lent-nexus-of.r (none 0 lent-nexus-of.ps lent-nexus-of.r) lent_nexus.Post
  pub lent_cancel : One 0 lent-cancel-of.ps lent-cancel-of.r (none 0 lent-cancel-of.ps lent-cancel-of.r) lent_cancel.Post
  pub lent_next : One 2 lent-next-of.ps lent-next-of.r lent_next_left lent_next.Post
  pub lent_length : One 0 lent-length-of.ps lent-length-of.r (none 0 lent-length-of.ps lent-length-of.r) lent_length.Post
  pub phase_number : One 0 phase-number-of.ps phase-number-of.r (none 0 phase-number-of.ps phase-number-of.r) phase_number.Post
  pub phase_of : One 0 phase-of-of.ps phase-of-of.r (none 0 phase-of-of.ps phase-of-of.r) phase_of.Post
  pub answer_number : One 0 answer-number-of.ps answer-number-of.r (none 0 answer-number-of.ps answer-number-of.r) answer_number.Post
  pub c_start : One 0 c-start-of.ps c-start-of.r (none 0 c-start-of.ps c-start-of.r) c_start.Post
  pub c_frame : One 0 c-frame-of.ps c-frame-of.r (none 0 c-frame-of.ps c-frame-of.r) c_frame.Post
  pub c_ack : One 0 c-ack-of.ps c-ack-of.r (none 0 c-ack-of.ps c-ack-of.r) c_ack.Post
  pub c_nak : One 0 c-nak-of.ps c-nak-of.r (none 0 c-nak-of.ps c-nak-of.r) c_nak.Post
  pub c_timeout : One 0 c-timeout-of.ps c-timeout-of.r (none 0 c-timeout-of.ps c-timeout-of.r) c_timeout.Post
  pub c_lost : One 0 c-lost-of.ps c-lost-of.r (none 0 c-lost-of.ps c-lost-of.r) c_lost.Post
  pub c_nexus : One 0 c-nexus-of.ps c-nexus-of.r (none 0 c-nexus-of.ps c-nexus-of.r) c_nexus.Post
  pub c_cancel : One 0 c-cancel-of.ps c-cancel-of.r (none 0 c-cancel-of.ps c-cancel-of.r) c_cancel.Post
  pub c_next : One 2 c-next-of.ps c-next-of.r c_next_left c_next.Post
  pub c_length : One 0 c-length-of.ps c-length-of.r (none 0 c-length-of.ps c-length-of.r) c_length.Post
  pub lent_transfer : One 0 lent-transfer-of.ps lent-transfer-of.r (none 0 lent-transfer-of.ps lent-transfer-of.r) lent_transfer.Post
  pub transfer_shown : One 0 transfer-shown-of.ps transfer-shown-of.r (none 0 transfer-shown-of.ps transfer-shown-of.r) transfer_shown.Post

pub transfer : Transfer
transfer = record {
  unstarted = λ κs a x y s t p q. (p ∙ sym q, refl);
  keeps_rules_lem = λ κs a x y s t p q. (p ∙ sym q, refl);
  frame_length = λ κs a x y s t p q. (p ∙ sym q, refl);
  refused = λ κs a x y s t p q. (p ∙ sym q, refl);
  start = λ κs a x y s t p q. (p ∙ sym q, refl);
  frame = λ κs a x y s t p q. (p ∙ sym q, refl);
  ack = λ κs a x y s t p q. (p ∙ sym q, refl);
  nak = λ κs a x y s t p q. (p ∙ sym q, refl);
  timeout = λ κs a x y s t p q. (p ∙ sym q, refl);
  lost = λ κs a x y s t p q. (p ∙ sym q, refl);
  nexus = λ κs a x y s t p q. (p ∙ sym q, refl);
  cancel = λ κs a x y s t p q. (p ∙ sym q, refl);
  next_frame = λ κs a x y s t p q. (p.step ∙ sym q.step, p.bytes ∙ sym q.bytes);
  lent_start = λ κs a x y s t p q. (p ∙ sym q, refl);
  lent_frame = λ κs a x y s t p q. (p ∙ sym q, refl);
  lent_ack = λ κs a x y s t p q. (p ∙ sym q, refl);
  lent_nak = λ κs a x y s t p q. (p ∙ sym q, refl);
  lent_timeout = λ κs a x y s t p q. (p ∙ sym q, refl);
  lent_lost = λ κs a x y s t p q. (p ∙ sym q, refl);
  lent_nexus = λ κs a x y s t p q. (p ∙ sym q, refl);
  lent_cancel = λ κs a x y s t p q. (p ∙ sym q, refl);
  lent_next = λ κs a x y s t p q. (p.step ∙ sym q.step, p.bytes ∙ sym q.bytes);
  lent_length = λ κs a x y s t p q. (p ∙ sym q, refl);
  phase_number = λ κs a x y s t p q. (p ∙ sym q, refl);
  phase_of = λ κs a x y s t p q. (p ∙ sym q, refl);
  answer_number = λ κs a x y s t p q. (p ∙ sym q, refl);
  c_start = λ κs a x y s t p q. (p ∙ sym q, refl);
  c_frame = λ κs a x y s t p q. (p ∙ sym q, refl);
  c_ack = λ κs a x y s t p q. (p ∙ sym q, refl);
  c_nak = λ κs a x y s t p q. (p ∙ sym q, refl);
  c_timeout = λ κs a x y s t p q. (p ∙ sym q, refl);
  c_lost = λ κs a x y s t p q. (p ∙ sym q, refl);
  c_nexus = λ κs a x y s t p q. (p ∙ sym q, refl);
  c_cancel = λ κs a x y s t p q. (p ∙ sym q, refl);
  c_next = λ κs a x y s t p q. (p.step ∙ sym q.step, p.bytes ∙ sym q.bytes);
  c_length = λ κs a x y s t p q. (p ∙ sym q, refl);
  lent_transfer = λ κs a x y s t p q. (p ∙ sym q, refl);
  transfer_shown = λ κs a x y s t p q. (p ∙ sym q, refl);
}
