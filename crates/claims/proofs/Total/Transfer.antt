-- What the functions ask of their arguments holds of all of them: the read transfer, the next-frame call, what C sees of them, and the bench over them. Assumes nothing.
use Rattle.transfer.proofs.Transfer.unstarted.Kinds as unstarted-of
use Rattle.transfer.proofs.Transfer.unstarted.Reads as unstarted
use Rattle.transfer.proofs.Transfer.keeps_rules.Kinds as keeps-rules-of
use Rattle.transfer.proofs.Transfer.keeps_rules.Reads as keeps_rules_lem
use Rattle.transfer.proofs.Transfer.frame_length.Kinds as frame-length-of
use Rattle.transfer.proofs.Transfer.frame_length.Reads as frame_length
use Rattle.transfer.proofs.Transfer.refused.Kinds as refused-of
use Rattle.transfer.proofs.Transfer.refused.Reads as refused
use Rattle.transfer.proofs.Transfer.start.Kinds as start_of_lem
use Rattle.transfer.proofs.Transfer.start.Reads as start
use Rattle.transfer.proofs.Transfer.frame.Kinds as frame-of
use Rattle.transfer.proofs.Transfer.frame.Reads as frame
use Rattle.transfer.proofs.Transfer.ack.Kinds as ack-of
use Rattle.transfer.proofs.Transfer.ack.Reads as ack
use Rattle.transfer.proofs.Transfer.nak.Kinds as nak-of
use Rattle.transfer.proofs.Transfer.nak.Reads as nak
use Rattle.transfer.proofs.Transfer.timeout.Kinds as timeout-of
use Rattle.transfer.proofs.Transfer.timeout.Reads as timeout
use Rattle.transfer.proofs.Transfer.lost.Kinds as lost-of
use Rattle.transfer.proofs.Transfer.lost.Reads as lost
use Rattle.transfer.proofs.Transfer.nexus.Kinds as nexus-of
use Rattle.transfer.proofs.Transfer.nexus.Reads as nexus
use Rattle.transfer.proofs.Transfer.cancel.Kinds as cancel-of
use Rattle.transfer.proofs.Transfer.cancel.Reads as cancel
use Rattle.send.proofs.next_frame.Kinds as next-frame-of
use Rattle.send.proofs.next_frame.Reads as next_frame
use Rattle.transfer_lent.proofs.State.start.Kinds as lent-start-of
use Rattle.transfer_lent.proofs.State.start.Reads as lent_start
use Rattle.transfer_lent.proofs.State.frame.Kinds as lent-frame-of
use Rattle.transfer_lent.proofs.State.frame.Reads as lent_frame
use Rattle.transfer_lent.proofs.State.ack.Kinds as lent-ack-of
use Rattle.transfer_lent.proofs.State.ack.Reads as lent_ack
use Rattle.transfer_lent.proofs.State.nak.Kinds as lent-nak-of
use Rattle.transfer_lent.proofs.State.nak.Reads as lent_nak
use Rattle.transfer_lent.proofs.State.timeout.Kinds as lent-timeout-of
use Rattle.transfer_lent.proofs.State.timeout.Reads as lent_timeout
use Rattle.transfer_lent.proofs.State.lost.Kinds as lent-lost-of
use Rattle.transfer_lent.proofs.State.lost.Reads as lent_lost
use Rattle.transfer_lent.proofs.State.nexus.Kinds as lent-nexus-of
use Rattle.transfer_lent.proofs.State.nexus.Reads as lent_nexus
use Rattle.transfer_lent.proofs.State.cancel.Kinds as lent-cancel-of
use Rattle.transfer_lent.proofs.State.cancel.Reads as lent_cancel
use Rattle.transfer_lent.proofs.State.next.Kinds as lent-next-of
use Rattle.transfer_lent.proofs.State.next.Reads as lent_next
use Rattle.transfer_lent.proofs.State.length.Kinds as lent-length-of
use Rattle.transfer_lent.proofs.State.length.Reads as lent_length
use Rattle.transfer_lent.proofs.numbers.phase_number.Kinds as phase-number-of
use Rattle.transfer_lent.proofs.numbers.phase_number.Reads as phase_number
use Rattle.transfer_lent.proofs.numbers.phase_of.Kinds as phase-of-of
use Rattle.transfer_lent.proofs.numbers.phase_of.Reads as phase_of
use Rattle.transfer_lent.proofs.numbers.answer_number.Kinds as answer-number-of
use Rattle.transfer_lent.proofs.numbers.answer_number.Reads as answer_number
use Rattle.sonerwal.proofs.transfers.sonerwal_transfer_start.Kinds as c-start-of
use Rattle.sonerwal.proofs.transfers.sonerwal_transfer_start.Reads as c_start
use Rattle.sonerwal.proofs.transfers.sonerwal_transfer_frame.Kinds as c-frame-of
use Rattle.sonerwal.proofs.transfers.sonerwal_transfer_frame.Reads as c_frame
use Rattle.sonerwal.proofs.transfers.sonerwal_transfer_ack.Kinds as c-ack-of
use Rattle.sonerwal.proofs.transfers.sonerwal_transfer_ack.Reads as c_ack
use Rattle.sonerwal.proofs.transfers.sonerwal_transfer_nak.Kinds as c-nak-of
use Rattle.sonerwal.proofs.transfers.sonerwal_transfer_nak.Reads as c_nak
use Rattle.sonerwal.proofs.transfers.sonerwal_transfer_timeout.Kinds as c-timeout-of
use Rattle.sonerwal.proofs.transfers.sonerwal_transfer_timeout.Reads as c_timeout
use Rattle.sonerwal.proofs.transfers.sonerwal_transfer_lost.Kinds as c-lost-of
use Rattle.sonerwal.proofs.transfers.sonerwal_transfer_lost.Reads as c_lost
use Rattle.sonerwal.proofs.transfers.sonerwal_transfer_nexus.Kinds as c-nexus-of
use Rattle.sonerwal.proofs.transfers.sonerwal_transfer_nexus.Reads as c_nexus
use Rattle.sonerwal.proofs.transfers.sonerwal_transfer_cancel.Kinds as c-cancel-of
use Rattle.sonerwal.proofs.transfers.sonerwal_transfer_cancel.Reads as c_cancel
use Rattle.sonerwal.proofs.transfers.sonerwal_transfer_next.Kinds as c-next-of
use Rattle.sonerwal.proofs.transfers.sonerwal_transfer_next.Reads as c_next
use Rattle.sonerwal.proofs.transfers.sonerwal_transfer_length.Kinds as c-length-of
use Rattle.sonerwal.proofs.transfers.sonerwal_transfer_length.Reads as c_length
use Rattle.transfer_lent.proofs.lent.TransferFromState.from.Kinds as lent-transfer-of
use Rattle.transfer_lent.proofs.lent.TransferFromState.from.Reads as lent_transfer
use Rattle.transfer_lent.proofs.lent.StateFromTransfer.from.Kinds as transfer-shown-of
use Rattle.transfer_lent.proofs.lent.StateFromTransfer.from.Reads as transfer_shown
use Rattle.claims.proofs.Calls.{Anything}

pub record Transfer : Type 2 where
  pub unstarted : Anything 0 unstarted-of.ps unstarted.Pre
  pub keeps_rules_lem : Anything 0 keeps-rules-of.ps keeps_rules_lem.Pre
  pub frame_length : Anything 0 frame-length-of.ps frame_length.Pre
  pub refused : Anything 0 refused-of.ps refused.Pre
  pub start : Anything 0 start_of_lem.ps start.Pre
  pub frame : Anything 0 frame-of.ps frame.Pre
  pub ack : Anything 0 ack-of.ps ack.Pre
  pub nak : Anything 0 nak-of.ps nak.Pre
  pub timeout : Anything 0 timeout-of.ps timeout.Pre
  pub lost : Anything 0 lost-of.ps lost.Pre
  pub nexus : Anything 0 nexus-of.ps nexus.Pre
  pub cancel : Anything 0 cancel-of.ps cancel.Pre
  pub next_frame : Anything 2 next-frame-of.ps next_frame.Pre
  pub lent_start : Anything 0 lent-start-of.ps lent_start.Pre
  pub lent_frame : Anything 0 lent-frame-of.ps lent_frame.Pre
  pub lent_ack : Anything 0 lent-ack-of.ps lent_ack.Pre
  pub lent_nak : Anything 0 lent-nak-of.ps lent_nak.Pre
  pub lent_timeout : Anything 0 lent-timeout-of.ps lent_timeout.Pre
  pub lent_lost : Anything 0 lent-lost-of.ps lent_lost.Pre
  pub lent_nexus : Anything 0 lent-nexus-of.ps lent_nexus.Pre
  pub lent_cancel : Anything 0 lent-cancel-of.ps lent_cancel.Pre
  pub lent_next : Anything 2 lent-next-of.ps lent_next.Pre
  pub lent_length : Anything 0 lent-length-of.ps lent_length.Pre
  pub phase_number : Anything 0 phase-number-of.ps phase_number.Pre
  pub phase_of : Anything 0 phase-of-of.ps phase_of.Pre
  pub answer_number : Anything 0 answer-number-of.ps answer_number.Pre
  pub c_start : Anything 0 c-start-of.ps c_start.Pre
  pub c_frame : Anything 0 c-frame-of.ps c_frame.Pre
  pub c_ack : Anything 0 c-ack-of.ps c_ack.Pre
  pub c_nak : Anything 0 c-nak-of.ps c_nak.Pre
  pub c_timeout : Anything 0 c-timeout-of.ps c_timeout.Pre
  pub c_lost : Anything 0 c-lost-of.ps c_lost.Pre
  pub c_nexus : Anything 0 c-nexus-of.ps c_nexus.Pre
  pub c_cancel : Anything 0 c-cancel-of.ps c_cancel.Pre
  pub c_next : Anything 2 c-next-of.ps c_next.Pre
  pub c_length : Anything 0 c-length-of.ps c_length.Pre
  pub lent_transfer : Anything 0 lent-transfer-of.ps lent_transfer.Pre
  pub transfer_shown : Anything 0 transfer-shown-of.ps transfer_shown.Pre

pub transfer : Transfer
transfer = record {
  unstarted = λ κs a. tt;
  keeps_rules_lem = λ κs a. tt;
  frame_length = λ κs a. tt;
  refused = λ κs a. tt;
  start = λ κs a. tt;
  frame = λ κs a. tt;
  ack = λ κs a. tt;
  nak = λ κs a. tt;
  timeout = λ κs a. tt;
  lost = λ κs a. tt;
  nexus = λ κs a. tt;
  cancel = λ κs a. tt;
  next_frame = λ κs a. tt;
  lent_start = λ κs a. tt;
  lent_frame = λ κs a. tt;
  lent_ack = λ κs a. tt;
  lent_nak = λ κs a. tt;
  lent_timeout = λ κs a. tt;
  lent_lost = λ κs a. tt;
  lent_nexus = λ κs a. tt;
  lent_cancel = λ κs a. tt;
  lent_next = λ κs a. tt;
  lent_length = λ κs a. tt;
  phase_number = λ κs a. tt;
  phase_of = λ κs a. tt;
  answer_number = λ κs a. tt;
  c_start = λ κs a. tt;
  c_frame = λ κs a. tt;
  c_ack = λ κs a. tt;
  c_nak = λ κs a. tt;
  c_timeout = λ κs a. tt;
  c_lost = λ κs a. tt;
  c_nexus = λ κs a. tt;
  c_cancel = λ κs a. tt;
  c_next = λ κs a. tt;
  c_length = λ κs a. tt;
  lent_transfer = λ κs a. tt;
  transfer_shown = λ κs a. tt;
}
