-- What the functions ask of their arguments holds of all of them: the write, its calls with bytes, and what C sees of them. Assumes nothing.
use Rattle.write.proofs.Write.unstarted.Kinds as unstarted-of
use Rattle.write.proofs.Write.unstarted.Reads as unstarted
use Rattle.write.proofs.Write.keeps_rules.Kinds as keeps-rules-of
use Rattle.write.proofs.Write.keeps_rules.Reads as keeps_rules_lem
use Rattle.write.proofs.Write.until.Kinds as until-of
use Rattle.write.proofs.Write.until.Reads as until
use Rattle.write.proofs.Write.asked_length.Kinds as asked-length-of
use Rattle.write.proofs.Write.asked_length.Reads as asked_length
use Rattle.write.proofs.Write.retransmit.Kinds as retransmit-of
use Rattle.write.proofs.Write.retransmit.Reads as retransmit
use Rattle.write.proofs.Write.awaited.Kinds as awaited-of
use Rattle.write.proofs.Write.awaited.Reads as awaited
use Rattle.write.proofs.Write.fits.Kinds as fits-of
use Rattle.write.proofs.Write.fits.Reads as fits
use Rattle.write.proofs.Write.got_checked.Kinds as got-checked-of
use Rattle.write.proofs.Write.got_checked.Reads as got_checked
use Rattle.write.proofs.Write.refused.Kinds as refused-of
use Rattle.write.proofs.Write.refused.Reads as refused
use Rattle.write.proofs.Write.start.Kinds as start_of_lem
use Rattle.write.proofs.Write.start.Reads as start
use Rattle.write.proofs.Write.xfer.Kinds as xfer_of
use Rattle.write.proofs.Write.xfer.Reads as xfer
use Rattle.write.proofs.Write.ack.Kinds as ack-of
use Rattle.write.proofs.Write.ack.Reads as ack
use Rattle.write.proofs.Write.nak.Kinds as nak-of
use Rattle.write.proofs.Write.nak.Reads as nak
use Rattle.write.proofs.Write.timeout.Kinds as timeout-of
use Rattle.write.proofs.Write.timeout.Reads as timeout
use Rattle.write.proofs.Write.lost.Kinds as lost-of
use Rattle.write.proofs.Write.lost.Reads as lost
use Rattle.write.proofs.Write.got.Kinds as got_of
use Rattle.write.proofs.Write.got.Reads as got
use Rattle.write.proofs.Write.nexus.Kinds as nexus-of
use Rattle.write.proofs.Write.nexus.Reads as nexus
use Rattle.write.proofs.Write.cancel.Kinds as cancel-of
use Rattle.write.proofs.Write.cancel.Reads as cancel
use Rattle.take.proofs.ask.Kinds as ask-of
use Rattle.take.proofs.ask.Reads as ask
use Rattle.take.proofs.take.Kinds as take-of
use Rattle.take.proofs.take.Reads as take
use Rattle.write_lent.proofs.State.start.Kinds as lent-start-of
use Rattle.write_lent.proofs.State.start.Reads as lent_start
use Rattle.write_lent.proofs.State.xfer.Kinds as lent-xfer-of
use Rattle.write_lent.proofs.State.xfer.Reads as lent_xfer
use Rattle.write_lent.proofs.State.ack.Kinds as lent-ack-of
use Rattle.write_lent.proofs.State.ack.Reads as lent_ack
use Rattle.write_lent.proofs.State.nak.Kinds as lent-nak-of
use Rattle.write_lent.proofs.State.nak.Reads as lent_nak
use Rattle.write_lent.proofs.State.timeout.Kinds as lent-timeout-of
use Rattle.write_lent.proofs.State.timeout.Reads as lent_timeout
use Rattle.write_lent.proofs.State.lost.Kinds as lent-lost-of
use Rattle.write_lent.proofs.State.lost.Reads as lent_lost
use Rattle.write_lent.proofs.State.got.Kinds as lent-got-of
use Rattle.write_lent.proofs.State.got.Reads as lent_got
use Rattle.write_lent.proofs.State.nexus.Kinds as lent-nexus-of
use Rattle.write_lent.proofs.State.nexus.Reads as lent_nexus
use Rattle.write_lent.proofs.State.cancel.Kinds as lent-cancel-of
use Rattle.write_lent.proofs.State.cancel.Reads as lent_cancel
use Rattle.write_lent.proofs.State.ask.Kinds as lent-ask-of
use Rattle.write_lent.proofs.State.ask.Reads as lent_ask
use Rattle.write_lent.proofs.State.take.Kinds as lent-take-of
use Rattle.write_lent.proofs.State.take.Reads as lent_take
use Rattle.write_lent.proofs.numbers.phase_number.Kinds as phase-number-of
use Rattle.write_lent.proofs.numbers.phase_number.Reads as phase_number
use Rattle.write_lent.proofs.numbers.phase_of.Kinds as phase-of-of
use Rattle.write_lent.proofs.numbers.phase_of.Reads as phase_of
use Rattle.write_lent.proofs.numbers.answer_number.Kinds as answer-number-of
use Rattle.write_lent.proofs.numbers.answer_number.Reads as answer_number
use Rattle.sonerwal.proofs.writes.sonerwal_write_start.Kinds as c-start-of
use Rattle.sonerwal.proofs.writes.sonerwal_write_start.Reads as c_start
use Rattle.sonerwal.proofs.writes.sonerwal_write_xfer.Kinds as c-xfer-of
use Rattle.sonerwal.proofs.writes.sonerwal_write_xfer.Reads as c_xfer
use Rattle.sonerwal.proofs.writes.sonerwal_write_ack.Kinds as c-ack-of
use Rattle.sonerwal.proofs.writes.sonerwal_write_ack.Reads as c_ack
use Rattle.sonerwal.proofs.writes.sonerwal_write_nak.Kinds as c-nak-of
use Rattle.sonerwal.proofs.writes.sonerwal_write_nak.Reads as c_nak
use Rattle.sonerwal.proofs.writes.sonerwal_write_timeout.Kinds as c-timeout-of
use Rattle.sonerwal.proofs.writes.sonerwal_write_timeout.Reads as c_timeout
use Rattle.sonerwal.proofs.writes.sonerwal_write_lost.Kinds as c-lost-of
use Rattle.sonerwal.proofs.writes.sonerwal_write_lost.Reads as c_lost
use Rattle.sonerwal.proofs.writes.sonerwal_write_got.Kinds as c-got-of
use Rattle.sonerwal.proofs.writes.sonerwal_write_got.Reads as c_got
use Rattle.sonerwal.proofs.writes.sonerwal_write_nexus.Kinds as c-nexus-of
use Rattle.sonerwal.proofs.writes.sonerwal_write_nexus.Reads as c_nexus
use Rattle.sonerwal.proofs.writes.sonerwal_write_cancel.Kinds as c-cancel-of
use Rattle.sonerwal.proofs.writes.sonerwal_write_cancel.Reads as c_cancel
use Rattle.sonerwal.proofs.writes.sonerwal_write_ask.Kinds as c-ask-of
use Rattle.sonerwal.proofs.writes.sonerwal_write_ask.Reads as c_ask
use Rattle.sonerwal.proofs.writes.sonerwal_write_take.Kinds as c-take-of
use Rattle.sonerwal.proofs.writes.sonerwal_write_take.Reads as c_take
use Rattle.write_lent.proofs.lent.WriteFromState.from.Kinds as lent-write-of
use Rattle.write_lent.proofs.lent.WriteFromState.from.Reads as lent_write
use Rattle.write_lent.proofs.lent.StateFromWrite.from.Kinds as write-shown-of
use Rattle.write_lent.proofs.lent.StateFromWrite.from.Reads as write_shown
use Rattle.claims.proofs.Calls.{Anything}

pub record Write : Type 2 where
  pub unstarted : Anything 0 unstarted-of.ps unstarted.Pre
  pub keeps_rules_lem : Anything 0 keeps-rules-of.ps keeps_rules_lem.Pre
  pub until : Anything 0 until-of.ps until.Pre
  pub asked_length : Anything 0 asked-length-of.ps asked_length.Pre
  pub retransmit : Anything 0 retransmit-of.ps retransmit.Pre
  pub awaited : Anything 0 awaited-of.ps awaited.Pre
  pub fits : Anything 0 fits-of.ps fits.Pre
  pub got_checked : Anything 0 got-checked-of.ps got_checked.Pre
  pub refused : Anything 0 refused-of.ps refused.Pre
  pub start : Anything 0 start_of_lem.ps start.Pre
  pub xfer : Anything 0 xfer_of.ps xfer.Pre
  pub ack : Anything 0 ack-of.ps ack.Pre
  pub nak : Anything 0 nak-of.ps nak.Pre
  pub timeout : Anything 0 timeout-of.ps timeout.Pre
  pub lost : Anything 0 lost-of.ps lost.Pre
  pub got : Anything 0 got_of.ps got.Pre
  pub nexus : Anything 0 nexus-of.ps nexus.Pre
  pub cancel : Anything 0 cancel-of.ps cancel.Pre
  pub ask : Anything 1 ask-of.ps ask.Pre
  pub take : Anything 2 take-of.ps take.Pre
  pub lent_start : Anything 0 lent-start-of.ps lent_start.Pre
  pub lent_xfer : Anything 0 lent-xfer-of.ps lent_xfer.Pre
  pub lent_ack : Anything 0 lent-ack-of.ps lent_ack.Pre
  pub lent_nak : Anything 0 lent-nak-of.ps lent_nak.Pre
  pub lent_timeout : Anything 0 lent-timeout-of.ps lent_timeout.Pre
  pub lent_lost : Anything 0 lent-lost-of.ps lent_lost.Pre
  pub lent_got : Anything 0 lent-got-of.ps lent_got.Pre
  pub lent_nexus : Anything 0 lent-nexus-of.ps lent_nexus.Pre
  pub lent_cancel : Anything 0 lent-cancel-of.ps lent_cancel.Pre
  pub lent_ask : Anything 1 lent-ask-of.ps lent_ask.Pre
  pub lent_take : Anything 2 lent-take-of.ps lent_take.Pre
  pub phase_number : Anything 0 phase-number-of.ps phase_number.Pre
  pub phase_of : Anything 0 phase-of-of.ps phase_of.Pre
  pub answer_number : Anything 0 answer-number-of.ps answer_number.Pre
  pub c_start : Anything 0 c-start-of.ps c_start.Pre
  pub c_xfer : Anything 0 c-xfer-of.ps c_xfer.Pre
  pub c_ack : Anything 0 c-ack-of.ps c_ack.Pre
  pub c_nak : Anything 0 c-nak-of.ps c_nak.Pre
  pub c_timeout : Anything 0 c-timeout-of.ps c_timeout.Pre
  pub c_lost : Anything 0 c-lost-of.ps c_lost.Pre
  pub c_got : Anything 0 c-got-of.ps c_got.Pre
  pub c_nexus : Anything 0 c-nexus-of.ps c_nexus.Pre
  pub c_cancel : Anything 0 c-cancel-of.ps c_cancel.Pre
  pub c_ask : Anything 1 c-ask-of.ps c_ask.Pre
  pub c_take : Anything 2 c-take-of.ps c_take.Pre
  pub lent_write : Anything 0 lent-write-of.ps lent_write.Pre
  pub write_shown : Anything 0 write-shown-of.ps write_shown.Pre

pub write : Write
write = record {
  unstarted = λ κs a. tt;
  keeps_rules_lem = λ κs a. tt;
  until = λ κs a. tt;
  asked_length = λ κs a. tt;
  retransmit = λ κs a. tt;
  awaited = λ κs a. tt;
  fits = λ κs a. tt;
  got_checked = λ κs a. tt;
  refused = λ κs a. tt;
  start = λ κs a. tt;
  xfer = λ κs a. tt;
  ack = λ κs a. tt;
  nak = λ κs a. tt;
  timeout = λ κs a. tt;
  lost = λ κs a. tt;
  got = λ κs a. tt;
  nexus = λ κs a. tt;
  cancel = λ κs a. tt;
  ask = λ κs a. tt;
  take = λ κs a. tt;
  lent_start = λ κs a. tt;
  lent_xfer = λ κs a. tt;
  lent_ack = λ κs a. tt;
  lent_nak = λ κs a. tt;
  lent_timeout = λ κs a. tt;
  lent_lost = λ κs a. tt;
  lent_got = λ κs a. tt;
  lent_nexus = λ κs a. tt;
  lent_cancel = λ κs a. tt;
  lent_ask = λ κs a. tt;
  lent_take = λ κs a. tt;
  phase_number = λ κs a. tt;
  phase_of = λ κs a. tt;
  answer_number = λ κs a. tt;
  c_start = λ κs a. tt;
  c_xfer = λ κs a. tt;
  c_ack = λ κs a. tt;
  c_nak = λ κs a. tt;
  c_timeout = λ κs a. tt;
  c_lost = λ κs a. tt;
  c_got = λ κs a. tt;
  c_nexus = λ κs a. tt;
  c_cancel = λ κs a. tt;
  c_ask = λ κs a. tt;
  c_take = λ κs a. tt;
  lent_write = λ κs a. tt;
  write_shown = λ κs a. tt;
}
