-- Two outcomes that meet a promise are equal: the write, its calls with bytes, and what C sees of them. Assumes nothing.
use Prim.Native.Nat.{ℕ}
use mathlib.Core.List.{List}
use mathlib.Core.Path.{refl, sym, ◌∙◌}
use borrow.Fn.Kinds as kinds
use contract.Lifetimes
use denote.Triple.Clauses
use Rattle.write.proofs.Write.unstarted.Kinds as unstarted-of
use Rattle.write.proofs.Write.unstarted.Reads as unstarted
use Rattle.write.proofs.Write.keeps_rules.Kinds as keeps-rules-of
use Rattle.write.proofs.Write.keeps_rules.Reads as keeps_rules_lem
use Rattle.write.proofs.Write.until.Kinds as until-of
use Rattle.write.proofs.Write.until.Reads as until
use Rattle.write.proofs.Write.asked_length.Kinds as asked-length-of
use Rattle.write.proofs.Write.asked_length.Reads as asked_length
use Rattle.write.proofs.Write.retransmit.Kinds as retransmit-of
use Rattle.write.proofs.Write.retransmit.Reads as retransmit
use Rattle.write.proofs.Write.awaited.Kinds as awaited-of
use Rattle.write.proofs.Write.awaited.Reads as awaited
use Rattle.write.proofs.Write.fits.Kinds as fits-of
use Rattle.write.proofs.Write.fits.Reads as fits
use Rattle.write.proofs.Write.got_checked.Kinds as got-checked-of
use Rattle.write.proofs.Write.got_checked.Reads as got_checked
use Rattle.write.proofs.Write.refused.Kinds as refused-of
use Rattle.write.proofs.Write.refused.Reads as refused
use Rattle.write.proofs.Write.start.Kinds as start_of_lem
use Rattle.write.proofs.Write.start.Reads as start
use Rattle.write.proofs.Write.xfer.Kinds as xfer_of
use Rattle.write.proofs.Write.xfer.Reads as xfer
use Rattle.write.proofs.Write.ack.Kinds as ack-of
use Rattle.write.proofs.Write.ack.Reads as ack
use Rattle.write.proofs.Write.nak.Kinds as nak-of
use Rattle.write.proofs.Write.nak.Reads as nak
use Rattle.write.proofs.Write.timeout.Kinds as timeout-of
use Rattle.write.proofs.Write.timeout.Reads as timeout
use Rattle.write.proofs.Write.lost.Kinds as lost-of
use Rattle.write.proofs.Write.lost.Reads as lost
use Rattle.write.proofs.Write.got.Kinds as got_of
use Rattle.write.proofs.Write.got.Reads as got
use Rattle.write.proofs.Write.nexus.Kinds as nexus-of
use Rattle.write.proofs.Write.nexus.Reads as nexus
use Rattle.write.proofs.Write.cancel.Kinds as cancel-of
use Rattle.write.proofs.Write.cancel.Reads as cancel
use Rattle.take.proofs.ask.Kinds as ask-of
use Rattle.take.proofs.ask.Reads as ask
use Rattle.take.proofs.take.Kinds as take-of
use Rattle.take.proofs.take.Reads as take
use Rattle.write_lent.proofs.State.start.Kinds as lent-start-of
use Rattle.write_lent.proofs.State.start.Reads as lent_start
use Rattle.write_lent.proofs.State.xfer.Kinds as lent-xfer-of
use Rattle.write_lent.proofs.State.xfer.Reads as lent_xfer
use Rattle.write_lent.proofs.State.ack.Kinds as lent-ack-of
use Rattle.write_lent.proofs.State.ack.Reads as lent_ack
use Rattle.write_lent.proofs.State.nak.Kinds as lent-nak-of
use Rattle.write_lent.proofs.State.nak.Reads as lent_nak
use Rattle.write_lent.proofs.State.timeout.Kinds as lent-timeout-of
use Rattle.write_lent.proofs.State.timeout.Reads as lent_timeout
use Rattle.write_lent.proofs.State.lost.Kinds as lent-lost-of
use Rattle.write_lent.proofs.State.lost.Reads as lent_lost
use Rattle.write_lent.proofs.State.got.Kinds as lent-got-of
use Rattle.write_lent.proofs.State.got.Reads as lent_got
use Rattle.write_lent.proofs.State.nexus.Kinds as lent-nexus-of
use Rattle.write_lent.proofs.State.nexus.Reads as lent_nexus
use Rattle.write_lent.proofs.State.cancel.Kinds as lent-cancel-of
use Rattle.write_lent.proofs.State.cancel.Reads as lent_cancel
use Rattle.write_lent.proofs.State.ask.Kinds as lent-ask-of
use Rattle.write_lent.proofs.State.ask.Reads as lent_ask
use Rattle.write_lent.proofs.State.take.Kinds as lent-take-of
use Rattle.write_lent.proofs.State.take.Reads as lent_take
use Rattle.write_lent.proofs.numbers.phase_number.Kinds as phase-number-of
use Rattle.write_lent.proofs.numbers.phase_number.Reads as phase_number
use Rattle.write_lent.proofs.numbers.phase_of.Kinds as phase-of-of
use Rattle.write_lent.proofs.numbers.phase_of.Reads as phase_of
use Rattle.write_lent.proofs.numbers.answer_number.Kinds as answer-number-of
use Rattle.write_lent.proofs.numbers.answer_number.Reads as answer_number
use Rattle.sonerwal.proofs.writes.sonerwal_write_start.Kinds as c-start-of
use Rattle.sonerwal.proofs.writes.sonerwal_write_start.Reads as c_start
use Rattle.sonerwal.proofs.writes.sonerwal_write_xfer.Kinds as c-xfer-of
use Rattle.sonerwal.proofs.writes.sonerwal_write_xfer.Reads as c_xfer
use Rattle.sonerwal.proofs.writes.sonerwal_write_ack.Kinds as c-ack-of
use Rattle.sonerwal.proofs.writes.sonerwal_write_ack.Reads as c_ack
use Rattle.sonerwal.proofs.writes.sonerwal_write_nak.Kinds as c-nak-of
use Rattle.sonerwal.proofs.writes.sonerwal_write_nak.Reads as c_nak
use Rattle.sonerwal.proofs.writes.sonerwal_write_timeout.Kinds as c-timeout-of
use Rattle.sonerwal.proofs.writes.sonerwal_write_timeout.Reads as c_timeout
use Rattle.sonerwal.proofs.writes.sonerwal_write_lost.Kinds as c-lost-of
use Rattle.sonerwal.proofs.writes.sonerwal_write_lost.Reads as c_lost
use Rattle.sonerwal.proofs.writes.sonerwal_write_got.Kinds as c-got-of
use Rattle.sonerwal.proofs.writes.sonerwal_write_got.Reads as c_got
use Rattle.sonerwal.proofs.writes.sonerwal_write_nexus.Kinds as c-nexus-of
use Rattle.sonerwal.proofs.writes.sonerwal_write_nexus.Reads as c_nexus
use Rattle.sonerwal.proofs.writes.sonerwal_write_cancel.Kinds as c-cancel-of
use Rattle.sonerwal.proofs.writes.sonerwal_write_cancel.Reads as c_cancel
use Rattle.sonerwal.proofs.writes.sonerwal_write_ask.Kinds as c-ask-of
use Rattle.sonerwal.proofs.writes.sonerwal_write_ask.Reads as c_ask
use Rattle.sonerwal.proofs.writes.sonerwal_write_take.Kinds as c-take-of
use Rattle.sonerwal.proofs.writes.sonerwal_write_take.Reads as c_take
use Rattle.write_lent.proofs.lent.WriteFromState.from.Kinds as lent-write-of
use Rattle.write_lent.proofs.lent.WriteFromState.from.Reads as lent_write
use Rattle.write_lent.proofs.lent.StateFromWrite.from.Kinds as write-shown-of
use Rattle.write_lent.proofs.lent.StateFromWrite.from.Reads as write_shown
use Rattle.claims.proofs.Calls.{One, none}
use Rattle.claims.proofs.Named.{behind3}

abbrev ask_left : (κs : Lifetimes.Lfts 1) → Clauses.AtExit (kinds.ended_of 1 ask-of.ps ask-of.r) κs → List ℕ
ask_left κs s = s.1.1.1.0.now

abbrev take_left : (κs : Lifetimes.Lfts 2) → Clauses.AtExit (kinds.ended_of 2 take-of.ps take-of.r) κs → List ℕ
take_left κs s = s.1.1.1.0.now

abbrev lent_ask_left : (κs : Lifetimes.Lfts 1) → Clauses.AtExit (kinds.ended_of 1 lent-ask-of.ps lent-ask-of.r) κs → List ℕ
lent_ask_left κs s = (behind3 s.1.1).0.now

abbrev lent_take_left : (κs : Lifetimes.Lfts 2) → Clauses.AtExit (kinds.ended_of 2 lent-take-of.ps lent-take-of.r) κs → List ℕ
lent_take_left κs s = (behind3 s.1).1.0.now

abbrev c_ask_left : (κs : Lifetimes.Lfts 1) → Clauses.AtExit (kinds.ended_of 1 c-ask-of.ps c-ask-of.r) κs → List ℕ
c_ask_left κs s = (behind3 s.1.1).0.now

abbrev c_take_left : (κs : Lifetimes.Lfts 2) → Clauses.AtExit (kinds.ended_of 2 c-take-of.ps c-take-of.r) κs → List ℕ
c_take_left κs s = (behind3 s.1).1.0.now

pub record Write : Type 2 where
  pub unstarted : One 0 unstarted-of.ps unstarted-of.r (none 0 unstarted-of.ps unstarted-of.r) unstarted.Post
  pub keeps_rules_lem : One 0 keeps-rules-of.ps keeps-rules-of.r (none 0 keeps-rules-of.ps keeps-rules-of.r) keeps_rules_lem.Post
  pub until : One 0 until-of.ps until-of.r (none 0 until-of.ps until-of.r) until.Post
  pub asked_length : One 0 asked-length-of.ps asked-length-of.r (none 0 asked-length-of.ps asked-length-of.r) asked_length.Post
  pub retransmit : One 0 retransmit-of.ps retransmit-of.r (none 0 retransmit-of.ps retransmit-of.r) retransmit.Post
  pub awaited : One 0 awaited-of.ps awaited-of.r (none 0 awaited-of.ps awaited-of.r) awaited.Post
  pub fits : One 0 fits-of.ps fits-of.r (none 0 fits-of.ps fits-of.r) fits.Post
  pub got_checked : One 0 got-checked-of.ps got-checked-of.r (none 0 got-checked-of.ps got-checked-of.r) got_checked.Post
  pub refused : One 0 refused-of.ps refused-of.r (none 0 refused-of.ps refused-of.r) refused.Post
  pub start : One 0 start_of_lem.ps start_of_lem.r (none 0 start_of_lem.ps start_of_lem.r) start.Post
  pub xfer : One 0 xfer_of.ps xfer_of.r (none 0 xfer_of.ps xfer_of.r) xfer.Post
  pub ack : One 0 ack-of.ps ack-of.r (none 0 ack-of.ps ack-of.r) ack.Post
  pub nak : One 0 nak-of.ps nak-of.r (none 0 nak-of.ps nak-of.r) nak.Post
  pub timeout : One 0 timeout-of.ps timeout-of.r (none 0 timeout-of.ps timeout-of.r) timeout.Post
  pub lost : One 0 lost-of.ps lost-of.r (none 0 lost-of.ps lost-of.r) lost.Post
  pub got : One 0 got_of.ps got_of.r (none 0 got_of.ps got_of.r) got.Post
  pub nexus : One 0 nexus-of.ps nexus-of.r (none 0 nexus-of.ps nexus-of.r) nexus.Post
  pub cancel : One 0 cancel-of.ps cancel-of.r (none 0 cancel-of.ps cancel-of.r) cancel.Post
  pub ask : One 1 ask-of.ps ask-of.r ask_left ask.Post
  pub take : One 2 take-of.ps take-of.r take_left take.Post
  pub lent_start : One 0 lent-start-of.ps lent-start-of.r (none 0 lent-start-of.ps lent-start-of.r) lent_start.Post
  pub lent_xfer : One 0 lent-xfer-of.ps lent-xfer-of.r (none 0 lent-xfer-of.ps lent-xfer-of.r) lent_xfer.Post
  pub lent_ack : One 0 lent-ack-of.ps lent-ack-of.r (none 0 lent-ack-of.ps lent-ack-of.r) lent_ack.Post
  pub lent_nak : One 0 lent-nak-of.ps lent-nak-of.r (none 0 lent-nak-of.ps lent-nak-of.r) lent_nak.Post
  pub lent_timeout : One 0 lent-timeout-of.ps lent-timeout-of.r (none 0 lent-timeout-of.ps lent-timeout-of.r) lent_timeout.Post
  pub lent_lost : One 0 lent-lost-of.ps lent-lost-of.r (none 0 lent-lost-of.ps lent-lost-of.r) lent_lost.Post
  pub lent_got : One 0 lent-got-of.ps lent-got-of.r (none 0 lent-got-of.ps lent-got-of.r) lent_got.Post
  pub lent_nexus : One 0 lent-nexus-of.ps lent-nexus-of.r (none 0 lent-nexus-of.ps lent-nexus-of.r) lent_nexus.Post
  pub lent_cancel : One 0 lent-cancel-of.ps lent-cancel-of.r (none 0 lent-cancel-of.ps lent-cancel-of.r) lent_cancel.Post
  pub lent_ask : One 1 lent-ask-of.ps lent-ask-of.r lent_ask_left lent_ask.Post
  pub lent_take : One 2 lent-take-of.ps lent-take-of.r lent_take_left lent_take.Post
  pub phase_number : One 0 phase-number-of.ps phase-number-of.r (none 0 phase-number-of.ps phase-number-of.r) phase_number.Post
  pub phase_of : One 0 phase-of-of.ps phase-of-of.r (none 0 phase-of-of.ps phase-of-of.r) phase_of.Post
  pub answer_number : One 0 answer-number-of.ps answer-number-of.r (none 0 answer-number-of.ps answer-number-of.r) answer_number.Post
  pub c_start : One 0 c-start-of.ps c-start-of.r (none 0 c-start-of.ps c-start-of.r) c_start.Post
  pub c_xfer : One 0 c-xfer-of.ps c-xfer-of.r (none 0 c-xfer-of.ps c-xfer-of.r) c_xfer.Post
  pub c_ack : One 0 c-ack-of.ps c-ack-of.r (none 0 c-ack-of.ps c-ack-of.r) c_ack.Post
  pub c_nak : One 0 c-nak-of.ps c-nak-of.r (none 0 c-nak-of.ps c-nak-of.r) c_nak.Post
  pub c_timeout : One 0 c-timeout-of.ps c-timeout-of.r (none 0 c-timeout-of.ps c-timeout-of.r) c_timeout.Post
  pub c_lost : One 0 c-lost-of.ps c-lost-of.r (none 0 c-lost-of.ps c-lost-of.r) c_lost.Post
  pub c_got : One 0 c-got-of.ps c-got-of.r (none 0 c-got-of.ps c-got-of.r) c_got.Post
  pub c_nexus : One 0 c-nexus-of.ps c-nexus-of.r (none 0 c-nexus-of.ps c-nexus-of.r) c_nexus.Post
  pub c_cancel : One 0 c-cancel-of.ps c-cancel-of.r (none 0 c-cancel-of.ps c-cancel-of.r) c_cancel.Post
  pub c_ask : One 1 c-ask-of.ps c-ask-of.r c_ask_left c_ask.Post
  pub c_take : One 2 c-take-of.ps c-take-of.r c_take_left c_take.Post
  pub lent_write : One 0 lent-write-of.ps lent-write-of.r (none 0 lent-write-of.ps lent-write-of.r) lent_write.Post
  pub write_shown : One 0 write-shown-of.ps write-shown-of.r (none 0 write-shown-of.ps write-shown-of.r) write_shown.Post

pub write : Write
write = record {
  unstarted = λ κs a x y s t p q. (p ∙ sym q, refl);
  keeps_rules_lem = λ κs a x y s t p q. (p ∙ sym q, refl);
  until = λ κs a x y s t p q. (p ∙ sym q, refl);
  asked_length = λ κs a x y s t p q. (p ∙ sym q, refl);
  retransmit = λ κs a x y s t p q. (p ∙ sym q, refl);
  awaited = λ κs a x y s t p q. (p ∙ sym q, refl);
  fits = λ κs a x y s t p q. (p ∙ sym q, refl);
  got_checked = λ κs a x y s t p q. (p ∙ sym q, refl);
  refused = λ κs a x y s t p q. (p ∙ sym q, refl);
  start = λ κs a x y s t p q. (p ∙ sym q, refl);
  xfer = λ κs a x y s t p q. (p ∙ sym q, refl);
  ack = λ κs a x y s t p q. (p ∙ sym q, refl);
  nak = λ κs a x y s t p q. (p ∙ sym q, refl);
  timeout = λ κs a x y s t p q. (p ∙ sym q, refl);
  lost = λ κs a x y s t p q. (p ∙ sym q, refl);
  got = λ κs a x y s t p q. (p ∙ sym q, refl);
  nexus = λ κs a x y s t p q. (p ∙ sym q, refl);
  cancel = λ κs a x y s t p q. (p ∙ sym q, refl);
  ask = λ κs a x y s t p q. (p.step ∙ sym q.step, p.bytes ∙ sym q.bytes);
  take = λ κs a x y s t p q. (p.step ∙ sym q.step, p.store ∙ sym q.store);
  lent_start = λ κs a x y s t p q. (p ∙ sym q, refl);
  lent_xfer = λ κs a x y s t p q. (p ∙ sym q, refl);
  lent_ack = λ κs a x y s t p q. (p ∙ sym q, refl);
  lent_nak = λ κs a x y s t p q. (p ∙ sym q, refl);
  lent_timeout = λ κs a x y s t p q. (p ∙ sym q, refl);
  lent_lost = λ κs a x y s t p q. (p ∙ sym q, refl);
  lent_got = λ κs a x y s t p q. (p ∙ sym q, refl);
  lent_nexus = λ κs a x y s t p q. (p ∙ sym q, refl);
  lent_cancel = λ κs a x y s t p q. (p ∙ sym q, refl);
  lent_ask = λ κs a x y s t p q. (p.step ∙ sym q.step, p.bytes ∙ sym q.bytes);
  lent_take = λ κs a x y s t p q. (p.step ∙ sym q.step, p.store ∙ sym q.store);
  phase_number = λ κs a x y s t p q. (p ∙ sym q, refl);
  phase_of = λ κs a x y s t p q. (p ∙ sym q, refl);
  answer_number = λ κs a x y s t p q. (p ∙ sym q, refl);
  c_start = λ κs a x y s t p q. (p ∙ sym q, refl);
  c_xfer = λ κs a x y s t p q. (p ∙ sym q, refl);
  c_ack = λ κs a x y s t p q. (p ∙ sym q, refl);
  c_nak = λ κs a x y s t p q. (p ∙ sym q, refl);
  c_timeout = λ κs a x y s t p q. (p ∙ sym q, refl);
  c_lost = λ κs a x y s t p q. (p ∙ sym q, refl);
  c_got = λ κs a x y s t p q. (p ∙ sym q, refl);
  c_nexus = λ κs a x y s t p q. (p ∙ sym q, refl);
  c_cancel = λ κs a x y s t p q. (p ∙ sym q, refl);
  c_ask = λ κs a x y s t p q. (p.step ∙ sym q.step, p.bytes ∙ sym q.bytes);
  c_take = λ κs a x y s t p q. (p.step ∙ sym q.step, p.store ∙ sym q.store);
  lent_write = λ κs a x y s t p q. (p ∙ sym q, refl);
  write_shown = λ κs a x y s t p q. (p ∙ sym q, refl);
}
