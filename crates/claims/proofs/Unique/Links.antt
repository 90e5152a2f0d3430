-- Two outcomes that meet a promise are equal: the expander link, and what C calls of it. Assumes nothing.
use mathlib.Core.Path.{refl, sym, ◌∙◌}
use Rattle.xl_parts.proofs.ready.Kinds as ready_of
use Rattle.xl_parts.proofs.ready.Reads as ready
use Rattle.xl_parts.proofs.stay.Kinds as stay_of
use Rattle.xl_parts.proofs.stay.Reads as stay
use Rattle.xl_parts.proofs.to.Kinds as to-of
use Rattle.xl_parts.proofs.to.Reads as to
use Rattle.xl_parts.proofs.ahead.Kinds as ahead_of_lem
use Rattle.xl_parts.proofs.ahead.Reads as ahead
use Rattle.xl_numbers.proofs.states.phase_number.Kinds as phase-number-of
use Rattle.xl_numbers.proofs.states.phase_number.Reads as phase_number
use Rattle.xl_numbers.proofs.states.phase_of.Kinds as phase-read-of
use Rattle.xl_numbers.proofs.states.phase_of.Reads as phase_read
use Rattle.xl_numbers.proofs.states.aip_number.Kinds as aip-number-of
use Rattle.xl_numbers.proofs.states.aip_number.Reads as aip_number
use Rattle.xl_numbers.proofs.states.aip_of.Kinds as aip-read-of
use Rattle.xl_numbers.proofs.states.aip_of.Reads as aip_read
use Rattle.xl_numbers.proofs.states.status_number.Kinds as status-number-of
use Rattle.xl_numbers.proofs.states.status_number.Reads as status_number
use Rattle.xl_numbers.proofs.codes.event_number.Kinds as event-number-of
use Rattle.xl_numbers.proofs.codes.event_number.Reads as event_number
use Rattle.xl_numbers.proofs.codes.event_of.Kinds as event-read-of
use Rattle.xl_numbers.proofs.codes.event_of.Reads as event_read
use Rattle.xl_numbers.proofs.codes.action_number.Kinds as action-number-of
use Rattle.xl_numbers.proofs.codes.action_number.Reads as action_number
use Rattle.xl_numbers.proofs.codes.action_of.Kinds as action-read-of
use Rattle.xl_numbers.proofs.codes.action_of.Reads as action_read
use Rattle.xl_core.proofs.takes.Kinds as takes_of
use Rattle.xl_core.proofs.takes.Reads as takes
use Rattle.xl.proofs.step.Kinds as xl-step-of
use Rattle.xl.proofs.step.Reads as xl_step
use Rattle.xl.proofs.receive.Kinds as xl-receive-of
use Rattle.xl.proofs.receive.Reads as xl_receive
use Rattle.xl.proofs.status.Kinds as xl-status-of
use Rattle.xl.proofs.status.Reads as xl_status
use Rattle.open_lent.proofs.OpenFrameFromOpen.from.Kinds as open-frame-of-of
use Rattle.open_lent.proofs.OpenFrameFromOpen.from.Reads as open_frame_of
use Rattle.open_lent.proofs.OpenFromOpenFrame.from.Kinds as open-shown-of
use Rattle.open_lent.proofs.OpenFromOpenFrame.from.Reads as open_shown
use Rattle.open_lent.proofs.clear.Kinds as open-clear-of
use Rattle.open_lent.proofs.clear.Reads as open_clear
use Rattle.open_lent.proofs.formed.Kinds as open-formed-of
use Rattle.open_lent.proofs.formed.Reads as open_formed
use Rattle.open_lent.proofs.is_clear.Kinds as open-is-clear-of
use Rattle.open_lent.proofs.is_clear.Reads as open_is_clear
use Rattle.xl.proofs.brings_unlisted.Kinds as brings-unlisted-of
use Rattle.xl.proofs.brings_unlisted.Reads as brings_unlisted
use Rattle.xl_lent.proofs.link_event.Kinds as lent-event-of
use Rattle.xl_lent.proofs.link_event.Reads as lent_event
use Rattle.xl_lent.proofs.link_receive.Kinds as lent-receive-of
use Rattle.xl_lent.proofs.link_receive.Reads as lent_receive
use Rattle.xl_lent.proofs.link_status.Kinds as lent-status-of
use Rattle.xl_lent.proofs.link_status.Reads as lent_status
use Rattle.sonerwal.proofs.link.sonerwal_link_event.Kinds as c-link-event-of
use Rattle.sonerwal.proofs.link.sonerwal_link_event.Reads as c_link_event
use Rattle.sonerwal.proofs.link.sonerwal_link_receive.Kinds as c-link-receive-of
use Rattle.sonerwal.proofs.link.sonerwal_link_receive.Reads as c_link_receive
use Rattle.sonerwal.proofs.link.sonerwal_link_status.Kinds as c-link-status-of
use Rattle.sonerwal.proofs.link.sonerwal_link_status.Reads as c_link_status
use Rattle.xl_lent.proofs.StateFromLink.from.Kinds as lent-link-of
use Rattle.xl_lent.proofs.StateFromLink.from.Reads as lent_link
use Rattle.xl_lent.proofs.LinkFromState.from.Kinds as link-shown-of
use Rattle.xl_lent.proofs.LinkFromState.from.Reads as link_shown
use Rattle.xl_numbers.proofs.codes.CodeFromPrimitive.from.Kinds as primitive-number-of
use Rattle.xl_numbers.proofs.codes.CodeFromPrimitive.from.Reads as primitive_number
use Rattle.xl_numbers.proofs.codes.CodeFromMessage.from.Kinds as message-number-of
use Rattle.xl_numbers.proofs.codes.CodeFromMessage.from.Reads as message_number
use Rattle.xl_numbers.proofs.codes.CodeFromConfirmation.from.Kinds as confirmation-number-of
use Rattle.xl_numbers.proofs.codes.CodeFromConfirmation.from.Reads as confirmation_number
use Rattle.xl_numbers.proofs.codes.CodeFromNotice.from.Kinds as notice-number-of
use Rattle.xl_numbers.proofs.codes.CodeFromNotice.from.Reads as notice_number
use Rattle.xl_numbers.proofs.codes.CodeFromBreakEvent.from.Kinds as break-number-of
use Rattle.xl_numbers.proofs.codes.CodeFromBreakEvent.from.Reads as break_number
use Rattle.claims.proofs.Calls.{One, none}

pub record Links : Type 2 where
  pub ready : One 0 ready_of.ps ready_of.r (none 0 ready_of.ps ready_of.r) ready.Post
  pub stay : One 0 stay_of.ps stay_of.r (none 0 stay_of.ps stay_of.r) stay.Post
  pub to : One 0 to-of.ps to-of.r (none 0 to-of.ps to-of.r) to.Post
  pub ahead : One 0 ahead_of_lem.ps ahead_of_lem.r (none 0 ahead_of_lem.ps ahead_of_lem.r) ahead.Post
  pub phase_number : One 0 phase-number-of.ps phase-number-of.r (none 0 phase-number-of.ps phase-number-of.r) phase_number.Post
  pub phase_read : One 0 phase-read-of.ps phase-read-of.r (none 0 phase-read-of.ps phase-read-of.r) phase_read.Post
  pub aip_number : One 0 aip-number-of.ps aip-number-of.r (none 0 aip-number-of.ps aip-number-of.r) aip_number.Post
  pub aip_read : One 0 aip-read-of.ps aip-read-of.r (none 0 aip-read-of.ps aip-read-of.r) aip_read.Post
  pub status_number : One 0 status-number-of.ps status-number-of.r (none 0 status-number-of.ps status-number-of.r) status_number.Post
  pub event_number : One 0 event-number-of.ps event-number-of.r (none 0 event-number-of.ps event-number-of.r) event_number.Post
  pub event_read : One 0 event-read-of.ps event-read-of.r (none 0 event-read-of.ps event-read-of.r) event_read.Post
  pub action_number : One 0 action-number-of.ps action-number-of.r (none 0 action-number-of.ps action-number-of.r) action_number.Post
  pub action_read : One 0 action-read-of.ps action-read-of.r (none 0 action-read-of.ps action-read-of.r) action_read.Post
  pub takes : One 0 takes_of.ps takes_of.r (none 0 takes_of.ps takes_of.r) takes.Post
  pub xl_step : One 0 xl-step-of.ps xl-step-of.r (none 0 xl-step-of.ps xl-step-of.r) xl_step.Post
  pub xl_receive : One 1 xl-receive-of.ps xl-receive-of.r (none 1 xl-receive-of.ps xl-receive-of.r) xl_receive.Post
  pub xl_status : One 0 xl-status-of.ps xl-status-of.r (none 0 xl-status-of.ps xl-status-of.r) xl_status.Post
  pub open_frame_of : One 0 open-frame-of-of.ps open-frame-of-of.r (none 0 open-frame-of-of.ps open-frame-of-of.r) open_frame_of.Post
  pub open_shown : One 0 open-shown-of.ps open-shown-of.r (none 0 open-shown-of.ps open-shown-of.r) open_shown.Post
  pub open_clear : One 0 open-clear-of.ps open-clear-of.r (none 0 open-clear-of.ps open-clear-of.r) open_clear.Post
  pub open_formed : One 0 open-formed-of.ps open-formed-of.r (none 0 open-formed-of.ps open-formed-of.r) open_formed.Post
  pub open_is_clear : One 0 open-is-clear-of.ps open-is-clear-of.r (none 0 open-is-clear-of.ps open-is-clear-of.r) open_is_clear.Post
  pub brings_unlisted : One 0 brings-unlisted-of.ps brings-unlisted-of.r (none 0 brings-unlisted-of.ps brings-unlisted-of.r) brings_unlisted.Post
  pub lent_event : One 0 lent-event-of.ps lent-event-of.r (none 0 lent-event-of.ps lent-event-of.r) lent_event.Post
  pub lent_receive : One 1 lent-receive-of.ps lent-receive-of.r (none 1 lent-receive-of.ps lent-receive-of.r) lent_receive.Post
  pub lent_status : One 0 lent-status-of.ps lent-status-of.r (none 0 lent-status-of.ps lent-status-of.r) lent_status.Post
  pub c_link_event : One 0 c-link-event-of.ps c-link-event-of.r (none 0 c-link-event-of.ps c-link-event-of.r) c_link_event.Post
  pub c_link_receive : One 1 c-link-receive-of.ps c-link-receive-of.r (none 1 c-link-receive-of.ps c-link-receive-of.r) c_link_receive.Post
  pub c_link_status : One 0 c-link-status-of.ps c-link-status-of.r (none 0 c-link-status-of.ps c-link-status-of.r) c_link_status.Post
  pub lent_link : One 0 lent-link-of.ps lent-link-of.r (none 0 lent-link-of.ps lent-link-of.r) lent_link.Post
  pub link_shown : One 0 link-shown-of.ps link-shown-of.r (none 0 link-shown-of.ps link-shown-of.r) link_shown.Post
  pub primitive_number : One 0 primitive-number-of.ps primitive-number-of.r (none 0 primitive-number-of.ps primitive-number-of.r) primitive_number.Post
  pub message_number : One 0 message-number-of.ps message-number-of.r (none 0 message-number-of.ps message-number-of.r) message_number.Post
  pub confirmation_number : One 0 confirmation-number-of.ps confirmation-number-of.r (none 0 confirmation-number-of.ps confirmation-number-of.r) confirmation_number.Post
  pub notice_number : One 0 notice-number-of.ps notice-number-of.r (none 0 notice-number-of.ps notice-number-of.r) notice_number.Post
  pub break_number : One 0 break-number-of.ps break-number-of.r (none 0 break-number-of.ps break-number-of.r) break_number.Post

pub links : Links
links = record {
  ready = λ κs a x y s t p q. (p ∙ sym q, refl);
  stay = λ κs a x y s t p q. (p ∙ sym q, refl);
  to = λ κs a x y s t p q. (p ∙ sym q, refl);
  ahead = λ κs a x y s t p q. (p ∙ sym q, refl);
  phase_number = λ κs a x y s t p q. (p ∙ sym q, refl);
  phase_read = λ κs a x y s t p q. (p ∙ sym q, refl);
  aip_number = λ κs a x y s t p q. (p ∙ sym q, refl);
  aip_read = λ κs a x y s t p q. (p ∙ sym q, refl);
  status_number = λ κs a x y s t p q. (p ∙ sym q, refl);
  event_number = λ κs a x y s t p q. (p ∙ sym q, refl);
  event_read = λ κs a x y s t p q. (p ∙ sym q, refl);
  action_number = λ κs a x y s t p q. (p ∙ sym q, refl);
  action_read = λ κs a x y s t p q. (p ∙ sym q, refl);
  takes = λ κs a x y s t p q. (p ∙ sym q, refl);
  xl_step = λ κs a x y s t p q. (p ∙ sym q, refl);
  xl_receive = λ κs a x y s t p q. (p ∙ sym q, refl);
  xl_status = λ κs a x y s t p q. (p ∙ sym q, refl);
  open_frame_of = λ κs a x y s t p q. (p ∙ sym q, refl);
  open_shown = λ κs a x y s t p q. (p ∙ sym q, refl);
  open_clear = λ κs a x y s t p q. (p ∙ sym q, refl);
  open_formed = λ κs a x y s t p q. (p ∙ sym q, refl);
  open_is_clear = λ κs a x y s t p q. (p ∙ sym q, refl);
  brings_unlisted = λ κs a x y s t p q. (p ∙ sym q, refl);
  lent_event = λ κs a x y s t p q. (p ∙ sym q, refl);
  lent_receive = λ κs a x y s t p q. (p ∙ sym q, refl);
  lent_status = λ κs a x y s t p q. (p ∙ sym q, refl);
  c_link_event = λ κs a x y s t p q. (p ∙ sym q, refl);
  c_link_receive = λ κs a x y s t p q. (p ∙ sym q, refl);
  c_link_status = λ κs a x y s t p q. (p ∙ sym q, refl);
  lent_link = λ κs a x y s t p q. (p ∙ sym q, refl);
  link_shown = λ κs a x y s t p q. (p ∙ sym q, refl);
  primitive_number = λ κs a x y s t p q. (p ∙ sym q, refl);
  message_number = λ κs a x y s t p q. (p ∙ sym q, refl);
  confirmation_number = λ κs a x y s t p q. (p ∙ sym q, refl);
  notice_number = λ κs a x y s t p q. (p ∙ sym q, refl);
  break_number = λ κs a x y s t p q. (p ∙ sym q, refl);
}
