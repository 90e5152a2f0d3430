-- What the functions ask of their arguments holds of all of them: the expander link, and what C calls of it. Assumes nothing.
use Rattle.xl_parts.proofs.ready.Kinds as ready_of
use Rattle.xl_parts.proofs.ready.Reads as ready
use Rattle.xl_parts.proofs.stay.Kinds as stay_of
use Rattle.xl_parts.proofs.stay.Reads as stay
use Rattle.xl_parts.proofs.to.Kinds as to-of
use Rattle.xl_parts.proofs.to.Reads as to
use Rattle.xl_parts.proofs.ahead.Kinds as ahead_of_lem
use Rattle.xl_parts.proofs.ahead.Reads as ahead
use Rattle.xl_numbers.proofs.states.phase_number.Kinds as phase-number-of
use Rattle.xl_numbers.proofs.states.phase_number.Reads as phase_number
use Rattle.xl_numbers.proofs.states.phase_of.Kinds as phase-read-of
use Rattle.xl_numbers.proofs.states.phase_of.Reads as phase_read
use Rattle.xl_numbers.proofs.states.aip_number.Kinds as aip-number-of
use Rattle.xl_numbers.proofs.states.aip_number.Reads as aip_number
use Rattle.xl_numbers.proofs.states.aip_of.Kinds as aip-read-of
use Rattle.xl_numbers.proofs.states.aip_of.Reads as aip_read
use Rattle.xl_numbers.proofs.states.status_number.Kinds as status-number-of
use Rattle.xl_numbers.proofs.states.status_number.Reads as status_number
use Rattle.xl_numbers.proofs.codes.event_number.Kinds as event-number-of
use Rattle.xl_numbers.proofs.codes.event_number.Reads as event_number
use Rattle.xl_numbers.proofs.codes.event_of.Kinds as event-read-of
use Rattle.xl_numbers.proofs.codes.event_of.Reads as event_read
use Rattle.xl_numbers.proofs.codes.action_number.Kinds as action-number-of
use Rattle.xl_numbers.proofs.codes.action_number.Reads as action_number
use Rattle.xl_numbers.proofs.codes.action_of.Kinds as action-read-of
use Rattle.xl_numbers.proofs.codes.action_of.Reads as action_read
use Rattle.xl_core.proofs.takes.Kinds as takes_of
use Rattle.xl_core.proofs.takes.Reads as takes
use Rattle.xl.proofs.step.Kinds as xl-step-of
use Rattle.xl.proofs.step.Reads as xl_step
use Rattle.xl.proofs.receive.Kinds as xl-receive-of
use Rattle.xl.proofs.receive.Reads as xl_receive
use Rattle.xl.proofs.status.Kinds as xl-status-of
use Rattle.xl.proofs.status.Reads as xl_status
use Rattle.open_lent.proofs.OpenFrameFromOpen.from.Kinds as open-frame-of-of
use Rattle.open_lent.proofs.OpenFrameFromOpen.from.Reads as open_frame_of
use Rattle.open_lent.proofs.OpenFromOpenFrame.from.Kinds as open-shown-of
use Rattle.open_lent.proofs.OpenFromOpenFrame.from.Reads as open_shown
use Rattle.open_lent.proofs.clear.Kinds as open-clear-of
use Rattle.open_lent.proofs.clear.Reads as open_clear
use Rattle.open_lent.proofs.formed.Kinds as open-formed-of
use Rattle.open_lent.proofs.formed.Reads as open_formed
use Rattle.open_lent.proofs.is_clear.Kinds as open-is-clear-of
use Rattle.open_lent.proofs.is_clear.Reads as open_is_clear
use Rattle.xl.proofs.brings_unlisted.Kinds as brings-unlisted-of
use Rattle.xl.proofs.brings_unlisted.Reads as brings_unlisted
use Rattle.xl_lent.proofs.link_event.Kinds as lent-event-of
use Rattle.xl_lent.proofs.link_event.Reads as lent_event
use Rattle.xl_lent.proofs.link_receive.Kinds as lent-receive-of
use Rattle.xl_lent.proofs.link_receive.Reads as lent_receive
use Rattle.xl_lent.proofs.link_status.Kinds as lent-status-of
use Rattle.xl_lent.proofs.link_status.Reads as lent_status
use Rattle.sonerwal.proofs.link.sonerwal_link_event.Kinds as c-link-event-of
use Rattle.sonerwal.proofs.link.sonerwal_link_event.Reads as c_link_event
use Rattle.sonerwal.proofs.link.sonerwal_link_receive.Kinds as c-link-receive-of
use Rattle.sonerwal.proofs.link.sonerwal_link_receive.Reads as c_link_receive
use Rattle.sonerwal.proofs.link.sonerwal_link_status.Kinds as c-link-status-of
use Rattle.sonerwal.proofs.link.sonerwal_link_status.Reads as c_link_status
use Rattle.xl_lent.proofs.StateFromLink.from.Kinds as lent-link-of
use Rattle.xl_lent.proofs.StateFromLink.from.Reads as lent_link
use Rattle.xl_lent.proofs.LinkFromState.from.Kinds as link-shown-of
use Rattle.xl_lent.proofs.LinkFromState.from.Reads as link_shown
use Rattle.xl_numbers.proofs.codes.CodeFromPrimitive.from.Kinds as primitive-number-of
use Rattle.xl_numbers.proofs.codes.CodeFromPrimitive.from.Reads as primitive_number
use Rattle.xl_numbers.proofs.codes.CodeFromMessage.from.Kinds as message-number-of
use Rattle.xl_numbers.proofs.codes.CodeFromMessage.from.Reads as message_number
use Rattle.xl_numbers.proofs.codes.CodeFromConfirmation.from.Kinds as confirmation-number-of
use Rattle.xl_numbers.proofs.codes.CodeFromConfirmation.from.Reads as confirmation_number
use Rattle.xl_numbers.proofs.codes.CodeFromNotice.from.Kinds as notice-number-of
use Rattle.xl_numbers.proofs.codes.CodeFromNotice.from.Reads as notice_number
use Rattle.xl_numbers.proofs.codes.CodeFromBreakEvent.from.Kinds as break-number-of
use Rattle.xl_numbers.proofs.codes.CodeFromBreakEvent.from.Reads as break_number
use Rattle.claims.proofs.Calls.{Anything}

pub record Links : Type 2 where
  pub ready : Anything 0 ready_of.ps ready.Pre
  pub stay : Anything 0 stay_of.ps stay.Pre
  pub to : Anything 0 to-of.ps to.Pre
  pub ahead : Anything 0 ahead_of_lem.ps ahead.Pre
  pub phase_number : Anything 0 phase-number-of.ps phase_number.Pre
  pub phase_read : Anything 0 phase-read-of.ps phase_read.Pre
  pub aip_number : Anything 0 aip-number-of.ps aip_number.Pre
  pub aip_read : Anything 0 aip-read-of.ps aip_read.Pre
  pub status_number : Anything 0 status-number-of.ps status_number.Pre
  pub event_number : Anything 0 event-number-of.ps event_number.Pre
  pub event_read : Anything 0 event-read-of.ps event_read.Pre
  pub action_number : Anything 0 action-number-of.ps action_number.Pre
  pub action_read : Anything 0 action-read-of.ps action_read.Pre
  pub takes : Anything 0 takes_of.ps takes.Pre
  pub xl_step : Anything 0 xl-step-of.ps xl_step.Pre
  pub xl_receive : Anything 1 xl-receive-of.ps xl_receive.Pre
  pub xl_status : Anything 0 xl-status-of.ps xl_status.Pre
  pub open_frame_of : Anything 0 open-frame-of-of.ps open_frame_of.Pre
  pub open_shown : Anything 0 open-shown-of.ps open_shown.Pre
  pub open_clear : Anything 0 open-clear-of.ps open_clear.Pre
  pub open_formed : Anything 0 open-formed-of.ps open_formed.Pre
  pub open_is_clear : Anything 0 open-is-clear-of.ps open_is_clear.Pre
  pub brings_unlisted : Anything 0 brings-unlisted-of.ps brings_unlisted.Pre
  pub lent_event : Anything 0 lent-event-of.ps lent_event.Pre
  pub lent_receive : Anything 1 lent-receive-of.ps lent_receive.Pre
  pub lent_status : Anything 0 lent-status-of.ps lent_status.Pre
  pub c_link_event : Anything 0 c-link-event-of.ps c_link_event.Pre
  pub c_link_receive : Anything 1 c-link-receive-of.ps c_link_receive.Pre
  pub c_link_status : Anything 0 c-link-status-of.ps c_link_status.Pre
  pub lent_link : Anything 0 lent-link-of.ps lent_link.Pre
  pub link_shown : Anything 0 link-shown-of.ps link_shown.Pre
  pub primitive_number : Anything 0 primitive-number-of.ps primitive_number.Pre
  pub message_number : Anything 0 message-number-of.ps message_number.Pre
  pub confirmation_number : Anything 0 confirmation-number-of.ps confirmation_number.Pre
  pub notice_number : Anything 0 notice-number-of.ps notice_number.Pre
  pub break_number : Anything 0 break-number-of.ps break_number.Pre

pub links : Links
links = record {
  ready = λ κs a. tt;
  stay = λ κs a. tt;
  to = λ κs a. tt;
  ahead = λ κs a. tt;
  phase_number = λ κs a. tt;
  phase_read = λ κs a. tt;
  aip_number = λ κs a. tt;
  aip_read = λ κs a. tt;
  status_number = λ κs a. tt;
  event_number = λ κs a. tt;
  event_read = λ κs a. tt;
  action_number = λ κs a. tt;
  action_read = λ κs a. tt;
  takes = λ κs a. tt;
  xl_step = λ κs a. tt;
  xl_receive = λ κs a. tt;
  xl_status = λ κs a. tt;
  open_frame_of = λ κs a. tt;
  open_shown = λ κs a. tt;
  open_clear = λ κs a. tt;
  open_formed = λ κs a. tt;
  open_is_clear = λ κs a. tt;
  brings_unlisted = λ κs a. tt;
  lent_event = λ κs a. tt;
  lent_receive = λ κs a. tt;
  lent_status = λ κs a. tt;
  c_link_event = λ κs a. tt;
  c_link_receive = λ κs a. tt;
  c_link_status = λ κs a. tt;
  lent_link = λ κs a. tt;
  link_shown = λ κs a. tt;
  primitive_number = λ κs a. tt;
  message_number = λ κs a. tt;
  confirmation_number = λ κs a. tt;
  notice_number = λ κs a. tt;
  break_number = λ κs a. tt;
}
