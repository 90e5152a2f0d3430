-- What the functions ask of their arguments holds of all of them: the port, and its calls as C reaches them. Assumes nothing.
use mathlib.Core.Path.{refl}
use Rattle.port_parts.proofs.no_stamp.Kinds as port-no-stamp-of
use Rattle.port_parts.proofs.no_stamp.Reads as port_no_stamp
use Rattle.port_parts.proofs.stamped.Kinds as port-stamped-of
use Rattle.port_parts.proofs.stamped.Reads as port_stamped
use Rattle.port_parts.proofs.disabled_phy.Kinds as port-disabled-phy-of
use Rattle.port_parts.proofs.disabled_phy.Reads as port_disabled_phy
use Rattle.port_parts.proofs.blank.Kinds as port-blank-of
use Rattle.port_parts.proofs.blank.Reads as port_blank
use Rattle.port_parts.proofs.slot_at.Kinds as port-slot-at-of
use Rattle.port_parts.proofs.slot_at.Reads as port_slot_at
use Rattle.port_parts.proofs.no_pick.Kinds as port-no-pick-of
use Rattle.port_parts.proofs.no_pick.Reads as port_no_pick
use Rattle.port_parts.proofs.chosen_step.Kinds as port-chosen-step-of
use Rattle.port_parts.proofs.chosen_step.Reads as port_chosen_step
use Rattle.port_parts.proofs.reason_of.Kinds as port-reason-of-of
use Rattle.port_parts.proofs.reason_of.Reads as port_reason_of
use Rattle.port_parts.proofs.is_listed.Kinds as port-is-listed-of
use Rattle.port_parts.proofs.is_listed.Reads as port_is_listed
use Rattle.port_parts.proofs.is_retried.Kinds as port-is-retried-of
use Rattle.port_parts.proofs.is_retried.Reads as port_is_retried
use Rattle.port_parts.proofs.is_blocked.Kinds as port-is-blocked-of
use Rattle.port_parts.proofs.is_blocked.Reads as port_is_blocked
use Rattle.port_parts.proofs.is_starting.Kinds as port-is-starting-of
use Rattle.port_parts.proofs.is_starting.Reads as port_is_starting
use Rattle.port_parts.proofs.is_stopping.Kinds as port-is-stopping-of
use Rattle.port_parts.proofs.is_stopping.Reads as port_is_stopping
use Rattle.port_parts.proofs.timer_by.Kinds as port-timer-by-of
use Rattle.port_parts.proofs.timer_by.Reads as port_timer_by
use Rattle.port_parts.proofs.is_lost.Kinds as port-is-lost-of
use Rattle.port_parts.proofs.is_lost.Reads as port_is_lost
use Rattle.port_parts.proofs.in_range.Kinds as port-in-range-of
use Rattle.port_parts.proofs.in_range.Reads as port_in_range
use Rattle.port_parts.proofs.has_frame_out.Kinds as port-has-frame-out-of
use Rattle.port_parts.proofs.has_frame_out.Reads as port_has_frame_out
use Rattle.port_rules.proofs.port_rule.Kinds as port-port-rule-of
use Rattle.port_rules.proofs.port_rule.Reads as port_port_rule
use Rattle.port_rules.proofs.request_rule.Kinds as port-request-rule-of
use Rattle.port_rules.proofs.request_rule.Reads as port_request_rule
use Rattle.port_rules.proofs.compared_of.Kinds as port-compared-of-of
use Rattle.port_rules.proofs.compared_of.Reads as port_compared_of
use Rattle.port_rules.proofs.apart_step.Kinds as port-apart-step-of
use Rattle.port_rules.proofs.apart_step.Reads as port_apart_step
use Rattle.port_core.proofs.refused_by.Kinds as port-refused-by-of
use Rattle.port_core.proofs.refused_by.Reads as port_refused_by
use Rattle.port_core.proofs.phy_at.Kinds as port-phy-at-of
use Rattle.port_core.proofs.phy_at.Reads as port_phy_at
use Rattle.port_core.proofs.timed.Kinds as port-timed-of
use Rattle.port_core.proofs.timed.Reads as port_timed
use Rattle.port_core.proofs.no_room.Kinds as port-no-room-of
use Rattle.port_core.proofs.no_room.Reads as port_no_room
use Rattle.port_core.proofs.room_step.Kinds as port-room-step-of
use Rattle.port_core.proofs.room_step.Reads as port_room_step
use Rattle.port_core.proofs.key_step.Kinds as port-key-step-of
use Rattle.port_core.proofs.key_step.Reads as port_key_step
use Rattle.port_core.proofs.no_port.Kinds as port-no-port-of
use Rattle.port_core.proofs.no_port.Reads as port_no_port
use Rattle.port_core.proofs.setup_core.Kinds as port-setup-core-of
use Rattle.port_core.proofs.setup_core.Reads as port_setup_core
use Rattle.port_core.proofs.submit_core.Kinds as port-submit-core-of
use Rattle.port_core.proofs.submit_core.Reads as port_submit_core
use Rattle.port_core.proofs.cancel_core.Kinds as port-cancel-core-of
use Rattle.port_core.proofs.cancel_core.Reads as port_cancel_core
use Rattle.port_core.proofs.choose_core.Kinds as port-choose-core-of
use Rattle.port_core.proofs.choose_core.Reads as port_choose_core
use Rattle.port_core.proofs.opened_core.Kinds as port-opened-core-of
use Rattle.port_core.proofs.opened_core.Reads as port_opened_core
use Rattle.port_core.proofs.open_failed_core.Kinds as port-open-failed-core-of
use Rattle.port_core.proofs.open_failed_core.Reads as port_open_failed_core
use Rattle.port_core.proofs.frame_status_core.Kinds as port-frame-status-core-of
use Rattle.port_core.proofs.frame_status_core.Reads as port_frame_status_core
use Rattle.port_core.proofs.closed_core.Kinds as port-closed-core-of
use Rattle.port_core.proofs.closed_core.Reads as port_closed_core
use Rattle.port_core.proofs.enable_core.Kinds as port-enable-core-of
use Rattle.port_core.proofs.enable_core.Reads as port_enable_core
use Rattle.port_core.proofs.disable_core.Kinds as port-disable-core-of
use Rattle.port_core.proofs.disable_core.Reads as port_disable_core
use Rattle.port.specs.contracts.setup as call_setup
use Rattle.port.specs.contracts.submit as call_submit
use Rattle.port.specs.contracts.cancel as call_cancel
use Rattle.port.specs.contracts.choose as call_choose
use Rattle.port.specs.contracts.opened as call_opened
use Rattle.port.specs.contracts.open_failed as call_open_failed
use Rattle.port.specs.contracts.frame_status as call_frame_status
use Rattle.port.specs.contracts.closed as call_closed
use Rattle.port.specs.contracts.enable as call_enable
use Rattle.port.specs.contracts.disable as call_disable
use Rattle.port_lent.proofs.port_of.Kinds as lent-port-of-of
use Rattle.port_lent.proofs.port_of.Reads as lent_port_of
use Rattle.port_lent.proofs.shown.Kinds as lent-shown-of
use Rattle.port_lent.proofs.shown.Reads as lent_shown
use Rattle.port_lent.proofs.set_up.Kinds as lent-set-up-of
use Rattle.port_lent.proofs.set_up.Reads as lent_set_up
use Rattle.port_lent.proofs.time_of.Kinds as lent-time-of-of
use Rattle.port_lent.proofs.time_of.Reads as lent_time_of
use Rattle.port_lent.proofs.submission_of.Kinds as lent-submission-of-of
use Rattle.port_lent.proofs.submission_of.Reads as lent_submission_of
use Rattle.port_lent.proofs.withdrawn_of.Kinds as lent-withdrawn-of-of
use Rattle.port_lent.proofs.withdrawn_of.Reads as lent_withdrawn_of
use Rattle.port_lent.proofs.confirmed_of.Kinds as lent-confirmed-of-of
use Rattle.port_lent.proofs.confirmed_of.Reads as lent_confirmed_of
use Rattle.port_lent.proofs.failure_of.Kinds as lent-failure-of-of
use Rattle.port_lent.proofs.failure_of.Reads as lent_failure_of
use Rattle.port_lent.proofs.report_of.Kinds as lent-report-of-of
use Rattle.port_lent.proofs.report_of.Reads as lent_report_of
use Rattle.sonerwal.specs.contracts.ports.sonerwal_port_setup as face_setup
use Rattle.sonerwal.specs.contracts.ports.sonerwal_port_submit as face_submit
use Rattle.sonerwal.specs.contracts.ports.sonerwal_port_cancel as face_cancel
use Rattle.sonerwal.specs.contracts.ports.sonerwal_port_choose as face_choose
use Rattle.sonerwal.specs.contracts.ports.sonerwal_port_opened as face_opened
use Rattle.sonerwal.specs.contracts.ports.sonerwal_port_open_failed as face_open_failed
use Rattle.sonerwal.specs.contracts.ports.sonerwal_port_frame_status as face_frame_status
use Rattle.sonerwal.specs.contracts.ports.sonerwal_port_closed as face_closed
use Rattle.sonerwal.specs.contracts.ports.sonerwal_port_enable as face_enable
use Rattle.sonerwal.specs.contracts.ports.sonerwal_port_disable as face_disable
use Rattle.port_lent.proofs.Port_partsPhyFromPhy.from.Kinds as lent-phy-of
use Rattle.port_lent.proofs.Port_partsPhyFromPhy.from.Reads as lent_phy
use Rattle.port_lent.proofs.PhyFromPort_partsPhy.from.Kinds as phy-shown-of
use Rattle.port_lent.proofs.PhyFromPort_partsPhy.from.Reads as phy_shown
use Rattle.claims.proofs.Calls.{Anything}
use Rattle.claims.proofs.Walked.{AsksNothing}

pub record Ports : Type 2 where
  pub port_no_stamp : Anything 0 port-no-stamp-of.ps port_no_stamp.Pre
  pub port_stamped : Anything 0 port-stamped-of.ps port_stamped.Pre
  pub port_disabled_phy : Anything 0 port-disabled-phy-of.ps port_disabled_phy.Pre
  pub port_blank : Anything 0 port-blank-of.ps port_blank.Pre
  pub port_slot_at : Anything 0 port-slot-at-of.ps port_slot_at.Pre
  pub port_no_pick : Anything 0 port-no-pick-of.ps port_no_pick.Pre
  pub port_chosen_step : Anything 0 port-chosen-step-of.ps port_chosen_step.Pre
  pub port_reason_of : Anything 0 port-reason-of-of.ps port_reason_of.Pre
  pub port_is_listed : Anything 0 port-is-listed-of.ps port_is_listed.Pre
  pub port_is_retried : Anything 0 port-is-retried-of.ps port_is_retried.Pre
  pub port_is_blocked : Anything 0 port-is-blocked-of.ps port_is_blocked.Pre
  pub port_is_starting : Anything 0 port-is-starting-of.ps port_is_starting.Pre
  pub port_is_stopping : Anything 0 port-is-stopping-of.ps port_is_stopping.Pre
  pub port_timer_by : Anything 0 port-timer-by-of.ps port_timer_by.Pre
  pub port_is_lost : Anything 0 port-is-lost-of.ps port_is_lost.Pre
  pub port_in_range : Anything 0 port-in-range-of.ps port_in_range.Pre
  pub port_has_frame_out : Anything 0 port-has-frame-out-of.ps port_has_frame_out.Pre
  pub port_port_rule : Anything 0 port-port-rule-of.ps port_port_rule.Pre
  pub port_request_rule : Anything 0 port-request-rule-of.ps port_request_rule.Pre
  pub port_compared_of : Anything 0 port-compared-of-of.ps port_compared_of.Pre
  pub port_apart_step : Anything 0 port-apart-step-of.ps port_apart_step.Pre
  pub port_refused_by : Anything 0 port-refused-by-of.ps port_refused_by.Pre
  pub port_phy_at : Anything 0 port-phy-at-of.ps port_phy_at.Pre
  pub port_timed : Anything 0 port-timed-of.ps port_timed.Pre
  pub port_no_room : Anything 0 port-no-room-of.ps port_no_room.Pre
  pub port_room_step : Anything 0 port-room-step-of.ps port_room_step.Pre
  pub port_key_step : Anything 0 port-key-step-of.ps port_key_step.Pre
  pub port_no_port : Anything 0 port-no-port-of.ps port_no_port.Pre
  pub port_setup_core : Anything 0 port-setup-core-of.ps port_setup_core.Pre
  pub port_submit_core : Anything 0 port-submit-core-of.ps port_submit_core.Pre
  pub port_cancel_core : Anything 0 port-cancel-core-of.ps port_cancel_core.Pre
  pub port_choose_core : Anything 0 port-choose-core-of.ps port_choose_core.Pre
  pub port_opened_core : Anything 0 port-opened-core-of.ps port_opened_core.Pre
  pub port_open_failed_core : Anything 0 port-open-failed-core-of.ps port_open_failed_core.Pre
  pub port_frame_status_core : Anything 0 port-frame-status-core-of.ps port_frame_status_core.Pre
  pub port_closed_core : Anything 0 port-closed-core-of.ps port_closed_core.Pre
  pub port_enable_core : Anything 0 port-enable-core-of.ps port_enable_core.Pre
  pub port_disable_core : Anything 0 port-disable-core-of.ps port_disable_core.Pre
  pub call_setup : AsksNothing call_setup.ended (λ M 𝓤. call_setup.spec)
  pub call_submit : AsksNothing call_submit.ended (λ M 𝓤. call_submit.spec)
  pub call_cancel : AsksNothing call_cancel.ended (λ M 𝓤. call_cancel.spec)
  pub call_choose : AsksNothing call_choose.ended (λ M 𝓤. call_choose.spec)
  pub call_opened : AsksNothing call_opened.ended (λ M 𝓤. call_opened.spec)
  pub call_open_failed : AsksNothing call_open_failed.ended (λ M 𝓤. call_open_failed.spec)
  pub call_frame_status : AsksNothing call_frame_status.ended (λ M 𝓤. call_frame_status.spec)
  pub call_closed : AsksNothing call_closed.ended (λ M 𝓤. call_closed.spec)
  pub call_enable : AsksNothing call_enable.ended (λ M 𝓤. call_enable.spec)
  pub call_disable : AsksNothing call_disable.ended (λ M 𝓤. call_disable.spec)
  pub lent_port_of : Anything 0 lent-port-of-of.ps lent_port_of.Pre
  pub lent_shown : Anything 0 lent-shown-of.ps lent_shown.Pre
  pub lent_set_up : Anything 0 lent-set-up-of.ps lent_set_up.Pre
  pub lent_time_of : Anything 0 lent-time-of-of.ps lent_time_of.Pre
  pub lent_submission_of : Anything 0 lent-submission-of-of.ps lent_submission_of.Pre
  pub lent_withdrawn_of : Anything 0 lent-withdrawn-of-of.ps lent_withdrawn_of.Pre
  pub lent_confirmed_of : Anything 0 lent-confirmed-of-of.ps lent_confirmed_of.Pre
  pub lent_failure_of : Anything 0 lent-failure-of-of.ps lent_failure_of.Pre
  pub lent_report_of : Anything 0 lent-report-of-of.ps lent_report_of.Pre
  pub face_setup : AsksNothing face_setup.ended (λ M 𝓤. face_setup.spec)
  pub face_submit : AsksNothing face_submit.ended (λ M 𝓤. face_submit.spec)
  pub face_cancel : AsksNothing face_cancel.ended (λ M 𝓤. face_cancel.spec)
  pub face_choose : AsksNothing face_choose.ended (λ M 𝓤. face_choose.spec)
  pub face_opened : AsksNothing face_opened.ended (λ M 𝓤. face_opened.spec)
  pub face_open_failed : AsksNothing face_open_failed.ended (λ M 𝓤. face_open_failed.spec)
  pub face_frame_status : AsksNothing face_frame_status.ended (λ M 𝓤. face_frame_status.spec)
  pub face_closed : AsksNothing face_closed.ended (λ M 𝓤. face_closed.spec)
  pub face_enable : AsksNothing face_enable.ended (λ M 𝓤. face_enable.spec)
  pub face_disable : AsksNothing face_disable.ended (λ M 𝓤. face_disable.spec)
  pub lent_phy : Anything 0 lent-phy-of.ps lent_phy.Pre
  pub phy_shown : Anything 0 phy-shown-of.ps phy_shown.Pre

pub ports : Ports
ports = record {
  port_no_stamp = λ κs a. tt;
  port_stamped = λ κs a. tt;
  port_disabled_phy = λ κs a. tt;
  port_blank = λ κs a. tt;
  port_slot_at = λ κs a. tt;
  port_no_pick = λ κs a. tt;
  port_chosen_step = λ κs a. tt;
  port_reason_of = λ κs a. tt;
  port_is_listed = λ κs a. tt;
  port_is_retried = λ κs a. tt;
  port_is_blocked = λ κs a. tt;
  port_is_starting = λ κs a. tt;
  port_is_stopping = λ κs a. tt;
  port_timer_by = λ κs a. tt;
  port_is_lost = λ κs a. tt;
  port_in_range = λ κs a. tt;
  port_has_frame_out = λ κs a. tt;
  port_port_rule = λ κs a. tt;
  port_request_rule = λ κs a. tt;
  port_compared_of = λ κs a. tt;
  port_apart_step = λ κs a. tt;
  port_refused_by = λ κs a. tt;
  port_phy_at = λ κs a. tt;
  port_timed = λ κs a. tt;
  port_no_room = λ κs a. tt;
  port_room_step = λ κs a. tt;
  port_key_step = λ κs a. tt;
  port_no_port = λ κs a. tt;
  port_setup_core = λ κs a. tt;
  port_submit_core = λ κs a. tt;
  port_cancel_core = λ κs a. tt;
  port_choose_core = λ κs a. tt;
  port_opened_core = λ κs a. tt;
  port_open_failed_core = λ κs a. tt;
  port_frame_status_core = λ κs a. tt;
  port_closed_core = λ κs a. tt;
  port_enable_core = λ κs a. tt;
  port_disable_core = λ κs a. tt;
  call_setup = λ w κs a. (tt, refl);
  call_submit = λ w κs a. (tt, refl);
  call_cancel = λ w κs a. (tt, refl);
  call_choose = λ w κs a. (tt, refl);
  call_opened = λ w κs a. (tt, refl);
  call_open_failed = λ w κs a. (tt, refl);
  call_frame_status = λ w κs a. (tt, refl);
  call_closed = λ w κs a. (tt, refl);
  call_enable = λ w κs a. (tt, refl);
  call_disable = λ w κs a. (tt, refl);
  lent_port_of = λ κs a. tt;
  lent_shown = λ κs a. tt;
  lent_set_up = λ κs a. tt;
  lent_time_of = λ κs a. tt;
  lent_submission_of = λ κs a. tt;
  lent_withdrawn_of = λ κs a. tt;
  lent_confirmed_of = λ κs a. tt;
  lent_failure_of = λ κs a. tt;
  lent_report_of = λ κs a. tt;
  face_setup = λ w κs a. (tt, refl);
  face_submit = λ w κs a. (tt, refl);
  face_cancel = λ w κs a. (tt, refl);
  face_choose = λ w κs a. (tt, refl);
  face_opened = λ w κs a. (tt, refl);
  face_open_failed = λ w κs a. (tt, refl);
  face_frame_status = λ w κs a. (tt, refl);
  face_closed = λ w κs a. (tt, refl);
  face_enable = λ w κs a. (tt, refl);
  face_disable = λ w κs a. (tt, refl);
  lent_phy = λ κs a. tt;
  phy_shown = λ κs a. tt;
}
