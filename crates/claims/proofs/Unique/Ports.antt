-- Two outcomes that meet a promise are equal: the port, and its calls as C reaches them. Assumes nothing.
use mathlib.Core.Path.{refl, sym, ◌∙◌}
use Rattle.port_rows.specs.Answers.{no_port}
use Rattle.port_parts.proofs.no_stamp.Kinds as port-no-stamp-of
use Rattle.port_parts.proofs.no_stamp.Reads as port_no_stamp
use Rattle.port_parts.proofs.stamped.Kinds as port-stamped-of
use Rattle.port_parts.proofs.stamped.Reads as port_stamped
use Rattle.port_parts.proofs.disabled_phy.Kinds as port-disabled-phy-of
use Rattle.port_parts.proofs.disabled_phy.Reads as port_disabled_phy
use Rattle.port_parts.proofs.blank.Kinds as port-blank-of
use Rattle.port_parts.proofs.blank.Reads as port_blank
use Rattle.port_parts.proofs.slot_at.Kinds as port-slot-at-of
use Rattle.port_parts.proofs.slot_at.Reads as port_slot_at
use Rattle.port_parts.proofs.no_pick.Kinds as port-no-pick-of
use Rattle.port_parts.proofs.no_pick.Reads as port_no_pick
use Rattle.port_parts.proofs.chosen_step.Kinds as port-chosen-step-of
use Rattle.port_parts.proofs.chosen_step.Reads as port_chosen_step
use Rattle.port_parts.proofs.reason_of.Kinds as port-reason-of-of
use Rattle.port_parts.proofs.reason_of.Reads as port_reason_of
use Rattle.port_parts.proofs.is_listed.Kinds as port-is-listed-of
use Rattle.port_parts.proofs.is_listed.Reads as port_is_listed
use Rattle.port_parts.proofs.is_retried.Kinds as port-is-retried-of
use Rattle.port_parts.proofs.is_retried.Reads as port_is_retried
use Rattle.port_parts.proofs.is_blocked.Kinds as port-is-blocked-of
use Rattle.port_parts.proofs.is_blocked.Reads as port_is_blocked
use Rattle.port_parts.proofs.is_starting.Kinds as port-is-starting-of
use Rattle.port_parts.proofs.is_starting.Reads as port_is_starting
use Rattle.port_parts.proofs.is_stopping.Kinds as port-is-stopping-of
use Rattle.port_parts.proofs.is_stopping.Reads as port_is_stopping
use Rattle.port_parts.proofs.timer_by.Kinds as port-timer-by-of
use Rattle.port_parts.proofs.timer_by.Reads as port_timer_by
use Rattle.port_parts.proofs.is_lost.Kinds as port-is-lost-of
use Rattle.port_parts.proofs.is_lost.Reads as port_is_lost
use Rattle.port_parts.proofs.in_range.Kinds as port-in-range-of
use Rattle.port_parts.proofs.in_range.Reads as port_in_range
use Rattle.port_parts.proofs.has_frame_out.Kinds as port-has-frame-out-of
use Rattle.port_parts.proofs.has_frame_out.Reads as port_has_frame_out
use Rattle.port_rules.proofs.port_rule.Kinds as port-port-rule-of
use Rattle.port_rules.proofs.port_rule.Reads as port_port_rule
use Rattle.port_rules.proofs.request_rule.Kinds as port-request-rule-of
use Rattle.port_rules.proofs.request_rule.Reads as port_request_rule
use Rattle.port_rules.proofs.compared_of.Kinds as port-compared-of-of
use Rattle.port_rules.proofs.compared_of.Reads as port_compared_of
use Rattle.port_rules.proofs.apart_step.Kinds as port-apart-step-of
use Rattle.port_rules.proofs.apart_step.Reads as port_apart_step
use Rattle.port_core.proofs.refused_by.Kinds as port-refused-by-of
use Rattle.port_core.proofs.refused_by.Reads as port_refused_by
use Rattle.port_core.proofs.phy_at.Kinds as port-phy-at-of
use Rattle.port_core.proofs.phy_at.Reads as port_phy_at
use Rattle.port_core.proofs.timed.Kinds as port-timed-of
use Rattle.port_core.proofs.timed.Reads as port_timed
use Rattle.port_core.proofs.no_room.Kinds as port-no-room-of
use Rattle.port_core.proofs.no_room.Reads as port_no_room
use Rattle.port_core.proofs.room_step.Kinds as port-room-step-of
use Rattle.port_core.proofs.room_step.Reads as port_room_step
use Rattle.port_core.proofs.key_step.Kinds as port-key-step-of
use Rattle.port_core.proofs.key_step.Reads as port_key_step
use Rattle.port_core.proofs.no_port.Kinds as port-no-port-of
use Rattle.port_core.proofs.no_port.Reads as port_no_port
use Rattle.port_core.proofs.setup_core.Kinds as port-setup-core-of
use Rattle.port_core.proofs.setup_core.Reads as port_setup_core
use Rattle.port_core.proofs.submit_core.Kinds as port-submit-core-of
use Rattle.port_core.proofs.submit_core.Reads as port_submit_core
use Rattle.port_core.proofs.cancel_core.Kinds as port-cancel-core-of
use Rattle.port_core.proofs.cancel_core.Reads as port_cancel_core
use Rattle.port_core.proofs.choose_core.Kinds as port-choose-core-of
use Rattle.port_core.proofs.choose_core.Reads as port_choose_core
use Rattle.port_core.proofs.opened_core.Kinds as port-opened-core-of
use Rattle.port_core.proofs.opened_core.Reads as port_opened_core
use Rattle.port_core.proofs.open_failed_core.Kinds as port-open-failed-core-of
use Rattle.port_core.proofs.open_failed_core.Reads as port_open_failed_core
use Rattle.port_core.proofs.frame_status_core.Kinds as port-frame-status-core-of
use Rattle.port_core.proofs.frame_status_core.Reads as port_frame_status_core
use Rattle.port_core.proofs.closed_core.Kinds as port-closed-core-of
use Rattle.port_core.proofs.closed_core.Reads as port_closed_core
use Rattle.port_core.proofs.enable_core.Kinds as port-enable-core-of
use Rattle.port_core.proofs.enable_core.Reads as port_enable_core
use Rattle.port_core.proofs.disable_core.Kinds as port-disable-core-of
use Rattle.port_core.proofs.disable_core.Reads as port_disable_core
use Rattle.port.specs.contracts.setup as call_setup
use Rattle.port.specs.contracts.submit as call_submit
use Rattle.port.specs.contracts.cancel as call_cancel
use Rattle.port.specs.contracts.choose as call_choose
use Rattle.port.specs.contracts.opened as call_opened
use Rattle.port.specs.contracts.open_failed as call_open_failed
use Rattle.port.specs.contracts.frame_status as call_frame_status
use Rattle.port.specs.contracts.closed as call_closed
use Rattle.port.specs.contracts.enable as call_enable
use Rattle.port.specs.contracts.disable as call_disable
use Rattle.port_lent.proofs.port_of.Kinds as lent-port-of-of
use Rattle.port_lent.proofs.port_of.Reads as lent_port_of
use Rattle.port_lent.proofs.shown.Kinds as lent-shown-of
use Rattle.port_lent.proofs.shown.Reads as lent_shown
use Rattle.port_lent.proofs.set_up.Kinds as lent-set-up-of
use Rattle.port_lent.proofs.set_up.Reads as lent_set_up
use Rattle.port_lent.proofs.time_of.Kinds as lent-time-of-of
use Rattle.port_lent.proofs.time_of.Reads as lent_time_of
use Rattle.port_lent.proofs.submission_of.Kinds as lent-submission-of-of
use Rattle.port_lent.proofs.submission_of.Reads as lent_submission_of
use Rattle.port_lent.proofs.withdrawn_of.Kinds as lent-withdrawn-of-of
use Rattle.port_lent.proofs.withdrawn_of.Reads as lent_withdrawn_of
use Rattle.port_lent.proofs.confirmed_of.Kinds as lent-confirmed-of-of
use Rattle.port_lent.proofs.confirmed_of.Reads as lent_confirmed_of
use Rattle.port_lent.proofs.failure_of.Kinds as lent-failure-of-of
use Rattle.port_lent.proofs.failure_of.Reads as lent_failure_of
use Rattle.port_lent.proofs.report_of.Kinds as lent-report-of-of
use Rattle.port_lent.proofs.report_of.Reads as lent_report_of
use Rattle.sonerwal.specs.contracts.ports.sonerwal_port_setup as face_setup
use Rattle.sonerwal.specs.contracts.ports.sonerwal_port_submit as face_submit
use Rattle.sonerwal.specs.contracts.ports.sonerwal_port_cancel as face_cancel
use Rattle.sonerwal.specs.contracts.ports.sonerwal_port_choose as face_choose
use Rattle.sonerwal.specs.contracts.ports.sonerwal_port_opened as face_opened
use Rattle.sonerwal.specs.contracts.ports.sonerwal_port_open_failed as face_open_failed
use Rattle.sonerwal.specs.contracts.ports.sonerwal_port_frame_status as face_frame_status
use Rattle.sonerwal.specs.contracts.ports.sonerwal_port_closed as face_closed
use Rattle.sonerwal.specs.contracts.ports.sonerwal_port_enable as face_enable
use Rattle.sonerwal.specs.contracts.ports.sonerwal_port_disable as face_disable
use Rattle.port_lent.specs.Lent as lent
use Rattle.port_lent.proofs.Port_partsPhyFromPhy.from.Kinds as lent-phy-of
use Rattle.port_lent.proofs.Port_partsPhyFromPhy.from.Reads as lent_phy
use Rattle.port_lent.proofs.PhyFromPort_partsPhy.from.Kinds as phy-shown-of
use Rattle.port_lent.proofs.PhyFromPort_partsPhy.from.Reads as phy_shown
use Rattle.claims.proofs.Calls.{One, none}
use Rattle.claims.proofs.Walked.{OneEnd}
use Rattle.claims.proofs.Ports.{ports as port-claims}
use Rattle.claims.proofs.PortFace.{port_face}

pub record Ports : Type 2 where
  pub port_no_stamp : One 0 port-no-stamp-of.ps port-no-stamp-of.r (none 0 port-no-stamp-of.ps port-no-stamp-of.r) port_no_stamp.Post
  pub port_stamped : One 0 port-stamped-of.ps port-stamped-of.r (none 0 port-stamped-of.ps port-stamped-of.r) port_stamped.Post
  pub port_disabled_phy : One 0 port-disabled-phy-of.ps port-disabled-phy-of.r (none 0 port-disabled-phy-of.ps port-disabled-phy-of.r) port_disabled_phy.Post
  pub port_blank : One 0 port-blank-of.ps port-blank-of.r (none 0 port-blank-of.ps port-blank-of.r) port_blank.Post
  pub port_slot_at : One 0 port-slot-at-of.ps port-slot-at-of.r (none 0 port-slot-at-of.ps port-slot-at-of.r) port_slot_at.Post
  pub port_no_pick : One 0 port-no-pick-of.ps port-no-pick-of.r (none 0 port-no-pick-of.ps port-no-pick-of.r) port_no_pick.Post
  pub port_chosen_step : One 0 port-chosen-step-of.ps port-chosen-step-of.r (none 0 port-chosen-step-of.ps port-chosen-step-of.r) port_chosen_step.Post
  pub port_reason_of : One 0 port-reason-of-of.ps port-reason-of-of.r (none 0 port-reason-of-of.ps port-reason-of-of.r) port_reason_of.Post
  pub port_is_listed : One 0 port-is-listed-of.ps port-is-listed-of.r (none 0 port-is-listed-of.ps port-is-listed-of.r) port_is_listed.Post
  pub port_is_retried : One 0 port-is-retried-of.ps port-is-retried-of.r (none 0 port-is-retried-of.ps port-is-retried-of.r) port_is_retried.Post
  pub port_is_blocked : One 0 port-is-blocked-of.ps port-is-blocked-of.r (none 0 port-is-blocked-of.ps port-is-blocked-of.r) port_is_blocked.Post
  pub port_is_starting : One 0 port-is-starting-of.ps port-is-starting-of.r (none 0 port-is-starting-of.ps port-is-starting-of.r) port_is_starting.Post
  pub port_is_stopping : One 0 port-is-stopping-of.ps port-is-stopping-of.r (none 0 port-is-stopping-of.ps port-is-stopping-of.r) port_is_stopping.Post
  pub port_timer_by : One 0 port-timer-by-of.ps port-timer-by-of.r (none 0 port-timer-by-of.ps port-timer-by-of.r) port_timer_by.Post
  pub port_is_lost : One 0 port-is-lost-of.ps port-is-lost-of.r (none 0 port-is-lost-of.ps port-is-lost-of.r) port_is_lost.Post
  pub port_in_range : One 0 port-in-range-of.ps port-in-range-of.r (none 0 port-in-range-of.ps port-in-range-of.r) port_in_range.Post
  pub port_has_frame_out : One 0 port-has-frame-out-of.ps port-has-frame-out-of.r (none 0 port-has-frame-out-of.ps port-has-frame-out-of.r) port_has_frame_out.Post
  pub port_port_rule : One 0 port-port-rule-of.ps port-port-rule-of.r (none 0 port-port-rule-of.ps port-port-rule-of.r) port_port_rule.Post
  pub port_request_rule : One 0 port-request-rule-of.ps port-request-rule-of.r (none 0 port-request-rule-of.ps port-request-rule-of.r) port_request_rule.Post
  pub port_compared_of : One 0 port-compared-of-of.ps port-compared-of-of.r (none 0 port-compared-of-of.ps port-compared-of-of.r) port_compared_of.Post
  pub port_apart_step : One 0 port-apart-step-of.ps port-apart-step-of.r (none 0 port-apart-step-of.ps port-apart-step-of.r) port_apart_step.Post
  pub port_refused_by : One 0 port-refused-by-of.ps port-refused-by-of.r (none 0 port-refused-by-of.ps port-refused-by-of.r) port_refused_by.Post
  pub port_phy_at : One 0 port-phy-at-of.ps port-phy-at-of.r (none 0 port-phy-at-of.ps port-phy-at-of.r) port_phy_at.Post
  pub port_timed : One 0 port-timed-of.ps port-timed-of.r (none 0 port-timed-of.ps port-timed-of.r) port_timed.Post
  pub port_no_room : One 0 port-no-room-of.ps port-no-room-of.r (none 0 port-no-room-of.ps port-no-room-of.r) port_no_room.Post
  pub port_room_step : One 0 port-room-step-of.ps port-room-step-of.r (none 0 port-room-step-of.ps port-room-step-of.r) port_room_step.Post
  pub port_key_step : One 0 port-key-step-of.ps port-key-step-of.r (none 0 port-key-step-of.ps port-key-step-of.r) port_key_step.Post
  pub port_no_port : One 0 port-no-port-of.ps port-no-port-of.r (none 0 port-no-port-of.ps port-no-port-of.r) port_no_port.Post
  pub port_setup_core : One 0 port-setup-core-of.ps port-setup-core-of.r (none 0 port-setup-core-of.ps port-setup-core-of.r) port_setup_core.Post
  pub port_submit_core : One 0 port-submit-core-of.ps port-submit-core-of.r (none 0 port-submit-core-of.ps port-submit-core-of.r) port_submit_core.Post
  pub port_cancel_core : One 0 port-cancel-core-of.ps port-cancel-core-of.r (none 0 port-cancel-core-of.ps port-cancel-core-of.r) port_cancel_core.Post
  pub port_choose_core : One 0 port-choose-core-of.ps port-choose-core-of.r (none 0 port-choose-core-of.ps port-choose-core-of.r) port_choose_core.Post
  pub port_opened_core : One 0 port-opened-core-of.ps port-opened-core-of.r (none 0 port-opened-core-of.ps port-opened-core-of.r) port_opened_core.Post
  pub port_open_failed_core : One 0 port-open-failed-core-of.ps port-open-failed-core-of.r (none 0 port-open-failed-core-of.ps port-open-failed-core-of.r) port_open_failed_core.Post
  pub port_frame_status_core : One 0 port-frame-status-core-of.ps port-frame-status-core-of.r (none 0 port-frame-status-core-of.ps port-frame-status-core-of.r) port_frame_status_core.Post
  pub port_closed_core : One 0 port-closed-core-of.ps port-closed-core-of.r (none 0 port-closed-core-of.ps port-closed-core-of.r) port_closed_core.Post
  pub port_enable_core : One 0 port-enable-core-of.ps port-enable-core-of.r (none 0 port-enable-core-of.ps port-enable-core-of.r) port_enable_core.Post
  pub port_disable_core : One 0 port-disable-core-of.ps port-disable-core-of.r (none 0 port-disable-core-of.ps port-disable-core-of.r) port_disable_core.Post
  pub call_setup : OneEnd call_setup.ended (λ M 𝓤. call_setup.spec) (λ κs e. e.0.now)
  pub call_submit : OneEnd call_submit.ended (λ M 𝓤. call_submit.spec) (λ κs e. e.0.now)
  pub call_cancel : OneEnd call_cancel.ended (λ M 𝓤. call_cancel.spec) (λ κs e. e.0.now)
  pub call_choose : OneEnd call_choose.ended (λ M 𝓤. call_choose.spec) (λ κs e. e.0.now)
  pub call_opened : OneEnd call_opened.ended (λ M 𝓤. call_opened.spec) (λ κs e. e.0.now)
  pub call_open_failed : OneEnd call_open_failed.ended (λ M 𝓤. call_open_failed.spec) (λ κs e. e.0.now)
  pub call_frame_status : OneEnd call_frame_status.ended (λ M 𝓤. call_frame_status.spec) (λ κs e. e.0.now)
  pub call_closed : OneEnd call_closed.ended (λ M 𝓤. call_closed.spec) (λ κs e. e.0.now)
  pub call_enable : OneEnd call_enable.ended (λ M 𝓤. call_enable.spec) (λ κs e. e.0.now)
  pub call_disable : OneEnd call_disable.ended (λ M 𝓤. call_disable.spec) (λ κs e. e.0.now)
  pub lent_port_of : One 0 lent-port-of-of.ps lent-port-of-of.r (none 0 lent-port-of-of.ps lent-port-of-of.r) lent_port_of.Post
  pub lent_shown : One 0 lent-shown-of.ps lent-shown-of.r (none 0 lent-shown-of.ps lent-shown-of.r) lent_shown.Post
  pub lent_set_up : One 0 lent-set-up-of.ps lent-set-up-of.r (none 0 lent-set-up-of.ps lent-set-up-of.r) lent_set_up.Post
  pub lent_time_of : One 0 lent-time-of-of.ps lent-time-of-of.r (none 0 lent-time-of-of.ps lent-time-of-of.r) lent_time_of.Post
  pub lent_submission_of : One 0 lent-submission-of-of.ps lent-submission-of-of.r (none 0 lent-submission-of-of.ps lent-submission-of-of.r) lent_submission_of.Post
  pub lent_withdrawn_of : One 0 lent-withdrawn-of-of.ps lent-withdrawn-of-of.r (none 0 lent-withdrawn-of-of.ps lent-withdrawn-of-of.r) lent_withdrawn_of.Post
  pub lent_confirmed_of : One 0 lent-confirmed-of-of.ps lent-confirmed-of-of.r (none 0 lent-confirmed-of-of.ps lent-confirmed-of-of.r) lent_confirmed_of.Post
  pub lent_failure_of : One 0 lent-failure-of-of.ps lent-failure-of-of.r (none 0 lent-failure-of-of.ps lent-failure-of-of.r) lent_failure_of.Post
  pub lent_report_of : One 0 lent-report-of-of.ps lent-report-of-of.r (none 0 lent-report-of-of.ps lent-report-of-of.r) lent_report_of.Post
  pub face_setup : OneEnd face_setup.ended (λ M 𝓤. face_setup.spec) (λ κs e. e.0.now)
  pub face_submit : OneEnd face_submit.ended (λ M 𝓤. face_submit.spec) (λ κs e. e.0.now)
  pub face_cancel : OneEnd face_cancel.ended (λ M 𝓤. face_cancel.spec) (λ κs e. e.0.now)
  pub face_choose : OneEnd face_choose.ended (λ M 𝓤. face_choose.spec) (λ κs e. e.0.now)
  pub face_opened : OneEnd face_opened.ended (λ M 𝓤. face_opened.spec) (λ κs e. e.0.now)
  pub face_open_failed : OneEnd face_open_failed.ended (λ M 𝓤. face_open_failed.spec) (λ κs e. e.0.now)
  pub face_frame_status : OneEnd face_frame_status.ended (λ M 𝓤. face_frame_status.spec) (λ κs e. e.0.now)
  pub face_closed : OneEnd face_closed.ended (λ M 𝓤. face_closed.spec) (λ κs e. e.0.now)
  pub face_enable : OneEnd face_enable.ended (λ M 𝓤. face_enable.spec) (λ κs e. e.0.now)
  pub face_disable : OneEnd face_disable.ended (λ M 𝓤. face_disable.spec) (λ κs e. e.0.now)
  pub lent_phy : One 0 lent-phy-of.ps lent-phy-of.r (none 0 lent-phy-of.ps lent-phy-of.r) lent_phy.Post
  pub phy_shown : One 0 phy-shown-of.ps phy-shown-of.r (none 0 phy-shown-of.ps phy-shown-of.r) phy_shown.Post

pub ports : Ports
ports = record {
  port_no_stamp = λ κs a x y s t p q. (p ∙ sym q, refl);
  port_stamped = λ κs a x y s t p q. (p ∙ sym q, refl);
  port_disabled_phy = λ κs a x y s t p q. (p ∙ sym q, refl);
  port_blank = λ κs a x y s t p q. (p ∙ sym q, refl);
  port_slot_at = λ κs a x y s t p q. (p ∙ sym q, refl);
  port_no_pick = λ κs a x y s t p q. (p ∙ sym q, refl);
  port_chosen_step = λ κs a x y s t p q. (p ∙ sym q, refl);
  port_reason_of = λ κs a x y s t p q. (p ∙ sym q, refl);
  port_is_listed = λ κs a x y s t p q. (p ∙ sym q, refl);
  port_is_retried = λ κs a x y s t p q. (p ∙ sym q, refl);
  port_is_blocked = λ κs a x y s t p q. (p ∙ sym q, refl);
  port_is_starting = λ κs a x y s t p q. (p ∙ sym q, refl);
  port_is_stopping = λ κs a x y s t p q. (p ∙ sym q, refl);
  port_timer_by = λ κs a x y s t p q. (p ∙ sym q, refl);
  port_is_lost = λ κs a x y s t p q. (p ∙ sym q, refl);
  port_in_range = λ κs a x y s t p q. (p ∙ sym q, refl);
  port_has_frame_out = λ κs a x y s t p q. (p ∙ sym q, refl);
  port_port_rule = λ κs a x y s t p q. (p ∙ sym q, refl);
  port_request_rule = λ κs a x y s t p q. (p ∙ sym q, refl);
  port_compared_of = λ κs a x y s t p q. (p ∙ sym q, refl);
  port_apart_step = λ κs a x y s t p q. (p ∙ sym q, refl);
  port_refused_by = λ κs a x y s t p q. (p ∙ sym q, refl);
  port_phy_at = λ κs a x y s t p q. (p ∙ sym q, refl);
  port_timed = λ κs a x y s t p q. (p ∙ sym q, refl);
  port_no_room = λ κs a x y s t p q. (p ∙ sym q, refl);
  port_room_step = λ κs a x y s t p q. (p ∙ sym q, refl);
  port_key_step = λ κs a x y s t p q. (p ∙ sym q, refl);
  port_no_port = λ κs a x y s t p q. (p ∙ sym q, refl);
  port_setup_core = λ κs a x y s t p q. (p ∙ sym q, refl);
  port_submit_core = λ κs a x y s t p q. (p ∙ sym q, refl);
  port_cancel_core = λ κs a x y s t p q. (p ∙ sym q, refl);
  port_choose_core = λ κs a x y s t p q. (p ∙ sym q, refl);
  port_opened_core = λ κs a x y s t p q. (p ∙ sym q, refl);
  port_open_failed_core = λ κs a x y s t p q. (p ∙ sym q, refl);
  port_frame_status_core = λ κs a x y s t p q. (p ∙ sym q, refl);
  port_closed_core = λ κs a x y s t p q. (p ∙ sym q, refl);
  port_enable_core = λ κs a x y s t p q. (p ∙ sym q, refl);
  port_disable_core = λ κs a x y s t p q. (p ∙ sym q, refl);
  call_setup = (_, (port-claims.call_setup no_port, λ κs a x y s t p q. (p.0 ∙ sym q.0, p.1 ∙ sym q.1)));
  call_submit = (_, (port-claims.call_submit, λ κs a x y s t p q. (p.0 ∙ sym q.0, p.1 ∙ sym q.1)));
  call_cancel = (_, (port-claims.call_cancel, λ κs a x y s t p q. (p.0 ∙ sym q.0, p.1 ∙ sym q.1)));
  call_choose = (_, (port-claims.call_choose, λ κs a x y s t p q. (p.0 ∙ sym q.0, p.1 ∙ sym q.1)));
  call_opened = (_, (port-claims.call_opened, λ κs a x y s t p q. (p.0 ∙ sym q.0, p.1 ∙ sym q.1)));
  call_open_failed = (_, (port-claims.call_open_failed, λ κs a x y s t p q. (p.0 ∙ sym q.0, p.1 ∙ sym q.1)));
  call_frame_status = (_, (port-claims.call_frame_status, λ κs a x y s t p q. (p.0 ∙ sym q.0, p.1 ∙ sym q.1)));
  call_closed = (_, (port-claims.call_closed, λ κs a x y s t p q. (p.0 ∙ sym q.0, p.1 ∙ sym q.1)));
  call_enable = (_, (port-claims.call_enable, λ κs a x y s t p q. (p.0 ∙ sym q.0, p.1 ∙ sym q.1)));
  call_disable = (_, (port-claims.call_disable, λ κs a x y s t p q. (p.0 ∙ sym q.0, p.1 ∙ sym q.1)));
  lent_port_of = λ κs a x y s t p q. (p ∙ sym q, refl);
  lent_shown = λ κs a x y s t p q. (p ∙ sym q, refl);
  lent_set_up = λ κs a x y s t p q. (p ∙ sym q, refl);
  lent_time_of = λ κs a x y s t p q. (p ∙ sym q, refl);
  lent_submission_of = λ κs a x y s t p q. (p ∙ sym q, refl);
  lent_withdrawn_of = λ κs a x y s t p q. (p ∙ sym q, refl);
  lent_confirmed_of = λ κs a x y s t p q. (p ∙ sym q, refl);
  lent_failure_of = λ κs a x y s t p q. (p ∙ sym q, refl);
  lent_report_of = λ κs a x y s t p q. (p ∙ sym q, refl);
  face_setup = (_, (port_face.face_setup lent.no_port, λ κs a x y s t p q. (p.0 ∙ sym q.0, p.1 ∙ sym q.1)));
  face_submit = (_, (port_face.face_submit, λ κs a x y s t p q. (p.0 ∙ sym q.0, p.1 ∙ sym q.1)));
  face_cancel = (_, (port_face.face_cancel, λ κs a x y s t p q. (p.0 ∙ sym q.0, p.1 ∙ sym q.1)));
  face_choose = (_, (port_face.face_choose, λ κs a x y s t p q. (p.0 ∙ sym q.0, p.1 ∙ sym q.1)));
  face_opened = (_, (port_face.face_opened, λ κs a x y s t p q. (p.0 ∙ sym q.0, p.1 ∙ sym q.1)));
  face_open_failed = (_, (port_face.face_open_failed, λ κs a x y s t p q. (p.0 ∙ sym q.0, p.1 ∙ sym q.1)));
  face_frame_status = (_, (port_face.face_frame_status, λ κs a x y s t p q. (p.0 ∙ sym q.0, p.1 ∙ sym q.1)));
  face_closed = (_, (port_face.face_closed, λ κs a x y s t p q. (p.0 ∙ sym q.0, p.1 ∙ sym q.1)));
  face_enable = (_, (port_face.face_enable, λ κs a x y s t p q. (p.0 ∙ sym q.0, p.1 ∙ sym q.1)));
  face_disable = (_, (port_face.face_disable, λ κs a x y s t p q. (p.0 ∙ sym q.0, p.1 ∙ sym q.1)));
  lent_phy = λ κs a x y s t p q. (p ∙ sym q, refl);
  phy_shown = λ κs a x y s t p q. (p ∙ sym q, refl);
}
