-- Each way out of `next_frame` is a way out of its definition: what a frame call checks, then the fields, then the lengths.
-- Assumes nothing.
use mathlib.Core.Path.{sym, ap, subst, ◌∙◌}
use mathlib.Core.Bool.{Bool, ◌&&◌}
use lib.Dec.{leb}
use lib.ListN.{length}
use borrow.Author.Tests.{ne_eqb}
use Rattle.refusals.specs.Causes.{Wrote}
use Rattle.ssp_frame.specs.Data.{frame_end, data_left, data_listed, write_causes}
use Rattle.ssp_frame.specs.declared.data.DataHead.{DataHead}
use Rattle.transfer.specs.Steps.{limit, frame_length}
use Rattle.transfer.specs.declared.Stepped.{Stepped}
use Rattle.send.specs.Send.{head_of, is_sent}
use Rattle.send.proofs.Laws.{not_done, done, not_sent, unlisted, unfit, no_room, sent}
use Rattle.send.proofs.next_frame.Goals as goal

pub returns-then-not-is_sent : goal.returns-then-not-is_sent
returns-then-not-is_sent c =
    let a = c.args in
    let off = sym (c.is_sent.ensures ∙ ap (λ (st : Stepped). is_sent st.answer) c.frame-stepped.ensures) ∙ c.if-not-is_sent.true in
    let w = not_sent limit a.s (head_of a.s a.destination a.source a.tag) a.body.now a.out.now off in
    record { step = c.frame-stepped.ensures ∙ w.step; bytes = w.bytes }

pub returns-then-not-data_listed : goal.returns-then-not-data_listed
returns-then-not-data_listed c =
    let a = c.args in
    let went = sym (c.is_sent.ensures ∙ ap (λ (st : Stepped). is_sent st.answer) c.frame-stepped.ensures) ∙ c.if-not-is_sent.false in
    let off = sym (c.data_listed.ensures ∙ ap data_listed c.head-h.ensures) ∙ c.if-not-data_listed.true in
    let w = unlisted limit a.s (head_of a.s a.destination a.source a.tag) a.body.now a.out.now went off in
    record { step = c.refused.ensures ∙ w.step; bytes = w.bytes }

pub returns-then-body-frame_length : goal.returns-then-body-frame_length
returns-then-body-frame_length c =
    let a = c.args in
    let body = a.body.now in
    let went = sym (c.is_sent.ensures ∙ ap (λ (st : Stepped). is_sent st.answer) c.frame-stepped.ensures) ∙ c.if-not-is_sent.false in
    let listed = sym (c.data_listed.ensures ∙ ap data_listed c.head-h.ensures) ∙ c.if-not-data_listed.false in
    let off = ap (λ (t : Bool). t && leb (frame_end (length body)) (length a.out.now)) (ne_eqb (length body) (frame_length a.s) (λ e. c.if-body-frame_length.true (e ∙ sym c.frame_length.ensures))) in
    let w = unfit limit a.s (head_of a.s a.destination a.source a.tag) body a.out.now went listed off in
    record { step = c.refused-then-body-frame_length.ensures ∙ w.step; bytes = w.bytes }

pub returns-then-is_err : goal.returns-then-is_err
returns-then-is_err c =
    let a = c.args in
    let went = sym (c.is_sent.ensures ∙ ap (λ (st : Stepped). is_sent st.answer) c.frame-stepped.ensures) ∙ c.if-not-is_sent.false in
    let listed = sym (c.data_listed.ensures ∙ ap data_listed c.head-h.ensures) ∙ c.if-not-data_listed.false in
    let n = c.if-body-frame_length.false ∙ c.frame_length.ensures in
    let wrote = subst (λ (h : DataHead). Wrote (write_causes h a.body.now a.out.now) (data_left h a.body.now a.out.now) a.out.now c.write_data.result c.write_data.new.out) c.head-h.ensures c.write_data.ensures in
    let w = no_room limit a.s (head_of a.s a.destination a.source a.tag) a.body.now a.out.now went listed n wrote (not_done _ (sym c.is_err.ensures.value ∙ c.if-is_err.true)) in
    record { step = c.refused-then-is_err.ensures ∙ w.step; bytes = w.bytes }

pub returns : goal.returns
returns c =
    let a = c.args in
    let went = sym (c.is_sent.ensures ∙ ap (λ (st : Stepped). is_sent st.answer) c.frame-stepped.ensures) ∙ c.if-not-is_sent.false in
    let listed = sym (c.data_listed.ensures ∙ ap data_listed c.head-h.ensures) ∙ c.if-not-data_listed.false in
    let n = c.if-body-frame_length.false ∙ c.frame_length.ensures in
    let wrote = subst (λ (h : DataHead). Wrote (write_causes h a.body.now a.out.now) (data_left h a.body.now a.out.now) a.out.now c.write_data.result c.write_data.new.out) c.head-h.ensures c.write_data.ensures in
    let w = sent limit a.s (head_of a.s a.destination a.source a.tag) a.body.now a.out.now went listed n wrote (done _ (sym c.is_err.ensures.value ∙ c.if-is_err.false)) in
    record { step = c.frame-stepped.ensures ∙ w.step; bytes = w.bytes }
