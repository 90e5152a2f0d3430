-- Each way out of `respond` is a way out of its definition: the lengths, the fields, then as RESPONSE. Assumes nothing.
use Rattle.std.proofs.Common.{◌≡◌, true, length, sym, ap, ◌∙◌}
use Rattle.ssp_frame.specs.Response.{response_sized, response_listed}
use Rattle.take.specs.Respond.{response_head}
use Rattle.take.proofs.Responds.{short, unlisted, not_sent, sent}
use Rattle.take.proofs.respond.respond.Goals as goal

pub returns-then-not-response_sized : goal.returns-then-not-response_sized
returns-then-not-response_sized c =
    let a = c.args in
    let own = response_head a.s a.command.destination a.command.source a.command.tag a.present a.status in
    let w = short a.s own a.body.now a.out.now (sym c.response_sized.ensures ∙ c.if-not-response_sized.true) in
    record { step = c.refused.ensures ∙ w.step; bytes = w.bytes }

pub returns-then-not-response_listed : goal.returns-then-not-response_listed
returns-then-not-response_listed c =
    let a = c.args in
    let own = response_head a.s a.command.destination a.command.source a.command.tag a.present a.status in
    let room : response_sized a.present (length a.body.now) (length a.out.now) ≡ true = sym c.response_sized.ensures ∙ c.if-not-response_sized.false in
    let tested : c.response_listed.result ≡ response_listed own = c.response_listed.ensures ∙ ap response_listed c.response_head-h.ensures in
    let w = unlisted a.s own a.body.now a.out.now room (sym tested ∙ c.if-not-response_listed.true) in
    record { step = c.refused-then-not-response_listed.ensures ∙ w.step; bytes = w.bytes }

pub returns-then-not-is_sent : goal.returns-then-not-is_sent
returns-then-not-is_sent c =
    let a = c.args in
    let own = response_head a.s a.command.destination a.command.source a.command.tag a.present a.status in
    let room : response_sized a.present (length a.body.now) (length a.out.now) ≡ true = sym c.response_sized.ensures ∙ c.if-not-response_sized.false in
    let tested : c.response_listed.result ≡ response_listed own = c.response_listed.ensures ∙ ap response_listed c.response_head-h.ensures in
    not_sent a.s own a.body.now a.out.now room (sym tested ∙ c.if-not-response_listed.false) c.respond-stepped.ensures
    (sym c.is_sent.ensures ∙ c.if-not-is_sent.true)

pub returns : goal.returns
returns c =
    let a = c.args in
    let own = response_head a.s a.command.destination a.command.source a.command.tag a.present a.status in
    let room : response_sized a.present (length a.body.now) (length a.out.now) ≡ true = sym c.response_sized.ensures ∙ c.if-not-response_sized.false in
    let tested : c.response_listed.result ≡ response_listed own = c.response_listed.ensures ∙ ap response_listed c.response_head-h.ensures in
    sent a.s own a.body.now a.out.now room (sym tested ∙ c.if-not-response_listed.false) c.respond-stepped.ensures
    (sym c.is_sent.ensures ∙ c.if-not-is_sent.false)
    c.response_head-h.ensures
    c.write_response.ensures
