-- Each way out of `ask` is a way out of its definition: the output, the addresses, then as XFER. Assumes nothing.
use Prim.Native.Nat.{◌^◌, ◌<◌}
use mathlib.Core.Path.{◌≡◌, sym, ◌∙◌}
use mathlib.Core.Bool.{true}
use lib.Dec.{leb}
use lib.ListN.{length}
use borrow.Author.Rules.{rules}
use borrow.Author.Tests.{lt-leb, le-leb}
use Rattle.write.specs.Steps.{limit}
use Rattle.take.specs.Ask.{addressed, is_sent}
use Rattle.take.proofs.Asks.{short, wide, not_sent, due, sent}
use Rattle.take.proofs.ask.Goals as goal

pub returns-then-out-lt36 : goal.returns-then-out-lt36
returns-then-out-lt36 c = let a = c.args in
    let w = short limit a.others a.s a.command.destination a.command.source a.command.tag a.out.now (lt-leb _ _ c.if-out-lt36.true) in
    record { step = c.refused.ensures ∙ w.step; bytes = w.bytes }

pub returns-then-not-addressed : goal.returns-then-not-addressed
returns-then-not-addressed c =
    let room : leb 36 (length c.args.out.now) ≡ true = le-leb _ _ c.if-out-lt36.false in
    let a = c.args in
    let off = sym c.addressed.ensures ∙ c.if-not-addressed.true in
    let w = wide limit a.others a.s a.command.destination a.command.source a.command.tag a.out.now (room) off in
    record { step = c.refused-then-not-addressed.ensures ∙ w.step; bytes = w.bytes }

pub returns-then-not-is_sent : goal.returns-then-not-is_sent
returns-then-not-is_sent c =
    let room : leb 36 (length c.args.out.now) ≡ true = le-leb _ _ c.if-out-lt36.false in
    let fits : let a = c.args in addressed a.command.destination a.command.source ≡ true = sym c.addressed.ensures ∙ c.if-not-addressed.false in
    let a = c.args in
    let off = sym c.is_sent.ensures ∙ c.if-not-is_sent.true in
    not_sent limit a.others a.s a.command.destination a.command.source a.command.tag a.out.now (room) (fits) c.xfer-stepped.ensures off

pub head-requires : goal.head-requires
head-requires c =
    let small : c.args.s.tags < 2 ^ limit = search rules in
    let sends : is_sent c.xfer-stepped.result.answer ≡ true = sym c.is_sent.ensures ∙ c.if-not-is_sent.false in
    let a = c.args in
    (due limit a.others a.s c.xfer-stepped.ensures (small) (sends)).1

pub returns : goal.returns
returns c =
    let room : leb 36 (length c.args.out.now) ≡ true = le-leb _ _ c.if-out-lt36.false in
    let fits : let a = c.args in addressed a.command.destination a.command.source ≡ true = sym c.addressed.ensures ∙ c.if-not-addressed.false in
    let small : c.args.s.tags < 2 ^ limit = search rules in
    let sends : is_sent c.xfer-stepped.result.answer ≡ true = sym c.is_sent.ensures ∙ c.if-not-is_sent.false in
    let a = c.args in
    sent limit a.others a.s a.command.destination a.command.source a.command.tag a.out.now (room) (fits) c.xfer-stepped.ensures
    (small)
    (sends)
    c.head.ensures
    c.write_xfer_rdy.ensures
