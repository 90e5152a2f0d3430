-- Each way out of `answered` is a way out of its definition: the addresses, what DATA is refused for, the head, and the store. Assumes nothing.
use mathlib.Core.Path.{◌≡◌, sym, ◌∙◌}
use mathlib.Core.Bool.{true, false}
use borrow.Author.Tests.{lt-leb, le-leb}
use Rattle.write.specs.Steps.{limit}
use Rattle.write.specs.Calls.{is_refused}
use Rattle.take.specs.Ask.{addressed}
use Rattle.take.specs.Take.{ours}
use Rattle.take.proofs.Takes.{halts, another, short, goes}
use Rattle.take.proofs.answered.Goals as goal

pub returns-then-is_err : goal.returns-then-is_err
returns-then-is_err c =
    let fits : let a = c.args in addressed a.command.destination a.command.source ≡ true = sym c.addressed.ensures ∙ c.if-not-addressed.false in
    let a = c.args in
    halts limit a.s a.f a.command.destination a.command.source a.command.tag a.m c.requires (fits) c.got-stepped.ensures
    (sym c.is_err.ensures.value ∙ c.if-is_err.true)

pub returns-then-not-ours : goal.returns-then-not-ours
returns-then-not-ours c =
    let fits : let a = c.args in addressed a.command.destination a.command.source ≡ true = sym c.addressed.ensures ∙ c.if-not-addressed.false in
    let on : is_refused c.got-stepped.result.answer ≡ false = sym c.is_err.ensures.value ∙ c.if-is_err.false in
    let a = c.args in
    c.refused-then-not-ours.ensures
    ∙ another limit a.s a.f a.command.destination a.command.source a.command.tag a.m c.requires (fits) c.got-stepped.ensures (on)
    (sym c.ours.ensures ∙ c.if-not-ours.true)

pub returns-then-m-s : goal.returns-then-m-s
returns-then-m-s c =
    let fits : let a = c.args in addressed a.command.destination a.command.source ≡ true = sym c.addressed.ensures ∙ c.if-not-addressed.false in
    let on : is_refused c.got-stepped.result.answer ≡ false = sym c.is_err.ensures.value ∙ c.if-is_err.false in
    let own : let a = c.args in ours a.f.head a.command.destination a.command.source a.command.tag ≡ true = sym c.ours.ensures ∙ c.if-not-ours.false in
    let a = c.args in
    c.refused-then-m-s.ensures
    ∙ short limit a.s a.f a.command.destination a.command.source a.command.tag a.m c.requires (fits) c.got-stepped.ensures (on) (own)
    (lt-leb _ _ c.if-m-s.true)

pub returns : goal.returns
returns c =
    let fits : let a = c.args in addressed a.command.destination a.command.source ≡ true = sym c.addressed.ensures ∙ c.if-not-addressed.false in
    let on : is_refused c.got-stepped.result.answer ≡ false = sym c.is_err.ensures.value ∙ c.if-is_err.false in
    let own : let a = c.args in ours a.f.head a.command.destination a.command.source a.command.tag ≡ true = sym c.ours.ensures ∙ c.if-not-ours.false in
    let a = c.args in
    goes limit a.s a.f a.command.destination a.command.source a.command.tag a.m c.requires (fits) c.got-stepped.ensures (on) (own)
    (le-leb _ _ c.if-m-s.false)
