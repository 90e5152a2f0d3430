-- The tests before the loop are those of `begins`; a value past `most` ends it, for digits behind it never make it smaller.
-- Assumes nothing.
use Rattle.std.proofs.Common.{◌<◌, ◌+◌, ◌*◌, sym, ◌∙◌, arith}
use borrow.Author.Tests.{eqb-true, eqb-false}
use Rattle.lines.proofs.Numbers.{read_empty, read_zero, read_rest, turn_other, turn_large}
use Rattle.lines.proofs.read_number.Goals as goal

pub returns-then-is_empty : goal.returns-then-is_empty
returns-then-is_empty c = sym (read_empty c.args.most c.args.s.now (eqb-true _ _ (sym c.is_empty.ensures ∙ c.if-is_empty.true)))

pub returns-then-s : goal.returns-then-s
returns-then-s c = sym (read_zero c.args.most c.args.s.now c.if-s.true)

pub loop-byte-init : goal.loop-byte-init
loop-byte-init c = (omega arith, read_rest c.args.most c.args.s.now (eqb-false _ _ (sym c.is_empty.ensures ∙ c.if-is_empty.false)) c.if-s.false)

pub returns-in_err-last : goal.returns-in_err-last
returns-in_err-last c =
    let l = c.loop-byte in
    c.from_residual.ensures ∙ sym (l.invariant.1 ∙ turn_other c.args.most c.args.s.now l.value l.byte-index c.loop-byte-test.true (sym c.in_err-last.ensures))

pub returns-in_err-checked_mul : goal.returns-in_err-checked_mul
returns-in_err-checked_mul c =
    let l = c.loop-byte in
    let large : c.args.most < l.value * 10 + c.in_ok-last.last = omega (arith, c.in_err-checked_mul.ensures) in
    c.from_residual-in_err-checked_mul.ensures ∙ sym (l.invariant.1 ∙ turn_large c.args.most c.args.s.now l.value l.byte-index c.loop-byte-test.true c.in_ok-last.last (sym c.in_ok-last.ensures) large)

pub returns-in_err-value : goal.returns-in_err-value
returns-in_err-value c =
    let l = c.loop-byte in
    let large : c.args.most < l.value * 10 + c.in_ok-last.last = omega (arith, c.in_ok-checked_mul.ensures, c.in_err-value.ensures) in
    c.from_residual-in_err-value.ensures ∙ sym (l.invariant.1 ∙ turn_large c.args.most c.args.s.now l.value l.byte-index c.loop-byte-test.true c.in_ok-last.last (sym c.in_ok-last.ensures) large)

pub returns-then-most-value : goal.returns-then-most-value
returns-then-most-value c =
    let l = c.loop-byte in
    let large : c.args.most < l.value * 10 + c.in_ok-last.last = omega (arith, c.in_ok-checked_mul.ensures, c.in_ok-value.ensures, c.if-most-value.true) in
    sym (l.invariant.1 ∙ turn_large c.args.most c.args.s.now l.value l.byte-index c.loop-byte-test.true c.in_ok-last.last (sym c.in_ok-last.ensures) large)
