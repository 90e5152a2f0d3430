-- Each way out of `take` is a way out of its definition: the frame as its reader finds it, then what it is answered, and what is taken is lent the part of
-- the store that starts where it goes. Assumes nothing.
use Rattle.std.proofs.Common.{◌+◌, ◌-◌, ℕ, List, length, take, drop, length-drop, sym, ap, ◌∙◌, arith, rules}
use Rattle.laws.proofs.Lists.{lent_tail}
use Rattle.write.specs.Steps.{limit}
use Rattle.take.specs.Take.{laid}
use Rattle.take.proofs.Takes.{lies, part, part_long, lent_laid, unread, measured, untaken, takes_it}
use Rattle.take.proofs.take.Goals as goal

pub returns-in-Err : goal.returns-in-Err
returns-in-Err c =
    let a = c.args in
    let w = unread limit a.s a.command.destination a.command.source a.command.tag a.frame.now a.store.now c.read_data_out.ensures c.in-Err.is in
    record { step = c.refused.ensures ∙ w.step; store = w.store }

pub answered-stepped-requires : goal.answered-stepped-requires
answered-stepped-requires c =
    let a = c.args in
    let long = measured limit a.s a.command.destination a.command.source a.command.tag a.frame.now a.store.now c.read_data_out.ensures c.in-Ok.is in
    (long.0, long.1.0)

pub returns-then-not-is_taken : goal.returns-then-not-is_taken
returns-then-not-is_taken c =
    let a = c.args in
    untaken limit a.s a.command.destination a.command.source a.command.tag a.frame.now a.store.now c.read_data_out.ensures c.in-Ok.is
    c.answered-stepped.ensures
    (sym c.is_taken.ensures ∙ c.if-not-is_taken.true)

pub overflow_sub-at : goal.overflow_sub-at
overflow_sub-at c =
    let a = c.args in
    let w = lies limit a.s c.in-Ok.f a.command.destination a.command.source a.command.tag (length a.store.now) (search rules) c.answered-stepped.ensures (sym c.is_taken.ensures ∙ c.if-not-is_taken.false) in
    omega (arith, w.first)

pub slice_bounds-put_data-end : goal.slice_bounds-put_data-end
slice_bounds-put_data-end c =
    let a = c.args in
    let long = measured limit a.s a.command.destination a.command.source a.command.tag a.frame.now a.store.now c.read_data_out.ensures c.in-Ok.is in
    long.1.1

pub slice_bounds-put_data-count : goal.slice_bounds-put_data-count
slice_bounds-put_data-count c =
    let a = c.args in
    let w = lies limit a.s c.in-Ok.f a.command.destination a.command.source a.command.tag (length a.store.now) (search rules) c.answered-stepped.ensures (sym c.is_taken.ensures ∙ c.if-not-is_taken.false) in
    omega (arith, w.within)

pub slice_bounds-put_data-start : goal.slice_bounds-put_data-start
slice_bounds-put_data-start c =
    let a = c.args in
    let w = lies limit a.s c.in-Ok.f a.command.destination a.command.source a.command.tag (length a.store.now) (search rules) c.answered-stepped.ensures (sym c.is_taken.ensures ∙ c.if-not-is_taken.false) in
    omega (arith, w.within)

pub put_data-requires : goal.put_data-requires
put_data-requires c =
    let a = c.args in
    let s = a.s in
    let store = a.store.now in
    let read = measured limit s a.command.destination a.command.source a.command.tag a.frame.now store c.read_data_out.ensures c.in-Ok.is in
    let w = lies limit s c.in-Ok.f a.command.destination a.command.source a.command.tag (length store) (search rules) c.answered-stepped.ensures (sym c.is_taken.ensures ∙ c.if-not-is_taken.false) in
    let long = part_long c.in-Ok.f.length a.frame.now read.1.1 in
    let room = ap length (lent_tail (s.next - s.offset) store) ∙ length-drop (s.next - s.offset) store in
    (omega (arith, long, read.1.0), omega (arith, long, room, w.within))

pub returns : goal.returns
returns c =
    let a = c.args in
    let s = a.s in
    let n = c.in-Ok.f.length in
    let frame = a.frame.now in
    let store = a.store.now in
    let at = s.next - s.offset in
    takes_it limit s a.command.destination a.command.source a.command.tag frame store c.read_data_out.ensures c.in-Ok.is
    c.answered-stepped.ensures
    (sym c.is_taken.ensures ∙ c.if-not-is_taken.false)
    (lent_laid at (take (24 + n - 24) (drop 24 frame)) store c.put_data.new.store c.put_data.ensures
    ∙ ap (λ (z : List ℕ). laid at z store) (part n frame))
