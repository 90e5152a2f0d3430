-- Each way out of `read_open` is a way out of a frame's reader: its tests are those of `read_causes`. Assumes nothing.
use Rattle.std.specs.Prelude.{Err, Ok}
use mathlib.Core.Path.{◌≡◌, sym, ap, ◌∙◌}
use mathlib.Core.Bool.{◌&&◌}
use native.Mathlib.Omega.{arith}
use lib.Dec.{eqb}
use lib.ListN.{length, get_or}
use borrow.Author.Tests.{eq-eqb, ne_eqb}
use Rattle.wire.proofs.Laws.{found}
use Rattle.refusals.proofs.Frames.{by_length, by_field, by_none}
use Rattle.open_frame.specs.Open.{head_of, frame_of, head_listed, typed, read_open}
use Rattle.open_frame.proofs.read_open.Goals as goal

pub returns-then-s-ne28 : goal.returns-then-s-ne28
unfolding read_open
returns-then-s-ne28 c = let s = c.args.s.now in
    by_length Err (Ok (frame_of s)) (typed s && head_listed (head_of s)) (ne_eqb (length s) 28 c.if-s-ne28.true)

pub returns-then-low-head_listed : goal.returns-then-low-head_listed
unfolding read_open
returns-then-low-head_listed c =
    let s = c.args.s.now in
    let long : length s ≡ 28 = c.if-s-ne28.false in
    let awt = found s 22 2 (omega arith) (omega arith) c.get_be.ensures in
    (λ i. Ok (record { head = c.head_of-head.ensures i; pbc = record { 0 = get_or s 21 0 }; awt = record { 0 = awt i } }))
    ∙ by_none Err (Ok (frame_of s)) (eq-eqb (length s) 28 long) (sym ((λ i. eqb (c.low.ensures i) 1 && (c.head_listed.ensures ∙ ap head_listed c.head_of-head.ensures) i)) ∙ c.if-low-head_listed.true)

pub returns-else-low-head_listed : goal.returns-else-low-head_listed
unfolding read_open
returns-else-low-head_listed c =
    let s = c.args.s.now in
    by_field Err (Ok (frame_of s)) (eq-eqb (length s) 28 c.if-s-ne28.false) (sym ((λ i. eqb (c.low.ensures i) 1 && (c.head_listed.ensures ∙ ap head_listed c.head_of-head.ensures) i)) ∙ c.if-low-head_listed.false)
