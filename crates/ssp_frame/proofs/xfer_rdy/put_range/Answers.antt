-- `put_range` stores the three words of the range one behind the other, and leaves what stands before and behind them.
-- Assumes nothing.
use mathlib.Core.Path.{◌≡◌, refl, ◌∙◌}
use Rattle.wire.proofs.Fields.{after, puts_are}
use Rattle.ssp_frame.specs.Xfer.{range_fields}
use Rattle.ssp_frame.proofs.xfer_rdy.put_range.Goals as goal

pub returns : goal.returns
returns c =
    let h = c.args.h in
    let out = c.args.out.now in
    let none : out ≡ out = refl in
    let e24 = after 24 4 h.offset none c.put_be.ensures in
    let e28 = after 28 4 h.length e24 c.put_be-2.ensures in
    let e32 = after 32 4 0 e28 c.put_be-3.ensures in
    e32 ∙ puts_are (range_fields h) refl 24 out c.requires
