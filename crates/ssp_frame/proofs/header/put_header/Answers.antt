-- `put_header` stores the six words of the header one behind the other, and leaves what stands behind them. Assumes nothing.
use mathlib.Core.Path.{◌≡◌, refl, ap, ◌∙◌}
use mathlib.Core.List.{List, ◌++◌}
use Prim.Native.Nat.{ℕ, ◌+◌, ◌*◌, ◌%◌}
use native.Mathlib.Omega.{arith}
use lib.ListN.{drop}
use Rattle.wire.proofs.Fields.{after, puts_are}
use Rattle.ssp_frame.proofs.Words.{word_fields, words_are}
use Rattle.ssp_frame.proofs.header.put_header.Goals as goal

pub returns : goal.returns
returns c =
    let h = c.args.h in
    let out = c.args.out.now in
    let none : out ≡ out = refl in
    let e0 = after 0 4 (h.kind * 16777216 + h.destination % 16777216) none c.put_be.ensures in
    let e4 = after 4 4 (h.source % 16777216) e0 c.put_be-2.ensures in
    let e8 = after 8 4 (h.bits * 256 + h.fill) e4 c.put_be-3.ensures in
    let e12 = after 12 4 0 e8 c.put_be-4.ensures in
    let e16 = after 16 4 (h.tag * 65536 + h.transfer) e12 c.put_be-5.ensures in
    let e20 = after 20 4 h.offset e16 c.put_be-6.ensures in
    let bits = c.struct_known-4-1.given in
    let fill = c.struct_known-5-1.given in
    let transfer = c.struct_known-7-1.given in
    e20
    ∙ puts_are (word_fields h) refl 0 out c.requires
    ∙ ap (λ (l : List ℕ). l ++ drop 24 out) (words_are h (omega (arith, bits)) (omega (arith, fill)) (omega (arith, transfer)))
