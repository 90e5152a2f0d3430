-- `rest_zero` tests what no field holds, and then the fill, which lies in the last word. Assumes nothing.
use mathlib.Core.Path.{◌≡◌, ◌∙◌, ap, sym}
use mathlib.Core.Bool.{Bool, true, ◌&&◌}
use Prim.Native.Nat.{ℕ, ◌-◌, ◌%◌, ◌^◌, ◌<◌, ◌≤◌}
use native.Mathlib.Omega.{arith}
use lib.Dec.{eqb}
use lib.ListN.{length, get_or}
use Rattle.wire.proofs.Laws.{found}
use Rattle.ssp_frame.specs.Header.{is_blank}
use Rattle.ssp_frame.specs.Data.{filled}
use Rattle.ssp_frame.specs.declared.header.Header.{Header}
use Rattle.ssp_frame.proofs.Words.{last_fill}
use Rattle.ssp_frame.proofs.Fields.{blank}
use Rattle.ssp_frame.proofs.data.rest_zero.Goals as goal

pub returns : goal.returns
returns c =
    let count : c.header_of.result.fill ≡ get_or c.args.s.now 11 0 = ap (λ (h : Header). h.fill) c.header_of.ensures in
    let clear : is_blank c.args.s.now ≡ true = sym c.is_blank.ensures ∙ c.if-not-is_blank.false in
    let few : get_or c.args.s.now 11 0 < 4 = let s = c.args.s.now in ((blank s).0 (clear)).fill in
    let s = c.args.s.now in
    let long : 24 ≤ length s = c.requires in
    let small : (i : ℕ) → get_or s i 0 < 256 = λ i. omega (arith, c.shared_slice_known-1.given i) in
    let word = found s (length s - 4) 4 (omega arith) (omega arith) c.get_be.ensures in
    c.ends_zero.ensures
    ∙ (λ i. eqb (word i % 256 ^ count i) 0)
    ∙ ap (λ (k : ℕ). eqb k 0) (last_fill s (get_or s 11 0) small (few) (omega arith))
    ∙ sym (ap (λ (t : Bool). t && filled s) (clear))
