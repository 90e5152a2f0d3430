-- Each way out of `read_xfer_rdy` is a way out of a frame's reader: its tests are those of `read_causes`. Assumes nothing.
use Rattle.std.specs.Prelude.{Err, Ok}
use mathlib.Core.Path.{◌≡◌, ◌∙◌, ap, sym}
use mathlib.Core.Bool.{◌&&◌}
use native.Mathlib.Omega.{arith}
use lib.Dec.{eqb, ltb}
use lib.ListN.{length}
use borrow.Author.Tests.{eq-eqb, ne_eqb}
use Rattle.wire.proofs.Laws.{found}
use Rattle.refusals.proofs.Frames.{by_length, by_field, by_none}
use Rattle.ssp_frame.specs.Header.{header_of, is_blank}
use Rattle.ssp_frame.specs.Xfer.{retransmit_of, retry_of, xfer_kind, range_listed, xfer_of, read_xfer_rdy}
use Rattle.ssp_frame.proofs.xfer_rdy.read_xfer_rdy.Goals as goal

pub returns-then-s-ne36 : goal.returns-then-s-ne36
unfolding read_xfer_rdy
returns-then-s-ne36 c = let s = c.args.s.now in
    by_length Err (Ok (xfer_of s)) (is_blank s && (xfer_kind (header_of s) && range_listed s)) (ne_eqb (length s) 36 c.if-s-ne36.true)

pub returns-then-not-is_blank-xfer_kind : goal.returns-then-not-is_blank-xfer_kind
unfolding read_xfer_rdy
returns-then-not-is_blank-xfer_kind c =
    let tested : let s = c.args.s.now in c.is_blank.result && (c.xfer_kind.result && (ltb 0 c.get_be-length.result && eqb c.get_be.result 0)) ≡ is_blank s && (xfer_kind (header_of s) && range_listed s) =
    let s = c.args.s.now in
    let long : length s ≡ 36 = c.if-s-ne36.false in
    let count = found s 28 4 (omega arith) (omega arith) c.get_be-length.ensures in
    let word = found s 32 4 (omega arith) (omega arith) c.get_be.ensures in
    λ i. c.is_blank.ensures i && ((c.xfer_kind.ensures ∙ ap xfer_kind c.header_of-h.ensures) i && (ltb 0 (count i) && eqb (word i) 0)) in
    let s = c.args.s.now in
    by_field Err (Ok (xfer_of s)) (eq-eqb (length s) 36 c.if-s-ne36.false) (sym (tested) ∙ c.if-not-is_blank-xfer_kind.true)

pub returns : goal.returns
unfolding read_xfer_rdy
returns c =
    let tested : let s = c.args.s.now in c.is_blank.result && (c.xfer_kind.result && (ltb 0 c.get_be-length.result && eqb c.get_be.result 0)) ≡ is_blank s && (xfer_kind (header_of s) && range_listed s) =
    let s = c.args.s.now in
    let long : length s ≡ 36 = c.if-s-ne36.false in
    let count = found s 28 4 (omega arith) (omega arith) c.get_be-length.ensures in
    let word = found s 32 4 (omega arith) (omega arith) c.get_be.ensures in
    λ i. c.is_blank.ensures i && ((c.xfer_kind.ensures ∙ ap xfer_kind c.header_of-h.ensures) i && (ltb 0 (count i) && eqb (word i) 0)) in
    let s = c.args.s.now in
    let long : length s ≡ 36 = c.if-s-ne36.false in
    let header = c.header_of-h.ensures in
    let offset = found s 24 4 (omega arith) (omega arith) c.get_be-offset.ensures in
    let count = found s 28 4 (omega arith) (omega arith) c.get_be-length.ensures in
    (λ i. Ok (record {
      destination = (header i).destination;
      source = (header i).source;
      retransmit = retransmit_of (header i).bits;
      retry = retry_of (header i).bits;
      tag = (header i).tag;
      transfer = (header i).transfer;
      offset = offset i;
      length = count i;
    }))
    ∙ by_none Err (Ok (xfer_of s)) (eq-eqb (length s) 36 long) (sym (tested) ∙ c.if-not-is_blank-xfer_kind.false)
