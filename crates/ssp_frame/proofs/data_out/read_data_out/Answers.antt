-- Each way out of `read_data_out` is a way out of a frame's reader: its tests are those of `read_causes`. Assumes nothing.
use Rattle.std.specs.Prelude.{Err, Ok}
use mathlib.Core.Path.{◌≡◌, ◌∙◌, ap, sym}
use mathlib.Core.Bool.{true, ◌&&◌}
use Prim.Native.Nat.{◌-◌}
use lib.ListN.{length}
use Rattle.refusals.proofs.Frames.{by_length, by_field, by_none}
use Rattle.ssp_frame.specs.Header.{header_of}
use Rattle.ssp_frame.specs.Data.{frame_sized, rest_zero}
use Rattle.ssp_frame.specs.Out.{out_kind, out_of, read_data_out}
use Rattle.ssp_frame.specs.declared.header.Header.{Header}
use Rattle.ssp_frame.proofs.data_out.read_data_out.Goals as goal

pub returns-then-not-sized : goal.returns-then-not-sized
unfolding read_data_out
returns-then-not-sized c = let s = c.args.s.now in
    by_length Err (Ok (out_of s)) (rest_zero s && out_kind (header_of s)) (sym c.sized.ensures ∙ c.if-not-sized.true)

pub returns-then-not-rest_zero-out_kind : goal.returns-then-not-rest_zero-out_kind
unfolding read_data_out
returns-then-not-rest_zero-out_kind c =
    let size : frame_sized (length c.args.s.now) ≡ true = sym c.sized.ensures ∙ c.if-not-sized.false in
    let tested : let s = c.args.s.now in c.rest_zero.result && c.out_kind.result ≡ rest_zero s && out_kind (header_of s) = λ i. c.rest_zero.ensures i && (c.out_kind.ensures ∙ ap out_kind c.header_of-h.ensures) i in
    let s = c.args.s.now in
    by_field Err (Ok (out_of s)) (size) (sym (tested) ∙ c.if-not-rest_zero-out_kind.true)

pub returns : goal.returns
unfolding read_data_out
returns c =
    let size : frame_sized (length c.args.s.now) ≡ true = sym c.sized.ensures ∙ c.if-not-sized.false in
    let tested : let s = c.args.s.now in c.rest_zero.result && c.out_kind.result ≡ rest_zero s && out_kind (header_of s) = λ i. c.rest_zero.ensures i && (c.out_kind.ensures ∙ ap out_kind c.header_of-h.ensures) i in
    let right : let s = c.args.s.now in rest_zero s && out_kind (header_of s) ≡ true = sym (tested) ∙ c.if-not-rest_zero-out_kind.false in
    let s = c.args.s.now in
    ap (λ (h : Header). Ok (record {
      head = record { destination = h.destination; source = h.source; changing = h.bits; tag = h.tag; transfer = h.transfer; offset = h.offset };
      length = length s - 24 - h.fill;
    })) c.header_of-h.ensures
    ∙ by_none Err (Ok (out_of s)) (size) (right)
