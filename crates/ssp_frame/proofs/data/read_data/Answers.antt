-- Each way out of `read_data` is a way out of a frame's reader: its tests are those of `read_causes`, the last of them on the fill.
-- Assumes nothing.
use Rattle.std.specs.Prelude.{Err, Ok}
use mathlib.Core.Path.{◌≡◌, ◌∙◌, ap, sym}
use mathlib.Core.Bool.{Bool, true, ◌&&◌}
use Prim.Native.Nat.{ℕ, ◌-◌, ◌%◌, ◌^◌, ◌<◌}
use native.Mathlib.Omega.{arith}
use lib.Dec.{eqb}
use lib.ListN.{length, get_or}
use Rattle.laws.proofs.Bools.{and_true, and_false}
use Rattle.wire.proofs.Laws.{found}
use Rattle.refusals.proofs.Frames.{by_length, by_field, by_none}
use Rattle.ssp_frame.specs.Header.{header_of, is_blank}
use Rattle.ssp_frame.specs.Data.{frame_sized, kind_listed, filled, data_of, read_data}
use Rattle.ssp_frame.specs.declared.header.Header.{Header}
use Rattle.ssp_frame.proofs.Words.{last_fill}
use Rattle.ssp_frame.proofs.Fields.{Sized, sized, Laid, laid}
use Rattle.ssp_frame.proofs.data.read_data.Goals as goal

pub returns-then-not-sized : goal.returns-then-not-sized
unfolding read_data
returns-then-not-sized c = let s = c.args.s.now in
    by_length Err (Ok (data_of s)) ((is_blank s && kind_listed (header_of s)) && filled s) (sym c.sized.ensures ∙ c.if-not-sized.true)

pub returns-then-not-is_blank-kind_listed : goal.returns-then-not-is_blank-kind_listed
unfolding read_data
returns-then-not-is_blank-kind_listed c =
    let size : frame_sized (length c.args.s.now) ≡ true = sym c.sized.ensures ∙ c.if-not-sized.false in
    let tested : let s = c.args.s.now in c.is_blank.result && c.kind_listed.result ≡ is_blank s && kind_listed (header_of s) = λ i. c.is_blank.ensures i && (c.kind_listed.ensures ∙ ap kind_listed c.header_of-h.ensures) i in
    let s = c.args.s.now in
    by_field Err (Ok (data_of s)) (size) (ap (λ (t : Bool). t && filled s) (sym (tested) ∙ c.if-not-is_blank-kind_listed.true))

pub returns-then-not-ends_zero : goal.returns-then-not-ends_zero
unfolding read_data
returns-then-not-ends_zero c =
    let size : frame_sized (length c.args.s.now) ≡ true = sym c.sized.ensures ∙ c.if-not-sized.false in
    let sizes : Sized (length c.args.s.now) = sized (length c.args.s.now) (size) in
    let count : c.header_of-h.result.fill ≡ get_or c.args.s.now 11 0 = ap (λ (h : Header). h.fill) c.header_of-h.ensures in
    let tested : let s = c.args.s.now in c.is_blank.result && c.kind_listed.result ≡ is_blank s && kind_listed (header_of s) = λ i. c.is_blank.ensures i && (c.kind_listed.ensures ∙ ap kind_listed c.header_of-h.ensures) i in
    let header : let s = c.args.s.now in is_blank s && kind_listed (header_of s) ≡ true = sym (tested) ∙ c.if-not-is_blank-kind_listed.false in
    let headers : Laid c.args.s.now = laid c.args.s.now (header) in
    let full : c.ends_zero.result ≡ filled c.args.s.now =
    let s = c.args.s.now in
    let z = sizes in
    let small : (i : ℕ) → get_or s i 0 < 256 = λ i. omega (arith, c.shared_slice_known-1.given i) in
    let word = found s (length s - 4) 4 (omega arith) (omega (arith, z.least)) c.get_be.ensures in
    c.ends_zero.ensures
    ∙ (λ i. eqb (word i % 256 ^ count i) 0)
    ∙ ap (λ (k : ℕ). eqb k 0) (last_fill s (get_or s 11 0) small (headers).fill (omega (arith, z.least))) in
    let s = c.args.s.now in
    by_field Err (Ok (data_of s)) (size) (and_false (is_blank s && kind_listed (header_of s)) (sym (full) ∙ c.if-not-ends_zero.true))

pub returns : goal.returns
unfolding read_data
returns c =
    let size : frame_sized (length c.args.s.now) ≡ true = sym c.sized.ensures ∙ c.if-not-sized.false in
    let tested : let s = c.args.s.now in c.is_blank.result && c.kind_listed.result ≡ is_blank s && kind_listed (header_of s) = λ i. c.is_blank.ensures i && (c.kind_listed.ensures ∙ ap kind_listed c.header_of-h.ensures) i in
    let header : let s = c.args.s.now in is_blank s && kind_listed (header_of s) ≡ true = sym (tested) ∙ c.if-not-is_blank-kind_listed.false in
    let sizes : Sized (length c.args.s.now) = sized (length c.args.s.now) (size) in
    let count : c.header_of-h.result.fill ≡ get_or c.args.s.now 11 0 = ap (λ (h : Header). h.fill) c.header_of-h.ensures in
    let headers : Laid c.args.s.now = laid c.args.s.now (header) in
    let full : c.ends_zero.result ≡ filled c.args.s.now =
    let s = c.args.s.now in
    let z = sizes in
    let small : (i : ℕ) → get_or s i 0 < 256 = λ i. omega (arith, c.shared_slice_known-1.given i) in
    let word = found s (length s - 4) 4 (omega arith) (omega (arith, z.least)) c.get_be.ensures in
    c.ends_zero.ensures
    ∙ (λ i. eqb (word i % 256 ^ count i) 0)
    ∙ ap (λ (k : ℕ). eqb k 0) (last_fill s (get_or s 11 0) small (headers).fill (omega (arith, z.least))) in
    let s = c.args.s.now in
    ap (λ (h : Header). Ok (record {
      head = record { destination = h.destination; source = h.source; changing = h.bits; tag = h.tag; offset = h.offset };
      length = length s - 24 - h.fill;
    })) c.header_of-h.ensures
    ∙ by_none Err (Ok (data_of s)) (size) (and_true (header) (sym (full) ∙ c.if-not-ends_zero.false))
