-- Each way out of `read_response` is a way out of a frame's reader: its tests are those of `read_causes`, the last of them on the row of
-- fields behind the header. Assumes nothing.
use Rattle.std.specs.Prelude.{Err, Ok}
use mathlib.Core.Path.{◌≡◌, ◌∙◌, ap, sym}
use mathlib.Core.Bool.{Bool, true, ◌&&◌}
use mathlib.Core.List.{List}
use Prim.Native.Nat.{ℕ, ◌+◌, ◌-◌, ◌/◌, ◌%◌}
use lib.Dec.{leb}
use lib.ListN.{length}
use Rattle.laws.proofs.Bools.{and_true, and_false}
use Rattle.refusals.proofs.Frames.{by_length, by_field, by_none}
use Rattle.ssp_frame.specs.Header.{header_of}
use Rattle.ssp_frame.specs.Data.{rest_zero}
use Rattle.ssp_frame.specs.Response.{length_sized, response_kind, iu_of, iu_blank, body_length, iu_listed, response_of, read_response}
use Rattle.ssp_frame.specs.declared.header.Header.{Header}
use Rattle.ssp_frame.proofs.response.read_response.Goals as goal

abbrev rowed : List ℕ → Bool
rowed s = iu_blank s && iu_listed (iu_of s) (body_length s)

-- the tests on the header, and on the row behind it
abbrev headed : List ℕ → Bool
headed s = rest_zero s && (response_kind (header_of s) && leb (48 + (header_of s).fill) (length s))

pub returns-then-not-sized : goal.returns-then-not-sized
unfolding read_response
returns-then-not-sized c = let s = c.args.s.now in
    by_length Err (Ok (response_of s)) (headed s && rowed s) (sym c.sized.ensures ∙ c.if-not-sized.true)

pub returns-then-not-rest_zero-response_kind : goal.returns-then-not-rest_zero-response_kind
unfolding read_response
returns-then-not-rest_zero-response_kind c =
    let size : length_sized (length c.args.s.now) ≡ true = sym c.sized.ensures ∙ c.if-not-sized.false in
    let count : c.header_of-h.result.fill ≡ (header_of c.args.s.now).fill = ap (λ (h : Header). h.fill) c.header_of-h.ensures in
    let tested : let s = c.args.s.now in c.rest_zero.result && (c.response_kind.result && leb (48 + c.header_of-h.result.fill) (length s)) ≡ headed s =
    let s = c.args.s.now in
    λ i. c.rest_zero.ensures i && ((c.response_kind.ensures ∙ ap response_kind c.header_of-h.ensures) i && leb (48 + count i) (length s)) in
    let s = c.args.s.now in
    by_field Err (Ok (response_of s)) (size) (ap (λ (t : Bool). t && rowed s) (sym (tested) ∙ c.if-not-rest_zero-response_kind.true))

pub returns-then-not-iu_blank-iu_listed : goal.returns-then-not-iu_blank-iu_listed
unfolding read_response
returns-then-not-iu_blank-iu_listed c =
    let size : length_sized (length c.args.s.now) ≡ true = sym c.sized.ensures ∙ c.if-not-sized.false in
    let count : c.header_of-h.result.fill ≡ (header_of c.args.s.now).fill = ap (λ (h : Header). h.fill) c.header_of-h.ensures in
    let behind : let s = c.args.s.now in c.iu_blank.result && c.iu_listed.result ≡ rowed s =
    let s = c.args.s.now in
    λ i. c.iu_blank.ensures i && (c.iu_listed.ensures ∙ (λ j. iu_listed (c.iu_of-u.ensures j) (length s - 48 - count j))) i in
    let s = c.args.s.now in
    by_field Err (Ok (response_of s)) (size) (and_false (headed s) (sym (behind) ∙ c.if-not-iu_blank-iu_listed.true))

pub returns : goal.returns
unfolding read_response
returns c =
    let size : length_sized (length c.args.s.now) ≡ true = sym c.sized.ensures ∙ c.if-not-sized.false in
    let count : c.header_of-h.result.fill ≡ (header_of c.args.s.now).fill = ap (λ (h : Header). h.fill) c.header_of-h.ensures in
    let tested : let s = c.args.s.now in c.rest_zero.result && (c.response_kind.result && leb (48 + c.header_of-h.result.fill) (length s)) ≡ headed s =
    let s = c.args.s.now in
    λ i. c.rest_zero.ensures i && ((c.response_kind.ensures ∙ ap response_kind c.header_of-h.ensures) i && leb (48 + count i) (length s)) in
    let head : headed c.args.s.now ≡ true = sym (tested) ∙ c.if-not-rest_zero-response_kind.false in
    let behind : let s = c.args.s.now in c.iu_blank.result && c.iu_listed.result ≡ rowed s =
    let s = c.args.s.now in
    λ i. c.iu_blank.ensures i && (c.iu_listed.ensures ∙ (λ j. iu_listed (c.iu_of-u.ensures j) (length s - 48 - count j))) i in
    let s = c.args.s.now in
    let header = c.header_of-h.ensures in
    let iu = c.iu_of-u.ensures in
    (λ i. Ok (record {
      head = record {
        destination = (header i).destination;
        source = (header i).source;
        retransmit = (header i).bits / 2 % 2;
        tag = (header i).tag;
        present = (iu i).present;
        status = (iu i).status;
      };
      length = length s - 48 - (header i).fill;
    }))
    ∙ by_none Err (Ok (response_of s)) (size) (and_true (head) (sym (behind) ∙ c.if-not-iu_blank-iu_listed.false))
