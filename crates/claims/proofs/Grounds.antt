-- Each test of a frame's lengths or fields is true exactly if the proposition in document 01's words holds. Assumes nothing.
use Prim.Native.Nat.{ℕ, zero, suc, ◌+◌, ◌≤◌, ◌<◌}
use mathlib.Core.Bool.{true, ◌&&◌}
use mathlib.Core.List.{List}
use mathlib.Core.Logic.{◌↔◌}
use mathlib.Core.Path.{◌≡◌, refl, ap, ◌∙◌}
use native.Mathlib.Omega.{arith}
use lib.Dec.{eqb, leb}
use lib.ListN.{length, get_or}
use borrow.Author.Tests.{eqb-true, eq-eqb, leb-true, le-leb}
use Rattle.laws.proofs.Bools.{and_left, and_right, and_true}
use Rattle.laws.proofs.Tests.{equal, both, means}
use Rattle.wire.specs.Be.{be_at}
use Rattle.wire.proofs.Laws.{zero_bytes, bytes_zero}
use Rattle.open_frame.specs.Open.{head_of, head_listed, typed}
use Rattle.open_frame.specs.declared.Head.{Head}
use Rattle.open_frame.proofs.Fields as address
use Rattle.ssp_frame.specs.Header.{header_of, is_blank}
use Rattle.ssp_frame.specs.Data.{frame_end, data_sized, data_listed, frame_sized, kind_listed, filled, rest_zero}
use Rattle.ssp_frame.specs.declared.data.DataHead.{DataHead}
use Rattle.ssp_frame.proofs.Fields as ssp
use Rattle.ssp_frame.specs.Xfer.{xfer_listed, xfer_kind, range_listed}
use Rattle.ssp_frame.specs.declared.xfer_rdy.XferHead.{XferHead}
use Rattle.ssp_frame.proofs.XferFields as xfer
use Rattle.ssp_frame.specs.Out.{out_listed, out_kind}
use Rattle.ssp_frame.specs.declared.data_out.OutHead.{OutHead}
use Rattle.ssp_frame.proofs.OutFields as out
use Rattle.ssp_frame.specs.Response.{sense_count, response_count, response_sized, response_listed, length_sized, response_kind, iu_of, iu_blank, body_length, iu_listed}
use Rattle.ssp_frame.specs.declared.response.ResponseHead.{ResponseHead}
use Rattle.ssp_frame.proofs.ResponseFields as response
use Rattle.claims.specs.Causes.{Bytes, OpenBytes, OpenFields, DataLengths, DataFields, DataLength, DataBytes, NextLengths}
use Rattle.claims.specs.Causes.{XferBytes, XferFields, OutBytes, OutFields, ResponseLengths, ResponseFields, ResponseLength, Kinds, ResponseBytes}

pub open_length : (s : List ℕ) → (eqb (length s) 28 ≡ true) ↔ (length s ≡ 28)
open_length s = equal (length s) 28

-- initiator and features of a byte are in range by themselves
pub open_bytes_lem : (s : List ℕ) → Bytes s → (typed s && head_listed (head_of s) ≡ true) ↔ OpenBytes s
open_bytes_lem s small = (there, back)
  where
    there : typed s && head_listed (head_of s) ≡ true → OpenBytes s
    there e =
        let l = address.listed_is (head_of s) (and_right (typed s) _ e) in
        record { kind = eqb-true _ 1 (and_left (typed s) _ e); protocol = omega (arith, l.protocol); least = l.least; most = omega (arith, l.most) }

    back : OpenBytes s → typed s && head_listed (head_of s) ≡ true
    back b = and_true (eq-eqb _ 1 b.kind) (address.is_listed (head_of s) (record {
      initiator = omega (arith, small 0);
      protocol = omega (arith, b.protocol);
      features = omega (arith, small 1);
      least = b.least;
      most = omega (arith, b.most);
    }))

pub open_fields : (h : Head) → (head_listed h ≡ true) ↔ OpenFields h
open_fields h = (there, back)
  where
    there : head_listed h ≡ true → OpenFields h
    there e = let l = address.listed_is h e in omega (arith, l)

    back : OpenFields h → head_listed h ≡ true
    back f = address.is_listed h (omega (arith, f))

pub data_lengths : (n m : ℕ) → (data_sized n m ≡ true) ↔ DataLengths n m
data_lengths n m = (there, back)
  where
    there : data_sized n m ≡ true → DataLengths n m
    there e = let f = ssp.fitting n m e in omega (arith, f)

    back : DataLengths n m → data_sized n m ≡ true
    back d = ssp.is_fitting n m (omega (arith, d))

pub data_fields : (h : DataHead) → (data_listed h ≡ true) ↔ DataFields h
data_fields h = (there, back)
  where
    there : data_listed h ≡ true → DataFields h
    there e = let l = ssp.listed_is h e in omega (arith, l)

    back : DataFields h → data_listed h ≡ true
    back f = ssp.is_listed h (omega (arith, f))

-- the output takes the data and their fill
pub next_lengths : (count n m : ℕ) → (eqb n count && leb (frame_end n) m ≡ true) ↔ NextLengths count n m
next_lengths count n m = (there, back)
  where
    there : eqb n count && leb (frame_end n) m ≡ true → NextLengths count n m
    there e = let room = leb-true (frame_end n) m (and_right (eqb n count) _ e) in record { body = eqb-true n count (and_left (eqb n count) _ e); room = omega (arith, room) }

    back : NextLengths count n m → eqb n count && leb (frame_end n) m ≡ true
    back l = let room = l.room in and_true (eq-eqb n count l.body) (le-leb (frame_end n) m (omega (arith, room)))

pub data_length : (n : ℕ) → (frame_sized n ≡ true) ↔ DataLength n
data_length n = (there, back)
  where
    there : frame_sized n ≡ true → DataLength n
    there e = let z = ssp.sized n e in record { least = z.least; most = z.most; four = z.four }

    back : DataLength n → frame_sized n ≡ true
    back d = ssp.is_sized n (record { least = d.least; most = d.most; four = d.four })

pub data_bytes : (s : List ℕ) → Bytes s → ((is_blank s && kind_listed (header_of s)) && filled s ≡ true) ↔ DataBytes s
data_bytes s small = (there, back)
  where
    there : (is_blank s && kind_listed (header_of s)) && filled s ≡ true → DataBytes s
    there e =
        let l = ssp.laid s (and_left (is_blank s && kind_listed (header_of s)) _ e) in
        record {
          kind = l.kind;
          byte4 = l.gap;
          bytes8_9 = zero_bytes s 8 2 l.pair;
          byte10 = omega (arith, l.bits);
          byte11 = omega (arith, l.fill);
          bytes12_15 = zero_bytes s 12 4 l.word;
          byte18 = omega (arith, l.ones, small 18, small 19);
          byte19 = omega (arith, l.ones, small 18, small 19);
          fill = zero_bytes s _ _ (eqb-true _ 0 (and_right (is_blank s && kind_listed (header_of s)) _ e));
        }

    back : DataBytes s → (is_blank s && kind_listed (header_of s)) && filled s ≡ true
    back b = and_true (ssp.is_laid s (record {
      gap = b.byte4;
      pair = bytes_zero s 8 2 b.bytes8_9;
      fill = omega (arith, b.byte11);
      word = bytes_zero s 12 4 b.bytes12_15;
      kind = b.kind;
      bits = omega (arith, b.byte10);
      ones = omega (arith, b.byte18, b.byte19);
    })) (eq-eqb _ 0 (bytes_zero s _ _ b.fill))

-- ---- XFER_RDY

pub xfer_fields : (h : XferHead) → (xfer_listed h ≡ true) ↔ XferFields h
xfer_fields h = means (xfer.listed h) (λ l. omega (arith, l), λ (f : XferFields h). omega (arith, f))

-- one byte of four at least isn't zero
some_byte : (s : List ℕ) → (0 < be_at s 28 4) ↔ (1 ≤ get_or s 28 0 + get_or s 29 0 + get_or s 30 0 + get_or s 31 0)
some_byte s = (λ h. omega (arith, h), λ (h : 1 ≤ get_or s 28 0 + get_or s 29 0 + get_or s 30 0 + get_or s 31 0). omega (arith, h))

pub xfer_bytes : (s : List ℕ) → (is_blank s && (xfer_kind (header_of s) && range_listed s) ≡ true) ↔ XferBytes s
xfer_bytes s = means (xfer.laid s) (
  λ l. record {
    kind = l.kind;
    byte4 = l.rest.gap;
    bytes8_9 = zero_bytes s 8 2 l.rest.pair;
    bit0 = l.even;
    byte10 = omega (arith, l.bits);
    byte11 = l.fill;
    bytes12_15 = zero_bytes s 12 4 l.rest.word;
    bytes20_23 = zero_bytes s 20 4 l.none;
    length = (some_byte s).0 l.length;
    bytes32_35 = zero_bytes s 32 4 l.last;
  },
  λ (b : XferBytes s). record {
    rest = record { gap = b.byte4; pair = bytes_zero s 8 2 b.bytes8_9; fill = omega (arith, b.byte11); word = bytes_zero s 12 4 b.bytes12_15 };
    kind = b.kind;
    even = b.bit0;
    bits = omega (arith, b.byte10);
    fill = b.byte11;
    none = bytes_zero s 20 4 b.bytes20_23;
    length = (some_byte s).1 b.length;
    last = bytes_zero s 32 4 b.bytes32_35;
  },
)

-- ---- data out

pub out_fields : (h : OutHead) → (out_listed h ≡ true) ↔ OutFields h
out_fields h = means (out.listed h) (λ l. omega (arith, l), λ (f : OutFields h). omega (arith, f))

pub out_bytes : (s : List ℕ) → (rest_zero s && out_kind (header_of s) ≡ true) ↔ OutBytes s
out_bytes s = means (out.laid s) (
  λ l. record {
    kind = l.kind;
    byte4 = l.rest.gap;
    bytes8_9 = zero_bytes s 8 2 l.rest.pair;
    byte10 = omega (arith, l.bits);
    byte11 = omega (arith, l.rest.fill);
    bytes12_15 = zero_bytes s 12 4 l.rest.word;
    fill = zero_bytes s _ _ l.fill;
  },
  λ (b : OutBytes s). record {
    rest = record { gap = b.byte4; pair = bytes_zero s 8 2 b.bytes8_9; fill = omega (arith, b.byte11); word = bytes_zero s 12 4 b.bytes12_15 };
    fill = bytes_zero s _ _ b.fill;
    kind = b.kind;
    bits = omega (arith, b.byte10);
  },
)

-- ---- RESPONSE

pub response_lengths : (present n m : ℕ) → (response_sized present n m ≡ true) ↔ ResponseLengths present n m
response_lengths present n m = means (response.fitting present n m) (
  λ f. record { most = f.most; none = f.kind.none; response = f.kind.response; sense = λ e. omega (arith, f.kind.sense e); room = omega (arith, f.room) },
  λ (l : ResponseLengths present n m). record {
    most = l.most;
    kind = record { none = l.none; response = l.response; sense = λ e. omega (arith, l.sense e) };
    room = omega (arith, l.room);
  },
)

pub response_fields : (h : ResponseHead) → (response_listed h ≡ true) ↔ ResponseFields h
response_fields h = means (response.listed h) (
  λ l. record {
    destination = omega (arith, l.destination);
    source = omega (arith, l.source);
    retransmit = omega (arith, l.retransmit);
    present = omega (arith, l.kind.few);
    status = l.kind.good;
  },
  λ (f : ResponseFields h). record {
    destination = omega (arith, f.destination);
    source = omega (arith, f.source);
    retransmit = omega (arith, f.retransmit);
    kind = record { few = omega (arith, f.present); good = f.status };
  },
)

pub response_length : (n : ℕ) → (length_sized n ≡ true) ↔ ResponseLength n
response_length n = means (response.sized n) (λ z. omega (arith, z), λ (l : ResponseLength n). omega (arith, l))

-- a kind and the lengths that go with it, by the table and by the count of its data
record Counted (present status sense total n : ℕ) : Type 0 where
  kind : response.Present present status
  counts : response.Kind present n
  sensed : sense ≡ sense_count present n
  told : total ≡ response_count present n

kinds : (present status sense total n : ℕ) → Counted present status sense total n ↔ Kinds present status sense total n
kinds present status sense total n = (there, back present)
  where
    there : Counted present status sense total n → Kinds present status sense total n
    there c = record {
      listed = omega (arith, c.kind.few);
      none = λ e. (c.counts.none e, (c.sensed ∙ ap (λ (p : ℕ). sense_count p n) e, c.told ∙ ap (λ (p : ℕ). response_count p n) e));
      one = λ e. (c.counts.response e, (c.sensed ∙ ap (λ (p : ℕ). sense_count p n) e, (c.told ∙ ap (λ (p : ℕ). response_count p n) e, c.kind.good e)));
      two = λ e. (omega (arith, c.counts.sense e), (c.sensed ∙ ap (λ (p : ℕ). sense_count p n) e, c.told ∙ ap (λ (p : ℕ). response_count p n) e));
    }

    -- the kinds, and none above 2
    back : (p : ℕ) → Kinds p status sense total n → Counted p status sense total n
    back zero k = let t = k.none refl in record {
      kind = record { few = omega arith; good = λ e. absurd (omega (arith, e)) };
      counts = record { none = λ _. t.0; response = λ e. absurd (omega (arith, e)); sense = λ e. absurd (omega (arith, e)) };
      sensed = t.1.0;
      told = t.1.1;
    }
    back (suc zero) k = let t = k.one refl in record {
      kind = record { few = omega arith; good = λ _. t.1.1.1 };
      counts = record { none = λ e. absurd (omega (arith, e)); response = λ _. t.0; sense = λ e. absurd (omega (arith, e)) };
      sensed = t.1.0;
      told = t.1.1.0;
    }
    back (suc (suc zero)) k = let t = k.two refl in record {
      kind = record { few = omega arith; good = λ e. absurd (omega (arith, e)) };
      counts = record { none = λ e. absurd (omega (arith, e)); response = λ e. absurd (omega (arith, e)); sense = λ _. omega (arith, t.0) };
      sensed = t.1.0;
      told = t.1.1;
    }
    back (suc (suc (suc p))) k = absurd (omega (arith, k.listed))

pub response_bytes : (s : List ℕ) → Bytes s → ((rest_zero s && (response_kind (header_of s) && leb (48 + (header_of s).fill) (length s))) && (iu_blank s && iu_listed (iu_of s) (body_length s)) ≡ true) ↔ ResponseBytes s
response_bytes s small = means (both (response.headed s) (response.rowed s (body_length s))) (
  λ p. let h = p.0 in let r = p.1 in record {
    kind = h.kind;
    byte4 = h.rest.gap;
    bytes8_9 = zero_bytes s 8 2 h.rest.pair;
    bit0 = h.even;
    byte10 = omega (arith, h.bits);
    byte11 = omega (arith, h.rest.fill);
    bytes12_15 = zero_bytes s 12 4 h.rest.word;
    byte18 = omega (arith, h.ones, small 18, small 19);
    byte19 = omega (arith, h.ones, small 18, small 19);
    bytes20_23 = zero_bytes s 20 4 h.none;
    bytes24_31 = zero_bytes s 24 8 r.first;
    bytes32_33 = zero_bytes s 32 2 r.pair;
    bytes36_39 = zero_bytes s 36 4 r.word;
    room = h.room;
    fill = zero_bytes s _ _ h.fill;
    lengths = (kinds (get_or s 34 0) (get_or s 35 0) (be_at s 40 4) (be_at s 44 4) (body_length s)).0 (record { kind = r.kind; counts = r.counts; sensed = r.sense; told = r.response });
  },
  λ (b : ResponseBytes s). let c = (kinds (get_or s 34 0) (get_or s 35 0) (be_at s 40 4) (be_at s 44 4) (body_length s)).1 b.lengths in (
    record {
      rest = record { gap = b.byte4; pair = bytes_zero s 8 2 b.bytes8_9; fill = omega (arith, b.byte11); word = bytes_zero s 12 4 b.bytes12_15 };
      fill = bytes_zero s _ _ b.fill;
      kind = b.kind;
      even = b.bit0;
      bits = omega (arith, b.byte10);
      ones = omega (arith, b.byte18, b.byte19);
      none = bytes_zero s 20 4 b.bytes20_23;
      room = b.room;
    },
    record {
      first = bytes_zero s 24 8 b.bytes24_31;
      pair = bytes_zero s 32 2 b.bytes32_33;
      word = bytes_zero s 36 4 b.bytes36_39;
      kind = c.kind;
      counts = c.counts;
      sense = c.sensed;
      response = c.told;
    },
  ),
)
