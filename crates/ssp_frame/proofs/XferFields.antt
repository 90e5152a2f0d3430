-- What the tests of XFER_RDY say of its fields and bytes. Assumes nothing.
use mathlib.Core.Path.{◌≡◌}
use mathlib.Core.Bool.{◌&&◌}
use mathlib.Core.List.{List}
use Prim.Native.Nat.{ℕ, ◌%◌, ◌^◌, ◌<◌}
use lib.ListN.{get_or}
use Rattle.laws.specs.Tests.{Says}
use Rattle.laws.proofs.Tests.{less, equal, both, means}
use Rattle.wire.specs.Be.{be_at}
use Rattle.ssp_frame.specs.Header.{header_of, is_blank}
use Rattle.ssp_frame.specs.Xfer.{xfer_listed, xfer_kind, range_listed}
use Rattle.ssp_frame.specs.declared.xfer_rdy.XferHead.{XferHead}
use Rattle.ssp_frame.proofs.Fields.{Blank, blank}

-- the fields of XFER_RDY
pub record Listed (h : XferHead) : Type 0 where
  pub destination : h.destination < 256 ^ 3
  pub source : h.source < 256 ^ 3
  pub retransmit : h.retransmit < 2
  pub retry : h.retry < 2
  pub length : 0 < h.length

pub listed : (h : XferHead) → Says (xfer_listed h) (Listed h)
listed h = means (both (less _ _) (both (less _ _) (both (less _ _) (both (less _ _) (less 0 _))))) (
  λ p. record { destination = p.0; source = p.1.0; retransmit = p.1.1.0; retry = p.1.1.1.0; length = p.1.1.1.1 },
  λ (l : Listed h). (l.destination, (l.source, (l.retransmit, (l.retry, l.length)))),
)

-- a buffer whose bytes are those of XFER_RDY
pub record Laid (s : List ℕ) : Type 0 where
  pub rest : Blank s
  pub kind : get_or s 0 0 ≡ 5
  pub even : get_or s 10 0 % 2 ≡ 0
  pub bits : get_or s 10 0 < 8
  pub fill : get_or s 11 0 ≡ 0
  pub none : be_at s 20 4 ≡ 0
  pub length : 0 < be_at s 28 4
  pub last : be_at s 32 4 ≡ 0

pub laid : (s : List ℕ) → Says (is_blank s && (xfer_kind (header_of s) && range_listed s)) (Laid s)
laid s = means (both (blank s) (both (both (equal _ 5) (both (equal _ 0) (both (less _ 8) (both (equal _ 0) (equal _ 0))))) (both (less 0 _) (equal _ 0)))) (
  λ p. record {
    rest = p.0;
    kind = p.1.0.0;
    even = p.1.0.1.0;
    bits = p.1.0.1.1.0;
    fill = p.1.0.1.1.1.0;
    none = p.1.0.1.1.1.1;
    length = p.1.1.0;
    last = p.1.1.1;
  },
  λ (l : Laid s). (l.rest, ((l.kind, (l.even, (l.bits, (l.fill, l.none)))), (l.length, l.last))),
)
