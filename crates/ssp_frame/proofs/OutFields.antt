-- What the tests of data out say of its fields and bytes. Assumes nothing.
use mathlib.Core.Path.{◌≡◌}
use mathlib.Core.Bool.{◌&&◌}
use mathlib.Core.List.{List}
use Prim.Native.Nat.{ℕ, ◌-◌, ◌^◌, ◌<◌}
use lib.ListN.{length, get_or}
use Rattle.laws.specs.Tests.{Says}
use Rattle.laws.proofs.Tests.{less, equal, both, means}
use Rattle.wire.specs.Be.{be_at}
use Rattle.ssp_frame.specs.Header.{header_of}
use Rattle.ssp_frame.specs.Data.{rest_zero}
use Rattle.ssp_frame.specs.Out.{out_listed, out_kind}
use Rattle.ssp_frame.specs.declared.data_out.OutHead.{OutHead}
use Rattle.ssp_frame.proofs.Fields.{Blank, blank}

-- the fields of data out
pub record Listed (h : OutHead) : Type 0 where
  pub destination : h.destination < 256 ^ 3
  pub source : h.source < 256 ^ 3
  pub changing : h.changing < 2

pub listed : (h : OutHead) → Says (out_listed h) (Listed h)
listed h = means (both (less _ _) (both (less _ _) (less _ 2))) (
  λ p. record { destination = p.0; source = p.1.0; changing = p.1.1 },
  λ (l : Listed h). (l.destination, (l.source, l.changing)),
)

-- a buffer whose bytes are those of data out
pub record Laid (s : List ℕ) : Type 0 where
  pub rest : Blank s
  pub fill : be_at s (length s - get_or s 11 0) (get_or s 11 0) ≡ 0
  pub kind : get_or s 0 0 ≡ 1
  pub bits : get_or s 10 0 < 2

pub laid : (s : List ℕ) → Says (rest_zero s && out_kind (header_of s)) (Laid s)
laid s = means (both (both (blank s) (equal _ 0)) (both (equal _ 1) (less _ 2))) (
  λ p. record { rest = p.0.0; fill = p.0.1; kind = p.1.0; bits = p.1.1 },
  λ (l : Laid s). ((l.rest, l.fill), (l.kind, l.bits)),
)
