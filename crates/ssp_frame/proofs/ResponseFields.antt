-- What the tests of RESPONSE say of its fields, lengths and bytes. Assumes nothing.
use mathlib.Core.Path.{◌≡◌}
use mathlib.Core.Bool.{◌&&◌}
use mathlib.Core.List.{List}
use Prim.Native.Nat.{ℕ, ◌+◌, ◌-◌, ◌%◌, ◌^◌, ◌≤◌, ◌<◌}
use lib.Dec.{leb}
use lib.ListN.{length, get_or}
use Rattle.laws.specs.Tests.{Says}
use Rattle.laws.proofs.Tests.{less, most, equal, both, implies, means}
use Rattle.wire.specs.Be.{be_at}
use Rattle.ssp_frame.specs.Header.{header_of}
use Rattle.ssp_frame.specs.Data.{rest_zero}
use Rattle.ssp_frame.specs.Response.{sense_count, response_count, response_end, kind_sized, response_sized, present_listed, response_listed, length_sized, response_kind, iu_of, iu_blank, iu_listed}
use Rattle.ssp_frame.specs.declared.response.ResponseHead.{ResponseHead}
use Rattle.ssp_frame.proofs.Fields.{Blank, blank}

-- n bytes are as many as data of a kind has
pub record Kind (present n : ℕ) : Type 0 where
  pub none : present ≡ 0 → n ≡ 0
  pub response : present ≡ 1 → n ≡ 4
  pub sense : present ≡ 2 → 0 < n

pub kind : (present n : ℕ) → Says (kind_sized present n) (Kind present n)
kind present n = means (both (implies (equal present 0) (equal n 0)) (both (implies (equal present 1) (equal n 4)) (implies (equal present 2) (less 0 n)))) (
  λ p. record { none = p.0; response = p.1.0; sense = p.1.1 },
  λ (k : Kind present n). (k.none, (k.response, k.sense)),
)

-- data of n bytes, for an output of m
pub record Fitting (present n m : ℕ) : Type 0 where
  pub most : n ≤ 1000
  pub kind : Kind present n
  pub room : response_end n ≤ m

pub fitting : (present n m : ℕ) → Says (response_sized present n m) (Fitting present n m)
fitting present n m = means (both (most n 1000) (both (kind present n) (most (response_end n) m))) (
  λ p. record { most = p.0; kind = p.1.0; room = p.1.1 },
  λ (f : Fitting present n m). (f.most, (f.kind, f.room)),
)

-- a kind of data, and the status that goes with it
pub record Present (present status : ℕ) : Type 0 where
  pub few : present < 3
  pub good : present ≡ 1 → status ≡ 0

pub present_listed_lem : (present status : ℕ) → Says (present_listed present status) (Present present status)
present_listed_lem present status = means (both (less present 3) (implies (equal present 1) (equal status 0))) (
  λ p. record { few = p.0; good = p.1 },
  λ (k : Present present status). (k.few, k.good),
)

-- the fields of RESPONSE
pub record Listed (h : ResponseHead) : Type 0 where
  pub destination : h.destination < 256 ^ 3
  pub source : h.source < 256 ^ 3
  pub retransmit : h.retransmit < 2
  pub kind : Present h.present h.status

pub listed : (h : ResponseHead) → Says (response_listed h) (Listed h)
listed h = means (both (less _ _) (both (less _ _) (both (less _ 2) (present_listed_lem _ _)))) (
  λ p. record { destination = p.0; source = p.1.0; retransmit = p.1.1.0; kind = p.1.1.1 },
  λ (l : Listed h). (l.destination, (l.source, (l.retransmit, l.kind))),
)

-- a frame of n bytes
pub record Sized (n : ℕ) : Type 0 where
  pub least : 48 ≤ n
  pub most : n ≤ 1048
  pub four : n % 4 ≡ 0

pub sized : (n : ℕ) → Says (length_sized n) (Sized n)
sized n = means (both (most 48 n) (both (most n 1048) (equal (n % 4) 0))) (
  λ p. record { least = p.0; most = p.1.0; four = p.1.1 },
  λ (z : Sized n). (z.least, (z.most, z.four)),
)

-- a buffer whose header is that of RESPONSE
pub record Headed (s : List ℕ) : Type 0 where
  pub rest : Blank s
  pub fill : be_at s (length s - get_or s 11 0) (get_or s 11 0) ≡ 0
  pub kind : get_or s 0 0 ≡ 7
  pub even : get_or s 10 0 % 2 ≡ 0
  pub bits : get_or s 10 0 < 4
  pub ones : be_at s 18 2 ≡ 65535
  pub none : be_at s 20 4 ≡ 0
  pub room : 48 + get_or s 11 0 ≤ length s

pub headed : (s : List ℕ) → Says (rest_zero s && (response_kind (header_of s) && leb (48 + (header_of s).fill) (length s))) (Headed s)
headed s = means (both (both (blank s) (equal _ 0)) (both (both (equal _ 7) (both (equal _ 0) (both (less _ 4) (both (equal _ 65535) (equal _ 0))))) (most _ _))) (
  λ p. record {
    rest = p.0.0;
    fill = p.0.1;
    kind = p.1.0.0;
    even = p.1.0.1.0;
    bits = p.1.0.1.1.0;
    ones = p.1.0.1.1.1.0;
    none = p.1.0.1.1.1.1;
    room = p.1.1;
  },
  λ (l : Headed s). ((l.rest, l.fill), ((l.kind, (l.even, (l.bits, (l.ones, l.none)))), l.room)),
)

-- and whose row of fields goes with n bytes of data
pub record Rowed (s : List ℕ) (n : ℕ) : Type 0 where
  pub first : be_at s 24 8 ≡ 0
  pub pair : be_at s 32 2 ≡ 0
  pub word : be_at s 36 4 ≡ 0
  pub kind : Present (get_or s 34 0) (get_or s 35 0)
  pub counts : Kind (get_or s 34 0) n
  pub sense : be_at s 40 4 ≡ sense_count (get_or s 34 0) n
  pub response : be_at s 44 4 ≡ response_count (get_or s 34 0) n

pub rowed : (s : List ℕ) (n : ℕ) → Says (iu_blank s && iu_listed (iu_of s) n) (Rowed s n)
rowed s n = means (both (both (equal _ 0) (both (equal _ 0) (equal _ 0))) (both (present_listed_lem _ _) (both (kind _ n) (both (equal _ _) (equal _ _))))) (
  λ p. record {
    first = p.0.0;
    pair = p.0.1.0;
    word = p.0.1.1;
    kind = p.1.0;
    counts = p.1.1.0;
    sense = p.1.1.1.0;
    response = p.1.1.1.1;
  },
  λ (l : Rowed s n). ((l.first, (l.pair, l.word)), (l.kind, (l.counts, (l.sense, l.response)))),
)
