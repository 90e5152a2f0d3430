-- Each test of lengths or fields is true exactly if every part of it holds. Assumes nothing.
use mathlib.Core.Path.{◌≡◌}
use mathlib.Core.Bool.{true, ◌&&◌}
use mathlib.Core.List.{List}
use Prim.Native.Nat.{ℕ, ◌%◌, ◌^◌, ◌≤◌, ◌<◌}
use lib.Dec.{ltb, leb}
use lib.ListN.{get_or}
use borrow.Author.Tests.{eqb-true, ltb-true, leb-true, eq-eqb, lt-ltb, le-leb}
use Rattle.laws.specs.Tests.{Says}
use Rattle.laws.proofs.Bools.{and_left, and_right, and_true}
use Rattle.laws.proofs.Tests.{less, equal, both, means}
use Rattle.wire.specs.Be.{be_at}
use Rattle.ssp_frame.specs.Header.{header_of, is_blank}
use Rattle.ssp_frame.specs.Data.{frame_end, data_sized, data_listed, frame_sized, kind_listed}
use Rattle.ssp_frame.specs.declared.data.DataHead.{DataHead}

-- data of n bytes, for an output of m
pub record Fitting (n m : ℕ) : Type 0 where
  pub most : n ≤ 1024
  pub least : 0 < n
  pub room : frame_end n ≤ m

pub fitting : (n m : ℕ) → data_sized n m ≡ true → Fitting n m
fitting n m h =
    let r = and_right (leb n 1024) _ h in
    record {
      most = leb-true n 1024 (and_left (leb n 1024) _ h);
      least = ltb-true 0 n (and_left (ltb 0 n) _ r);
      room = leb-true (frame_end n) m (and_right (ltb 0 n) _ r);
    }

pub is_fitting : (n m : ℕ) → Fitting n m → data_sized n m ≡ true
is_fitting n m f = and_true (le-leb n 1024 f.most) (and_true (lt-ltb 0 n f.least) (le-leb (frame_end n) m f.room))

-- the fields of DATA
pub record Listed (h : DataHead) : Type 0 where
  pub destination : h.destination < 256 ^ 3
  pub source : h.source < 256 ^ 3
  pub changing : h.changing < 2

pub listed_is : (h : DataHead) → data_listed h ≡ true → Listed h
listed_is h e =
    let r = and_right (ltb h.destination (256 ^ 3)) _ e in
    record {
      destination = ltb-true h.destination (256 ^ 3) (and_left (ltb h.destination (256 ^ 3)) _ e);
      source = ltb-true h.source (256 ^ 3) (and_left (ltb h.source (256 ^ 3)) _ r);
      changing = ltb-true h.changing 2 (and_right (ltb h.source (256 ^ 3)) _ r);
    }

pub is_listed : (h : DataHead) → Listed h → data_listed h ≡ true
is_listed h l = and_true (lt-ltb h.destination (256 ^ 3) l.destination) (and_true (lt-ltb h.source (256 ^ 3) l.source) (lt-ltb h.changing 2 l.changing))

-- a frame of n bytes
pub record Sized (n : ℕ) : Type 0 where
  pub least : 28 ≤ n
  pub most : n ≤ 1048
  pub four : n % 4 ≡ 0

pub sized : (n : ℕ) → frame_sized n ≡ true → Sized n
sized n h =
    let r = and_right (leb 28 n) _ h in
    record {
      least = leb-true 28 n (and_left (leb 28 n) _ h);
      most = leb-true n 1048 (and_left (leb n 1048) _ r);
      four = eqb-true (n % 4) 0 (and_right (leb n 1048) _ r);
    }

pub is_sized : (n : ℕ) → Sized n → frame_sized n ≡ true
is_sized n z = and_true (le-leb 28 n z.least) (and_true (le-leb n 1048 z.most) (eq-eqb (n % 4) 0 z.four))

-- what no field of a header holds
pub record Blank (s : List ℕ) : Type 0 where
  pub gap : get_or s 4 0 ≡ 0
  pub pair : be_at s 8 2 ≡ 0
  pub fill : get_or s 11 0 < 4
  pub word : be_at s 12 4 ≡ 0

pub blank : (s : List ℕ) → Says (is_blank s) (Blank s)
blank s = means (both (equal _ 0) (both (equal _ 0) (both (less _ 4) (equal _ 0)))) (
  λ p. record { gap = p.0; pair = p.1.0; fill = p.1.1.0; word = p.1.1.1 },
  λ (b : Blank s). (b.gap, (b.pair, (b.fill, b.word))),
)

-- a header of DATA, byte by byte
pub record Laid (s : List ℕ) : Type 0 where
  pub gap : get_or s 4 0 ≡ 0
  pub pair : be_at s 8 2 ≡ 0
  pub fill : get_or s 11 0 < 4
  pub word : be_at s 12 4 ≡ 0
  pub kind : get_or s 0 0 ≡ 1
  pub bits : get_or s 10 0 < 2
  pub ones : be_at s 18 2 ≡ 65535

pub laid : (s : List ℕ) → is_blank s && kind_listed (header_of s) ≡ true → Laid s
laid s h =
    let b = (blank s).0 (and_left (is_blank s) _ h) in
    let k = (both (equal _ 1) (both (less _ 2) (equal _ 65535))).0 (and_right (is_blank s) _ h) in
    record { gap = b.gap; pair = b.pair; fill = b.fill; word = b.word; kind = k.0; bits = k.1.0; ones = k.1.1 }

pub is_laid : (s : List ℕ) → Laid s → is_blank s && kind_listed (header_of s) ≡ true
is_laid s l =
    and_true
    ((blank s).1 (record { gap = l.gap; pair = l.pair; fill = l.fill; word = l.word }))
    ((both (equal _ 1) (both (less _ 2) (equal _ 65535))).1 (l.kind, (l.bits, l.ones)))
