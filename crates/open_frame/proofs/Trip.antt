-- Reading undoes writing, since each field of the layout is read where it was written; and writing undoes reading, but for the
-- bytes that are not carried, since the fields read fill all the others. Assumes nothing.
use Rattle.std.specs.Prelude.{Err, Ok}
use mathlib.Core.Path.{◌≡◌, refl, ◌∙◌, ap, sym, subst}
use mathlib.Core.Bool.{true, ◌&&◌}
use mathlib.Core.List.{List, [], ◌∷◌, ◌++◌}
use Prim.Native.Nat.{ℕ, ◌/◌, ◌%◌, ◌<◌}
use native.Mathlib.Omega.{arith}
use lib.Dec.{eqb}
use lib.ListN.{length, get_or, take, drop}
use borrow.Author.Tests.{eq-eqb, eqb-true}
use Rattle.laws.proofs.Bools.{and_left, and_right, and_true}
use Rattle.laws.proofs.Lists.{spread_is}
use Rattle.wire.proofs.Laws.{be_at-be_bytes, be_bytes-be_at}
use Rattle.refusals.proofs.Frames.{by_none, passed}
use Rattle.refusals.specs.declared.Refusal.{Refusal}
use Rattle.open_frame.specs.Open.{byte0, byte1, open_bytes, head_of, frame_of, not_carried, cleared, head_listed, Widths, typed, read_open}
use Rattle.open_frame.specs.declared.OpenFrame.{OpenFrame}
use Rattle.open_frame.proofs.Bytes.{Split, split, byte0_back, byte1_back}
use Rattle.open_frame.proofs.Fields.{Listed, listed_is}

frame_back : (f : OpenFrame) → head_listed f.head ≡ true → Widths f → frame_of (open_bytes f) ≡ f
frame_back f ok w =
    let h = f.head in
    let l : Listed h = listed_is h ok in
    let sp : Split h.initiator h.protocol h.features h.rate = split h.initiator h.protocol h.features h.rate l.initiator (omega (arith, l.protocol)) l.features (omega (arith, l.most)) in
    let whole0 : byte0 h.initiator h.protocol % 256 ≡ byte0 h.initiator h.protocol = omega (arith, l.initiator, l.protocol) in
    let whole1 : byte1 h.features h.rate % 256 ≡ byte1 h.features h.rate = omega (arith, l.features, l.most) in
    let pbc : f.pbc.0 % 256 ≡ f.pbc.0 = omega (arith, w.pbc) in
    λ i. record {
      head = record {
        initiator = (ap (λ (b : ℕ). b / 128) whole0 ∙ sp.initiator) i;
        protocol = (ap (λ (b : ℕ). b / 16 % 8) whole0 ∙ sp.protocol) i;
        features = (ap (λ (b : ℕ). b / 16) whole1 ∙ sp.features) i;
        rate = (ap (λ (b : ℕ). b % 16) whole1 ∙ sp.rate) i;
        tag = be_at-be_bytes 2 h.tag w.tag i;
        destination = be_at-be_bytes 8 h.destination w.destination i;
        source = be_at-be_bytes 8 h.source w.source i;
      };
      pbc = record { 0 = pbc i };
      awt = record { 0 = be_at-be_bytes 2 f.awt.0 w.awt i };
    }

-- ROUND TRIP 1: reading what was written
pub read_written : (f : OpenFrame) → head_listed f.head ≡ true → Widths f → read_open (open_bytes f) ≡ Ok f
unfolding read_open
read_written f ok w =
    let h = f.head in
    let l : Listed h = listed_is h ok in
    let same = frame_back f ok w in
    let kind : byte0 h.initiator h.protocol % 256 % 16 ≡ 1 = omega (arith, l.initiator, l.protocol) in
    let fine = and_true (eq-eqb (byte0 h.initiator h.protocol % 256 % 16) 1 kind) (ap (λ (g : OpenFrame). head_listed g.head) same ∙ ok) in
    sym (by_none Err (Ok (frame_of (open_bytes f))) {s = true} refl fine) ∙ ap Ok same

-- what a reader's frame says of the buffer
pub record Found (s : List ℕ) (f : OpenFrame) : Type 0 where
  pub long : length s ≡ 28
  pub kind : get_or s 0 0 % 16 ≡ 1
  pub listed : head_listed (head_of s) ≡ true
  pub same : frame_of s ≡ f

apart : (f : OpenFrame) (k : Refusal) → Err k ≡ Ok f → ⊥
apart f k e = let z : ◌≡◌ {A = ℕ} 0 1 = cc in omega arith

pub found : (s : List ℕ) (f : OpenFrame) → read_open s ≡ Ok f → Found s f
unfolding read_open
found s f e =
    let p = passed Err (Ok (frame_of s)) (Ok f) (apart f) (eqb (length s) 28) (typed s && head_listed (head_of s)) e in
    record {
      long = eqb-true (length s) 28 p.0;
      kind = eqb-true (get_or s 0 0 % 16) 1 (and_left (typed s) _ p.1.0);
      listed = and_right (typed s) _ p.1.0;
      same = cc p.1.1;
    }

-- a frame that was read has fields of OPEN
pub read_listed : (s : List ℕ) (f : OpenFrame) → read_open s ≡ Ok f → Listed f.head
read_listed s f e = let r = found s f e in listed_is f.head (subst (λ (g : OpenFrame). head_listed g.head ≡ true) r.same r.listed)

abbrev parts : List ℕ → List ℕ
parts s =
    get_or s 0 0
    ∷ get_or s 1 0
    ∷ (take 2 (drop 2 s)
    ++ (take 8 (drop 4 s)
    ++ (take 8 (drop 12 s)
    ++ (0 ∷ get_or s 21 0 ∷ (take 2 (drop 22 s) ++ (0 ∷ 0 ∷ 0 ∷ 0 ∷ []))))))

parts_are : (s : List ℕ) → length s ≡ 28 → parts s ≡ cleared not_carried s
parts_are s l = subst (λ (x : List ℕ). parts x ≡ cleared not_carried x) (sym (spread_is 28 s l)) refl

bytes_back : (s : List ℕ) → ((i : ℕ) → get_or s i 0 < 256) → length s ≡ 28 → get_or s 0 0 % 16 ≡ 1 → open_bytes (frame_of s) ≡ parts s
bytes_back s small l k =
    let b0 = get_or s 0 0 in
    let b1 = get_or s 1 0 in
    let e0 : byte0 (b0 / 128) (b0 / 16 % 8) % 256 ≡ b0 = omega (arith, byte0_back b0 k, small 0) in
    let e1 : byte1 (b1 / 16) (b1 % 16) % 256 ≡ b1 = omega (arith, byte1_back b1, small 1) in
    let e2 = be_bytes-be_at s 2 2 small (omega arith) in
    let e4 = be_bytes-be_at s 4 8 small (omega arith) in
    let e12 = be_bytes-be_at s 12 8 small (omega arith) in
    let e21 : get_or s 21 0 % 256 ≡ get_or s 21 0 = omega (arith, small 21) in
    let e22 = be_bytes-be_at s 22 2 small (omega arith) in
    λ i. e0 i ∷ e1 i ∷ (e2 i ++ (e4 i ++ (e12 i ++ (0 ∷ e21 i ∷ (e22 i ++ (0 ∷ 0 ∷ 0 ∷ 0 ∷ []))))))

-- ROUND TRIP 2: writing what was read
pub written_read : (s : List ℕ) (f : OpenFrame) → ((i : ℕ) → get_or s i 0 < 256) → read_open s ≡ Ok f → open_bytes f ≡ cleared not_carried s
written_read s f small e =
    let r = found s f e in
    ap open_bytes (sym r.same) ∙ bytes_back s small r.long r.kind ∙ parts_are s r.long
