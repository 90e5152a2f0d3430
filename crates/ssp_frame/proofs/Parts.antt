-- A frame that ends in fill is a header, a row of fields, the data and its fill, whatever the header and the row are: what a writer
-- leaves is read back, and what was read makes up every byte. Assumes nothing.
use mathlib.Core.Path.{◌≡◌, refl, ◌∙◌, ap, sym}
use mathlib.Core.Bool.{true}
use mathlib.Core.List.{List, ◌++◌, append_assoc}
use Prim.Native.Nat.{ℕ, ◌+◌, ◌-◌, ◌%◌, ◌<◌, ◌≤◌}
use native.Mathlib.Nat.{add_assoc}
use native.Mathlib.Omega.{arith}
use lib.ListN.{length, get_or, take, drop, replicate, length-append, length-drop, length-replicate, take-append-drop}
use lib.Seq.{take_all, drop-drop, length-take-le}
use borrow.Author.Tests.{eq-eqb}
use Rattle.wire.specs.Be.{be_at}
use Rattle.wire.specs.Fields.{lay_bytes}
use Rattle.wire.proofs.Laws.{zeros, zeros_behind, known_back}
use Rattle.ssp_frame.specs.Header.{header_fields, header_of, is_blank}
use Rattle.ssp_frame.specs.Data.{fill_of, padded, filled}
use Rattle.ssp_frame.specs.declared.header.Header.{Header}
use Rattle.ssp_frame.proofs.Fields.{Blank, blank}
use Rattle.ssp_frame.proofs.Heads.{Widths, header_back, header_forth}

-- a front of any length, the data and its fill
pub padded_long : (front body : List ℕ) → length (front ++ padded body) ≡ length front + length body + fill_of (length body)
padded_long front body =
    let f = fill_of (length body) in
    length-append front (padded body)
    ∙ ap (λ (m : ℕ). length front + m) (length-append body (replicate f 0) ∙ ap (λ (m : ℕ). length body + m) (length-replicate f 0))
    ∙ sym (add_assoc (length front) (length body) f)

padded_filled : (front body : List ℕ) → get_or (front ++ padded body) 11 0 ≡ fill_of (length body) → filled (front ++ padded body) ≡ true
padded_filled front body count =
    let s = front ++ padded body in
    let f = fill_of (length body) in
    let at : length s - f ≡ length (front ++ body) = omega (arith, padded_long front body, length-append front body) in
    let none : be_at s (length s - f) f ≡ 0 = (λ i. be_at (sym (append_assoc front body (replicate f 0)) i) (at i) f) ∙ zeros_behind (front ++ body) f in
    eq-eqb _ 0 (ap (λ (k : ℕ). be_at s (length s - k) k) count ∙ none)

-- what a writer leaves
module _ (h : Header) (row body : List ℕ) where
  abbrev pub made : List ℕ
  made = (lay_bytes (header_fields h) ++ row) ++ padded body

  -- and what a reader finds there
  pub record Made : Type 0 where
    pub long : length made ≡ 24 + length row + length body + fill_of (length body)
    pub back : header_of made ≡ h
    pub blank : is_blank made ≡ true
    pub full : filled made ≡ true

  pub is_made : Widths h → h.fill ≡ fill_of (length body) → Made
  is_made w count =
      let front = lay_bytes (header_fields h) ++ row in
      let back : header_of made ≡ h = header_back h (row ++ padded body) w in
      let fill : get_or made 11 0 ≡ h.fill = ap (λ (g : Header). g.fill) back in
      record {
        long = omega (arith, padded_long front body, length-append (lay_bytes (header_fields h)) row);
        back = back;
        blank = (blank made).1 (record { gap = refl; pair = refl; fill = omega (arith, fill, w.fill); word = refl });
        full = padded_filled front body (fill ∙ count);
      }

-- a buffer of k bytes, n of data and c of fill, k and all of it multiples of four
pub record Ends (k n c : ℕ) (s : List ℕ) : Type 0 where
  pub front : k % 4 ≡ 0
  pub four : length s % 4 ≡ 0
  pub few : c < 4
  pub end : k + n + c ≡ length s

module _ (k n c : ℕ) (s : List ℕ) (e : Ends k n c s) where
  pub fill_is : fill_of n ≡ c
  fill_is = omega (arith, e.front, e.four, e.few, e.end)

  pub body_long : length (take n (drop k s)) ≡ n
  body_long = length-take-le n (drop k s) (omega (arith, length-drop k s, e.end))

  pub whole : ((i : ℕ) → get_or s i 0 < 256) → be_at s (length s - c) c ≡ 0 → take k s ++ padded (take n (drop k s)) ≡ s
  whole small none =
      let body = take n (drop k s) in
      let from : k + n ≡ length s - c = omega (arith, e.end) in
      let tail : replicate c 0 ≡ drop n (drop k s) =
      sym (zeros c)
      ∙ known_back s (length s - c) c small (omega (arith, e.end)) none
      ∙ take_all c (drop (length s - c) s) (omega (arith, length-drop (length s - c) s, e.end))
      ∙ sym (drop-drop n k s ∙ ap (λ (m : ℕ). drop m s) from) in
      ap (λ (m : ℕ). take k s ++ (body ++ replicate m 0)) (ap fill_of body_long ∙ fill_is)
      ∙ (λ i. take k s ++ (body ++ tail i))
      ∙ ap (λ (l : List ℕ). take k s ++ l) (take-append-drop n (drop k s))
      ∙ take-append-drop k s

-- the header that was read is the first 24 bytes
pub header_is : (s : List ℕ) {h : Header} → ((i : ℕ) → get_or s i 0 < 256) → 24 ≤ length s → Blank s → h ≡ header_of s → lay_bytes (header_fields h) ≡ take 24 s
header_is s small long b e = ap (λ (g : Header). lay_bytes (header_fields g)) e ∙ header_forth s small long b.gap b.pair b.word
