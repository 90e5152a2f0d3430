-- The header's fields lie side by side in six words, so that words are split and joined by division. Assumes nothing.
use mathlib.Core.Path.{◌≡◌, ◌∙◌, ap}
use mathlib.Core.List.{List, [], ◌∷◌, ◌++◌}
use Prim.Native.Nat.{ℕ, ◌+◌, ◌-◌, ◌*◌, ◌/◌, ◌%◌, ◌^◌, ◌<◌, ◌≤◌}
use native.Mathlib.Omega.{arith}
use lib.ListN.{length, get_or}
use Rattle.wire.specs.Be.{be_at, be_bytes}
use Rattle.wire.specs.Fields.{Field, ◌bytes◌, lay_bytes}
use Rattle.wire.proofs.Laws.{high, low, one_byte, be_bytes_join, be_bytes_low}
use Rattle.ssp_frame.specs.Header.{header_fields}
use Rattle.ssp_frame.specs.Response.{iu_fields}
use Rattle.ssp_frame.specs.declared.header.Header.{Header}
use Rattle.ssp_frame.specs.declared.response.Iu.{Iu}

abbrev pub word_fields : Header → List Field
word_fields h =
    (4 bytes (h.kind * 16777216 + h.destination % 16777216))
    ∷ (4 bytes (h.source % 16777216))
    ∷ (4 bytes (h.bits * 256 + h.fill))
    ∷ (4 bytes 0)
    ∷ (4 bytes (h.tag * 65536 + h.transfer))
    ∷ (4 bytes h.offset)
    ∷ []

-- a word of a byte and the low three bytes of a number
apart : (a v : ℕ) → be_bytes 4 (a * 16777216 + v % 16777216) ≡ be_bytes 1 a ++ be_bytes 3 v
apart a v = be_bytes_join 1 3 a (v % 16777216) (omega arith) ∙ ap (λ (l : List ℕ). be_bytes 1 a ++ l) (be_bytes_low 3 v)

-- a word of two bytes alone
pub low_word : (a b : ℕ) → a < 256 → b < 256 → be_bytes 4 (a * 256 + b) ≡ (be_bytes 2 0 ++ be_bytes 1 a) ++ be_bytes 1 b
low_word a b ha hb =
    let low : a ≡ 0 * 256 + a = omega arith in
    be_bytes_join 3 1 a b hb ∙ ap (λ (l : List ℕ). l ++ be_bytes 1 b) (ap (be_bytes 3) low ∙ be_bytes_join 2 1 0 a ha)

pub words_are : (h : Header) → h.bits < 256 → h.fill < 256 → h.transfer < 65536 → lay_bytes (word_fields h) ≡ lay_bytes (header_fields h)
words_are h bits fill transfer =
    let none : h.source % 16777216 ≡ 0 * 16777216 + h.source % 16777216 = omega arith in
    let to = apart h.kind h.destination in
    let from = ap (be_bytes 4) none ∙ apart 0 h.source in
    let last = low_word h.bits h.fill bits fill in
    let tags = be_bytes_join 2 2 h.tag h.transfer transfer in
    λ i. to i ++ (from i ++ (last i ++ (be_bytes 4 0 ++ (tags i ++ (be_bytes 4 h.offset ++ [])))))

-- the words of a list of bytes, split
module _ (s : List ℕ) (small : (i : ℕ) → get_or s i 0 < 256) where
  pub kind : be_at s 0 4 / 16777216 ≡ get_or s 0 0
  kind = high s small 0 1 3 ∙ one_byte s 0

  pub destination : be_at s 0 4 % 16777216 ≡ be_at s 1 3
  destination = low s small 0 1 3

  pub gap : be_at s 4 4 / 16777216 ≡ get_or s 4 0
  gap = high s small 4 1 3 ∙ one_byte s 4

  pub source : be_at s 4 4 % 16777216 ≡ be_at s 5 3
  source = low s small 4 1 3

  pub pair : (at : ℕ) → be_at s at 4 / 65536 ≡ be_at s at 2
  pair at = high s small at 2 2

  pub third : (at : ℕ) → be_at s at 4 / 256 % 256 ≡ get_or s (at + 2) 0
  third at = ap (λ (w : ℕ). w % 256) (high s small at 3 1) ∙ low s small at 2 1 ∙ one_byte s (at + 2)

  pub fourth : (at : ℕ) → be_at s at 4 % 256 ≡ get_or s (at + 3) 0
  fourth at = low s small at 3 1 ∙ one_byte s (at + 3)

  pub transfer : be_at s 16 4 % 65536 ≡ be_at s 18 2
  transfer = low s small 16 2 2

-- RESPONSE's row of fields, word by word
abbrev pub iu_words : Iu → List Field
iu_words u = (8 bytes 0) ∷ (4 bytes (u.present * 256 + u.status)) ∷ (4 bytes 0) ∷ (4 bytes u.sense) ∷ (4 bytes u.response) ∷ []

pub iu_words_are : (u : Iu) → u.present < 256 → u.status < 256 → lay_bytes (iu_words u) ≡ lay_bytes (iu_fields u)
iu_words_are u present status =
    let kind = low_word u.present u.status present status in
    λ i. be_bytes 8 0 ++ (kind i ++ (be_bytes 4 0 ++ (be_bytes 4 u.sense ++ (be_bytes 4 u.response ++ []))))

-- the last f bytes, as the low part of the last word
pub last_fill : (s : List ℕ) (f : ℕ) → ((i : ℕ) → get_or s i 0 < 256) → f < 4 → 4 ≤ length s → be_at s (length s - 4) 4 % 256 ^ f ≡ be_at s (length s - f) f
last_fill s f small few long =
    let four : 4 ≡ (4 - f) + f = omega arith in
    let from : length s - 4 + (4 - f) ≡ length s - f = omega arith in
    ap (λ (n : ℕ). be_at s (length s - 4) n % 256 ^ f) four ∙ low s small (length s - 4) (4 - f) f ∙ ap (λ (at : ℕ). be_at s at f) from
