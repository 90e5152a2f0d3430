-- Where a range begins and ends: whole ranges lie behind B, so the next byte is in just one of them, and the byte behind a range is the next
-- one's first. Assumes nothing.
use Prim.Native.Nat.{ℕ, ◌+◌, ◌-◌, ◌*◌, ◌/◌, ◌%◌, ◌≤◌, ◌<◌}
use mathlib.Core.Logic.{◌↔◌}
use mathlib.Core.Path.{◌≡◌, sym, ap, ◌∙◌}
use native.Mathlib.Omega.{arith}
use native.Mathlib.Nat.{div-add-mod', div-mul-le_self, lt-div-mul-add, div-eq_of_lt-le, zero-mod, mul-mod_left, mul_assoc}
use Rattle.write.specs.Rules.{end_of, range_of, until}
use Rattle.write.specs.declared.Write.{Write}

-- a whole number of ranges is one of words
pub words_of : (q x : ℕ) → x % 4 ≡ 0 → q * x % 4 ≡ 0
words_of q x e =
    let quarter : x ≡ x / 4 * 4 = omega (arith, e) in
    let times : q * x ≡ q * (x / 4) * 4 = ap (λ (y : ℕ). q * y) quarter ∙ sym (mul_assoc q (x / 4) 4) in
    ap (λ (y : ℕ). y % 4) times ∙ mul-mod_left (q * (x / 4)) 4

pub words_in : (d x : ℕ) → x % 4 ≡ 0 → d % x ≡ 0 → d % 4 ≡ 0
words_in d x words e =
    let parts = div-add-mod' d x in
    let whole = words_of (d / x) x words in
    omega (arith, parts, whole, e)

-- where the range of the byte `to` begins
abbrev pub begins : Write → ℕ → ℕ
begins s to = s.offset + (to - s.offset) / s.burst * s.burst

module _ (s : Write) where
  pub until_most : until s ≤ end_of s
  until_most = omega arith

  pub until_near : until s ≤ range_of s + s.burst
  until_near = omega arith

  -- a range that doesn't end the request has X bytes
  pub until_whole : until s < end_of s → until s ≡ range_of s + s.burst
  until_whole l = omega (arith, l)

  -- B is the first range's first
  pub range_first : s.next ≡ s.offset → (s.next - s.offset) % s.burst ≡ 0
  range_first e = let none : s.next - s.offset ≡ 0 = omega (arith, e) in ap (λ (y : ℕ). y % s.burst) none ∙ zero-mod s.burst

  -- the byte behind a range is the next one's first
  pub range_next : (to : ℕ) → to ≡ range_of s + s.burst → (to - s.offset) % s.burst ≡ 0
  range_next to e =
      let whole : to - s.offset ≡ ((s.next - s.offset) / s.burst + 1) * s.burst = omega (arith, e) in
      ap (λ (y : ℕ). y % s.burst) whole ∙ mul-mod_left ((s.next - s.offset) / s.burst + 1) s.burst

  -- within a range it stays
  pub range_stays : (to : ℕ) → range_of s ≤ to → to < range_of s + s.burst → begins s to ≡ range_of s
  range_stays to least most =
      let same : (to - s.offset) / s.burst ≡ (s.next - s.offset) / s.burst =
      div-eq_of_lt-le {k = (s.next - s.offset) / s.burst} s.burst {m = to - s.offset} (omega (arith, least)) (omega (arith, most, least)) in
      ap (λ (q : ℕ). s.offset + q * s.burst) same

  -- a byte behind its first is no range's first
  pub range_inside : (to : ℕ) → range_of s < to → to < range_of s + s.burst → (to - s.offset) % s.burst ≡ 0 → ⊥
  range_inside to least most e =
      let parts = div-add-mod' (to - s.offset) s.burst in
      let same = range_stays to (omega (arith, least)) most in
      omega (arith, parts, same, e, least)

module _ (s : Write) (four : 4 ≤ s.burst) (first : s.offset ≤ s.next) where
  pub range_least : range_of s ≤ s.next
  range_least = let down = div-mul-le_self (s.next - s.offset) s.burst in omega (arith, down, first)

  pub range_most : s.next < range_of s + s.burst
  range_most =
      let up : s.next - s.offset < (s.next - s.offset) / s.burst * s.burst + s.burst = lt-div-mul-add (omega (arith, four)) in
      omega (arith, up, first)

  -- the next byte is a range's first exactly if the range begins with it
  pub at_range : ((s.next - s.offset) % s.burst ≡ 0) ↔ (range_of s ≡ s.next)
  at_range =
      let parts = div-add-mod' (s.next - s.offset) s.burst in
      (λ e. omega (arith, parts, e, first), λ e. omega (arith, parts, e, first))

  pub until_more : s.next < end_of s → s.next < until s
  until_more room = let up = range_most in omega (arith, up, room)

  module _ (words : s.burst % 4 ≡ 0) where
    pub range_words : (range_of s - s.offset) % 4 ≡ 0
    range_words = let whole = words_of ((s.next - s.offset) / s.burst) s.burst words in omega (arith, whole)

    -- where whole words were taken, a range has a word left at least
    pub word_left : (s.next - s.offset) % 4 ≡ 0 → s.next + 4 ≤ range_of s + s.burst
    word_left e = let whole = range_words in let up = range_most in let down = range_least in omega (arith, whole, up, down, words, e, first)
