-- Each set of tags is left by XFERs and NAKs, any of its members the last: take that one away, leave the rest, fail, and ask again with all lower
-- tags lent as others'. Behind it data is taken word by word, up to any word of the request. Assumes nothing.
use Prim.Native.Nat.{ℕ, zero, suc, ◌+◌, ◌-◌, ◌*◌, ◌%◌, ◌^◌, ◌≤◌, ◌<◌}
use mathlib.Core.Logic.{◌⊎◌, inl, inr}
use mathlib.Core.Path.{◌≡◌, refl, sym, ap, ◌∙◌}
use native.Mathlib.Omega.{arith}
use lib.Count.{ones}
use Rattle.laws.specs.Tags.{digit}
use Rattle.laws.proofs.Counts.{without, rest_count, rest_small, member, spare, alone, set_of}
use Rattle.laws.proofs.Tags.{digit_zero, apart, member_less, one_own, ones_one}
use Rattle.laws.proofs.Tests.{same_or_not, below_or_not}
use Rattle.write.specs.Rules.{end_of, range_of, until}
use Rattle.write.specs.Steps.{with}
use Rattle.write.specs.Calls.{got}
use Rattle.write.specs.Grounds.{Within}
use Rattle.write.specs.declared.Write.{Write}
use Rattle.write.specs.declared.Phase.{Phase}
use Rattle.write.proofs.Kept.{Setup, words, four, few, first, Partway, TakeRule, Started}
use Rattle.write.proofs.Moves.{got_before, got_more, got_done}
use Rattle.write.proofs.Picks.{previous_none, previous_other}
use Rattle.write.proofs.Ranges.{range_least, range_next, range_inside, word_left}
use Rattle.write.proofs.Reach.{alike, Reach, further, same, reach_good, reach_kept, at_start, send, fail_once, deliver, Due}
use Rattle.write.proofs.Sound.{underway, rule_at}

-- data is due under the awaited tag
pub awaited_own : (j : ℕ) (s : Write) → TakeRule j s → digit s.tags s.tag ≡ 1
awaited_own j s (inl out) = out.1.0
awaited_own j s (inr alone) = ap (λ (n : ℕ). digit n s.tag) alone.1 ∙ one_own s.tag

module _ (k : ℕ) (two : 2 ≤ k) (s : Write) (h : Setup k s) where
  -- c+1 tags, one of them the last: c retries of the range were used, and before it any number unless it is the first
  pub waits : (p : ℕ) → Due k s h p → (c n t u : ℕ) → n < 2 ^ k → digit n t ≡ 1 → ones n ≡ suc c → c ≤ u → u ≤ s.resends
      → (p ≡ s.offset → c ≡ u) → Reach k s (with s p t n u Phase.Wait)
  waits p due zero n t u small own count least most at = by (same_or_not p s.offset)
    where
      less : t < k
      less = member_less k n t small own

      is : 0 + 2 ^ t ≡ n
      is = let only = alone k n t small own count in omega (arith, only)

      by : (p ≡ s.offset) ⊎ (p ≡ s.offset → ⊥) → Reach k s (with s p t n u Phase.Wait)
      by (inl e) =
          same k s h (alike s refl refl is (at e))
          (send k s h p 0 0 0 t less (digit_zero t) (ap (λ (x : ℕ). digit x t) (previous_none (with s p 0 0 0 Phase.Ask) e refl) ∙ digit_zero t)
          (due.first e))
      by (inr ne) =
          let o = spare k (2 ^ t) (omega (arith, two, ones_one t)) in
          same k s h (alike s refl refl is refl)
          (send k s h p o.tag 0 u t less (digit_zero t)
          (previous_other (with s p o.tag 0 u Phase.Ask) t (λ e. apart (2 ^ t) o.tag t o.is (one_own t) (sym e)))
          (due.later ne o.tag u o.less most))
  waits p due (suc c) n t u small own count least most at =
      let w = without n t own in
      let fewer = rest_count n t w in
      let tiny = rest_small n t w k small in
      let m = member k w.rest tiny (omega (arith, fewer, count)) in
      let ne = apart w.rest t m.tag w.out m.is in
      let r = waits p due c w.rest m.tag (u - 1) tiny m.is (omega (arith, fewer, count)) (omega (arith, least)) (omega (arith, most))
      (λ e. let q = at e in omega (arith, q)) in
      let again = fail_once k s h p m.tag w.rest (u - 1) (omega (arith, least, most)) r in
      same k s h (alike s refl refl (sym w.is) (omega (arith, least)))
      (send k s h p m.tag w.rest (u - 1 + 1) t (member_less k n t small own) w.out
      (previous_other (with s p m.tag w.rest (u - 1 + 1) Phase.Ask) t ne) again)

  -- data is due at p, under tag t and with u retries used
  pub record Takes (p t u : ℕ) : Type 0 where
    pub tags : ℕ
    pub reach : Reach k s (with s p t tags u Phase.Take)

  -- of a range that can be asked for
  pub asked_takes : (p : ℕ) → Due k s h p → (t u : ℕ) → t < k → u ≤ s.resends → Takes p t u
  asked_takes p due t u less most =
      let room = few k s h in
      let all = set_of k t u less (omega (arith, most, room)) in
      let r = waits p due u all.set t u all.small all.own all.count (omega arith) most (λ e. refl) in
      record { tags = all.set; reach = deliver k s h p t all.set u r }

  -- a frame of data from there on
  module _ (q t u : ℕ) (w : Takes q t u) where
    abbrev now : Write
    now = with s q t w.tags u Phase.Take

    begun_now : Started k now
    begun_now = underway k now (reach_good k s h w.reach) refl

    rule : Partway now × TakeRule (ones w.tags) now
    rule = rule_at k now (reach_good k s h w.reach) Phase.Take refl begun_now

    own : digit w.tags t ≡ 1
    own = awaited_own (ones w.tags) now rule.1

    -- a word of the range is left
    ahead : q + 4 ≤ range_of now + s.burst
    ahead = word_left now (four k s h) (first k now begun_now.0) (words k s h) rule.0.1

    module _ (p : ℕ) (word : q + 4 ≡ p) (room : p < end_of s) where
      lies : Within q 4 now
      lies = let near = ahead in record { from = omega arith; to = omega (arith, near, word, room); words = inl refl }

      -- a word, up to a byte inside the range
      pub word_inside : ((p - s.offset) % s.burst ≡ 0 → ⊥) → Reach k s (with s p t (2 ^ t) u Phase.Take)
      word_inside off =
          same k s h (alike s word refl refl refl)
          (further k s h (got t q 4) tt w.reach (got_before k now (reach_kept k s h w.reach) 4 refl own (omega arith) (omega arith) lies before))
        where
          before : q + 4 < until now
          before = by (below_or_not p (range_of now + s.burst))
            where
              by : (p < range_of now + s.burst) ⊎ (range_of now + s.burst ≤ p) → q + 4 < until now
              by (inl l) = omega (arith, l, word, room)
              by (inr l) = let near = ahead in absurd (off (range_next now p (omega (arith, l, near, word))))

      -- or up to its end
      pub word_full : (p - s.offset) % s.burst ≡ 0 → Reach k s (with s p t 0 u Phase.Ask)
      word_full at =
          same k s h (alike s word refl refl refl)
          (further k s h (got t q 4) tt w.reach
          (got_more k now (reach_kept k s h w.reach) 4 refl own (omega arith) (omega arith) lies full (omega (arith, word, room))))
        where
          full : until now ≤ q + 4
          full = by (below_or_not p (range_of now + s.burst))
            where
              by : (p < range_of now + s.burst) ⊎ (range_of now + s.burst ≤ p) → until now ≤ q + 4
              by (inl l) =
                  let least = range_least now (four k s h) (first k now begun_now.0) in
                  absurd (range_inside now p (omega (arith, least, word)) l at)
              by (inr l) = omega (arith, l, word)

    -- the last word, or what is left of it
    pub last_word : end_of s ≤ q + 4 → Reach k s (with s (end_of s) t 0 u Phase.Done)
    last_word end =
        same k s h (alike s (omega (arith, before)) refl refl refl)
        (further k s h (got t q (end_of s - q)) tt w.reach
        (got_done k now (reach_kept k s h w.reach) (end_of s - q) refl own (omega (arith, before)) (omega (arith, end)) over
        (omega (arith, before)) (omega (arith, before))))
      where
        before : q < end_of s
        before = rule.0.0

        over : Within q (end_of s - q) now
        over =
            let near = ahead in
            record { from = omega arith; to = omega (arith, near, before, end); words = inr (omega (arith, near, before, end)) }

  -- so the range behind can be asked for
  next_due : (q p : ℕ) → q + 4 ≡ p → p < end_of s → ((t u : ℕ) → t < k → u ≤ s.resends → Takes q t u)
      → (p - s.offset) % s.burst ≡ 0 → Due k s h p
  next_due q p word room before at = record {
    first = λ e. absurd
        (let t = before 0 0 (omega (arith, two)) (omega arith) in
        let least = first k (now q 0 0 t) (begun_now q 0 0 t).0 in
        omega (arith, e, word, least));
    later = λ ne t u less most. word_full q t u (before t u less most) p word room at;
  }

  first_due : (p : ℕ) → p ≡ s.offset → Due k s h p
  first_due p e = record { first = λ q. same k s h (alike s (sym e) refl refl refl) (at_start k s h); later = λ ne t u less most. absurd (ne e) }

  -- up to any word
  next_takes : (q p : ℕ) → q + 4 ≡ p → p < end_of s → ((t u : ℕ) → t < k → u ≤ s.resends → Takes q t u)
      → (t u : ℕ) → t < k → u ≤ s.resends → Takes p t u
  next_takes q p word room before t u less most = by (same_or_not ((p - s.offset) % s.burst) 0)
    where
      by : ((p - s.offset) % s.burst ≡ 0) ⊎ ((p - s.offset) % s.burst ≡ 0 → ⊥) → Takes p t u
      by (inl at) = asked_takes p (next_due q p word room before at) t u less most
      by (inr off) = record { tags = 2 ^ t; reach = word_inside q t u (before t u less most) p word room off }

  pub takes : (w p : ℕ) → p ≡ s.offset + w * 4 → p < end_of s → (t u : ℕ) → t < k → u ≤ s.resends → Takes p t u
  takes zero p e room = asked_takes p (first_due p (omega (arith, e)))
  takes (suc w) p e room =
      next_takes (p - 4) p (omega (arith, e)) room (takes w (p - 4) (omega (arith, e)) (omega (arith, e, room)))

  pub due : (w p : ℕ) → p ≡ s.offset + w * 4 → p < end_of s → (p - s.offset) % s.burst ≡ 0 → Due k s h p
  due zero p e room at = first_due p (omega (arith, e))
  due (suc w) p e room at =
      next_due (p - 4) p (omega (arith, e)) room (takes w (p - 4) (omega (arith, e)) (omega (arith, e, room))) at
