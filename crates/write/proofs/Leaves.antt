-- What each row leaves keeps the rules: an XFER_RDY adds a tag, its failure a retry, and data moves the next byte within its range or to the next
-- one's first. Assumes nothing.
use Rattle.std.specs.Prelude.{Ok}
use Prim.Native.Nat.{ℕ, ◌+◌, ◌-◌, ◌%◌, ◌^◌, ◌≤◌, ◌<◌}
use mathlib.Core.Logic.{◌⊎◌, inl, inr}
use mathlib.Core.Path.{◌≡◌, refl, ap}
use native.Mathlib.Omega.{arith}
use lib.Count.{ones}
use lib.Dec.{ltb, leb}
use lib.Pow.{pow_pos, pow-lt}
use borrow.Author.Tests.{ltb-true, ltb-false, leb-true, leb-false}
use Rattle.laws.specs.Tags.{digit}
use Rattle.laws.proofs.Bools.{by_test}
use Rattle.laws.proofs.Tags.{added, sum_small}
use Rattle.write.specs.Rules.{end_of, range_of, until, unstarted}
use Rattle.write.specs.Steps.{say, with, started, free, asked, acked, missed, taken, ended}
use Rattle.write.specs.Grounds.{InRange}
use Rattle.write.specs.declared.Write.{Write}
use Rattle.write.specs.declared.Stepped.{Stepped}
use Rattle.write.specs.declared.Answer.{Answer}
use Rattle.write.specs.declared.Phase.{Phase}
use Rattle.write.proofs.Kept.{Setup, words, four, Placed, first, last, tried, under, Partway, AskRule, OutRule, Fresh, Held, Counted, Started}
use Rattle.write.proofs.Picks.{picked}
use Rattle.write.proofs.Ranges.{range_first, range_least, range_next, range_inside, until_near, until_whole, words_in}

-- it keeps its rules, and its tags are below k
pub record Good (k : ℕ) (s : Write) : Type 0 where
  pub rules : (s ≡ unstarted) ⊎ Started k s
  pub small : s.tags < 2 ^ k

abbrev pub Leaves : ℕ → Stepped → Type 0
Leaves k st = Good k st.state

-- a set of no tag counts none
pub none_count : (n : ℕ) → n ≡ 0 → ones n ≡ 0
unfolding ones
none_count n e = ap ones e

pub starts : (k b n x r : ℕ) → InRange k b n x r → Good k (started b n x r)
starts k b n x r h =
    let some = h.0 in
    let positive = h.1.1.1.1 in
    record {
      rules = inr (
        (h, (omega arith, (omega arith, (omega arith, omega (arith, positive))))),
        ((omega (arith, some), omega arith), (range_first (started b n x r) refl, inl (refl, λ e. (refl, refl)))),
      );
      small = pow_pos k;
    }

module _ (k : ℕ) (s : Write) (placed : Placed k s) (small : s.tags < 2 ^ k) where
  least : s.offset ≤ s.next
  least = first k s placed

  most : s.used ≤ s.resends
  most = tried k s placed

  less : s.tag < k
  less = under k s placed

  -- other numbers in their ranges
  keeps : (next tag used : ℕ) → s.offset ≤ next → next ≤ end_of s → used ≤ s.resends → tag < k
      → Setup k s × ((s.offset ≤ next) × ((next ≤ end_of s) × ((used ≤ s.resends) × (tag < k))))
  keeps next tag used a b c d = (placed.0, (a, (b, (c, d))))

  -- an XFER_RDY counts one tag more
  one_more : (t : ℕ) → digit s.tags t ≡ 0 → Fresh s ⊎ Held (ones s.tags) s.used s
      → Counted (ones (s.tags + 2 ^ t)) (s.used + 1) s
  one_more t out (inl fresh) =
      let more = (added s.tags t out).count in
      let none = none_count s.tags fresh.0 in
      (omega (arith, more, none), λ e. let u = (fresh.1 e).1 in omega (arith, more, none, u))
  one_more t out (inr held) =
      let more = (added s.tags t out).count in
      let few = held.1.0 in
      (omega (arith, more, few), λ e. let same = held.1.1 e in omega (arith, more, same))

  pub asks : (others : ℕ) → others < 2 ^ k → free k others s < k → Partway s × AskRule (ones s.tags) s → Leaves k (asked (free k others s) s)
  asks others typed l (partway, (at, way)) =
      let t = free k others s in
      let out = (picked k others s typed small less l).own in
      record {
        rules = inr (keeps s.next t s.used least (last k s placed) most l, (partway, (at, ((added s.tags t out).here, one_more t out way))));
        small = sum_small k s.tags t small l out;
      }

  module _ (rule : Partway s × OutRule (ones s.tags) s) where
    pub acks : Leaves k (acked s)
    acks = record { rules = inr (placed, (rule.0, inl rule.1)); small = small }

    pub misses : Leaves k (missed s)
    unfolding missed
    misses =
        by_test (Leaves k) (leb s.resends s.used)
        (λ t. let full = leb-true s.resends s.used t in
        let all = most in
        record { rules = inr (placed, (rule.0, (rule.1.0, (omega (arith, full, all), refl)))); small = pow_pos k })
        (λ t. let left = leb-false s.resends s.used t in
        record {
          rules = inr (keeps s.next s.tag (s.used + 1) least (last k s placed) (omega (arith, left)) less, (rule.0, (rule.1.0, inr rule.1.1)));
          small = small;
        })

  pub ends : Partway s → Leaves k (ended s)
  ends partway = record { rules = inr (placed, (partway, refl)); small = pow_pos k }

  -- data up to `to`, from the next byte on
  module _ (partway : Partway s) (to : ℕ) (some : s.next < to) (near : to ≤ until s) (whole : ((to - s.next) % 4 ≡ 0) ⊎ (to ≡ until s)) where
    past : s.offset < to
    past = let at = least in omega (arith, at, some)

    there : to ≤ end_of s → Setup k s × ((s.offset ≤ to) × ((to ≤ end_of s) × ((s.used ≤ s.resends) × (s.tag < k))))
    there l = let at = past in keeps to s.tag s.used (omega (arith, at)) l most less

    before : to < until s → Leaves k (say (Ok Answer.Ok) (with s to s.tag (2 ^ s.tag) s.used Phase.Take))
    before l =
        let begins = range_least s (four k s placed.0) least in
        let ends = until_near s in
        let inside = range_inside s to (omega (arith, begins, some)) (omega (arith, ends, l)) in
        record {
          rules = inr (there (omega (arith, l)), ((omega (arith, l), step whole), inr (inside, refl)));
          small = pow-lt {i = s.tag} {j = k} less;
        }
      where
        step : ((to - s.next) % 4 ≡ 0) ⊎ (to ≡ until s) → (to - s.offset) % 4 ≡ 0
        step (inl e) = let aligned = partway.1 in let at = least in omega (arith, e, aligned, at, some)
        step (inr e) = absurd (omega (arith, e, l))

    full : until s ≤ to → to < end_of s → Leaves k (say (Ok Answer.More) (with s to s.tag 0 s.used Phase.Ask))
    full l room =
        let is : to ≡ range_of s + s.burst = let e = until_whole s (omega (arith, near, room)) in omega (arith, e, near, l) in
        let at = range_next s to is in
        record {
          rules = inr (
            there (omega (arith, room)),
            ((room, words_in (to - s.offset) s.burst (words k s placed.0) at), (at, inl (refl, λ e. let after = past in absurd (omega (arith, e, after))))),
          );
          small = pow_pos k;
        }

    pub takes : Leaves k (taken to s)
    unfolding taken
    takes =
        by_test (Leaves k) (ltb to (until s)) (λ t. before (ltb-true to (until s) t))
        (λ t. by_test (Leaves k) (ltb to (end_of s)) (λ u. full (ltb-false to (until s) t) (ltb-true to (end_of s) u))
        (λ u. let over = ltb-false to (end_of s) u in
        record { rules = inr (there (omega (arith, near)), (omega (arith, over, near), refl)); small = pow_pos k }))
