-- No state is stuck: a write alone always finds a free tag, since it holds fewer than there are; its XFER_RDY is ACKed, and each word that is taken
-- brings the next byte nearer to the end. Assumes nothing.
use Prim.Native.Nat.{ℕ, zero, suc, ◌+◌, ◌-◌, ◌%◌, ◌^◌, ◌≤◌, ◌<◌, min}
use mathlib.Core.Bool.{true}
use mathlib.Core.List.{[], ◌∷◌}
use mathlib.Core.Logic.{◌⊎◌, inl, inr}
use mathlib.Core.Path.{◌≡◌, refl, ap, subst, ◌∙◌}
use native.Mathlib.Omega.{arith}
use lib.Count.{ones}
use lib.Pow.{pow_pos}
use Rattle.laws.specs.Tags.{digit}
use Rattle.laws.proofs.Counts.{spare}
use Rattle.laws.proofs.Tags.{digit_zero, apart, one_own, ones_one}
use Rattle.laws.proofs.Tests.{below_or_not}
use Rattle.write.specs.Rules.{end_of, until, keeps_rules}
use Rattle.write.specs.Steps.{with, unfinished, free, asked, acked}
use Rattle.write.specs.Calls.{Call, xfer, ack, got, step_of, run, Typed, Alone, Finishes}
use Rattle.write.specs.Grounds.{Unfinished, Within}
use Rattle.write.specs.declared.Write.{Write}
use Rattle.write.specs.declared.Stepped.{Stepped}
use Rattle.write.specs.declared.Phase.{Phase}
use Rattle.write.proofs.Built.{awaited_own}
use Rattle.write.proofs.Kept.{four, few, Placed, first, tried, under, Started, PhaseRule, Fresh, Held}
use Rattle.write.proofs.Leaves.{Good}
use Rattle.write.proofs.Moves.{xfer_step_lem, ack_step_lem, got_before, got_more, got_done}
use Rattle.write.proofs.Phases.{work_phase}
use Rattle.write.proofs.Picks.{Free, previous_other, some_free}
use Rattle.write.proofs.Ranges.{until_more}
use Rattle.write.proofs.Sound.{underway, rule_at, step_good, good, kept}

by_call : (k : ℕ) (s : Write) (c : Call) {a : Stepped} → Alone c → step_of k c s ≡ a → Finishes k a.state → Finishes k s
by_call k s c one e w = record {
  calls = c ∷ w.calls;
  alone = (one, w.alone);
  done = ap (λ (x : Stepped). (run k w.calls x.state).phase) e ∙ w.done;
}

-- what a call leaves is good
after : (k : ℕ) (s : Write) (c : Call) {a : Stepped} → Good k s → Typed k c → step_of k c s ≡ a → Good k a.state
after k s c g typed e = subst (λ (x : Stepped). Good k x.state) e (step_good k s g c typed)

module _ (k : ℕ) (two : 2 ≤ k) where
  -- a tag that is neither the write's own nor the previous
  one_free : (s : Write) → Placed k s → Fresh s ⊎ Held (ones s.tags) s.used s → (t : ℕ) × (t < k) × Free 0 t s
  one_free s placed (inl fresh) =
      let o = spare k (2 ^ s.tag) (omega (arith, two, ones_one s.tag)) in (
        o.tag,
        o.less,
        record {
          others = digit_zero o.tag;
          own = ap (λ (n : ℕ). digit n o.tag) fresh.0 ∙ digit_zero o.tag;
          last = previous_other s o.tag (apart (2 ^ s.tag) o.tag s.tag o.is (one_own s.tag));
        },
      )
  one_free s placed (inr held) =
      let most = held.1.0 in
      let used = tried k s placed in
      let room = few k s placed.0 in
      let o = spare k s.tags (omega (arith, most, used, room)) in (
        o.tag,
        o.less,
        record {
          others = digit_zero o.tag;
          own = o.is;
          last = previous_other s o.tag (apart s.tags o.tag s.tag o.is held.0);
        },
      )

  -- the ACK of one that is out
  wait_on : (s : Write) → Good k s → s.phase ≡ Phase.Wait → (Good k (acked s).state → Finishes k (acked s).state) → Finishes k s
  wait_on s g e go = let step = ack_step_lem k s (kept k s g) e in by_call k s ack tt step (go (after k s ack g tt step))

  -- an XFER_RDY and its ACK
  ask_on : (s : Write) → Good k s → s.phase ≡ Phase.Ask
      → ((t : Write) → Good k t → t.phase ≡ Phase.Take → t.next ≡ s.next → end_of t ≡ end_of s → Finishes k t) → Finishes k s
  ask_on s g e go =
      let w = underway k s g (ap unfinished e) in
      let f = one_free s w.0 (rule_at k s g Phase.Ask e w).1.1 in
      let l = some_free k 0 s (pow_pos k) g.small (under k s w.0) f.0 f.1 f.2 in
      let step = xfer_step_lem k s (kept k s g) 0 e l in
      let out : Write = (asked (free k 0 s) s).state in
      by_call k s (xfer 0) refl step
      (wait_on out (after k s (xfer 0) g (pow_pos k) step) refl (λ h. go (acked out).state h refl refl refl))

  -- a word of data, or what is left of the range; and where that is full the next one's XFER_RDY
  take_on : (s : Write) → Good k s → s.phase ≡ Phase.Take
      → ((t : Write) → Good k t → t.phase ≡ Phase.Take → s.next < t.next → end_of t ≡ end_of s → Finishes k t) → Finishes k s
  take_on s g e go = by (below_or_not (s.next + n) (until s)) (below_or_not (s.next + n) (end_of s))
    where
      w : Started k s
      w = underway k s g (ap unfinished e)

      rule : PhaseRule (ones s.tags) Phase.Take s
      rule = rule_at k s g Phase.Take e w

      n : ℕ
      n = min 4 (until s - s.next)

      room : s.next < until s
      room = until_more s (four k s w.0.0) (first k s w.0) rule.0.0

      own : digit s.tags s.tag ≡ 1
      own = awaited_own (ones s.tags) s rule.1

      whole : (until s - s.next < 4) ⊎ (4 ≤ until s - s.next) → (n % 4 ≡ 0) ⊎ (s.next + n ≡ until s)
      whole (inl l) = inr (omega (arith, l, room))
      whole (inr l) = inl (omega (arith, l))

      lies : Within s.next n s
      lies = record { from = omega arith; to = omega (arith, room); words = whole (below_or_not (until s - s.next) 4) }

      c : Call
      c = got s.tag s.next n

      by : (s.next + n < until s) ⊎ (until s ≤ s.next + n) → (s.next + n < end_of s) ⊎ (end_of s ≤ s.next + n) → Finishes k s
      by (inl l) _ =
          let step = got_before k s (kept k s g) n e own (omega (arith, room)) (omega arith) lies l in
          by_call k s c tt step (go (with s (s.next + n) s.tag (2 ^ s.tag) s.used Phase.Take) (after k s c g tt step) refl (omega (arith, room)) refl)
      by (inr l) (inl m) =
          let step = got_more k s (kept k s g) n e own (omega (arith, room)) (omega arith) lies l m in
          by_call k s c tt step
          (ask_on (with s (s.next + n) s.tag 0 s.used Phase.Ask) (after k s c g tt step) refl
          (λ t h p at end. go t h p (omega (arith, room, at)) end))
      by (inr l) (inr m) =
          let step = got_done k s (kept k s g) n e own (omega (arith, room)) (omega arith) lies l m in
          by_call k s c tt step (record { calls = []; alone = tt; done = refl })

  -- until no byte is left
  taking : (left : ℕ) (s : Write) → Good k s → s.phase ≡ Phase.Take → end_of s ≤ s.next + left → Finishes k s
  taking zero s g e l =
      let room = (rule_at k s g Phase.Take e (underway k s g (ap unfinished e))).0.0 in
      absurd (omega (arith, room, l))
  taking (suc left) s g e l = take_on s g e (λ t h p more end. taking left t h p (omega (arith, l, more, end)))

-- from every unfinished state that keeps its rules some calls, none of which names another write's tag, take every byte
pub unstuck : (k : ℕ) → 2 ≤ k → (s : Write) → s.tags < 2 ^ k → keeps_rules k s ≡ true → unfinished s.phase ≡ true → Finishes k s
unstuck k two s small keeps u = by (work_phase s.phase u)
  where
    g : Good k s
    g = good k s keeps small

    all : (t : Write) → Good k t → t.phase ≡ Phase.Take → Finishes k t
    all t h e = taking k two (end_of t) t h e (omega arith)

    by : Unfinished s.phase → Finishes k s
    by (inl e) = ask_on k two s g e (λ t h p at end. all t h p)
    by (inr (inl e)) = wait_on k two s g e (λ h. all (acked s).state h refl)
    by (inr (inr e)) = all s g e
