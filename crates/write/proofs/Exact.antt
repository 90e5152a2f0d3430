-- The test of a write is exact for every number of tags of two or more: what calls leave passes it, and each state that passes it some START
-- and calls after it leave. Assumes nothing.
use Rattle.std.specs.Prelude.{Ok}
use Prim.Native.Nat.{ℕ, suc, ◌+◌, ◌-◌, ◌*◌, ◌/◌, ◌^◌, ◌≤◌, ◌<◌}
use mathlib.Core.Bool.{true}
use mathlib.Core.Logic.{◌⊎◌, inl, inr, ⊎_elim, ◌↔◌}
use mathlib.Core.Path.{◌≡◌, refl, sym, ap, subst, ◌∙◌}
use native.Mathlib.Omega.{arith}
use lib.Count.{ones}
use lib.Pow.{pow_pos}
use Rattle.laws.specs.Tags.{digit}
use Rattle.laws.proofs.Counts.{some_count, set_of}
use Rattle.laws.proofs.Tests.{same_or_not}
use Rattle.write.specs.Rules.{end_of, unstarted, keeps_rules}
use Rattle.write.specs.Steps.{say, with, start_step}
use Rattle.write.specs.Calls.{Call, start, run, step_of, Left, Reachable}
use Rattle.write.specs.declared.Write.{Write}
use Rattle.write.specs.declared.Stepped.{Stepped}
use Rattle.write.specs.declared.Answer.{Answer}
use Rattle.write.specs.declared.Phase.{Phase}
use Rattle.write.proofs.Built.{Takes, waits, word_inside, last_word, takes, due}
use Rattle.write.proofs.Kept.{in_range_lem, Setup, few, first, tried, under, Partway, AtRange, AskRule, OutRule, TakeRule, DoneRule, FailRule, PhaseRule, Started}
use Rattle.write.proofs.Leaves.{Good}
use Rattle.write.proofs.Ranges.{range_first}
use Rattle.write.proofs.Reach.{begun, Reach, same, at_start, fail_once, fail_last, deliver, cancel_take, Due}
use Rattle.write.proofs.Sound.{step_good, good, kept, run_good}

-- a state equals one of its setup by its numbers and its phase
itself : (s : Write) {n t ts u : ℕ} {p : Phase} → n ≡ s.next → t ≡ s.tag → ts ≡ s.tags → u ≡ s.used → p ≡ s.phase
    → with s n t ts u p ≡ s
itself s a b c d e = λ i. with s (a i) (b i) (c i) (d i) (e i)

module _ (k : ℕ) (two : 2 ≤ k) (s : Write) (started : Started k s) (small : s.tags < 2 ^ k) where
  setup : Setup k s
  setup = started.0.0

  most : s.used ≤ s.resends
  most = tried k s started.0

  less : s.tag < k
  less = under k s started.0

  -- data due at a word w behind B, under the tag and with the retries of s
  takes_at : (w p : ℕ) → p ≡ s.offset + w * 4 → p < end_of s → Takes k two s setup p s.tag s.used
  takes_at w p e room = takes k two s setup w p e room s.tag s.used less most

  module _ (partway : Partway s) where
    by_words : s.next ≡ s.offset + (s.next - s.offset) / 4 * 4
    by_words = let whole = partway.1 in let least = first k s started.0 in omega (arith, whole, least)

    asks : AtRange s → Due k s setup s.next
    asks = due k two s setup ((s.next - s.offset) / 4) s.next by_words partway.0

    data_due : Takes k two s setup s.next s.tag s.used
    data_due = takes_at ((s.next - s.offset) / 4) s.next by_words partway.0

    -- any set with the last one's tag in it
    waits_here : AtRange s → (c n u : ℕ) → n < 2 ^ k → digit n s.tag ≡ 1 → ones n ≡ suc c → c ≤ u → u ≤ s.resends → (s.next ≡ s.offset → c ≡ u)
        → Reach k s (with s s.next s.tag n u Phase.Wait)
    waits_here at c n u = waits k two s setup s.next (asks at) c n s.tag u

    out_reach : OutRule (ones s.tags) s → Reach k s (with s s.next s.tag s.tags s.used Phase.Wait)
    out_reach (at, (own, (count, still))) =
        let some = some_count s.tags s.tag own in
        waits_here at (ones s.tags - 1) s.tags s.used small own (omega (arith, some)) (omega (arith, count)) most
        (λ e. let q = still e in omega (arith, q))

    ask_reach : s.phase ≡ Phase.Ask → AskRule (ones s.tags) s → Reach k s s
    ask_reach p (at, inl (none, still)) = by (same_or_not s.next s.offset)
      where
        by : (s.next ≡ s.offset) ⊎ (s.next ≡ s.offset → ⊥) → Reach k s s
        by (inl e) = let q = still e in same k s setup (itself s (sym e) (sym q.0) (sym none) (sym q.1) (sym p)) (at_start k s setup)
        by (inr ne) = same k s setup (itself s refl refl (sym none) refl (sym p)) ((asks at).later ne s.tag s.used less most)
    ask_reach p (at, inr (own, (count, still))) =
        let some = some_count s.tags s.tag own in
        let l = most in
        let r = waits_here at (ones s.tags - 1) s.tags (s.used - 1) small own (omega (arith, some)) (omega (arith, count)) (omega (arith, l))
        (λ e. let q = still e in omega (arith, q)) in
        same k s setup (itself s refl refl refl (omega (arith, some, count)) (sym p))
        (fail_once k s setup s.next s.tag s.tags (s.used - 1) (omega (arith, some, count, l)) r)

    wait_reach : s.phase ≡ Phase.Wait → OutRule (ones s.tags) s → Reach k s s
    wait_reach p out = same k s setup (itself s refl refl refl refl (sym p)) (out_reach out)

    take_reach : s.phase ≡ Phase.Take → TakeRule (ones s.tags) s → Reach k s s
    take_reach p (inl out) =
        same k s setup (itself s refl refl refl refl (sym p)) (deliver k s setup s.next s.tag s.tags s.used (out_reach out))
    take_reach p (inr (off, only)) =
        let whole = partway.1 in
        let least = first k s started.0 in
        let past : s.offset + 4 ≤ s.next = let ne : s.next ≡ s.offset → ⊥ = λ e. off (range_first s e) in omega (arith, whole, least, ne) in
        let room = partway.0 in
        let before = takes_at ((s.next - s.offset) / 4 - 1) (s.next - 4) (omega (arith, whole, past)) (omega (arith, room)) in
        same k s setup (itself s refl refl (sym only) refl (sym p))
        (word_inside k two s setup (s.next - 4) s.tag s.used before s.next (omega (arith, past)) room off)

    fail_reach : s.phase ≡ Phase.Fail → FailRule s → Reach k s s
    fail_reach p (at, (all, none)) =
        let room = few k s setup in
        let own = set_of k s.tag s.used less (omega (arith, all, room)) in
        let r = waits_here at s.used own.set s.used own.small own.own own.count (omega arith) most (λ e. refl) in
        same k s setup (itself s refl refl (sym none) refl (sym p))
        (fail_last k s setup s.next s.tag own.set s.used (omega (arith, all)) r)

    end_reach : s.phase ≡ Phase.End → s.tags ≡ 0 → Reach k s s
    end_reach p none =
        same k s setup (itself s refl refl (sym none) refl (sym p))
        (cancel_take k s setup s.next s.tag data_due.tags s.used data_due.reach)

  done_reach : s.phase ≡ Phase.Done → DoneRule s → Reach k s s
  done_reach p (all, none) =
      let some = setup.0 in
      let before = takes_at ((s.count - 1) / 4) (s.offset + (s.count - 1) / 4 * 4) refl (omega (arith, some)) in
      same k s setup (itself s (sym all) refl (sym none) refl (sym p))
      (last_word k two s setup (s.offset + (s.count - 1) / 4 * 4) s.tag s.used before (omega (arith, some)))

  reach_at : (p : Phase) → s.phase ≡ p → PhaseRule (ones s.tags) p s → Reach k s s
  reach_at Phase.New p rule = absurd rule
  reach_at Phase.Ask p rule = ask_reach rule.0 p rule.1
  reach_at Phase.Wait p rule = wait_reach rule.0 p rule.1
  reach_at Phase.Take p rule = take_reach rule.0 p rule.1
  reach_at Phase.Done p rule = done_reach p rule
  reach_at Phase.Fail p rule = fail_reach rule.0 p rule.1
  reach_at Phase.End p rule = end_reach rule.0 p rule.1

  reached : Reach k s s
  reached = reach_at s.phase refl started.1

-- the state before START keeps the rules
unstarted_good : (k : ℕ) → Good k unstarted
unstarted_good k = record { rules = inl refl; small = pow_pos k }

-- so a START in range is taken
taken : (k : ℕ) (s : Write) → Setup k s → start_step k s.offset s.count s.burst s.resends unstarted ≡ say (Ok Answer.Ok) (begun s)
unfolding start_step
taken k s h = rw ((in_range_lem k s.offset s.count s.burst s.resends).1 h, kept k unstarted (unstarted_good k))

-- a state that passes the test is the one before START, or some START and calls leave it
pub reach : (k : ℕ) → 2 ≤ k → (s : Write) → s.tags < 2 ^ k → keeps_rules k s ≡ true → Reachable k s
reach k two s small e = ⊎_elim (λ z. inl z) (λ (w : Started k s). inr (left w (reached k two s w small))) (good k s e small).rules
  where
    left : Started k s → Reach k s s → Left k s
    left w r =
        let is = taken k s w.0.0 in
        record {
          b = s.offset;
          n = s.count;
          x = s.burst;
          r = s.resends;
          taken = ap (λ (x : Stepped). x.answer) is;
          calls = r.calls;
          typed = r.typed;
          leave = ap (λ (x : Stepped). run k r.calls x.state) is ∙ r.leave;
        }

-- what some START and calls leave passes it, and has its tags below k
pub left_good : (k : ℕ) (s : Write) → Reachable k s → Good k s
unfolding step_of
left_good k s (inl z) = subst (Good k) (sym z) (unstarted_good k)
left_good k s (inr l) =
    let c : Call = start l.b l.n l.x l.r in
    subst (Good k) l.leave (run_good k l.calls (step_of k c unstarted).state l.typed (step_good k unstarted (unstarted_good k) c tt))

-- the test takes exactly the states that are that before START or that some START and calls after it leave
pub exact : (k : ℕ) → 2 ≤ k → (s : Write) → s.tags < 2 ^ k → (keeps_rules k s ≡ true) ↔ Reachable k s
exact k two s small = (reach k two s small, λ r. kept k s (left_good k s r))
