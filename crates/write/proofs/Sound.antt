-- Whatever calls leave keeps the rules: a call that is refused leaves the state as it was, and each other what its row leaves. Assumes nothing.
use Rattle.std.specs.Prelude.{Ok}
use Prim.Native.Nat.{ℕ, ◌+◌, ◌-◌, ◌%◌, ◌^◌, ◌<◌}
use mathlib.Core.Bool.{true}
use mathlib.Core.List.{List, [], ◌∷◌}
use mathlib.Core.Logic.{◌⊎◌, inl, inr, ⊎_elim}
use mathlib.Core.Path.{◌≡◌, sym, ap, subst, ◌∙◌}
use native.Mathlib.Omega.{arith}
use lib.Count.{ones}
use borrow.Author.Tests.{leb-false, not-false}
use Rattle.laws.proofs.Bools.{never, nor, by_test}
use Rattle.refusals.specs.Causes.{refuse}
use Rattle.refusals.specs.declared.Refusal.{Refusal}
use Rattle.refusals.proofs.Causes.{by_causes}
use Rattle.write.specs.Rules.{until, unstarted, keeps_rules}
use Rattle.write.specs.Steps as steps
use Rattle.write.specs.Steps.{say, refused, unfinished, started, free, asked, acked, missed, awaited, ended}
use Rattle.write.specs.Steps.{start_causes, xfer_causes, answer_causes, got_causes, end_causes}
use Rattle.write.specs.Steps.{start_step, xfer_step, ack_step, miss_step, got_step, end_step}
use Rattle.write.specs.Calls.{Call, start, xfer, ack, nak, timeout, lost, got, nexus, cancel, step_of, run, Typed, AllTyped}
use Rattle.write.specs.Grounds.{Unfinished}
use Rattle.write.specs.declared.Write.{Write}
use Rattle.write.specs.declared.Stepped.{Stepped}
use Rattle.write.specs.declared.Answer.{Answer}
use Rattle.write.specs.declared.Phase.{Phase}
use Rattle.write.proofs.Kept.{in_range_lem, Placed, Partway, OutRule, PhaseRule, Started, rules_say}
use Rattle.write.proofs.Fits.{awaited_says, sized_says, fits_says}
use Rattle.write.proofs.Phases.{ask_phase, wait_phase, work_phase}
use Rattle.write.proofs.Leaves.{Good, Leaves, starts, asks, acks, misses, takes, ends}

module _ (k : ℕ) (s : Write) (g : Good k s) where
  -- an unfinished state has started
  pub underway : unfinished s.phase ≡ true → Started k s
  underway u =
      ⊎_elim (λ (z : s ≡ unstarted). absurd (never (ap (λ (t : Write). unfinished t.phase) (sym z) ∙ u))) (λ (w : Started k s). w) g.rules

  -- the rule of the phase that it is in
  pub rule_at : (p : Phase) → s.phase ≡ p → Started k s → PhaseRule (ones s.tags) p s
  rule_at p e w = subst (λ (q : Phase). PhaseRule (ones s.tags) q s) e w.1

  -- each unfinished phase has bytes due
  pub due : Started k s → Unfinished s.phase → Partway s
  due w (inl e) = (rule_at Phase.Ask e w).0
  due w (inr (inl e)) = (rule_at Phase.Wait e w).0
  due w (inr (inr e)) = (rule_at Phase.Take e w).0

  -- no refusal moves the state
  stays : (j : Refusal) → Leaves k (refused s j)
  stays j = g

  begins : (b n x r : ℕ) → Leaves k (start_step k b n x r s)
  unfolding start_step
  begins b n x r =
      by_causes (Leaves k) (refused s) stays (start_causes k b n x r s) (say (Ok Answer.Ok) (started b n x r))
      (λ off. starts k b n x r ((in_range_lem k b n x r).0 (not-false _ (nor _ _ off.0).0)))

  sends : (others : ℕ) → others < 2 ^ k → Leaves k (xfer_step k others s)
  unfolding xfer_step
  sends others typed =
      by_causes (Leaves k) (refused s) stays (xfer_causes k others s) (asked (free k others s) s)
      (λ off. let e = ask_phase s.phase (not-false _ off.1.0) in
      let w = underway (ap unfinished e) in
      asks k s w.0 g.small others typed (leb-false _ _ off.1.1.0) (rule_at Phase.Ask e w))

  -- an answer that is not refused
  answers : (a : Stepped) → (Placed k s → Partway s × OutRule (ones s.tags) s → Leaves k a) → Leaves k (refuse (refused s) (answer_causes k s) a)
  answers a next =
      by_causes (Leaves k) (refused s) stays (answer_causes k s) a
      (λ off. let e = wait_phase s.phase (not-false _ off.1.0) in
      let w = underway (ap unfinished e) in
      next w.0 (rule_at Phase.Wait e w))

  finish : Leaves k (end_step k s)
  unfolding end_step
  finish =
      by_causes (Leaves k) (refused s) stays (end_causes k s) (ended s)
      (λ off. let u = not-false _ off.1.0 in
      let w = underway u in
      ends k s w.0 g.small (due w (work_phase s.phase u)))

  receives : (t o n : ℕ) → Leaves k (got_step k t o n s)
  unfolding got_step steps.got
  receives t o n =
      by_causes (Leaves k) (refused s) stays (got_causes k t o n s) (steps.got t o n s)
      (λ off. let u = not-false _ (nor _ _ off.1.1.0).0 in
      let w = underway u in
      by_test (Leaves k) (awaited t s)
      (λ a. let way = (awaited_says t s).0 a in
      let fit = (fits_says t o n s).0 (not-false _ off.1.1.1.0) in
      let some = ((sized_says n).0 (not-false _ off.0)).0 in
      let is = fit.order way.0 way.1 in
      takes k s w.0 g.small (rule_at Phase.Take way.0 w).0 (o + n) (omega (arith, some, is)) fit.lies.to (whole is fit.lies.words))
      (λ a. g))
    where
      whole : o ≡ s.next → (n % 4 ≡ 0) ⊎ (o + n ≡ until s) → ((o + n - s.next) % 4 ≡ 0) ⊎ (o + n ≡ until s)
      whole is (inl e) = inl (omega (arith, is, e))
      whole is (inr e) = inr e

  pub step_good : (c : Call) → Typed k c → Leaves k (step_of k c s)
  unfolding step_of ack_step miss_step
  step_good (start b n x r) typed = begins b n x r
  step_good (xfer others) typed = sends others typed
  step_good ack typed = answers (acked s) (λ p. acks k s p g.small)
  step_good nak typed = answers (missed s) (λ p. misses k s p g.small)
  step_good timeout typed = answers (missed s) (λ p. misses k s p g.small)
  step_good lost typed = answers (missed s) (λ p. misses k s p g.small)
  step_good (got t o n) typed = receives t o n
  step_good nexus typed = finish
  step_good cancel typed = finish

-- in terms of the test
pub good : (k : ℕ) (s : Write) → keeps_rules k s ≡ true → s.tags < 2 ^ k → Good k s
good k s e small = record { rules = (rules_say k s).0 e; small = small }

pub kept : (k : ℕ) (s : Write) → Good k s → keeps_rules k s ≡ true
kept k s g = (rules_say k s).1 g.rules

-- every call keeps the rules, and the tags below k
module _ (k : ℕ) (s : Write) (keeps : keeps_rules k s ≡ true) (small : s.tags < 2 ^ k) (c : Call) (typed : Typed k c) where
  after : Good k (step_of k c s).state
  after = step_good k s (good k s keeps small) c typed

  pub sound : keeps_rules k (step_of k c s).state ≡ true
  sound = kept k (step_of k c s).state after

  pub tags_small : (step_of k c s).state.tags < 2 ^ k
  tags_small = after.small

pub run_good : (k : ℕ) (cs : List Call) (s : Write) → AllTyped k cs → Good k s → Good k (run k cs s)
run_good k [] s typed g = g
run_good k (c ∷ cs) s typed g = run_good k cs (step_of k c s).state typed.1 (step_good k s g c typed.0)
