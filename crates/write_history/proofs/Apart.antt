-- Two writes never share a transfer tag: a call leaves a tag in use that was in use, or one that was none of the others', among whom the other
-- write's are. Assumes nothing.
use Rattle.std.specs.Prelude.{Ok}
use Prim.Native.Nat.{ℕ, ◌+◌, ◌^◌, ◌<◌}
use mathlib.Core.List.{List, [], ◌∷◌, ◌++◌}
use mathlib.Core.Logic.{◌⊎◌, inl, inr}
use mathlib.Core.Path.{◌≡◌, sym, ap, subst, ◌∙◌}
use native.Mathlib.Omega.{arith}
use lib.Dec.{ltb, leb, eqb}
use borrow.Author.Tests.{leb-false, not-false}
use Rattle.laws.specs.Tags.{digit}
use Rattle.laws.proofs.Bools.{by_test, and_left}
use Rattle.laws.proofs.Tags.{digit_zero, added, one_other}
use Rattle.laws.proofs.Tests.{same_or_not}
use Rattle.refusals.proofs.Causes.{by_causes}
use Rattle.write.specs.Rules.{unstarted, end_of, until}
use Rattle.write.specs.Steps as steps
use Rattle.write.specs.Steps.{say, refused, taking, free, asked, awaited}
use Rattle.write.specs.Steps.{start_causes, xfer_causes, answer_causes, got_causes, end_causes, start_step, xfer_step, ack_step, miss_step, got_step, end_step}
use Rattle.write.specs.Calls.{Call, start, xfer, ack, nak, timeout, lost, got, nexus, cancel, step_of, Typed}
use Rattle.write.specs.declared.Write.{Write}
use Rattle.write.specs.declared.Stepped.{Stepped}
use Rattle.write.specs.declared.Answer.{Answer}
use Rattle.write.specs.declared.Phase.{Phase}
use Rattle.write.proofs.Phases.{ask_phase, take_phase}
use Rattle.write.proofs.Picks.{Free, picked}
use Rattle.write_history.specs.History.{Entry, view}
use Rattle.write_history.specs.Log.{entry_of, entries_of}
use Rattle.write_history.specs.Apart.{Turn, one, other, Two, idle, turned, Given, Fair, AllFair, turns, Disjoint}
use Rattle.write_history.proofs.Alike.{self}
use Rattle.write_history.proofs.Invariant.{Live, Inv}
use Rattle.write_history.proofs.Steps.{makes}
use Rattle.write_history.proofs.Demand.{at_first}

module _ (k : ℕ) (s : Write) (h : List Entry) (i : Inv k s (view h)) (others t : ℕ) where
  -- a tag in use behind a call was in use before it, or is none of the others'
  abbrev Grows : Call → Stepped → Type 0
  Grows c st = digit st.state.tags t ≡ 1 → (digit s.tags t ≡ 1) ⊎ (Given c others → digit others t ≡ 0)

  freed : (c : Call) → digit 0 t ≡ 1 → (digit s.tags t ≡ 1) ⊎ (Given c others → digit others t ≡ 0)
  freed c e = absurd (let z = digit_zero t in omega (arith, e, z))

  live : (p : Phase) → s.phase ≡ p → Live k p s (view h)
  live p e = subst (λ (p : Phase). Live k p s (view h)) e i.live

  asks : (given : ℕ) → given < 2 ^ k → Grows (xfer given) (xfer_step k given s)
  unfolding xfer_step
  asks given typed =
      by_causes (Grows (xfer given)) (refused s) (λ r e. inl e) (xfer_causes k given s) (asked (free k given s) s)
      (λ off.
      let o = (live Phase.Ask (ask_phase s.phase (not-false _ off.1.0))).is in
      let f = picked k given s typed o.small o.tag (leb-false k (free k given s) off.1.1.0) in
      by f (same_or_not t (free k given s)))
    where
      by : (f : Free given (free k given s) s) → (t ≡ free k given s) ⊎ (t ≡ free k given s → ⊥) → Grows (xfer given) (asked (free k given s) s)
      by f (inl e) d = inr (λ all. (let less = all t in let out : digit given t ≡ 0 = ap (digit given) e ∙ f.others in omega (arith, less, out)))
      by f (inr ne) d = inl (sym ((added s.tags (free k given s) f.own).there t ne) ∙ d)

  misses : (c : Call) → Grows c (miss_step k s)
  unfolding miss_step steps.missed
  misses c =
      by_causes (Grows c) (refused s) (λ r e. inl e) (answer_causes k s) (steps.missed s)
      (λ off. by_test (Grows c) (leb s.resends s.used) (λ _. freed c) (λ _ e. inl e))

  ends : (c : Call) → Grows c (end_step k s)
  unfolding end_step
  ends c = by_causes (Grows c) (refused s) (λ r e. inl e) (end_causes k s) (steps.ended s) (λ off. freed c)

  takes : (u o n : ℕ) → Grows (got u o n) (got_step k u o n s)
  unfolding got_step steps.got steps.taken
  takes u o n =
      by_causes (Grows (got u o n)) (refused s) (λ r e. inl e) (got_causes k u o n s) (steps.got u o n s)
      (λ off. by_test (Grows (got u o n)) (awaited u s)
      (λ a. let w = live Phase.Take (take_phase s.phase (and_left (taking s.phase) (eqb u s.tag) a)) in
      by_test (Grows (got u o n)) (ltb (o + n) (until s)) (λ _. by w.own (same_or_not t s.tag))
      (λ _. by_test (Grows (got u o n)) (ltb (o + n) (end_of s)) (λ _. freed (got u o n)) (λ _. freed (got u o n))))
      (λ _ e. inl e))
    where
      by : digit s.tags s.tag ≡ 1 → (t ≡ s.tag) ⊎ (t ≡ s.tag → ⊥) → digit (2 ^ s.tag) t ≡ 1 → (digit s.tags t ≡ 1) ⊎ (Given (got u o n) others → digit others t ≡ 0)
      by own (inl e) d = inl (ap (digit s.tags) e ∙ own)
      by own (inr ne) d = absurd (let z = one_other s.tag t ne in omega (arith, d, z))

  grows : (c : Call) → Typed k c → Grows c (step_of k c s)
  unfolding step_of start_step ack_step
  grows (start b n x r) typed =
      by_causes (Grows (start b n x r)) (refused s) (λ r e. inl e) (start_causes k b n x r s) (say (Ok Answer.Ok) (steps.started b n x r)) (λ off. freed (start b n x r))
  grows (xfer given) typed = asks given typed
  grows ack typed = by_causes (Grows ack) (refused s) (λ r e. inl e) (answer_causes k s) (steps.acked s) (λ off e. inl e)
  grows nak typed = misses nak
  grows timeout typed = misses timeout
  grows lost typed = misses lost
  grows (got u o n) typed = takes u o n
  grows nexus typed = ends nexus
  grows cancel typed = ends cancel

-- a write that some calls left
record Sane (k : ℕ) (s : Write) : Type 0 where
  past : List Entry
  holds : Inv k s (view past)

stays_sane : (k : ℕ) (s : Write) (c : Call) → Typed k c → Sane k s → Sane k (step_of k c s).state
stays_sane k s c typed w = record { past = entries_of k c s ++ w.past; holds = (makes k s w.past w.holds c typed (entry_of k c s) (self (entry_of k c s))).keeps }

stays_apart : (k : ℕ) (s : Write) (c : Call) (tags : ℕ) → Typed k c → Given c tags → Sane k s → Disjoint s.tags tags → Disjoint (step_of k c s).state.tags tags
stays_apart k s c tags typed given w d t here there = by (grows k s w.past w.holds tags t c typed here)
  where
    by : (digit s.tags t ≡ 1) ⊎ (Given c tags → digit tags t ≡ 0) → ⊥
    by (inl e) = d t e there
    by (inr out) = let z = out given in omega (arith, z, there)

record Both (k : ℕ) (w : Two) : Type 0 where
  first : Sane k w.one
  second : Sane k w.other
  disjoint : Disjoint w.one.tags w.other.tags

keeps_apart : (k : ℕ) (c : Turn) (w : Two) → Fair k c w → Both k w → Both k (turned k c w)
keeps_apart k (one c) w fair b =
    record { first = stays_sane k w.one c fair.0 b.first; second = b.second; disjoint = stays_apart k w.one c w.other.tags fair.0 fair.1 b.first b.disjoint }
keeps_apart k (other c) w fair b =
    record {
      first = b.first;
      second = stays_sane k w.other c fair.0 b.second;
      disjoint = λ t e f. stays_apart k w.other c w.one.tags fair.0 fair.1 b.second (λ t e f. b.disjoint t f e) t f e;
    }

all_apart : (k : ℕ) (cs : List Turn) (w : Two) → AllFair k cs w → Both k w → Both k (turns k cs w)
all_apart k [] w fair b = b
all_apart k (c ∷ cs) w fair b = all_apart k cs (turned k c w) fair.1 (keeps_apart k c w fair.0 b)

-- two writes from the state before START, and calls in any order
pub apart : (k : ℕ) (cs : List Turn) → AllFair k cs idle → Disjoint (turns k cs idle).one.tags (turns k cs idle).other.tags
apart k cs fair =
    let sane : Sane k unstarted = record { past = []; holds = at_first k } in
    (all_apart k cs idle fair (record { first = sane; second = sane; disjoint = λ t e f. (let z = digit_zero t in omega (arith, e, z)) })).disjoint
