-- A call on a write is refused exactly by the first of its grounds that holds, since each of its tests decides one ground, and then
-- the state is as it was. Assumes nothing.
use Rattle.std.specs.Prelude.{Err, Ok, Result}
use Prim.Native.Nat.{ℕ, ◌^◌, ◌≤◌, ◌<◌}
use mathlib.Core.Bool.{Bool, true, false, not}
use mathlib.Core.List.{List, [], ◌∷◌}
use mathlib.Core.Logic.{inl, inr, ⊎_elim, ◌↔◌}
use mathlib.Core.Path.{◌≡◌, refl, sym, ap, subst⁻¹, ◌∙◌}
use native.Mathlib.Omega.{arith}
use lib.Dec.{leb, ltb}
use Rattle.laws.specs.Tests.{Says}
use Rattle.laws.proofs.Bools.{never, by_test}
use Rattle.laws.proofs.Tests.{most, equal, both, either, unless}
use Rattle.refusals.specs.Causes.{Cause, Ground, ◌if◌, refuse, First, here, later, Decides, nil, cons}
use Rattle.refusals.specs.declared.Refusal.{Refusal}
use Rattle.refusals.proofs.Causes.{by_causes}
use Rattle.refusals.proofs.Causes as causes
use Rattle.write.specs.Rules.{end_of, until, unstarted, keeps_rules}
use Rattle.write.specs.Steps as steps
use Rattle.write.specs.Steps.{unfinished, asking, waiting, started, free, asked, acked, missed, awaited, ended, refused, say}
use Rattle.write.specs.Steps.{start_causes, xfer_causes, answer_causes, got_causes, end_causes, start_step, xfer_step, ack_step, miss_step, got_step, end_step}
use Rattle.write.specs.Calls.{Call, start, xfer, ack, nak, timeout, lost, got, nexus, cancel, step_of, is_refused, Typed}
use Rattle.write.specs.Grounds.{Broken, Unfinished, answer_grounds, end_grounds, grounds_of}
use Rattle.write.specs.declared.Write.{Write}
use Rattle.write.specs.declared.Stepped.{Stepped}
use Rattle.write.specs.declared.Answer.{Answer}
use Rattle.write.specs.declared.Phase.{Phase}
use Rattle.write.proofs.Kept.{in_range_lem, under, Started, rules_say}
use Rattle.write.proofs.Phases.{ask_phase, wait_phase, work_phase}
use Rattle.write.proofs.Picks.{none_free}
use Rattle.write.proofs.Fits.{sized_says, fits_says}
use Rattle.write.proofs.Exact.{exact}

-- a phase tested, and the phases that it is one of
ask_says : (p : Phase) → Says (asking p) (p ≡ Phase.Ask)
ask_says p = (ask_phase p, λ (e : p ≡ Phase.Ask) i. asking (e i))

pub wait_says : (p : Phase) → Says (waiting p) (p ≡ Phase.Wait)
wait_says p = (wait_phase p, λ (e : p ≡ Phase.Wait) i. waiting (e i))

pub work_says : (p : Phase) → Says (unfinished p) (Unfinished p)
work_says p = (work_phase p, back)
  where
    back : Unfinished p → unfinished p ≡ true
    back (inl e) = ap unfinished e
    back (inr (inl e)) = ap unfinished e
    back (inr (inr e)) = ap unfinished e

unfoldable pub causes_of : ℕ → Call → Write → List Cause
causes_of k (start b n x r) s = start_causes k b n x r s
causes_of k (xfer others) s = xfer_causes k others s
causes_of k ack s = answer_causes k s
causes_of k nak s = answer_causes k s
causes_of k timeout s = answer_causes k s
causes_of k lost s = answer_causes k s
causes_of k (got t o n) s = got_causes k t o n s
causes_of k nexus s = end_causes k s
causes_of k cancel s = end_causes k s

-- what a call answers and leaves where it is not refused
unfoldable pub goes_on : ℕ → Call → Write → Stepped
goes_on k (start b n x r) s = say (Ok Answer.Ok) (started b n x r)
goes_on k (xfer others) s = asked (free k others s) s
goes_on k ack s = acked s
goes_on k nak s = missed s
goes_on k timeout s = missed s
goes_on k lost s = missed s
goes_on k (got t o n) s = steps.got t o n s
goes_on k nexus s = ended s
goes_on k cancel s = ended s

pub step_is : (k : ℕ) (c : Call) (s : Write) → step_of k c s ≡ refuse (refused s) (causes_of k c s) (goes_on k c s)
unfolding step_of start_step xfer_step ack_step miss_step got_step end_step causes_of goes_on
step_is k (start b n x r) s = refl
step_is k (xfer others) s = refl
step_is k ack s = refl
step_is k nak s = refl
step_is k timeout s = refl
step_is k lost s = refl
step_is k (got t o n) s = refl
step_is k nexus s = refl
step_is k cancel s = refl

abbrev Taken : Stepped → Type 0
Taken st = is_refused st.answer ≡ false

miss_taken : (s : Write) → Taken (missed s)
unfolding missed
miss_taken s = by_test Taken (leb s.resends s.used) (λ t. refl) (λ t. refl)

data_taken : (to : ℕ) (s : Write) → Taken (steps.taken to s)
unfolding steps.taken
data_taken to s = by_test Taken (ltb to (until s)) (λ t. refl) (λ t. by_test Taken (ltb to (end_of s)) (λ e. refl) (λ e. refl))

-- what goes on is no refusal
pub taken : (k : ℕ) (c : Call) (s : Write) → Taken (goes_on k c s)
unfolding goes_on steps.got
taken k (start b n x r) s = refl
taken k (xfer others) s = refl
taken k ack s = refl
taken k nak s = miss_taken s
taken k timeout s = miss_taken s
taken k lost s = miss_taken s
taken k (got t o n) s = by_test Taken (awaited t s) (λ a. data_taken _ s) (λ a. refl)
taken k nexus s = refl
taken k cancel s = refl

-- the grounds of XFER, the last of them P
abbrev ask_grounds : ℕ → Write → Type 0 → List Ground
ask_grounds k s P = (Refusal.Rules if Broken k s) ∷ (Refusal.Unfit if (s.phase ≡ Phase.Ask → ⊥)) ∷ (Refusal.Full if P) ∷ []

-- grounds that the tests decide, one by one, and of which the same comes first as of the call's own
pub record Tested (k : ℕ) (c : Call) (s : Write) : Type 1 where
  pub grounds : List Ground
  pub decided : Decides (causes_of k c s) grounds
  pub same : (j : Refusal) → First grounds j ↔ First (grounds_of k c s) j

module _ (k : ℕ) (two : 2 ≤ k) (s : Write) (small : s.tags < 2 ^ k) where
  pub broken_says : Says (not (keeps_rules k s)) (Broken k s)
  broken_says = unless (exact k two s small)

  -- a lent state keeps its rules or breaks them
  kept_unless : (Broken k s → ⊥) → keeps_rules k s ≡ true
  kept_unless off = by (keeps_rules k s) refl
    where
      by : (t : Bool) → keeps_rules k s ≡ t → keeps_rules k s ≡ true
      by true e = e
      by false e = absurd (off (broken_says.0 (ap not e)))

  -- the last ground of XFER is reached only where the rules are kept
  recast : {P Q : Type 0} → (keeps_rules k s ≡ true → P → Q) → {j : Refusal} → First (ask_grounds k s P) j → First (ask_grounds k s Q) j
  recast so (here h) = here h
  recast so (later a (here h)) = later a (here h)
  recast so (later a (later b (here h))) = later a (later b (here (so (kept_unless a) h)))
  recast {P = P} {Q = Q} so {j = j} (later a (later b (later _ x20))) = elim x20 [ ]

  tagged : keeps_rules k s ≡ true → s.tag < k
  tagged e =
      ⊎_elim (λ (z : s ≡ unstarted). let none = ap (λ (t : Write). t.tag) z in omega arith) (λ (w : Started k s). under k s w.0) ((rules_say k s).0 e)

  -- mostly they are the call's own
  own : {c : Call} → Decides (causes_of k c s) (grounds_of k c s) → Tested k c s
  own {c} d = record { grounds = grounds_of k c s; decided = d; same = λ j. (λ f. f, λ f. f) }

  answers : Decides (answer_causes k s) (answer_grounds k s)
  answers = cons broken_says (cons (unless (wait_says s.phase)) nil)

  ends : Decides (end_causes k s) (end_grounds k s)
  ends = cons broken_says (cons (unless (work_says s.phase)) nil)

  pub tested : (c : Call) → Typed k c → Tested k c s
  unfolding causes_of
  tested (start b n x r) typed = own (cons (either (unless (in_range_lem k b n x r)) broken_says) (cons (work_says s.phase) nil))
  tested (xfer others) typed =
      record {
        grounds = ask_grounds k s (k ≤ free k others s);
        decided = cons broken_says (cons (unless (ask_says s.phase)) (cons (most k (free k others s)) nil));
        same = λ j. (
          recast (λ kept. (none_free k others s typed small (tagged kept)).0),
          recast (λ kept. (none_free k others s typed small (tagged kept)).1),
        );
      }
  tested ack typed = own answers
  tested nak typed = own answers
  tested timeout typed = own answers
  tested lost typed = own answers
  tested (got t o n) typed =
      own
      (cons (unless (sized_says n))
      (cons broken_says
      (cons (either (unless (work_says s.phase)) (both (wait_says s.phase) (equal t s.tag))) (cons (unless (fits_says t o n s)) nil))))
  tested nexus typed = own ends
  tested cancel typed = own ends

pub one : (i j : Refusal) → ◌≡◌ {A = Result Answer Refusal} (Err i) (Err j) → i ≡ j
one i j e = cc

module _ (k : ℕ) (s : Write) (c : Call) where
  answer_is : (step_of k c s).answer ≡ refuse Err (causes_of k c s) (goes_on k c s).answer
  answer_is = ap (λ (st : Stepped). st.answer) (step_is k c s) ∙ causes.through (λ (st : Stepped). st.answer) (refused s) (causes_of k c s) (goes_on k c s)

  apart : (j : Refusal) → (goes_on k c s).answer ≡ Err j → ⊥
  apart j e = never (sym (taken k c s) ∙ ap is_refused e)

  -- a call answers refusal j exactly if j is the first of its grounds that holds
  pub refused_exactly : 2 ≤ k → s.tags < 2 ^ k → Typed k c → (j : Refusal) → ((step_of k c s).answer ≡ Err j) ↔ First (grounds_of k c s) j
  refused_exactly two small typed j =
      let t = tested k two s small c typed in (
        λ e. (t.same j).0 (causes.only Err (goes_on k c s).answer one apart t.decided j (sym answer_is ∙ e)),
        λ f. answer_is ∙ causes.if_first Err (goes_on k c s).answer one apart t.decided j ((t.same j).1 f),
      )

abbrev Kept : Write → Stepped → Type 0
Kept s st = is_refused st.answer ≡ true → st.state ≡ s

-- a refusal leaves the state as it was
pub refused_kept : (k : ℕ) (s : Write) (c : Call) → is_refused (step_of k c s).answer ≡ true → (step_of k c s).state ≡ s
refused_kept k s c =
    subst⁻¹ (Kept s) (step_is k c s)
    (by_causes (Kept s) (refused s) (λ j e. refl) (causes_of k c s) (goes_on k c s) (λ off e. absurd (never (sym (taken k c s) ∙ e))))
