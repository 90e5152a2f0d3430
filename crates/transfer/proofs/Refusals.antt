-- A call on a transfer is refused exactly by the first of its grounds that holds, since each of its tests decides one ground, and then
-- the state is as it was. Assumes nothing.
use Rattle.std.specs.Prelude.{Err, Ok, Result}
use Prim.Native.Nat.{ℕ, ◌-◌, ◌≤◌}
use mathlib.Core.Bool.{true, false, not}
use mathlib.Core.List.{List}
use mathlib.Core.Logic.{inl, inr, ◌↔◌}
use mathlib.Core.Path.{◌≡◌, refl, sym, ap, subst⁻¹, ◌∙◌}
use lib.Dec.{leb, eqb}
use Rattle.laws.proofs.Bools.{never, by_test}
use Rattle.refusals.specs.Causes.{Cause, refuse, First, Decides, nil, cons}
use Rattle.refusals.specs.declared.Refusal.{Refusal}
use Rattle.refusals.proofs.Causes as causes
use Rattle.transfer.specs.Rules.{end_of, keeps_rules}
use Rattle.transfer.specs.Steps.{unfinished, draining, started, frame_length, framed, answered, all_sent, settled, drained, acked, nacked, dropped}
use Rattle.transfer.specs.Steps.{ended, refused, say, start_causes, frame_causes, answer_causes, end_causes, start_step, frame_step, ack_step, nak_step}
use Rattle.transfer.specs.Steps.{drop_step, end_step}
use Rattle.transfer.specs.Calls.{Call, start, frame, ack, nak, timeout, lost, nexus, cancel, step_of}
use Rattle.transfer.specs.History.{is_refused}
use Rattle.transfer.specs.Grounds.{Broken, Idle, Unfinished, answer_grounds, end_grounds, grounds_of}
use Rattle.transfer.specs.declared.Transfer.{Transfer}
use Rattle.transfer.specs.declared.Stepped.{Stepped}
use Rattle.transfer.specs.declared.Answer.{Answer}
use Rattle.transfer.specs.declared.Phase.{Phase}
use Rattle.laws.specs.Tests.{Says}
use Rattle.laws.proofs.Tests.{most, equal, either, unless}
use Rattle.refusals.proofs.Causes.{by_causes}
use Rattle.transfer.proofs.Facts.{in_range_lem}
use Rattle.transfer.proofs.Calls.{work, drain_phase}
use Rattle.transfer.proofs.Exact.{exact}

-- a phase tested, and the phases that it is one of
is_idle : (p : Phase) → not (unfinished p) ≡ true → Idle p
is_idle Phase.New e = inl refl
is_idle Phase.Run e = absurd (never e)
is_idle Phase.Drain e = absurd (never e)
is_idle Phase.Done e = inr (inl refl)
is_idle Phase.Fail e = inr (inr (inl refl))
is_idle Phase.End e = inr (inr (inr refl))

idle_says : (p : Phase) → Says (not (unfinished p)) (Idle p)
idle_says p = (is_idle p, back)
  where
    back : Idle p → not (unfinished p) ≡ true
    back (inl e) = ap (λ (q : Phase). not (unfinished q)) e
    back (inr (inl e)) = ap (λ (q : Phase). not (unfinished q)) e
    back (inr (inr (inl e))) = ap (λ (q : Phase). not (unfinished q)) e
    back (inr (inr (inr e))) = ap (λ (q : Phase). not (unfinished q)) e

unfinished_says : (p : Phase) → Says (unfinished p) (Unfinished p)
unfinished_says p = (work p, back)
  where
    back : Unfinished p → unfinished p ≡ true
    back (inl e) = ap unfinished e
    back (inr e) = ap unfinished e

draining_says : (p : Phase) → Says (draining p) (p ≡ Phase.Drain)
draining_says p = (drain_phase p, λ e. ap draining e)

unfoldable pub causes_of : ℕ → Call → Transfer → List Cause
causes_of bound (start b n m r) s = start_causes bound b n m r s
causes_of bound frame s = frame_causes bound s
causes_of bound ack s = answer_causes bound s
causes_of bound nak s = answer_causes bound s
causes_of bound timeout s = answer_causes bound s
causes_of bound lost s = answer_causes bound s
causes_of bound nexus s = end_causes bound s
causes_of bound cancel s = end_causes bound s

-- what a call answers and leaves where it is not refused
pub goes_on : Call → Transfer → Stepped
goes_on (start b n m r) s = say (Ok Answer.Ok) (started b n m r)
goes_on frame s = framed (frame_length s) s
goes_on ack s = acked (answered s)
goes_on nak s = nacked (answered s)
goes_on timeout s = dropped s
goes_on lost s = dropped s
goes_on nexus s = ended s
goes_on cancel s = ended s

pub step_is : (bound : ℕ) (c : Call) (s : Transfer) → step_of bound c s ≡ refuse (refused s) (causes_of bound c s) (goes_on c s)
unfolding step_of start_step frame_step ack_step nak_step drop_step end_step causes_of goes_on
step_is bound (start b n m r) s = refl
step_is bound frame s = refl
step_is bound ack s = refl
step_is bound nak s = refl
step_is bound timeout s = refl
step_is bound lost s = refl
step_is bound nexus s = refl
step_is bound cancel s = refl

abbrev Taken : Stepped → Type 0
Taken st = is_refused st.answer ≡ false

drain_taken : (s : Transfer) → Taken (drained s)
unfolding drained
drain_taken s = by_test Taken (eqb s.unanswered 0) (λ t. refl) (λ t. refl)

drop_taken : (s : Transfer) → Taken (dropped s)
unfolding dropped
drop_taken s = by_test Taken (leb s.resends s.used) (λ t. refl) (λ t. refl)

-- what goes on is no refusal
pub taken : (c : Call) (s : Transfer) → Taken (goes_on c s)
unfolding goes_on acked settled nacked
taken (start b n m r) s = refl
taken frame s = refl
taken ack s =
    by_test Taken (draining s.phase) (λ d. drain_taken (answered s))
    (λ d. by_test Taken (eqb (s.unanswered - 1) 0) (λ t. by_test Taken (all_sent s) (λ q. refl) (λ q. refl)) (λ t. refl))
taken nak s = by_test Taken (leb s.resends s.used) (λ t. refl) (λ t. drain_taken (answered s))
taken timeout s = drop_taken s
taken lost s = drop_taken s
taken nexus s = refl
taken cancel s = refl

module _ (bound : ℕ) (two : 2 ≤ bound) (s : Transfer) where
  broken_says : Says (not (keeps_rules bound s)) (Broken bound s)
  broken_says = unless (exact bound two s)

  answers : Decides (answer_causes bound s) (answer_grounds bound s)
  answers = cons broken_says (cons (either (idle_says s.phase) (equal s.unanswered 0)) nil)

  ends : Decides (end_causes bound s) (end_grounds bound s)
  ends = cons broken_says (cons (idle_says s.phase) nil)

  pub decides : (c : Call) → Decides (causes_of bound c s) (grounds_of bound c s)
  unfolding causes_of
  decides (start b n m r) = cons (either (unless (in_range_lem b n m r)) broken_says) (cons (unfinished_says s.phase) nil)
  decides frame =
      cons broken_says (cons (idle_says s.phase) (cons (draining_says s.phase) (cons (equal s.read (end_of s)) (cons (most bound s.unanswered) nil))))
  decides ack = answers
  decides nak = answers
  decides timeout = answers
  decides lost = answers
  decides nexus = ends
  decides cancel = ends

pub one : (j k : Refusal) → ◌≡◌ {A = Result Answer Refusal} (Err j) (Err k) → j ≡ k
one j k e = cc

module _ (bound : ℕ) (two : 2 ≤ bound) (s : Transfer) (c : Call) (k : Refusal) where
  answers_is : (step_of bound c s).answer ≡ refuse Err (causes_of bound c s) (goes_on c s).answer
  answers_is = ap (λ (st : Stepped). st.answer) (step_is bound c s) ∙ causes.through (λ (st : Stepped). st.answer) (refused s) (causes_of bound c s) (goes_on c s)

  apart : (j : Refusal) → (goes_on c s).answer ≡ Err j → ⊥
  apart j e = never (sym (taken c s) ∙ ap is_refused e)

  -- a call answers refusal k exactly if k is the first of its grounds that holds
  pub refused_exactly : ((step_of bound c s).answer ≡ Err k) ↔ First (grounds_of bound c s) k
  refused_exactly = (
    λ e. causes.only Err (goes_on c s).answer one apart (decides bound two s c) k (sym answers_is ∙ e),
    λ f. answers_is ∙ causes.if_first Err (goes_on c s).answer one apart (decides bound two s c) k f,
  )

abbrev Kept : Transfer → Stepped → Type 0
Kept s st = is_refused st.answer ≡ true → st.state ≡ s

-- a refusal leaves the state as it was
pub refused_kept : (bound : ℕ) (s : Transfer) (c : Call) → is_refused (step_of bound c s).answer ≡ true → (step_of bound c s).state ≡ s
refused_kept bound s c =
    subst⁻¹ (Kept s) (step_is bound c s)
    (by_causes (Kept s) (refused s) (λ k e. refl) (causes_of bound c s) (goes_on c s) (λ off e. absurd (never (sym (taken c s) ∙ e))))
