-- A call on a reply is refused exactly by the first of its grounds that holds, since each of its tests decides one ground, and then the
-- state is as it was. Assumes nothing.
use Rattle.std.specs.Prelude.{Err, Result}
use mathlib.Core.Bool.{Bool, true, false, not}
use mathlib.Core.Logic.{◌↔◌}
use mathlib.Core.Path.{◌≡◌, refl, sym, ap, ◌∙◌}
use lib.Dec.{ltb}
use Rattle.laws.specs.Tests.{Says}
use Rattle.laws.proofs.Bools.{never, by_test}
use Rattle.laws.proofs.Tests.{most, unless}
use Rattle.refusals.specs.Causes.{refuse, First, Decides, nil, cons}
use Rattle.refusals.specs.declared.Refusal.{Refusal}
use Rattle.refusals.proofs.Causes as causes
use Rattle.reply.specs.Steps.{refused, waits, unfinished, failed}
use Rattle.reply.specs.Steps as steps
use Rattle.reply.specs.Calls.{Call, start, respond, ack, nak, timeout, lost, nexus, cancel, causes_of, goes_on, step_of}
use Rattle.reply.specs.Grounds.{Unfinished, grounds, grounds_of}
use Rattle.reply.specs.History.{is_refused}
use Rattle.reply.specs.declared.Reply.{Reply}
use Rattle.reply.specs.declared.Stepped.{Stepped}
use Rattle.reply.specs.declared.Answer.{Answer}
use Rattle.reply.specs.declared.Phase.{Phase}
use Rattle.reply.proofs.Facts.{ask_says, wait_says, unfinished_says}
use Rattle.reply.proofs.Exact.{exact}

module _ (s : Reply) where
  unfit : {t : Bool} {P : Type 0} → Says t P → Decides (steps.causes t s) (grounds P s)
  unfit p = cons (unless (exact s)) (cons p nil)

  answers : Decides (steps.causes (not (waits s.phase)) s) (grounds (s.phase ≡ Phase.Wait → ⊥) s)
  answers = unfit (unless (wait_says s.phase))

  ends : Decides (steps.causes (not (unfinished s.phase)) s) (grounds (Unfinished s.phase → ⊥) s)
  ends = unfit (unless (unfinished_says s.phase))

  pub decides : (c : Call) → Decides (causes_of c s) (grounds_of c s)
  decides (start r) = cons (unless (most r 255)) (unfit (unfinished_says s.phase))
  decides respond = unfit (unless (ask_says s.phase))
  decides ack = answers
  decides nak = answers
  decides timeout = answers
  decides lost = answers
  decides nexus = ends
  decides cancel = ends

abbrev Taken : Stepped → Type 0
Taken st = is_refused st.answer ≡ false

fail_taken : (s : Reply) → Taken (failed s)
unfolding failed
fail_taken s = by_test Taken (ltb s.used s.resends) (λ t. refl) (λ t. refl)

-- what goes on is no refusal
pub taken : (c : Call) (s : Reply) → Taken (goes_on c s)
taken (start r) s = refl
taken respond s = refl
taken ack s = refl
taken nak s = fail_taken s
taken timeout s = fail_taken s
taken lost s = fail_taken s
taken nexus s = refl
taken cancel s = refl

pub one : (j k : Refusal) → ◌≡◌ {A = Result Answer Refusal} (Err j) (Err k) → j ≡ k
one j k e = cc

module _ (s : Reply) (c : Call) where
  answers_is : (step_of c s).answer ≡ refuse Err (causes_of c s) (goes_on c s).answer
  answers_is = causes.through (λ (st : Stepped). st.answer) (refused s) (causes_of c s) (goes_on c s)

  apart : (j : Refusal) → (goes_on c s).answer ≡ Err j → ⊥
  apart j e = never (sym (taken c s) ∙ ap is_refused e)

  -- a call answers refusal k exactly if k is the first of its grounds that holds
  pub refused_exactly : (k : Refusal) → ((step_of c s).answer ≡ Err k) ↔ First (grounds_of c s) k
  refused_exactly k = (
    λ e. causes.only Err (goes_on c s).answer one apart (decides s c) k (sym answers_is ∙ e),
    λ f. answers_is ∙ causes.if_first Err (goes_on c s).answer one apart (decides s c) k f,
  )

  abbrev Kept : Stepped → Type 0
  Kept st = is_refused st.answer ≡ true → st.state ≡ s

  -- a refusal leaves the state as it was
  pub refused_kept : is_refused (step_of c s).answer ≡ true → (step_of c s).state ≡ s
  refused_kept =
      causes.by_causes Kept (refused s) (λ k e. refl) (causes_of c s) (goes_on c s) (λ off e. absurd (never (sym (taken c s) ∙ e)))
