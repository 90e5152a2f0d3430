-- What a call leaves that is not refused, by its answer: each row is read off the tests that part it from the others. Assumes nothing.
use Rattle.refusals.specs.declared.Refusal.{Refusal}
use Rattle.std.specs.Prelude.{Err, Ok, Result}
use Prim.Native.Nat.{ℕ, ◌+◌, ◌^◌}
use mathlib.Core.Bool.{Bool, true, false, not}
use mathlib.Core.Path.{◌≡◌, refl, sym, ap, ◌∙◌}
use lib.Dec.{ltb, leb}
use Rattle.laws.proofs.Bools.{never, by_test}
use Rattle.refusals.proofs.Causes.{NoneGiven, Verdict, stopped, passes, verdict}
use Rattle.write.specs.Rules.{end_of, until}
use Rattle.write.specs.Steps as steps
use Rattle.write.specs.Steps.{with, awaited, refused, missed, taken}
use Rattle.write.specs.Calls.{Call, step_of, is_refused}
use Rattle.write.specs.declared.Write.{Write}
use Rattle.write.specs.declared.Stepped.{Stepped}
use Rattle.write.specs.declared.Answer.{Answer}
use Rattle.write.specs.declared.Phase.{Phase}
use Rattle.write.proofs.Refusals.{causes_of, goes_on, step_is}

-- a call that is not refused: none of its causes is given, and it does what its row says
pub record Went (k : ℕ) (c : Call) (s : Write) : Type 0 where
  pub off : NoneGiven (causes_of k c s)
  pub is : step_of k c s ≡ goes_on k c s

pub went : (k : ℕ) (c : Call) (s : Write) → is_refused (step_of k c s).answer ≡ false → Went k c s
went k c s e = by (verdict (causes_of k c s))
  where
    by : Verdict (causes_of k c s) → Went k c s
    by (stopped j h) = absurd (never (sym e ∙ ap (λ (st : Stepped). is_refused st.answer) (step_is k c s ∙ h Stepped (refused s) (goes_on k c s))))
    by (passes off h) = record { off = off; is = step_is k c s ∙ h Stepped (refused s) (goes_on k c s) }

-- what a failure leaves, by its answer
abbrev pub miss_left : Write → Result Answer Refusal → Write
miss_left s (Ok Answer.Ok) = s
miss_left s (Ok Answer.Sent) = s
miss_left s (Ok Answer.Retry) = with s s.next s.tag s.tags (s.used + 1) Phase.Ask
miss_left s (Ok Answer.Late) = s
miss_left s (Ok Answer.More) = s
miss_left s (Ok Answer.Done) = s
miss_left s (Ok Answer.Fail) = with s s.next s.tag 0 s.used Phase.Fail
miss_left s (Ok Answer.End) = s
miss_left s (Err j) = s

pub miss_left_lem : (s : Write) → (missed s).state ≡ miss_left s (missed s).answer
unfolding missed
miss_left_lem s = by_test (λ (st : Stepped). st.state ≡ miss_left s st.answer) (leb s.resends s.used) (λ t. refl) (λ t. refl)

-- what DATA leaves, by its answer; late, it leaves all as it was
abbrev pub got_left : ℕ → Write → Result Answer Refusal → Write
got_left to s (Ok Answer.Ok) = with s to s.tag (2 ^ s.tag) s.used Phase.Take
got_left to s (Ok Answer.Sent) = s
got_left to s (Ok Answer.Retry) = s
got_left to s (Ok Answer.Late) = s
got_left to s (Ok Answer.More) = with s to s.tag 0 s.used Phase.Ask
got_left to s (Ok Answer.Done) = with s to s.tag 0 s.used Phase.Done
got_left to s (Ok Answer.Fail) = s
got_left to s (Ok Answer.End) = s
got_left to s (Err j) = s

pub got_left_lem : (t o n : ℕ) (s : Write) → (steps.got t o n s).state ≡ got_left (o + n) s (steps.got t o n s).answer
unfolding steps.got taken
got_left_lem t o n s =
    by_test Left (awaited t s) (λ a. by_test Left (ltb (o + n) (until s)) (λ l. refl) (λ l. by_test Left (ltb (o + n) (end_of s)) (λ m. refl) (λ m. refl))) (λ a. refl)
  where
    Left : Stepped → Type 0
    Left st = st.state ≡ got_left (o + n) s st.answer

-- it was awaited exactly if it isn't late
abbrev pub is_late : Result Answer Refusal → Bool
is_late (Ok Answer.Ok) = false
is_late (Ok Answer.Sent) = false
is_late (Ok Answer.Retry) = false
is_late (Ok Answer.Late) = true
is_late (Ok Answer.More) = false
is_late (Ok Answer.Done) = false
is_late (Ok Answer.Fail) = false
is_late (Ok Answer.End) = false
is_late (Err j) = false

pub got_late : (t o n : ℕ) (s : Write) → is_late (steps.got t o n s).answer ≡ not (awaited t s)
unfolding steps.got taken
got_late t o n s =
    by_test Late (awaited t s)
    (λ a. by_test Late (ltb (o + n) (until s)) (λ l. sym (ap not a)) (λ l. by_test Late (ltb (o + n) (end_of s)) (λ m. sym (ap not a)) (λ m. sym (ap not a))))
    (λ a. sym (ap not a))
  where
    Late : Stepped → Type 0
    Late st = is_late st.answer ≡ not (awaited t s)
