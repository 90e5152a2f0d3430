-- The count is the number of events that were not listed for the state that they met, up to the largest: a row changes no count, a refusal
-- nothing, and an unexpected event adds one. Assumes nothing.
use Rattle.refusals.specs.declared.Refusal.{Refusal}
use Rattle.std.specs.Prelude.{Err, Ok, Result}
use Prim.Native.Nat.{ℕ, ◌+◌, ◌≤◌, min}
use mathlib.Core.Bool.{Bool, cond}
use mathlib.Core.List.{List, [], ◌∷◌}
use mathlib.Core.Path.{◌≡◌, sym, ap, ◌∙◌}
use native.Mathlib.Omega.{arith}
use Rattle.refusals.proofs.Causes.{NoneGiven, by_causes}
use Rattle.open_frame.specs.Open.{read_open}
use Rattle.open_frame.specs.declared.OpenFrame.{OpenFrame}
use Rattle.xl_parts.specs.declared.Primitive.{Primitive}
use Rattle.xl_parts.specs.declared.Event.{Event}
use Rattle.xl_parts.specs.declared.State.{State}
use Rattle.xl_parts.specs.declared.Stepped.{Stepped}
use Rattle.xl_parts.specs.Parts.{Effect, done}
use Rattle.xl_rows.specs.Table.{is_listed, takes}
use Rattle.xl.specs.Steps.{causes, refused, opened, step_of, receive_of}
use Rattle.xl_calls.specs.Links.{Call, event, bytes, call_of, run, is_done, surprise_read, surprise_of, surprises}
use Rattle.xl_calls.proofs.Links.{Took, listed, other, took, Fielded, good_of, fields_given, rules_given}

module _ (s : State) (small : s.count ≤ 4294967295) where
  -- the count after an answer to e, by what it answered
  abbrev Counts : OpenFrame → Event → Stepped → Type 0
  Counts f e r = r.state.count ≡ min (s.count + cond (is_done r.answer) (cond (is_listed f e s) 0 1) 0) 4294967295

  same : s.count ≡ min (s.count + 0) 4294967295
  same = omega (arith, small)

  counts : (f : OpenFrame) (e : Event) → NoneGiven (causes f e s) → Counts f e (done (takes f e s))
  counts f e off = by (took Fielded f e s (good_of s (rules_given f e s off)) (fields_given f e s off))
    where
      by : Took Fielded f e s → Counts f e (done (takes f e s))
      by (listed l x) = x.counts ∙ (same ∙ ap (λ (t : Bool). min (s.count + cond t 0 1) 4294967295) (sym l))
      by (other l x) = ap (λ (y : Effect). y.state.count) x ∙ ap (λ (t : Bool). min (s.count + cond t 0 1) 4294967295) (sym l)

  step_counts : (f : OpenFrame) (e : Event) → Counts f e (step_of f e s)
  unfolding step_of
  step_counts f e = by_causes (Counts f e) (refused s) (λ k. same) (causes f e s) (done (takes f e s)) (counts f e)

  call_counts : (c : Call) → (call_of c s).state.count ≡ min (s.count + surprise_of c s) 4294967295
  unfolding call_of surprise_of receive_of
  call_counts (event e f) = step_counts f e
  call_counts (bytes b) = by (read_open b)
    where
      by : (r : Result OpenFrame Refusal) → (opened r s).state.count ≡ min (s.count + surprise_read r s) 4294967295
      by (Err k) = same
      by (Ok f) = step_counts f (Event.Line Primitive.Open)

joins : (a b c m : ℕ) → c ≡ min (a + b) m → (r : ℕ) → min (c + r) m ≡ min (a + (b + r)) m
joins a b c m e r = omega (arith, e)

pub run_counts : (cs : List Call) (s : State) → s.count ≤ 4294967295 → (run cs s).count ≡ min (s.count + surprises cs s) 4294967295
run_counts [] s small = omega (arith, small)
run_counts (c ∷ cs) s small =
    let one = call_counts s small c in
    let next : (call_of c s).state.count ≤ 4294967295 = omega (arith, one) in
    run_counts cs (call_of c s).state next ∙ joins s.count (surprise_of c s) (call_of c s).state.count 4294967295 one (surprises cs (call_of c s).state)
