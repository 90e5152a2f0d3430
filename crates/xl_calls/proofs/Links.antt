-- What the walk over the table shows of each row, put over any calls: a refused call changes nothing, an unexpected one only the
-- count, and every other is a row. Assumes nothing.
use Rattle.std.specs.Prelude.{Err, Ok, Result, None, Option, Some}
use mathlib.Core.Bool.{Bool, true, false, not, cond, ◌&&◌}
use mathlib.Core.List.{[], ◌∷◌}
use mathlib.Core.Path.{◌≡◌, refl, subst, subst⁻¹}
use borrow.Author.Tests.{not-false}
use Rattle.laws.proofs.Bools.{and_left, and_right, and_true, implied, implies}
use Rattle.refusals.proofs.Causes.{NoneGiven, by_causes}
use Rattle.refusals.specs.declared.Refusal.{Refusal}
use Rattle.open_frame.specs.Open.{head_listed, read_open}
use Rattle.open_frame.specs.declared.OpenFrame.{OpenFrame}
use Rattle.xl_parts.specs.declared.Primitive.{Primitive}
use Rattle.xl_parts.specs.declared.Event.{Event}
use Rattle.xl_parts.specs.declared.State.{State}
use Rattle.xl_parts.specs.declared.Stepped.{Stepped}
use Rattle.xl_parts.specs.Parts.{done}
use Rattle.xl_parts.specs.Kinds.{kind_of}
use Rattle.xl_rows.specs.Table.{rows_for, is_listed, takes, unexpected}
use Rattle.xl.specs.Rules.{fielded, is_frame, works, keeps_rules}
use Rattle.xl.specs.Steps.{has_frame, causes, refused, opened, step_of, receive_of}
use Rattle.xl_calls.specs.Links.{Call, event, bytes, brought_read, call_of, brought, Each, In, here}
use Rattle.xl_rows.proofs.Rows.{unlisted}
use Rattle.xl_calls.proofs.Walk.{Sound, Good, sound}

-- a listed event is as the walk shows, another is unexpected
pub data Took (Q : OpenFrame → Type 0) (f : OpenFrame) (e : Event) (s : State) : Type 0 where
  listed : is_listed f e s ≡ true → Sound Q s.count 4 (takes f e s) → Took Q f e s
  other : is_listed f e s ≡ false → takes f e s ≡ unexpected s → Took Q f e s

pub took : (Q : OpenFrame → Type 0) (f : OpenFrame) (e : Event) (s : State) → Good Q s → (has_frame e ≡ true → Q f) → Took Q f e s
took Q f e s good given = by (is_listed f e s) refl
  where
    by : (t : Bool) → is_listed f e s ≡ t → Took Q f e s
    by true l = listed l (sound Q f e s good given l)
    by false l = other l (unlisted (kind_of e) (unexpected s) (rows_for f e s) l)

-- the frames of a state that keeps the rules
abbrev pub Fielded : OpenFrame → Type 0
Fielded g = head_listed g.head ≡ true

each_of : (h : Option OpenFrame) → fielded h ≡ true → Each Fielded h
each_of None e = tt
each_of (Some f) e = e

of_each : (h : Option OpenFrame) → Each Fielded h → fielded h ≡ true
of_each None e = refl
of_each (Some f) e = e

pub good_of : (s : State) → keeps_rules s ≡ true → Good Fielded s
unfolding keeps_rules
good_of s e =
    let rest = and_right (fielded s.memory.held) _ e in
    record {
      held = each_of s.memory.held (and_left (fielded s.memory.held) _ e);
      heard = each_of s.memory.heard (and_left (fielded s.memory.heard) _ rest);
      holds = implied (works s.phase) (is_frame s.memory.held) (and_right (fielded s.memory.heard) _ rest);
    }

pub of_good : (s : State) → Good Fielded s → keeps_rules s ≡ true
unfolding keeps_rules
of_good s g = and_true (of_each s.memory.held g.held) (and_true (of_each s.memory.heard g.heard) (implies (works s.phase) (is_frame s.memory.held) g.holds))

-- an event that is not refused has its frame's fields as in OPEN, and met a state that keeps the rules
pub fields_given : (f : OpenFrame) (e : Event) (s : State) → NoneGiven (causes f e s) → has_frame e ≡ true → Fielded f
fields_given f e s off fr = not-false (head_listed f.head) (subst (λ (t : Bool). t && not (head_listed f.head) ≡ false) fr off.0)

pub rules_given : (f : OpenFrame) (e : Event) (s : State) → NoneGiven (causes f e s) → keeps_rules s ≡ true
rules_given f e s off = not-false (keeps_rules s) off.1.0

-- what holds of a refusal, and of every event that is taken, holds of a call
module _ (P : Call → Stepped → Type 0) (s : State) (stays : (c : Call) (k : Refusal) → P c (refused s k)) (goes : (c : Call) (f : OpenFrame) (e : Event) → NoneGiven (causes f e s) → (has_frame e ≡ true → In f (brought c)) → P c (done (takes f e s))) where
  stepped : (c : Call) (f : OpenFrame) (e : Event) → (has_frame e ≡ true → In f (brought c)) → P c (step_of f e s)
  unfolding step_of
  stepped c f e from = by_causes (P c) (refused s) (stays c) (causes f e s) (done (takes f e s)) (λ off. goes c f e off from)

  frame_brought : (e : Event) (f : OpenFrame) → has_frame e ≡ true → In f (brought (event e f))
  frame_brought e f fr = subst⁻¹ (λ (t : Bool). In f (cond t (f ∷ []) [])) fr here

  pub by_call : (c : Call) → P c (call_of c s)
  unfolding call_of receive_of
  by_call (event e f) = stepped (event e f) f e (frame_brought e f)
  by_call (bytes b) = by (read_open b) refl
    where
      by : (r : Result OpenFrame Refusal) → read_open b ≡ r → P (bytes b) (opened (read_open b) s)
      by (Err k) q = subst⁻¹ (λ (r : Result OpenFrame Refusal). P (bytes b) (opened r s)) q (stays (bytes b) k)
      by (Ok f) q = subst⁻¹ (λ (r : Result OpenFrame Refusal). P (bytes b) (opened r s)) q (stepped (bytes b) f (Event.Line Primitive.Open) (λ fr. subst⁻¹ (λ (r : Result OpenFrame Refusal). In f (brought_read r)) q here))
