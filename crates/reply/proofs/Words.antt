-- Refusals against the history: in a state that keeps its rules each test by which a call is refused is one of the history.
-- Assumes nothing.
use Rattle.refusals.specs.declared.Refusal.{Refusal}
use Rattle.std.specs.Prelude.{Err, Ok, Result}
use Prim.Native.Nat.{ℕ, zero, suc}
use mathlib.Core.Bool.{Bool, true, false, not, cond, ◌&&◌}
use mathlib.Core.List.{List, [], ◌∷◌}
use mathlib.Core.Path.{◌≡◌, refl, sym, ap, ◌∙◌}
use Rattle.laws.proofs.Bools.{never}
use Rattle.refusals.specs.Causes.{refuse}
use Rattle.refusals.specs.Refusals.{number_of}
use Rattle.refusals.proofs.Causes.{through}
use Rattle.reply.specs.Rules.{in_range, unstarted, keeps_rules}
use Rattle.reply.specs.Steps.{refused, asks, waits, unfinished, causes}
use Rattle.reply.specs.Calls.{Call, start, respond, ack, nak, timeout, lost, nexus, cancel, causes_of, goes_on, step_of, run}
use Rattle.reply.specs.History.{EntryOf, is_refused, due, Went, view, last_due}
use Rattle.reply.specs.Words.{underway, refusal_of, refusal_by}
use Rattle.reply.specs.Log.{history}
use Rattle.reply.specs.declared.Reply.{Reply}
use Rattle.reply.specs.declared.Stepped.{Stepped}
use Rattle.reply.specs.declared.Answer.{Answer}
use Rattle.reply.specs.declared.Phase.{Phase}
use Rattle.reply.proofs.Exact.{keeps_rules_lem}
use Rattle.reply.proofs.Refusals.{taken}
use Rattle.reply.proofs.Invariant.{Failed, Then, Live, Inv, at_first, all_keep}

-- an answer that is no refusal has no number
none : (a : Result Answer Refusal) → is_refused a ≡ false → refusal_of a ≡ 0
none (Ok a) e = refl
none (Err k) e = absurd (never (sym e))

-- the number that a call answers is that of its first cause
pub number_is : (s : Reply) (c : Call) → refusal_of (step_of c s).answer ≡ refuse number_of (causes_of c s) 0
number_is s c =
    through (λ (st : Stepped). refusal_of st.answer) (refused s) (causes_of c s) (goes_on c s)
    ∙ ap (refuse number_of (causes_of c s)) (none (goes_on c s).answer (taken c s))

module _ {F : Type 0} where
  none_due : (n : ℕ) (v : List (Went F)) → Failed n v → last_due v ≡ false
  none_due zero [] a = refl
  none_due zero (w ∷ ws) a = absurd a
  none_due (suc n) [] a = absurd a
  none_due (suc n) (w ∷ ws) a = rw a.0

  one_due : (n : ℕ) (v : List (Went F)) → Then due n v → last_due v ≡ true
  one_due n [] t = absurd t
  one_due n (w ∷ ws) t = rw t.0

  -- a RESPONSE is due, and its answer is, by the history
  asks_is : (p : Phase) (s : Reply) (v : List (Went F)) → Live p s v → asks p ≡ unfinished p && not (last_due v)
  asks_is Phase.New s v l = refl
  asks_is Phase.Ask s v l = sym (ap not (none_due s.used v l))
  asks_is Phase.Wait s v l = sym (ap not (one_due s.used v l))
  asks_is Phase.Done s v l = refl
  asks_is Phase.Fail s v l = refl
  asks_is Phase.End s v l = refl

  waits_is : (p : Phase) (s : Reply) (v : List (Went F)) → Live p s v → waits p ≡ unfinished p && last_due v
  waits_is Phase.New s v l = refl
  waits_is Phase.Ask s v l = sym (none_due s.used v l)
  waits_is Phase.Wait s v l = sym (one_due s.used v l)
  waits_is Phase.Done s v l = refl
  waits_is Phase.Fail s v l = refl
  waits_is Phase.End s v l = refl

module _ {F : Type 0} (s : Reply) (h : List (EntryOf F)) (i : Inv s h) (kept : keeps_rules s ≡ true) where
  -- an unfit call is refused with 6
  six : {t u : Bool} → t ≡ u → refuse number_of (causes t s) 0 ≡ cond u 6 0
  six {t} is = ap (λ (k : Bool). cond (not k) 3 (cond t 6 0)) kept ∙ ap (λ (b : Bool). cond b 6 0) is

  asks_now : asks s.phase ≡ underway h && not (last_due (view h))
  asks_now = asks_is s.phase s (view h) i.live ∙ ap (λ (b : Bool). b && not (last_due (view h))) i.lives

  waits_now : waits s.phase ≡ underway h && last_due (view h)
  waits_now = waits_is s.phase s (view h) i.live ∙ ap (λ (b : Bool). b && last_due (view h)) i.lives

  causes_refuse : (c : Call) → refuse number_of (causes_of c s) 0 ≡ refusal_by h c
  causes_refuse (start r) = ap (cond (not (in_range r)) 3) (six i.lives)
  causes_refuse respond = six (ap not asks_now)
  causes_refuse ack = six (ap not waits_now)
  causes_refuse nak = six (ap not waits_now)
  causes_refuse timeout = six (ap not waits_now)
  causes_refuse lost = six (ap not waits_now)
  causes_refuse nexus = six (ap not i.lives)
  causes_refuse cancel = six (ap not i.lives)

  -- the number that a call answers is the history's
  pub refuses : (c : Call) → refusal_of (step_of c s).answer ≡ refusal_by h c
  refuses c = number_is s c ∙ causes_refuse c

-- over any calls from the state before START
pub refused_by : (cs : List Call) (c : Call) → refusal_of (step_of c (run cs unstarted)).answer ≡ refusal_by (history cs unstarted []) c
refused_by cs c = refuses (run cs unstarted) (history cs unstarted []) (all_keep cs unstarted [] at_first) (keeps_rules_lem cs) c
