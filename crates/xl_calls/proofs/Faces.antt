-- Of a lent link whose numbers say a state each call shows C the machine's own step, so over any calls C sees the machine's run; and
-- a state that keeps the rules is shown as one. Assumes nothing.
use Rattle.std.specs.Prelude.{Err, Ok, Result, None, Option, Some}
use Prim.Native.Nat.{ℕ}
use mathlib.Core.Bool.{Bool, true, false, not, cond, ◌&&◌}
use mathlib.Core.List.{List, [], ◌∷◌, ◌++◌}
use mathlib.Core.Path.{◌≡◌, refl, sym, ap, subst, subst⁻¹, ◌∙◌}
use native.Mathlib.Omega.{arith}
use lib.Dec.{eqb}
use lib.ListN.{length}
use Rattle.laws.proofs.Bools.{clash, and_left, and_right, and_true}
use Rattle.refusals.specs.Causes.{Cause, ◌when◌, refuse}
use Rattle.refusals.specs.Refusals.{number_of}
use Rattle.refusals.specs.declared.Refusal.{Refusal}
use Rattle.refusals.proofs.Causes.{NoneGiven, through}
use Rattle.refusals.proofs.Numbers.{not_zero}
use Rattle.open_frame.specs.Open as opens
use Rattle.open_frame.specs.Open.{head_listed, head_of, typed, read_causes, read_open}
use Rattle.open_frame.specs.declared.OpenFrame.{OpenFrame}
use Rattle.open_lent.specs.Lent.{frame_of}
use Rattle.open_lent.specs.declared.Open.{Open}
use Rattle.xl_parts.specs.declared.Primitive.{Primitive}
use Rattle.xl_parts.specs.declared.Event.{Event}
use Rattle.xl_parts.specs.declared.State.{State}
use Rattle.xl_parts.specs.declared.Stepped.{Stepped}
use Rattle.xl_parts.specs.Parts.{done, ready}
use Rattle.xl_numbers.specs.declared.codes.Code.{Code}
use Rattle.xl_numbers.specs.Codes.{event_of}
use Rattle.xl_rows.specs.Table.{takes}
use Rattle.xl.specs.Rules.{keeps_rules}
use Rattle.xl.specs.Steps as steps
use Rattle.xl.specs.Steps.{has_frame, causes, receive_of}
use Rattle.xl_lent.specs.declared.Link.{Link}
use Rattle.xl_lent.specs.declared.Step.{Step}
use Rattle.xl_lent.specs.Lent.{state_of, shown, formed, zeros}
use Rattle.xl_lent.specs.Face.{refused, told, heard, opened, link_event, link_receive, keeps_lent, Sees}
use Rattle.xl_lent.proofs.Trips.{state_back, narrow, shown_formed, lent_back}
use Rattle.xl_lent.proofs.Laws.{met_formed}
use Rattle.xl_lent.proofs.Causes.{met_causes, receive_causes, met_is, receive_is}
use Rattle.xl_calls.specs.Links.{Call, event, bytes, call_of, run}
use Rattle.xl_calls.specs.After.{after}
use Rattle.xl_calls.specs.Faces.{FaceCall, numbers, frame, face_of, face_run, named, makes, made}
use Rattle.xl_calls.proofs.Links.{Fielded, good_of, of_good, fields_given, rules_given, by_call}
use Rattle.xl_calls.proofs.Kept.{good_after, ready_keeps}

-- ---- a link whose numbers say a state that keeps the rules

pub lent_formed : (l : Link) → keeps_lent l ≡ true → formed l ≡ true
unfolding keeps_lent
lent_formed l ok = and_left (formed l) _ ok

pub lent_keeps : (l : Link) → keeps_lent l ≡ true → keeps_rules (state_of l) ≡ true
unfolding keeps_lent
lent_keeps l ok = and_right (formed l) _ ok

pub shown_keeps : (s : State) → keeps_rules s ≡ true → keeps_lent (shown s) ≡ true
unfolding keeps_lent
shown_keeps s ok = and_true (shown_formed s) (ap keeps_rules (state_back s (narrow s ok)) ∙ ok)

-- ---- what C sees of the machine's calls

-- an event that is taken leaves a state that keeps the rules
taken_keeps : (s : State) (f : OpenFrame) (e : Event) → NoneGiven (causes f e s) → keeps_rules (takes f e s).state ≡ true
taken_keeps s f e off = of_good (takes f e s).state (good_after Fielded f e s (good_of s (rules_given f e s off)) (fields_given f e s off))

pub told_sees : (l : Link) (c : Call) → Sees (call_of c (state_of l)) (told l (call_of c (state_of l)))
told_sees l =
    by_call (λ (c : Call) (r : Stepped). Sees r (told l r)) (state_of l)
    (λ c k. record { answer = refl; actions = refl; state = refl })
    (λ c f e off from. let s = (takes f e (state_of l)).state in record { answer = refl; actions = refl; state = state_back s (narrow s (taken_keeps (state_of l) f e off)) })

told_keeps : (l : Link) → keeps_lent l ≡ true → (c : Call) → keeps_lent (told l (call_of c (state_of l))).state ≡ true
told_keeps l ok =
    by_call (λ (c : Call) (r : Stepped). keeps_lent (told l r).state ≡ true) (state_of l)
    (λ c k. ok)
    (λ c f e off from. shown_keeps (takes f e (state_of l)).state (taken_keeps (state_of l) f e off))

-- ---- C's calls are the machine's

no_call : (m : Call) → [] ≡ m ∷ [] → ⊥
no_call m e = let z : ◌≡◌ {A = ℕ} 0 1 = cc in omega arith

same_call : (c m : Call) → c ∷ [] ≡ m ∷ [] → c ≡ m
same_call c m e = cc

module _ (l : Link) (ok : formed l ≡ true) where
  pub event_told : (c : Code) (o : Open) (e : Event) → event_of c ≡ Some e → link_event l c o ≡ told l (call_of (event e (frame_of o)) (state_of l))
  unfolding link_event call_of
  event_told c o e q = ap (λ (r : Option Event). heard l r o) q ∙ sym (met_formed l e (frame_of o) ok)

  pub receive_told : (b : List ℕ) → link_receive l b ≡ told l (call_of (bytes b) (state_of l))
  unfolding link_receive call_of receive_of
  receive_told b = by (read_open b)
    where
      by : (r : Result OpenFrame Refusal) → opened l r ≡ told l (steps.opened r (state_of l))
      by (Err k) = refl
      by (Ok f) = sym (met_formed l (Event.Line Primitive.Open) f ok)

  -- whatever holds of a refusal and of what C is told of the machine holds of what C sees
  by_face : (P : List Call → Step → Type 0) → ((k : Refusal) → P [] (refused l k)) → ((c : Call) → P (c ∷ []) (told l (call_of c (state_of l)))) → (c : FaceCall) → P (makes c) (face_of c l)
  unfolding link_event
  by_face P stays goes (numbers c o) = by (event_of c) refl
    where
      by : (r : Option Event) → event_of c ≡ r → P (named (event_of c) o) (link_event l c o)
      by (Some e) q = subst⁻¹ (λ (x : List Call). P x (link_event l c o)) (ap (λ (r : Option Event). named r o) q) (subst⁻¹ (P (event e (frame_of o) ∷ [])) (event_told c o e q) (goes (event e (frame_of o))))
      by None q = subst⁻¹ (λ (r : Option Event). P (named r o) (heard l r o)) q (stays Refusal.Unlisted)
  by_face P stays goes (frame b) = subst⁻¹ (P (bytes b ∷ [])) (receive_told b) (goes (bytes b))

  -- the link that C gets says the state that the machine's calls leave
  call_says : (c : FaceCall) → state_of (face_of c l).state ≡ run (makes c) (state_of l)
  call_says = by_face (λ (cs : List Call) (r : Step). state_of r.state ≡ run cs (state_of l)) (λ k. refl) (λ c. (told_sees l c).state)

  -- a call that makes one of the machine's shows C what the machine answers
  pub call_sees : (c : FaceCall) (m : Call) → makes c ≡ m ∷ [] → Sees (call_of m (state_of l)) (face_of c l)
  call_sees =
      by_face (λ (cs : List Call) (r : Step). (m : Call) → cs ≡ m ∷ [] → Sees (call_of m (state_of l)) r)
      (λ k m e. absurd (no_call m e))
      (λ c m e. subst (λ (x : Call). Sees (call_of x (state_of l)) (told l (call_of c (state_of l)))) (same_call c m e) (told_sees l c))

-- one that makes none is refused, whatever is lent
pub none_made : (l : Link) (c : FaceCall) → makes c ≡ [] → face_of c l ≡ refused l Refusal.Unlisted
unfolding link_event
none_made l (frame b) e = absurd (no_call (bytes b) (sym e))
none_made l (numbers c o) e = by (event_of c) e
  where
    by : (r : Option Event) → named r o ≡ [] → heard l r o ≡ refused l Refusal.Unlisted
    by (Some e) h = absurd (no_call (event e (frame_of o)) (sym h))
    by None h = refl

pub keeps_call : (l : Link) → keeps_lent l ≡ true → (c : FaceCall) → keeps_lent (face_of c l).state ≡ true
keeps_call l ok = by_face l (lent_formed l ok) (λ (cs : List Call) (r : Step). keeps_lent r.state ≡ true) (λ k. ok) (told_keeps l ok)

-- ---- over any calls

run_append : (cs ds : List Call) (s : State) → run (cs ++ ds) s ≡ run ds (run cs s)
run_append [] ds s = refl
run_append (c ∷ cs) ds s = run_append cs ds (call_of c s).state

pub face_keeps : (cs : List FaceCall) (l : Link) → keeps_lent l ≡ true → keeps_lent (face_run cs l) ≡ true
face_keeps [] l ok = ok
face_keeps (c ∷ cs) l ok = face_keeps cs (face_of c l).state (keeps_call l ok c)

pub face_says : (cs : List FaceCall) (l : Link) → keeps_lent l ≡ true → state_of (face_run cs l) ≡ run (made cs) (state_of l)
face_says [] l ok = refl
face_says (c ∷ cs) l ok =
    face_says cs (face_of c l).state (keeps_call l ok c)
    ∙ ap (run (made cs)) (call_says l (lent_formed l ok) c)
    ∙ sym (run_append (makes c) (made cs) (state_of l))

pub zeros_keeps : keeps_lent zeros ≡ true
zeros_keeps = shown_keeps ready ready_keeps

-- from all zeros C sees the machine's own run from XL0
pub face_shown : (cs : List FaceCall) → face_run cs zeros ≡ shown (after (made cs))
face_shown cs =
    let l = face_run cs zeros in
    let ok = face_keeps cs zeros zeros_keeps in
    sym (lent_back l (lent_formed l ok) (narrow (state_of l) (lent_keeps l ok))) ∙ ap shown (face_says cs zeros zeros_keeps)

-- what C sees behind other calls is what the machine answers behind theirs
pub behind : (cs : List FaceCall) (c : FaceCall) (m : Call) → makes c ≡ m ∷ [] → Sees (call_of m (after (made cs))) (face_of c (face_run cs zeros))
behind cs c m one =
    let l = face_run cs zeros in
    subst (λ (s : State). Sees (call_of m s) (face_of c l)) (face_says cs zeros zeros_keeps) (call_sees l (lent_formed l (face_keeps cs zeros zeros_keeps)) c m one)

-- ---- what is refused

-- the answer of a call as its causes give it
event_answers : (l : Link) (c : Code) (o : Open) (e : Event) → event_of c ≡ Some e → (link_event l c o).answer ≡ refuse number_of (met_causes l e (frame_of o)) 0
unfolding link_event
event_answers l c o e q =
    let f = frame_of o in
    ap (λ (r : Option Event). (heard l r o).answer) q
    ∙ ap (λ (r : Step). r.answer) (met_is l e f)
    ∙ through (λ (r : Step). r.answer) (refused l) (met_causes l e f) (told l (done (takes f e (state_of l))))

receive_answers : (l : Link) (b : List ℕ) → (link_receive l b).answer ≡ refuse number_of (receive_causes l b) 0
receive_answers l b =
    ap (λ (r : Step). r.answer) (receive_is l b)
    ∙ through (λ (r : Step). r.answer) (refused l) (receive_causes l b) (told l (done (takes (opens.frame_of b) (Event.Line Primitive.Open) (state_of l))))

unnamed_two : (l : Link) (c : Code) (o : Open) → event_of c ≡ None → (link_event l c o).answer ≡ 2
unfolding link_event
unnamed_two l c o q = ap (λ (r : Option Event). (heard l r o).answer) q

-- a call whose last cause is that the rules are broken is taken only where they are kept, and refused with 3 only where they are not
zero_kept : (cs : List Cause) (k : Bool) → refuse number_of (cs ++ ((Refusal.Rules when not k) ∷ [])) 0 ≡ 0 → k ≡ true
zero_kept [] true h = refl
zero_kept [] false h = absurd (omega (arith, h))
zero_kept (c ∷ cs) k h = by (zero_kept cs k) c.given h
  where
    by : (refuse number_of (cs ++ ((Refusal.Rules when not k) ∷ [])) 0 ≡ 0 → k ≡ true) → (t : Bool) → cond t (number_of c.refusal) (refuse number_of (cs ++ ((Refusal.Rules when not k) ∷ [])) 0) ≡ 0 → k ≡ true
    by rest true h = absurd (not_zero c.refusal (sym h))
    by rest false h = rest h

three_broken : (s t k : Bool) → ◌≡◌ {A = ℕ} (cond s 1 (cond t 2 (cond (not k) 3 0))) 3 → k ≡ false
three_broken true t k h = absurd (omega (arith, h))
three_broken false true k h = absurd (omega (arith, h))
three_broken false false true h = absurd (omega (arith, h))
three_broken false false false h = refl

-- what a call says of the link by its answer
by_answer : (l : Link) (n : ℕ) (P : Type 0) → (◌≡◌ {A = ℕ} 2 n → P) → ((e : Event) (f : OpenFrame) → refuse number_of (met_causes l e f) 0 ≡ n → P) → ((b : List ℕ) → refuse number_of (receive_causes l b) 0 ≡ n → P) → (c : FaceCall) → (face_of c l).answer ≡ n → P
by_answer l n P unnamed met-with received (frame b) h = received b (sym (receive_answers l b) ∙ h)
by_answer l n P unnamed met-with received (numbers c o) h = by (event_of c) refl
  where
    by : (r : Option Event) → event_of c ≡ r → P
    by (Some e) q = met-with e (frame_of o) (sym (event_answers l c o e q) ∙ h)
    by None q = unnamed (sym (unnamed_two l c o q) ∙ h)

pub taken_kept : (l : Link) (c : FaceCall) → (face_of c l).answer ≡ 0 → keeps_lent l ≡ true
taken_kept l =
    by_answer l 0 (keeps_lent l ≡ true) (λ h. absurd (omega (arith, h)))
    (λ e f h. zero_kept ((Refusal.Unlisted when (has_frame e && not (head_listed f.head))) ∷ []) (keeps_lent l) h)
    (λ b h. zero_kept (read_causes b) (keeps_lent l) h)

pub never_three : (l : Link) → keeps_lent l ≡ true → (c : FaceCall) → (face_of c l).answer ≡ 3 → ⊥
never_three l ok c h = clash (keeps_lent l) ok (broken c h)
  where
    broken : (c : FaceCall) → (face_of c l).answer ≡ 3 → keeps_lent l ≡ false
    broken =
        by_answer l 3 (keeps_lent l ≡ false) (λ h. absurd (omega (arith, h)))
        (λ e f h. three_broken false (has_frame e && not (head_listed f.head)) (keeps_lent l) h)
        (λ b h. three_broken (not (eqb (length b) 28)) (not (typed b && head_listed (head_of b))) (keeps_lent l) h)
