-- What C sees of each call of a link is the machine's own step on the state that the numbers say; whatever is refused comes back as it was
-- lent; and over any calls from all zeros C sees the machine's run from XL0. Assumes nothing.
use Rattle.std.specs.Prelude.{Err, None, Ok, Option, Some}
use Prim.Native.Nat.{ℕ, min}
use mathlib.Core.Bool.{true, false, not}
use mathlib.Core.List.{List, [], ◌∷◌, map}
use mathlib.Core.Logic.{◌↔◌, inl, inr}
use mathlib.Core.Path.{◌≡◌, refl, sym, ap, subst⁻¹, ◌∙◌}
use native.Mathlib.Omega.{arith}
use Rattle.laws.specs.Tests.{Says}
use Rattle.laws.proofs.Bools.{impossible}
use Rattle.laws.proofs.Tests.{both, unless, means}
use Rattle.refusals.specs.Causes.{Cause, Ground, ◌when◌, refuse, First, here, later, Decides, nil, cons}
use Rattle.refusals.specs.Refusals.{number_of}
use Rattle.refusals.specs.declared.Refusal.{Refusal}
use Rattle.refusals.proofs.Causes.{Verdict, stopped, passes, verdict, only, if_first, none_held, if_none, through}
use Rattle.refusals.proofs.Numbers.{one_number, not_zero}
use Rattle.open_frame.specs.Open as opens
use Rattle.open_lent.specs.Lent.{frame_of}
use Rattle.open_lent.specs.declared.Open.{Open}
use Rattle.xl_parts.specs.declared.Primitive.{Primitive}
use Rattle.xl_parts.specs.declared.Message.{Message}
use Rattle.xl_parts.specs.declared.Event.{Event}
use Rattle.xl_parts.specs.declared.State.{State}
use Rattle.xl_parts.specs.declared.Stepped.{Stepped}
use Rattle.xl_parts.specs.declared.LinkStatus.{LinkStatus}
use Rattle.xl_parts.specs.Parts.{done, ready}
use Rattle.xl_numbers.specs.declared.codes.Code.{Code}
use Rattle.xl_numbers.specs.Codes.{event_number, event_of, action_of}
use Rattle.xl_numbers.specs.States.{status_number}
use Rattle.xl_numbers.proofs.CodeTrips.{event_named}
use Rattle.xl_numbers.proofs.StateTrips.{one_status}
use Rattle.xl_rows.specs.Table.{takes}
use Rattle.xl.specs.Steps.{has_frame, step_of, receive_of}
use Rattle.xl.specs.Status.{in_phase, status_of}
use Rattle.xl_lent.specs.declared.Link.{Link}
use Rattle.xl_lent.specs.declared.Step.{Step}
use Rattle.xl_lent.specs.Lent.{state_of, shown, zeros}
use Rattle.xl_lent.specs.Formed.{Formed}
use Rattle.xl_lent.specs.Face.{refused, told, heard, link_event, link_receive, link_status, keeps_lent, Sees}
use Rattle.xl_lent.specs.Typed.{typed_link, typed_state, blocked_link, blocked_state, closed_link, closed_state}
use Rattle.xl_lent.proofs.Says.{formed_says}
use Rattle.xl_lent.proofs.Trips.{state_back, narrow, shown_formed, lent_back, actions_back, zeros_ready, ready_zeros, typed_says, blocked_says, closed_says}
use Rattle.xl_lent.proofs.Laws.{status_formed}
use Rattle.xl_lent.proofs.Causes.{kept_causes, met_causes, receive_causes, met_is, receive_is, status_is}
use Rattle.xl_calls.specs.Links.{Call, event, bytes, call_of, run, surprises}
use Rattle.xl_calls.specs.After.{after}
use Rattle.xl_calls.specs.Faces.{FaceCall, face_of, face_run, makes, made}
use Rattle.xl_calls.proofs.Faces.{told_sees, event_told, receive_told, keeps_call, none_made, face_keeps, face_says, zeros_keeps, face_shown, behind, taken_kept, never_three}
use Rattle.sonerwal.proofs.link.sonerwal_link_event.Kinds as event-of
use Rattle.sonerwal.proofs.link.sonerwal_link_event.Reads as event-reads
use Rattle.sonerwal.proofs.link.sonerwal_link_receive.Kinds as receive-of
use Rattle.sonerwal.proofs.link.sonerwal_link_receive.Reads as receive-reads
use Rattle.sonerwal.proofs.link.sonerwal_link_status.Kinds as status-of
use Rattle.sonerwal.proofs.link.sonerwal_link_status.Reads as status-reads
use Rattle.claims.specs.Causes.{Bytes}
use Rattle.claims.specs.LinkFace.{Keeps, Unnamed, Carries, event_grounds, open_grounds, lent_grounds, Refused}
use Rattle.claims.specs.Links.{Brings, Rules}
use Rattle.claims.proofs.Calls.{Outcome}
use Rattle.claims.proofs.Grounds.{open_length, open_bytes_lem, open_fields}
use Rattle.refusals.proofs.Results.{apart}
use Rattle.claims.proofs.LinkRefusals.{brings, rules_say}
use Rattle.claims.proofs.Links.{links}

-- ---- the calls from C

abbrev pub LinkEvent : Type 0
LinkEvent = Outcome 0 event-of.ps event-of.r event-reads.Post

abbrev pub LinkReceive : Type 0
LinkReceive = Outcome 1 receive-of.ps receive-of.r receive-reads.Post

abbrev pub LinkAsk : Type 0
LinkAsk = Outcome 0 status-of.ps status-of.r status-reads.Post

-- the link, the two numbers, the frame and the bytes that they were given
abbrev pub event_link : LinkEvent → Link
event_link c = c.args.0

abbrev pub event_code : LinkEvent → Code
event_code c = c.args.1.0

abbrev pub event_frame : LinkEvent → Open
event_frame c = c.args.1.1.0

abbrev pub receive_link : LinkReceive → Link
receive_link c = c.args.0

abbrev pub receive_bytes : LinkReceive → List ℕ
receive_bytes c = c.args.1.0.now

abbrev pub ask_link : LinkAsk → Link
ask_link c = c.args.0

-- ---- tests and grounds

keeps_says : (l : Link) → Says (keeps_lent l) (Keeps l)
unfolding keeps_lent
keeps_says l = means (both (formed_says l) (rules_say (state_of l))) (λ h. record { formed = h.0; rules = h.1 }, λ k. (k.formed, k.rules))

broken : (l : Link) → (not (keeps_lent l) ≡ true) ↔ (Keeps l → ⊥)
broken l = unless (keeps_says l)

-- the numbers of an event that is named are the event's, and no other's
number_is : (c : Code) (e : Event) → event_of c ≡ Some e → c ≡ event_number e
number_is c e = (event_named c e).0

one_event : (c : Code) (e f : Event) → event_of c ≡ Some e → c ≡ event_number f → e ≡ f
one_event c e f q n = let same : Some e ≡ Some f = sym q ∙ (event_named c f).1 n in cc

-- a frame goes with the three
carries : (c : Code) (e : Event) → event_of c ≡ Some e → Says (has_frame e) (Carries c)
carries c e q = means (brings e) (there, back)
  where
    there : Brings e → Carries c
    there (inl h) = inl (number_is c e q ∙ ap event_number h)
    there (inr (inl h)) = inr (inl (number_is c e q ∙ ap event_number h))
    there (inr (inr h)) = inr (inr (number_is c e q ∙ ap event_number h))

    back : Carries c → Brings e
    back (inl h) = inl (one_event c e (Event.Line Primitive.Open) q h)
    back (inr (inl h)) = inr (inl (one_event c e (Event.Router Message.SendOpen) q h))
    back (inr (inr h)) = inr (inr (one_event c e (Event.Router Message.BackoffReversePath) q h))

no_event : (e : Event) → None ≡ Some e → ⊥
no_event e p = let z : ◌≡◌ {A = ℕ} 0 1 = cc in omega arith

unnamed_is : (c : Code) → event_of c ≡ None → Unnamed c
unnamed_is c q e n = no_event e (sym q ∙ (event_named c e).1 n)

carries_none : (c : Code) → Unnamed c → Carries c → ⊥
carries_none c none (inl h) = none (Event.Line Primitive.Open) h
carries_none c none (inr (inl h)) = none (Event.Router Message.SendOpen) h
carries_none c none (inr (inr h)) = none (Event.Router Message.BackoffReversePath) h

-- ---- refusals

-- a call that is refused by some causes, and answers 0 otherwise
refuses : (l : Link) (cs : List Cause) (gs : List Ground) → Decides cs gs → (d r : Step) → d.answer ≡ 0 → r ≡ refuse (refused l) cs d → Refused gs l r
refuses l cs gs decides d r is-done is = record {
  exactly = λ k. (λ e. only number_of 0 one_number not_zero decides k (sym answer ∙ e), λ h. answer ∙ if_first number_of 0 one_number not_zero decides k h);
  otherwise = (λ e. none_held number_of 0 one_number not_zero decides (sym answer ∙ e), λ h. answer ∙ if_none number_of 0 one_number not_zero decides h);
  keeps = λ k e. by k e (verdict cs);
}
  where
    answer : r.answer ≡ refuse number_of cs 0
    answer = ap (λ (x : Step). x.answer) is ∙ through (λ (x : Step). x.answer) (refused l) cs d ∙ ap (refuse number_of cs) is-done

    by : (k : Refusal) → r.answer ≡ number_of k → Verdict cs → r ≡ refused l k
    by k e (stopped j h) = is ∙ h Step (refused l) d ∙ ap (refused l) (one_number j k (sym (answer ∙ h ℕ number_of 0) ∙ e))
    by k e (passes off h) = absurd (not_zero k (sym (answer ∙ h ℕ number_of 0) ∙ e))

event_refuses : (l : Link) (c : Code) (o : Open) → Refused (event_grounds l c o) l (link_event l c o)
unfolding link_event
event_refuses l c o = by (event_of c) refl
  where
    by : (r : Option Event) → event_of c ≡ r → Refused (event_grounds l c o) l (link_event l c o)
    by (Some e) q =
        let f = frame_of o in
        refuses l ((Refusal.Unlisted when false) ∷ met_causes l e f) (event_grounds l c o)
        (cons (impossible, λ none. absurd (none e (number_is c e q))) (cons (both (carries c e q) (unless (open_fields f.head))) (cons (broken l) nil)))
        (told l (done (takes f e (state_of l)))) (link_event l c o) refl (ap (λ (r : Option Event). heard l r o) q ∙ met_is l e f)
    by None q =
        let none = unnamed_is c q in
        refuses l ((Refusal.Unlisted when true) ∷ (Refusal.Unlisted when false) ∷ kept_causes l) (event_grounds l c o)
        (cons (λ e. none, λ h. refl) (cons (impossible, λ h. absurd (carries_none c none h.0)) (cons (broken l) nil)))
        (told l (done (takes (frame_of o) Event.Disable (state_of l)))) (link_event l c o) refl (ap (λ (r : Option Event). heard l r o) q)

open_refuses : (l : Link) (b : List ℕ) → Bytes b → Refused (open_grounds l b) l (link_receive l b)
open_refuses l b small =
    refuses l (receive_causes l b) (open_grounds l b) (cons (unless (open_length b)) (cons (unless (open_bytes_lem b small)) (cons (broken l) nil)))
    (told l (done (takes (opens.frame_of b) (Event.Line Primitive.Open) (state_of l)))) (link_receive l b) refl (receive_is l b)

-- a status is no refusal
status_apart : (s : State) (k : Refusal) → status_number (Ok (in_phase s.phase s.memory.aip)) ≡ number_of k → ⊥
status_apart s k e = apart (in_phase s.phase s.memory.aip) k (one_status (Ok (in_phase s.phase s.memory.aip)) (Err k) e)

status_refuses : (l : Link) (k : Refusal) → (link_status l ≡ number_of k) ↔ First (lent_grounds l) k
status_refuses l k =
    let s = state_of l in
    let n = status_number (Ok (in_phase s.phase s.memory.aip)) in
    let d = cons (broken l) nil in (
      λ e. only number_of n one_number (status_apart s) d k (sym (status_is l) ∙ e),
      λ h. status_is l ∙ if_first number_of n one_number (status_apart s) d k h,
    )

-- ---- what C sees

event_sees : (l : Link) (c : Code) (o : Open) (e : Event) → Formed l → c ≡ event_number e → Sees (step_of (frame_of o) e (state_of l)) (link_event l c o)
unfolding call_of
event_sees l c o e w n = subst⁻¹ (Sees (step_of (frame_of o) e (state_of l))) (event_told l ((formed_says l).1 w) c o e ((event_named c e).1 n)) (told_sees l (event e (frame_of o)))

open_sees : (l : Link) (b : List ℕ) → Formed l → Sees (receive_of b (state_of l)) (link_receive l b)
unfolding call_of
open_sees l b w = subst⁻¹ (Sees (receive_of b (state_of l))) (receive_told l ((formed_says l).1 w) b) (told_sees l (bytes b))

status_three : (l : Link) → keeps_lent l ≡ true → link_status l ≡ 3 → ⊥
status_three l ok e = by ((status_refuses l Refusal.Rules).0 e)
  where
    by : First (lent_grounds l) Refusal.Rules → ⊥
    by (here off) = off ((keeps_says l).0 ok)
    by (later _ f) = elim f [ ]

-- 01 XL.1 01 XL.4 01 XL.6 01 XL.39 01 REFUSAL.2 01 REFUSAL.3 01 REFUSAL.12 01 PROMISE.3
pub record LinkFace : Type 1 where
  -- each call from C is the one that is defined
  pub events : (c : LinkEvent) → c.answer ≡ link_event (event_link c) (event_code c) (event_frame c)
  pub receives : (c : LinkReceive) → c.answer ≡ link_receive (receive_link c) (receive_bytes c)
  pub statuses : (c : LinkAsk) → c.answer ≡ link_status (ask_link c)
  -- where the numbers say a state, C sees the machine's own step on it: its answer, its actions, and numbers that say its new state
  pub sees_event : (c : LinkEvent) (e : Event) → Formed (event_link c) → event_code c ≡ event_number e → Sees (step_of (frame_of (event_frame c)) e (state_of (event_link c))) c.answer
  pub sees_open : (c : LinkReceive) → Formed (receive_link c) → Sees (receive_of (receive_bytes c) (state_of (receive_link c))) c.answer
  pub sees_status : (c : LinkAsk) → Formed (ask_link c) → c.answer ≡ status_number (status_of (state_of (ask_link c)))
  -- the actions that C sees read back as the machine's, one by one
  pub actions_back : (m : Stepped) (r : Step) → Sees m r → map action_of r.actions ≡ map Some m.actions
  -- refusal k exactly if k is the first ground that holds, whatever is lent; a refusal gives back the link as it was lent, and no action
  pub refuses_event : (c : LinkEvent) → Refused (event_grounds (event_link c) (event_code c) (event_frame c)) (event_link c) c.answer
  pub refuses_open : (c : LinkReceive) → Bytes (receive_bytes c) → Refused (open_grounds (receive_link c) (receive_bytes c)) (receive_link c) c.answer
  pub refuses_status : (c : LinkAsk) (k : Refusal) → (c.answer ≡ number_of k) ↔ First (lent_grounds (ask_link c)) k
  -- a state that keeps the rules is shown as numbers that say it, and numbers that say one are those that it is shown as
  pub shown_says : (s : State) → Rules s → state_of (shown s) ≡ s
  pub shown_formed : (s : State) → Formed (shown s)
  pub says_shown : (l : Link) → Keeps l → shown (state_of l) ≡ l
  -- all zeros is XL0 with nothing remembered
  pub all_zeros : state_of zeros ≡ ready
  pub idle : shown ready ≡ zeros
  -- each number stands in its own place: three links typed as numbers and as states
  pub typed : state_of typed_link ≡ typed_state
  pub typed_blocked : state_of blocked_link ≡ blocked_state
  pub typed_closed : state_of closed_link ≡ closed_state
  -- over any calls from all zeros, each given what the call before gave back, C sees the machine's run from XL0, of which `Links` speaks
  pub runs : (cs : List FaceCall) → face_run cs zeros ≡ shown (after (made cs))
  pub behind : (cs : List FaceCall) (c : FaceCall) (m : Call) → makes c ≡ m ∷ [] → Sees (call_of m (after (made cs))) (face_of c (face_run cs zeros))
  pub none_made : (l : Link) (c : FaceCall) → makes c ≡ [] → face_of c l ≡ refused l Refusal.Unlisted
  -- as the count of unexpected events that C reads
  pub counts : (cs : List FaceCall) → (face_run cs zeros).unexpected ≡ min (surprises (made cs) ready) 4294967295
  -- no call leaves a link that the next one refuses with 3
  pub never_three : (cs : List FaceCall) (c : FaceCall) → (face_of c (face_run cs zeros)).answer ≡ 3 → ⊥
  pub never_asked_three : (cs : List FaceCall) → link_status (face_run cs zeros) ≡ 3 → ⊥
  -- whatever is lent, a call is refused, or the numbers say a state that keeps the link's rules, and so does what comes back
  pub taken : (l : Link) (c : FaceCall) → (face_of c l).answer ≡ 0 → Keeps l × Keeps (face_of c l).state
  pub keeps : (cs : List FaceCall) (l : Link) → Keeps l → Keeps (face_run cs l)
  pub says : (cs : List FaceCall) (l : Link) → Keeps l → state_of (face_run cs l) ≡ run (made cs) (state_of l)

pub link_face : LinkFace
link_face = record {
  events = λ c. c.met;
  receives = λ c. c.met;
  statuses = λ c. c.met;
  sees_event = λ c e w n. subst⁻¹ (Sees (step_of (frame_of (event_frame c)) e (state_of (event_link c)))) c.met (event_sees (event_link c) (event_code c) (event_frame c) e w n);
  sees_open = λ c w. subst⁻¹ (Sees (receive_of (receive_bytes c) (state_of (receive_link c)))) c.met (open_sees (receive_link c) (receive_bytes c) w);
  sees_status = λ c w. c.met ∙ sym (status_formed (ask_link c) ((formed_says (ask_link c)).1 w));
  actions_back = λ m r sees. ap (λ (x : List Code). map action_of x) sees.actions ∙ actions_back m.actions;
  refuses_event = λ c. subst⁻¹ (Refused (event_grounds (event_link c) (event_code c) (event_frame c)) (event_link c)) c.met (event_refuses (event_link c) (event_code c) (event_frame c));
  refuses_open = λ c small. subst⁻¹ (Refused (open_grounds (receive_link c) (receive_bytes c)) (receive_link c)) c.met (open_refuses (receive_link c) (receive_bytes c) small);
  refuses_status = λ c k. subst⁻¹ (λ (n : ℕ). (n ≡ number_of k) ↔ First (lent_grounds (ask_link c)) k) c.met (status_refuses (ask_link c) k);
  shown_says = λ s r. state_back s (narrow s ((rules_say s).1 r));
  shown_formed = λ s. (formed_says (shown s)).0 (shown_formed s);
  says_shown = λ l k. lent_back l ((formed_says l).1 k.formed) (narrow (state_of l) ((rules_say (state_of l)).1 k.rules));
  all_zeros = zeros_ready;
  idle = ready_zeros;
  typed = typed_says;
  typed_blocked = blocked_says;
  typed_closed = closed_says;
  runs = face_shown;
  behind = behind;
  none_made = none_made;
  counts = λ cs. ap (λ (l : Link). l.unexpected) (face_shown cs) ∙ links.counts (made cs);
  never_three = λ cs c. never_three (face_run cs zeros) (face_keeps cs zeros zeros_keeps) c;
  never_asked_three = λ cs. status_three (face_run cs zeros) (face_keeps cs zeros zeros_keeps);
  taken = λ l c e. let ok = taken_kept l c e in ((keeps_says l).0 ok, (keeps_says (face_of c l).state).0 (keeps_call l ok c));
  keeps = λ cs l k. (keeps_says (face_run cs l)).0 (face_keeps cs l ((keeps_says l).1 k));
  says = λ cs l k. face_says cs l ((keeps_says l).1 k);
}
