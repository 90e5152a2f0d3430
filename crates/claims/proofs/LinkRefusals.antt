-- A call of a link answers refusal k exactly if k is the first of document 01's causes that holds, and then leaves the state and does
-- nothing: each of its tests decides one cause. Assumes nothing.
use Rattle.std.specs.Prelude.{Err, Ok, Result, None, Option, Some}
use Prim.Native.Nat.{ℕ}
use mathlib.Core.Bool.{Bool, true, false, not, ◌&&◌}
use mathlib.Core.List.{List, [], ◌∷◌, ◌++◌}
use mathlib.Core.Logic.{◌↔◌, inl, inr}
use mathlib.Core.Path.{◌≡◌, refl, sym, ap, ◌∙◌}
use native.Mathlib.Omega.{arith}
use borrow.Author.Tests.{not-false}
use Rattle.laws.proofs.Bools.{never, and_right, impossible}
use Rattle.laws.specs.Tests.{Says}
use Rattle.laws.proofs.Tests.{both, implies, unless, means}
use Rattle.refusals.specs.Causes.{Cause, Ground, ◌when◌, refuse, First, Decides, nil, cons}
use Rattle.refusals.specs.declared.Refusal.{Refusal}
use Rattle.refusals.proofs.Results.{one, apart}
use Rattle.refusals.proofs.Causes.{Verdict, stopped, passes, verdict, NoneGiven, only, if_first, through, refuse_append}
use Rattle.open_frame.specs.Open.{head_listed, head_of, frame_of, typed, read_causes, read_open}
use Rattle.open_frame.specs.declared.OpenFrame.{OpenFrame}
use Rattle.xl_parts.specs.declared.Phase.{Phase}
use Rattle.xl_parts.specs.declared.Primitive.{Primitive}
use Rattle.xl_parts.specs.declared.Message.{Message}
use Rattle.xl_parts.specs.declared.Event.{Event}
use Rattle.xl_parts.specs.declared.Wait.{Wait}
use Rattle.xl_parts.specs.declared.State.{State}
use Rattle.xl_parts.specs.declared.Stepped.{Stepped}
use Rattle.xl_parts.specs.Parts.{done}
use Rattle.xl_rows.specs.Table.{takes}
use Rattle.xl.specs.Rules.{fielded, is_frame, works, keeps_rules}
use Rattle.xl.specs.Steps.{has_frame, causes, refused, opened, step_of, receive_of}
use Rattle.xl.specs.Status.{in_phase, waiting, status_of}
use Rattle.xl_parts.specs.declared.LinkStatus.{LinkStatus}
use Rattle.claims.specs.Causes.{Bytes}
use Rattle.claims.specs.Links.{Brings, Working, in1, in2, in3, in4, in5, in6, Fields, Rules, step_grounds, receive_grounds, status_grounds}
use Rattle.claims.proofs.Calls.{Step, Receive, Status}
use Rattle.claims.proofs.Grounds.{open_length, open_bytes_lem, open_fields}

line_brings : (p : Primitive) → has_frame (Event.Line p) ≡ true → Brings (Event.Line p)
line_brings Primitive.Open e = inl refl
line_brings Primitive.OpenAccept e = impossible e
line_brings (Primitive.OpenReject k) e = impossible e
line_brings (Primitive.Aip w) e = impossible e
line_brings Primitive.Close e = impossible e

router_brings : (m : Message) → has_frame (Event.Router m) ≡ true → Brings (Event.Router m)
router_brings Message.SendOpen e = inr (inl refl)
router_brings Message.SendClose e = impossible e
router_brings (Message.ArbStatus w) e = impossible e
router_brings Message.OpenAccept e = impossible e
router_brings (Message.OpenReject k) e = impossible e
router_brings Message.BackoffRetry e = impossible e
router_brings Message.BackoffReversePath e = inr (inr refl)

pub brings : (e : Event) → (has_frame e ≡ true) ↔ Brings e
brings e = (there e, back)
  where
    there : (e : Event) → has_frame e ≡ true → Brings e
    there (Event.Line p) h = line_brings p h
    there (Event.Router m) h = router_brings m h
    there (Event.Manager c) h = impossible h
    there (Event.Own n) h = impossible h
    there (Event.Break b) h = impossible h
    there Event.Disable h = impossible h

    back : Brings e → has_frame e ≡ true
    back (inl h) = ap has_frame h
    back (inr (inl h)) = ap has_frame h
    back (inr (inr h)) = ap has_frame h

working : (p : Phase) → (works p ≡ true) ↔ Working p
working p = (there p, back p)
  where
    there : (p : Phase) → works p ≡ true → Working p
    there Phase.Xl0 e = impossible e
    there Phase.Xl1 e = in1
    there Phase.Xl2 e = in2
    there Phase.Xl3 e = in3
    there Phase.Xl4 e = in4
    there Phase.Xl5 e = in5
    there Phase.Xl6 e = in6
    there Phase.Xl7 e = impossible e
    there Phase.Xl8 e = impossible e
    there Phase.Xl9 e = impossible e
    there Phase.Xl10 e = impossible e

    back : (p : Phase) → Working p → works p ≡ true
    back Phase.Xl0 h = elim h [ ]
    back Phase.Xl1 in1 = refl
    back Phase.Xl2 in2 = refl
    back Phase.Xl3 in3 = refl
    back Phase.Xl4 in4 = refl
    back Phase.Xl5 in5 = refl
    back Phase.Xl6 in6 = refl
    back Phase.Xl7 h = elim h [ ]
    back Phase.Xl8 h = elim h [ ]
    back Phase.Xl9 h = elim h [ ]
    back Phase.Xl10 h = elim h [ ]

fields : (h : Option OpenFrame) → (fielded h ≡ true) ↔ Fields h
fields None = (λ e. tt, λ h. refl)
fields (Some f) = open_fields f.head

-- XL1 to XL6 hold a frame
frame_held : (h : Option OpenFrame) → Says (is_frame h) (h ≡ None → ⊥)
frame_held None = (impossible, λ n. absurd (n refl))
frame_held (Some f) = (λ e n. never (sym (ap is_frame n)), λ n. refl)

pub rules_say : (s : State) → Says (keeps_rules s) (Rules s)
unfolding keeps_rules
rules_say s =
    means (both (fields s.memory.held) (both (fields s.memory.heard) (implies (working s.phase) (frame_held s.memory.held))))
    (λ h. record { held = h.0; remembered = h.1.0; holds = h.1.1 }, λ r. (r.held, (r.remembered, r.holds)))

broken : (s : State) → (not (keeps_rules s) ≡ true) ↔ (Rules s → ⊥)
broken s = unless (rules_say s)

step_decides : (f : OpenFrame) (e : Event) (s : State) → Decides (causes f e s) (step_grounds f e s)
step_decides f e s = cons (both (brings e) (unless (open_fields f.head))) (cons (broken s) nil)

-- what is claimed of a call with these grounds: a refusal gives only its number
pub record Refuses (gs : List Ground) (s : State) (r : Stepped) : Type 1 where
  pub exactly : (k : Refusal) → (r.answer ≡ Err k) ↔ First gs k
  pub only_number : (k : Refusal) → r.answer ≡ Err k → r ≡ refused s k

-- a step that is refused by some causes, and done otherwise
refuses : (s : State) (cs : List Cause) (gs : List Ground) → Decides cs gs → (d r : Stepped) → d.answer ≡ Ok tt → r ≡ refuse (refused s) cs d → Refuses gs s r
refuses s cs gs decides d r is-done is = record {
  exactly = λ k. (λ e. only Err (Ok tt) one (apart tt) decides k (sym answer ∙ e), λ h. answer ∙ if_first Err (Ok tt) one (apart tt) decides k h);
  only_number = λ k e. by k e (verdict cs);
}
  where
    answer : r.answer ≡ refuse Err cs (Ok tt)
    answer = ap (λ (x : Stepped). x.answer) is ∙ through (λ (x : Stepped). x.answer) (refused s) cs d ∙ ap (refuse Err cs) is-done

    by : (k : Refusal) → r.answer ≡ Err k → Verdict cs → r ≡ refused s k
    by k e (stopped j h) = is ∙ h Stepped (refused s) d ∙ ap (refused s) (one j k (sym (answer ∙ h (Result (Unit {0}) Refusal) Err (Ok tt)) ∙ e))
    by k e (passes off h) = absurd (apart tt k (sym (answer ∙ h (Result (Unit {0}) Refusal) Err (Ok tt)) ∙ e))

step_refuses : (f : OpenFrame) (e : Event) (s : State) (r : Stepped) → r ≡ step_of f e s → Refuses (step_grounds f e s) s r
unfolding step_of
step_refuses f e s r is = refuses s (causes f e s) (step_grounds f e s) (step_decides f e s) (done (takes f e s)) r refl is

-- what is answered where no cause is given matters only there
refuse_under : {A : Type 0} (re : Refusal → A) (cs : List Cause) (a b : A) → (NoneGiven cs → a ≡ b) → refuse re cs a ≡ refuse re cs b
refuse_under {A} re cs a b h = by (verdict cs)
  where
    by : Verdict cs → refuse re cs a ≡ refuse re cs b
    by (stopped k e) = e A re a ∙ sym (e A re b)
    by (passes off e) = e A re a ∙ h off ∙ sym (e A re b)

abbrev receive_causes : List ℕ → State → List Cause
receive_causes b s = read_causes b ++ ((Refusal.Rules when not (keeps_rules s)) ∷ [])

receive_is : (b : List ℕ) (s : State) → receive_of b s ≡ refuse (refused s) (receive_causes b s) (done (takes (frame_of b) (Event.Line Primitive.Open) s))
unfolding receive_of read_open step_of
receive_is b s =
    let f = frame_of b in
    let e = Event.Line Primitive.Open in
    through (λ (r : Result OpenFrame Refusal). opened r s) Err (read_causes b) (Ok f)
    ∙ refuse_under (refused s) (read_causes b) (refuse (refused s) (causes f e s) (done (takes f e s))) (refuse (refused s) ((Refusal.Rules when not (keeps_rules s)) ∷ []) (done (takes f e s)))
    (λ off. ap (λ (t : Bool). refuse (refused s) ((Refusal.Unlisted when not t) ∷ (Refusal.Rules when not (keeps_rules s)) ∷ []) (done (takes f e s))) (and_right (typed b) _ (not-false (typed b && head_listed (head_of b)) off.1.0)))
    ∙ sym (refuse_append (refused s) (read_causes b) ((Refusal.Rules when not (keeps_rules s)) ∷ []) (done (takes f e s)))

receive_refuses : (b : List ℕ) (s : State) (r : Stepped) → Bytes b → r ≡ receive_of b s → Refuses (receive_grounds b s) s r
receive_refuses b s r small is =
    refuses s (receive_causes b s) (receive_grounds b s) (cons (unless (open_length b)) (cons (unless (open_bytes_lem b small)) (cons (broken s) nil)))
    (done (takes (frame_of b) (Event.Line Primitive.Open) s)) r refl (is ∙ receive_is b s)

status_refuses : (s : State) (r : Result LinkStatus Refusal) → r ≡ status_of s → (k : Refusal) → (r ≡ Err k) ↔ First (status_grounds s) k
unfolding status_of
status_refuses s r is k =
    let d = cons (broken s) nil in
    let a = in_phase s.phase s.memory.aip in (
      λ e. only Err (Ok a) one (apart a) d k (sym is ∙ e),
      λ h. is ∙ if_first Err (Ok a) one (apart a) d k h,
    )

-- 01 XL.4 01 XL.6 01 REFUSAL.1 01 REFUSAL.2 01 REFUSAL.3 01 REFUSAL.11 01 REFUSAL.12
pub record LinkRefusals : Type 1 where
  pub step : (c : Step) → Refuses (step_grounds c.args.1.1.0 c.args.1.0 c.args.0) c.args.0 c.answer
  pub receive : (c : Receive) → Bytes c.args.1.0.now → Refuses (receive_grounds c.args.1.0.now c.args.0) c.args.0 c.answer
  pub status : (c : Status) (k : Refusal) → (c.answer ≡ Err k) ↔ First (status_grounds c.args.0) k

pub link_refusals : LinkRefusals
link_refusals = record {
  step = λ c. step_refuses c.args.1.1.0 c.args.1.0 c.args.0 c.answer c.met;
  receive = λ c small. receive_refuses c.args.1.0.now c.args.0 c.answer small c.met;
  status = λ c k. status_refuses c.args.0 c.answer c.met k;
}
