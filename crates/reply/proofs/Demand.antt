-- What is asked of a reply follows from what every call keeps: of the state and its history, and of one call more. Assumes nothing.
use Rattle.std.specs.Prelude.{Ok, Result}
use Prim.Native.Nat.{ℕ, suc, ◌+◌, ◌≤◌}
use mathlib.Core.Bool.{Bool, true, cond}
use mathlib.Core.List.{List, [], ◌∷◌, ◌++◌}
use mathlib.Core.Logic.{inl, inr, ◌↔◌}
use mathlib.Core.Path.{◌≡◌, refl, sym, ap, subst, subst⁻¹, ◌∙◌}
use native.Mathlib.Omega.{arith}
use lib.Dec.{ltb}
use lib.ListN.{length}
use borrow.Author.Tests.{ltb-true, ltb-false, not-false}
use Rattle.laws.specs.Names.{flag}
use Rattle.laws.proofs.Bools.{impossible, by_test}
use Rattle.refusals.specs.declared.Refusal.{Refusal}
use Rattle.refusals.proofs.Causes.{NoneGiven, by_causes}
use Rattle.reply.specs.Rules.{unstarted, keeps_rules}
use Rattle.reply.specs.Steps.{refused, retransmit_of, failed as failed_step}
use Rattle.reply.specs.Calls.{Call, start, respond, ack, nak, timeout, lost, nexus, cancel, causes_of, goes_on, step_of, run}
use Rattle.reply.specs.Grounds.{Unfinished}
use Rattle.reply.specs.History.{EntryOf, started, sent, acked, nacked, timed_out, was_lost, ended, entry_of, entries}
use Rattle.reply.specs.History.{due, good, failed, Went, settle, view, allowed, failures, Latest, is_answer}
use Rattle.reply.specs.Words.{left, word_by}
use Rattle.reply.specs.Log.{Response, Entry, next_response, entries_of, history}
use Rattle.reply.specs.Demand.{Replies}
use Rattle.reply.specs.declared.Reply.{Reply}
use Rattle.reply.specs.declared.Stepped.{Stepped}
use Rattle.reply.specs.declared.Answer.{Answer}
use Rattle.reply.specs.declared.Phase.{Phase}
use Rattle.reply.proofs.Facts.{in_ask, in_wait, unfinished_says}
use Rattle.reply.proofs.Refusals.{taken}
use Rattle.reply.proofs.Exact.{reached}
use Rattle.reply.proofs.Invariant.{Then, Live, all_long, all_count, again, first_or_failed, then_long, then_count, then_latest, fails_too, arrives}
use Rattle.reply.proofs.Invariant.{Inv, live_in, out, used_out, left_is, at_first, all_keep}

apart : ◌≡◌ {A = ℕ} 0 1 → ⊥
apart z = omega arith

module _ {F : Type 0} where
  long : (p : Phase) (s : Reply) (v : List (Went F)) → Live p s v → length v ≤ s.used + 1
  long Phase.New s v l = let n = all_long 0 v l in omega arith
  long Phase.Ask s v l = let n = all_long s.used v l in omega arith
  long Phase.Wait s v l = let n = then_long due s.used v l in omega arith
  long Phase.Done s v l = let n = then_long good s.used v l in omega arith
  long Phase.Fail s v l = let n = all_long (suc s.used) v l in omega arith
  long Phase.End s v (inl l) = let n = all_long s.used v l in omega arith
  long Phase.End s v (inr l) = let n = then_long due s.used v l in omega arith

  only : {d e : EntryOf F} → d ∷ [] ≡ e ∷ [] → d ≡ e
  only q = cc

  no_entry : {A : Type 0} {e : EntryOf F} → [] ≡ e ∷ [] → A
  no_entry q = absurd (apart (ap length q))

module _ {F : Type 0} (s : Reply) (h : List (EntryOf F)) (i : Inv s h) where
  -- a RESPONSE is out
  module _ (w : s.phase ≡ Phase.Wait) where
    fails_now : failures (settle failed (view h)) ≡ suc s.used
    fails_now = all_count (suc s.used) (settle failed (view h)) (fails_too s.used (view h) (out s h i w))

    arrives_now : Then good s.used (settle good (view h))
    arrives_now = arrives s.used (view h) (out s h i w)

    -- NAK, TIMEOUT and LOST alike
    word_now : (failed_step s).answer ≡ cond (left h) (Ok Answer.Retry) (Ok Answer.Fail)
    unfolding failed_step
    word_now =
        let is = left_is s h i w in
        by_test (λ (st : Stepped). st.answer ≡ cond (left h) (Ok Answer.Retry) (Ok Answer.Fail)) (ltb s.used s.resends)
        (λ t. rw (sym is ∙ t)) (λ t. rw (sym is ∙ t))

  -- a is Fail exactly at failure R+1, where after it there are n failures
  abbrev FailsAt : Result Answer Refusal → ℕ → Type 0
  FailsAt a n = (a ≡ Ok Answer.Fail) ↔ ((failures (view h) ≡ allowed h) × (n ≡ allowed h + 1))

  quiet : {a : Result Answer Refusal} {n : ℕ} → (a ≡ Ok Answer.Fail → ⊥) → (failures (view h) ≡ allowed h → n ≡ allowed h + 1 → ⊥) → FailsAt a n
  quiet off unmet = (λ e. absurd (off e), λ both. absurd (unmet both.0 both.1))

  failure : s.phase ≡ Phase.Wait → FailsAt (cond (left h) (Ok Answer.Retry) (Ok Answer.Fail)) (failures (settle failed (view h)))
  failure w =
      let now = fails_now w in
      let before = used_out s h i w in
      let most = i.tried in
      let asked = i.asked in
      by_test (λ (a : Result Answer Refusal). FailsAt a (failures (settle failed (view h)))) (left h)
      (λ t. let l = ltb-true (failures (view h)) (allowed h) t in quiet (λ e. cc) (λ x y. omega arith))
      (λ t. let l = ltb-false (failures (view h)) (allowed h) t in (λ _. (omega arith, omega arith), λ _. refl))

  fails : (e : EntryOf F) → (is_answer e ≡ true → s.phase ≡ Phase.Wait) → FailsAt (word_by h e) (failures (view (e ∷ h)))
  fails (started r) waited = quiet (λ e. cc) (λ x y. omega arith)
  fails (sent f) waited = quiet (λ e. cc) (λ x y. omega arith)
  fails acked waited =
      let now = then_count good refl s.used (settle good (view h)) (arrives_now (waited refl)) in
      let before = used_out s h i (waited refl) in
      quiet (λ e. cc) (λ x y. omega arith)
  fails nacked waited = failure (waited refl)
  fails timed_out waited = failure (waited refl)
  fails was_lost waited = failure (waited refl)
  fails ended waited = quiet (λ e. cc) (λ x y. omega arith)

  not_done : ◌≡◌ {A = Result Answer Refusal} (cond (left h) (Ok Answer.Retry) (Ok Answer.Fail)) (Ok Answer.Done) → ⊥
  not_done = by_test (λ (a : Result Answer Refusal). a ≡ Ok Answer.Done → ⊥) (left h) (λ t e. cc) (λ t e. cc)

  delivers : (e : EntryOf F) → (is_answer e ≡ true → s.phase ≡ Phase.Wait) → word_by h e ≡ Ok Answer.Done → Latest good (view (e ∷ h))
  delivers (started r) waited q = cc
  delivers (sent f) waited q = cc
  delivers acked waited q = then_latest good s.used (settle good (view h)) (arrives_now (waited refl))
  delivers nacked waited q = absurd (not_done q)
  delivers timed_out waited q = absurd (not_done q)
  delivers was_lost waited q = absurd (not_done q)
  delivers ended waited q = cc

  -- a RESPONSE goes only in Ask, and an answer is taken only in Wait
  sends : (c : Call) (f g : F) → NoneGiven (causes_of c s) → entry_of c f ≡ sent g → (f ≡ g) × (s.phase ≡ Phase.Ask)
  sends (start r) f g off e = absurd (apart (cc))
  sends respond f g off e = (cc, in_ask s.phase (not-false _ off.1.0))
  sends ack f g off e = absurd (apart (cc))
  sends nak f g off e = absurd (apart (cc))
  sends timeout f g off e = absurd (apart (cc))
  sends lost f g off e = absurd (apart (cc))
  sends nexus f g off e = absurd (apart (cc))
  sends cancel f g off e = absurd (apart (cc))

  answers : (c : Call) (f : F) → NoneGiven (causes_of c s) → is_answer (entry_of c f) ≡ true → s.phase ≡ Phase.Wait
  answers (start r) f off e = impossible e
  answers respond f off e = impossible e
  answers ack f off e = in_wait s.phase (not-false _ off.1.0)
  answers nak f off e = in_wait s.phase (not-false _ off.1.0)
  answers timeout f off e = in_wait s.phase (not-false _ off.1.0)
  answers lost f off e = in_wait s.phase (not-false _ off.1.0)
  answers nexus f off e = impossible e
  answers cancel f off e = impossible e

  says : (c : Call) (f : F) → NoneGiven (causes_of c s) → (goes_on c s).answer ≡ word_by h (entry_of c f)
  says (start r) f off = refl
  says respond f off = refl
  says ack f off = refl
  says nak f off = word_now (in_wait s.phase (not-false _ off.1.0))
  says timeout f off = word_now (in_wait s.phase (not-false _ off.1.0))
  says lost f off = word_now (in_wait s.phase (not-false _ off.1.0))
  says nexus f off = refl
  says cancel f off = refl

  used_is : Unfinished s.phase → failures (view h) ≡ s.used
  used_is (inl e) = all_count s.used (view h) (live_in s h i Phase.Ask e)
  used_is (inr e) = used_out s h i e

  module _ (bit : F → ℕ) where
    -- what the state says by itself, and of a call that adds es what it has to say
    demand_of : (es : List (EntryOf F)) (next : Stepped) → (next.answer ≡ Ok Answer.Done → Latest good (view (es ++ h)))
        → ((f : F) → es ≡ sent f ∷ [] → (bit f ≡ retransmit_of s) × (s.phase ≡ Phase.Ask))
        → ((e : EntryOf F) → es ≡ e ∷ [] → is_answer e ≡ true → s.phase ≡ Phase.Wait) → FailsAt next.answer (failures (view (es ++ h)))
        → ((e : EntryOf F) → es ≡ e ∷ [] → next.answer ≡ word_by h e) → Replies bit s h es next
    demand_of es next delivered goes waited fails word =
        record {
          delivered = delivered;
          sure = λ e. then_latest good s.used (view h) (live_in s h i Phase.Done e);
          retransmit = λ f e. let g = goes f e in g.0 ∙ ap flag (again s.used (view h) (live_in s h i Phase.Ask g.1));
          goes = λ f e. first_or_failed s.used (view h) (live_in s h i Phase.Ask (goes f e).1);
          few = (let asked = i.asked in let most = i.tried in let l = long s.phase s (view h) i.live in omega arith);
          awaited = λ e q a. then_latest due s.used (view h) (out s h i (waited e q a));
          asked = i.asked;
          used = λ u. (let n = used_is ((unfinished_says s.phase).0 u) in let asked = i.asked in let most = i.tried in (sym n, omega arith));
          fails = fails;
          lives = i.lives;
          word = word;
        }

    -- a refused call moves nothing
    pub unmoved : (k : Refusal) → Replies bit s h [] (refused s k)
    unmoved k =
        demand_of [] (refused s k) (λ e. cc) (λ f e. no_entry e) (λ e q a. no_entry q)
        (quiet (λ e. cc) (λ x y. omega arith)) (λ e q. no_entry q)

    -- one that is taken, and sends f if it sends a RESPONSE
    pub moved : (c : Call) (f : F) → bit f ≡ retransmit_of s → NoneGiven (causes_of c s) → Replies bit s h (entry_of c f ∷ []) (goes_on c s)
    moved c f is off =
        let word = says c f off in
        let waited = answers c f off in
        demand_of (entry_of c f ∷ []) (goes_on c s) (λ a. delivers (entry_of c f) waited (sym word ∙ a))
        (λ g e. let b = sends c f g off (only e) in (ap bit (sym b.0) ∙ is, b.1))
        (λ e q a. waited (ap is_answer (only q) ∙ a))
        (subst⁻¹ (λ (a : Result Answer Refusal). FailsAt a (failures (view (entry_of c f ∷ h)))) word (fails (entry_of c f) waited))
        (λ e q. word ∙ ap (word_by h) (only q))

    pub demand : (c : Call) (f : F) → bit f ≡ retransmit_of s → Replies bit s h (entries c f (step_of c s).answer) (step_of c s)
    demand c f is =
        by_causes (λ (st : Stepped). Replies bit s h (entries c f st.answer) st) (refused s) unmoved (causes_of c s) (goes_on c s)
        (λ off. subst⁻¹ (λ (t : Bool). Replies bit s h (cond t [] (entry_of c f ∷ [])) (goes_on c s)) (taken c s) (moved c f is off))

abbrev pub bit_of : Response → ℕ
bit_of f = f.retransmit

-- over any calls of s, and one call more, after the history h
abbrev pub DemandFrom : Reply → List Entry → Type 0
DemandFrom s h = (cs : List Call) (c : Call) → let t = run cs s in Replies bit_of t (history cs s h) (entries_of c t) (step_of c t)

demands : (s : Reply) (h : List Entry) → Inv s h → DemandFrom s h
demands s h i cs c = demand (run cs s) (history cs s h) (all_keep cs s h i) bit_of c (next_response (run cs s)) refl

-- over any calls from the state before START, refused ones and later STARTs among them
pub replies : DemandFrom unstarted []
replies = demands unstarted [] at_first

-- the same of a reply that was saved after some calls and is taken back
pub replies_saved : (cs : List Call) (saved : Reply) → run cs unstarted ≡ saved → DemandFrom saved (history cs unstarted [])
replies_saved cs saved e =
    demands saved (history cs unstarted []) (subst (λ (t : Reply). Inv t (history cs unstarted [])) e (all_keep cs unstarted [] at_first))

-- a lent state that passes the test has a history, that of calls which leave it
pub lent : (s : Reply) → keeps_rules s ≡ true → (h : List Entry) × DemandFrom s h
lent s kept = let r = reached s kept in (history r.0 unstarted [], replies_saved r.0 s r.1)
