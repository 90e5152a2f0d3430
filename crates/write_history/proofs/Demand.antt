-- What request c) asks of a write follows from what every call keeps and says. Assumes nothing.
use Rattle.refusals.specs.declared.Refusal.{Refusal}
use Rattle.std.specs.Prelude.{Ok, Result}
use Prim.Native.Nat.{ℕ, ◌+◌, ◌≤◌}
use mathlib.Core.Bool.{Bool, true, false, not, cond}
use mathlib.Core.List.{List, [], ◌∷◌, ◌++◌}
use mathlib.Core.Logic.{inl, inr, ◌↔◌}
use mathlib.Core.Path.{◌≡◌, refl, sym, ap, subst, ◌∙◌}
use native.Mathlib.Omega.{arith}
use lib.ListN.{length}
use Rattle.laws.specs.Tags.{digit}
use Rattle.laws.proofs.Bools.{impossible}
use Rattle.write.specs.Rules.{unstarted}
use Rattle.write.specs.Steps.{unfinished}
use Rattle.write.specs.Calls.{Call, step_of, run, is_refused, Typed, AllTyped}
use Rattle.write.specs.declared.Write.{Write}
use Rattle.write.specs.declared.Stepped.{Stepped}
use Rattle.write.specs.declared.Answer.{Answer}
use Rattle.write.specs.declared.Phase.{Phase}
use Rattle.write_history.specs.History.{Request, Entry, asked, acked, nacked, timed_out, was_lost, came, due, View, view, entries, Among}
use Rattle.write_history.specs.Words.{final, underway}
use Rattle.write_history.specs.Log.{entry_of, entries_of, history}
use Rattle.write_history.specs.Demand.{end_of_request, last_end, EndToEnd, Covers, ranges, Answered, WriteDemand}
use Rattle.write_history.proofs.Alike.{self}
use Rattle.write_history.proofs.Covers.{covers}
use Rattle.write_history.proofs.Invariant.{Live, Inv}
use Rattle.write_history.proofs.Says.{AllSaid, Told}
use Rattle.write_history.proofs.Says as says
use Rattle.write_history.proofs.Steps.{makes}

module _ (k : ℕ) (s : Write) (v : View) where
  -- the tags in use and the failures, while the write is unfinished
  record Counts : Type 0 where
    tags : (t : ℕ) → (digit s.tags t ≡ 1) ↔ Among t v.busy
    failures : s.used ≡ v.failures

  counts : (p : Phase) → Live k p s v → unfinished p ≡ true → Counts
  counts Phase.New l u = impossible u
  counts Phase.Ask l u = record { tags = l.is.busy; failures = l.is.failures }
  counts Phase.Wait l u = record { tags = l.is.busy; failures = l.is.failures }
  counts Phase.Take l u = record { tags = l.is.busy; failures = l.is.failures }
  counts Phase.Done l u = impossible u
  counts Phase.Fail l u = impossible u
  counts Phase.End l u = impossible u

  -- and once it is finished
  idle : (p : Phase) → Live k p s v → unfinished p ≡ false → s.tags ≡ 0
  idle Phase.New l u = l
  idle Phase.Ask l u = impossible (sym u)
  idle Phase.Wait l u = impossible (sym u)
  idle Phase.Take l u = impossible (sym u)
  idle Phase.Done l u = l
  idle Phase.Fail l u = l
  idle Phase.End l u = l

module _ (k : ℕ) (s : Write) (h : List Entry) (i : Inv k s (view h)) (e : Entry) (st : Stepped) (c : says.Call k s h e st) where
  b_is : (view h).request.offset ≡ s.offset
  b_is = ap (λ (q : Request). q.offset) i.request

  said : (es : List Entry) → entries e st.answer ≡ es → AllSaid k s (view h) st es
  said es same = subst (AllSaid k s (view h) st) same c.says

  whole : st.answer ≡ Ok Answer.Done → Covers (view h).request.offset (end_of_request (view h).request) (view (entries e st.answer ++ h)).taken
  whole d =
      let w = view (entries e st.answer ++ h) in
      let word = c.word.done d in
      let from : st.state.offset ≡ (view h).request.offset = sym (ap (λ (q : Request). q.offset) c.keeps.request) ∙ ap (λ (q : Request). q.offset) word.0 in
      covers (view h).request.offset (end_of_request (view h).request) w.taken (subst (λ (b : ℕ). EndToEnd b w.taken) from c.keeps.order) word.1

  answers_due : Answered (entries e st.answer) → (view h).fate ≡ due
  answers_due (inl is) = (said (acked ∷ []) is).0
  answers_due (inr (inl is)) = (said (nacked ∷ []) is).0
  answers_due (inr (inr (inl is))) = (said (timed_out ∷ []) is).0
  answers_due (inr (inr (inr is))) = (said (was_lost ∷ []) is).0

  -- whether the write goes on is what the history says, behind the call if it was before it
  pub lives_on : unfinished s.phase ≡ underway h → unfinished st.state.phase ≡ underway (entries e st.answer ++ h)
  lives_on l = by (is_refused st.answer) refl
    where
      by : (b : Bool) → is_refused st.answer ≡ b → unfinished st.state.phase ≡ underway (cond b [] (e ∷ []) ++ h)
      by true off = ap (λ (w : Write). unfinished w.phase) (c.kept off) ∙ l
      by false on = c.goes on ∙ ap (λ (a : Result Answer Refusal). not (final a)) (subst (λ (b : Bool). Told (view h) st (cond b [] (e ∷ []))) on c.told).0

  pub demand : unfinished s.phase ≡ underway h → WriteDemand k s h (entries e st.answer) st
  demand lives =
      record {
        request = i.request;
        order = subst (λ (b : ℕ). EndToEnd b (view h).taken) (sym b_is) i.order;
        next_is = i.next ∙ ap (λ (b : ℕ). last_end b (view h).taken) (sym b_is);
        complete = whole;
        completes = λ d is. (said (came d ∷ []) is).0.done;
        asks = λ x is. (said (asked x ∷ []) is).0;
        answers = answers_due;
        received = λ d is. (said (came d ∷ []) is).0.takes';
        late = λ d is. (said (came d ∷ []) is).0.late;
        tags = λ u. (counts k s (view h) s.phase i.live u).tags;
        freed = idle k s (view h) s.phase i.live;
        used = λ u. (counts k s (view h) s.phase i.live u).failures;
        bounded = i.used;
        fails = c.word.fails;
        few = subst (λ (q : Request). length (view h).asks ≤ ranges q.count q.burst + q.resends) (sym i.request) i.few;
        lives = lives;
        word = λ f is. (subst (Told (view h) st) is c.told).0;
      }

-- before any call
pub at_first : (k : ℕ) → Inv k unstarted (view [])
at_first k = record { request = refl; order = tt; next = refl; used = omega arith; few = omega arith; live = refl }

pub all_keep : (k : ℕ) (cs : List Call) (s : Write) (h : List Entry) → AllTyped k cs → Inv k s (view h) → Inv k (run k cs s) (view (history k cs s h))
all_keep k [] s h typed i = i
all_keep k (c ∷ cs) s h typed i = all_keep k cs (step_of k c s).state (entries_of k c s ++ h) typed.1 (makes k s h i c typed.0 (entry_of k c s) (self (entry_of k c s))).keeps

pub all_live : (k : ℕ) (cs : List Call) (s : Write) (h : List Entry) → AllTyped k cs → Inv k s (view h) → unfinished s.phase ≡ underway h
    → unfinished (run k cs s).phase ≡ underway (history k cs s h)
all_live k [] s h typed i l = l
all_live k (c ∷ cs) s h typed i l =
    let m = makes k s h i c typed.0 (entry_of k c s) (self (entry_of k c s)) in
    all_live k cs (step_of k c s).state (entries_of k c s ++ h) typed.1 m.keeps (lives_on k s h i (entry_of k c s) (step_of k c s) m l)

-- over any calls from the state before START, and one call more
pub demand_c : (k : ℕ) (cs : List Call) (c : Call) → AllTyped k cs → Typed k c →
    let s = run k cs unstarted in
    let h = history k cs unstarted [] in
    WriteDemand k s h (entries_of k c s) (step_of k c s)
demand_c k cs c typed one =
    let s = run k cs unstarted in
    let h = history k cs unstarted [] in
    let i = all_keep k cs unstarted [] typed (at_first k) in
    demand k s h i (entry_of k c s) (step_of k c s) (makes k s h i c one (entry_of k c s) (self (entry_of k c s))) (all_live k cs unstarted [] typed (at_first k) refl)
