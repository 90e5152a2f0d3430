-- The words and the columns against the history: a call keeps the count of resends, the read offset and the balance point what the
-- history says they are, and so each test that a step makes of the state is the history's. Assumes nothing.
use Rattle.std.specs.Prelude.{Ok}
use Prim.Native.Nat.{ℕ, suc, ◌-◌, ◌<◌}
use mathlib.Core.Bool.{Bool, true, false, cond}
use mathlib.Core.List.{List, [], ◌∷◌, ◌++◌}
use mathlib.Core.Logic.{◌⊎◌, inl, inr}
use mathlib.Core.Path.{◌≡◌, refl, sym, ap, subst, ◌∙◌}
use native.Mathlib.Omega.{arith}
use lib.Dec.{leb, eqb}
use lib.ListN.{length}
use borrow.Author.Tests.{eqb-true, eqb-false, eq-eqb, ne_eqb}
use Rattle.laws.proofs.Bools.{clash, impossible, by_test}
use Rattle.refusals.specs.Causes.{refuse}
use Rattle.refusals.specs.declared.Refusal.{Refusal}
use Rattle.refusals.proofs.Causes.{by_causes}
use Rattle.transfer.specs.Rules.{end_of, unstarted}
use Rattle.transfer.specs.Steps.{unfinished, draining, started, frame_length, framed, resent, none_left, finished, answered, all_sent, settled, drained, acked, nacked, dropped}
use Rattle.transfer.specs.Steps.{ended, refused, say, start_causes, frame_causes, answer_causes, end_causes, start_step, frame_step, ack_step, nak_step}
use Rattle.transfer.specs.Steps.{drop_step, end_step}
use Rattle.transfer.specs.Calls.{Call, start, frame, ack, nak, timeout, lost, nexus, cancel, step_of, run}
use Rattle.transfer.specs.History.{Frame, Entry, timed_out, was_lost, entries, is_refused, View, pop_ack, pop_nak, view}
use Rattle.transfer.specs.Log.{next_frame, entries_of, history, asked_of}
use Rattle.transfer.specs.Words.{last_due, resends, last_end, balance_by, word_of, word_by}
use Rattle.transfer.specs.declared.Transfer.{Transfer}
use Rattle.transfer.specs.declared.Stepped.{Stepped}
use Rattle.transfer.specs.declared.Answer.{Answer}
use Rattle.transfer.specs.declared.Phase.{Phase}
use Rattle.transfer.proofs.Calls.{work, some_left}
use Rattle.transfer.proofs.Invariant.{Inv, EndsAt, running, drains, count, tally}
use Rattle.transfer.proofs.Balance.{keeps, at_first}
use Rattle.transfer.proofs.Demand.{unsent}

pub record Tally (s : Transfer) (h : List Entry) : Type 0 where
  pub used : unfinished s.phase ≡ true → s.used ≡ resends h
  pub ends : unfinished s.phase ≡ true → EndsAt (view h).attempt s.read
  pub point : s.balance ≡ balance_by s.offset h

-- of a transfer that is over
over : {s : Transfer} {h : List Entry} → unfinished s.phase ≡ false → s.balance ≡ balance_by s.offset h → Tally s h
over {s} {h} e same = record { used = λ u. absurd (clash (unfinished s.phase) u e); ends = λ u. absurd (clash (unfinished s.phase) u e); point = same }

-- the frames of an attempt that has one end where its last does
last_end_lem : (b : ℕ) (fs : List Frame) (e : ℕ) → 0 < length fs → EndsAt fs e → last_end b fs ≡ e
last_end_lem b [] e some ends = absurd (omega arith)
last_end_lem b (f ∷ fs) e some ends = ends

-- what an ACK or NAK leaves of the attempt: its frames, or none of them once the last answer due came after a NAK
ack_ends : (w : List Frame) (v : View) (e : ℕ) → EndsAt v.attempt e → EndsAt (pop_ack w v).attempt e
ack_ends [] v e ends = ends
ack_ends (f ∷ []) v e ends = by_test (λ (x : View). EndsAt x.attempt e) v.nak (λ t. tt) (λ t. ends)
ack_ends (f ∷ (g ∷ gs)) v e ends = ends

nak_ends : (w : List Frame) (v : View) (e : ℕ) → EndsAt v.attempt e → EndsAt (pop_nak w v).attempt e
nak_ends [] v e ends = ends
nak_ends (f ∷ []) v e ends = tt
nak_ends (f ∷ (g ∷ gs)) v e ends = ends

ack_anew : (w : List Frame) (v : View) (e : ℕ) → length w ≡ 1 → v.nak ≡ true → EndsAt (pop_ack w v).attempt e
ack_anew [] v e one seen = absurd (omega arith)
ack_anew (f ∷ []) v e one seen = by_test (λ (x : View). EndsAt x.attempt e) v.nak (λ t. tt) (λ t. absurd (clash v.nak seen t))
ack_anew (f ∷ (g ∷ gs)) v e one seen = absurd (omega arith)

nak_anew : (w : List Frame) (v : View) (e : ℕ) → length w ≡ 1 → EndsAt (pop_nak w v).attempt e
nak_anew [] v e one = absurd (omega arith)
nak_anew (f ∷ []) v e one = tt
nak_anew (f ∷ (g ∷ gs)) v e one = absurd (omega arith)

-- one frame fewer is none exactly if there was one
one_due : (n k : ℕ) → k ≡ n → 0 < n → eqb (n - 1) 0 ≡ eqb k 1
one_due n k e some = by (eqb k 1) refl
  where
    by : (t : Bool) → eqb k 1 ≡ t → eqb (n - 1) 0 ≡ t
    by true q = let one = eqb-true k 1 q in eq-eqb (n - 1) 0 (omega arith)
    by false q = let more = eqb-false k 1 q in ne_eqb (n - 1) 0 (λ z. more (omega arith))

-- what a call c of s, answered st, leaves of them, with the history h before it
abbrev pub Tallies : Transfer → List Entry → Call → Stepped → Type 0
Tallies s h c st = Tally st.state (entries c (next_frame s) st.answer ++ h)

module _ (bound : ℕ) (s : Transfer) (h : List Entry) (i : Inv bound s (view h)) (w : Tally s h) where
  -- a call c that did st answers the history's word
  abbrev Says : Call → Stepped → Type 0
  Says c st = word_of st.answer ≡ word_by (asked_of s) h c

  module _ (u : unfinished s.phase ≡ true) where
    nak_is : (p : (s.phase ≡ Phase.Run) ⊎ (s.phase ≡ Phase.Drain)) → draining s.phase ≡ (view h).nak
    nak_is (inl p) = ap draining p ∙ sym (running bound s (view h) i p).calm
    nak_is (inr p) = ap draining p ∙ sym (drains bound s (view h) i p).seen

    pub nak_seen : draining s.phase ≡ (view h).nak
    nak_seen = nak_is (work s.phase u)

    pub spent_is : leb s.resends s.used ≡ leb s.resends (resends h)
    spent_is = ap (leb s.resends) (w.used u)

  module _ (u : unfinished s.phase ≡ true) (some : 0 < s.unanswered) where
    pub due_is : eqb (s.unanswered - 1) 0 ≡ last_due (view h)
    due_is = one_due s.unanswered (length (view h).waiting) (count bound s h i (work s.phase u)) some

    last_is : last_end s.offset (view h).attempt ≡ s.read
    last_is = let l = tally bound s h i (work s.phase u) in last_end_lem s.offset (view h).attempt s.read (omega arith) (w.ends u)

    pub whole_is : all_sent s ≡ eqb (last_end s.offset (view h).attempt) (end_of s)
    whole_is = ap (λ (x : ℕ). eqb x (end_of s)) (sym last_is)

    -- a NAK was reported before
    module _ (d : draining s.phase ≡ true) where
      drain_tallies : Tallies s h ack (drained (answered s))
      unfolding drained
      drain_tallies =
          by_test (Tallies s h ack) (eqb (s.unanswered - 1) 0)
          (λ t. record {
            used = λ _. rw (sym (nak_seen u) ∙ d, sym due_is ∙ t) (let n = w.used u in omega arith);
            ends = λ _. ack_anew (view h).waiting (view h) s.balance (eqb-true _ _ (sym due_is ∙ t)) (sym (nak_seen u) ∙ d);
            point = rw (sym (nak_seen u) ∙ d) w.point;
          })
          (λ t. record {
            used = λ _. rw (sym (nak_seen u) ∙ d, sym due_is ∙ t) (w.used u);
            ends = λ _. ack_ends (view h).waiting (view h) s.read (w.ends u);
            point = rw (sym (nak_seen u) ∙ d) w.point;
          })

      drain_word : Says ack (drained (answered s))
      unfolding drained
      drain_word = by_test (Says ack) (eqb (s.unanswered - 1) 0) (λ t. rw (sym (nak_seen u) ∙ d, sym due_is ∙ t)) (λ t. rw (sym (nak_seen u) ∙ d, sym due_is ∙ t))

    module _ (d : draining s.phase ≡ false) where
      run_tallies : Tallies s h ack (cond (eqb (s.unanswered - 1) 0) (settled (answered s)) (say (Ok Answer.Ok) (answered s)))
      unfolding settled
      run_tallies =
          by_test (Tallies s h ack) (eqb (s.unanswered - 1) 0)
          (λ t. by_test (Tallies s h ack) (all_sent s)
          (λ q. over refl (rw (sym (nak_seen u) ∙ d, sym due_is ∙ t) (sym last_is)))
          (λ q. record {
            used = λ _. rw (sym (nak_seen u) ∙ d) (w.used u);
            ends = λ _. ack_ends (view h).waiting (view h) s.read (w.ends u);
            point = rw (sym (nak_seen u) ∙ d, sym due_is ∙ t) (sym last_is);
          }))
          (λ t. record {
            used = λ _. rw (sym (nak_seen u) ∙ d) (w.used u);
            ends = λ _. ack_ends (view h).waiting (view h) s.read (w.ends u);
            point = rw (sym (nak_seen u) ∙ d, sym due_is ∙ t) w.point;
          })

      run_word : Says ack (cond (eqb (s.unanswered - 1) 0) (settled (answered s)) (say (Ok Answer.Ok) (answered s)))
      unfolding settled
      run_word =
          by_test (Says ack) (eqb (s.unanswered - 1) 0)
          (λ t. by_test (Says ack) (all_sent s)
          (λ q. rw (sym (nak_seen u) ∙ d, sym due_is ∙ t, sym whole_is ∙ q))
          (λ q. rw (sym (nak_seen u) ∙ d, sym due_is ∙ t, sym whole_is ∙ q)))
          (λ t. rw (sym (nak_seen u) ∙ d, sym due_is ∙ t))

    ack_tallies : Tallies s h ack (acked (answered s))
    unfolding acked
    ack_tallies = by_test (Tallies s h ack) (draining s.phase) drain_tallies run_tallies

    ack_word : Says ack (acked (answered s))
    unfolding acked
    ack_word = by_test (Says ack) (draining s.phase) drain_word run_word

    nak_tallies : Tallies s h nak (nacked (answered s))
    unfolding nacked drained
    nak_tallies =
        by_test (Tallies s h nak) (leb s.resends s.used)
        (λ l. over refl w.point)
        (λ l. by_test (Tallies s h nak) (eqb (s.unanswered - 1) 0)
        (λ t. record {
          used = λ _. rw (sym due_is ∙ t) (let n = w.used u in omega arith);
          ends = λ _. nak_anew (view h).waiting (view h) s.balance (eqb-true _ _ (sym due_is ∙ t));
          point = w.point;
        })
        (λ t. record {
          used = λ _. rw (sym due_is ∙ t) (w.used u);
          ends = λ _. nak_ends (view h).waiting (view h) s.read (w.ends u);
          point = w.point;
        }))

    nak_word : Says nak (nacked (answered s))
    unfolding nacked drained
    nak_word =
        by_test (Says nak) (leb s.resends s.used) (λ l. rw (sym (spent_is u) ∙ l))
        (λ l. by_test (Says nak) (eqb (s.unanswered - 1) 0) (λ t. rw (sym (spent_is u) ∙ l, sym due_is ∙ t)) (λ t. rw (sym (spent_is u) ∙ l, sym due_is ∙ t)))

    drop_tallies : (c : Call) → Tallies s h c (finished (Ok Answer.Fail) Phase.Fail s) → Tallies s h c (resent (none_left s)) → Tallies s h c (dropped s)
    unfolding dropped
    drop_tallies c fails again = by_test (Tallies s h c) (leb s.resends s.used) (λ l. fails) (λ l. again)

    -- TIMEOUT and LOST are of one kind
    drop_word : Says timeout (dropped s)
    unfolding dropped
    drop_word = by_test (Says timeout) (leb s.resends s.used) (λ l. rw (sym (spent_is u) ∙ l)) (λ l. rw (sym (spent_is u) ∙ l))

    again : (g : List Entry) → resends g ≡ suc (resends h) → EndsAt (view g).attempt s.balance → s.balance ≡ balance_by s.offset g → Tally (resent (none_left s)).state g
    again g more none same = record { used = λ _. (let n = w.used u in omega arith); ends = λ _. none; point = same }

  answers : (P : Stepped → Type 0) → ((k : Refusal) → P (refused s k)) → (a : Stepped) → (unfinished s.phase ≡ true → 0 < s.unanswered → P a)
      → P (refuse (refused s) (answer_causes bound s) a)
  answers P stays a next = by_causes P (refused s) stays (answer_causes bound s) a (λ off. let l = some_left s off.1.0 in next l.0 l.1)

  pub tallies : (c : Call) → Tallies s h c (step_of bound c s)
  unfolding step_of start_step frame_step ack_step nak_step drop_step end_step
  tallies (start b n m r) =
      by_causes (Tallies s h (start b n m r)) (refused s) (λ k. w) (start_causes bound b n m r s) (say (Ok Answer.Ok) (started b n m r))
      (λ off. record { used = λ _. refl; ends = λ _. tt; point = refl })
  tallies frame =
      by_causes (Tallies s h frame) (refused s) (λ k. w) (frame_causes bound s) (framed (frame_length s) s)
      (λ off. record { used = w.used; ends = λ _. refl; point = w.point })
  tallies ack = answers (Tallies s h ack) (λ k. w) (acked (answered s)) ack_tallies
  tallies nak = answers (Tallies s h nak) (λ k. w) (nacked (answered s)) nak_tallies
  tallies timeout = answers (Tallies s h timeout) (λ k. w) (dropped s) (λ u some. drop_tallies u some timeout (over refl w.point) (again u some (timed_out ∷ h) refl tt w.point))
  tallies lost = answers (Tallies s h lost) (λ k. w) (dropped s) (λ u some. drop_tallies u some lost (over refl w.point) (again u some (was_lost ∷ h) refl tt w.point))
  tallies nexus = by_causes (Tallies s h nexus) (refused s) (λ k. w) (end_causes bound s) (ended s) (λ off. over refl w.point)
  tallies cancel = by_causes (Tallies s h cancel) (refused s) (λ k. w) (end_causes bound s) (ended s) (λ off. over refl w.point)

  -- if it is taken
  abbrev SaysTaken : Call → Stepped → Type 0
  SaysTaken c st = is_refused st.answer ≡ false → Says c st

  not_taken : (c : Call) (k : Refusal) → SaysTaken c (refused s k)
  not_taken c k e = impossible (sym e)

  pub says : (c : Call) → SaysTaken c (step_of bound c s)
  unfolding step_of start_step frame_step ack_step nak_step drop_step end_step
  says (start b n m r) = by_causes (SaysTaken (start b n m r)) (refused s) (not_taken (start b n m r)) (start_causes bound b n m r s) (say (Ok Answer.Ok) (started b n m r)) (λ off e. refl)
  says frame = by_causes (SaysTaken frame) (refused s) (not_taken frame) (frame_causes bound s) (framed (frame_length s) s) (λ off e. refl)
  says ack = answers (SaysTaken ack) (not_taken ack) (acked (answered s)) (λ u some e. ack_word u some)
  says nak = answers (SaysTaken nak) (not_taken nak) (nacked (answered s)) (λ u some e. nak_word u some)
  says timeout = answers (SaysTaken timeout) (not_taken timeout) (dropped s) (λ u some e. drop_word u some)
  says lost = answers (SaysTaken lost) (not_taken lost) (dropped s) (λ u some e. drop_word u some)
  says nexus = by_causes (SaysTaken nexus) (refused s) (not_taken nexus) (end_causes bound s) (ended s) (λ off e. refl)
  says cancel = by_causes (SaysTaken cancel) (refused s) (not_taken cancel) (end_causes bound s) (ended s) (λ off e. refl)

-- over any calls from the state before START
all_tallied : (bound : ℕ) (cs : List Call) (s : Transfer) (h : List Entry) → Inv bound s (view h) → Tally s h → Tally (run bound cs s) (history bound cs s h)
all_tallied bound [] s h i w = w
all_tallied bound (c ∷ cs) s h i w = all_tallied bound cs (step_of bound c s).state (entries_of bound c s ++ h) (keeps bound s h i c) (tallies bound s h i w c)

pub at_start : Tally unstarted []
at_start = over refl refl

pub tallied : (bound : ℕ) (cs : List Call) → Tally (run bound cs unstarted) (history bound cs unstarted [])
tallied bound cs = all_tallied bound cs unstarted [] (at_first bound) at_start

-- while unfinished the read offset is the end of the attempt's last frame, or the balance point where none was sent
pub read_is : (bound : ℕ) (s : Transfer) (h : List Entry) → Inv bound s (view h) → Tally s h → unfinished s.phase ≡ true → s.read ≡ last_end s.balance (view h).attempt
read_is bound s h i w u = by (work s.phase u) (view h).attempt refl
  where
    by : (s.phase ≡ Phase.Run) ⊎ (s.phase ≡ Phase.Drain) → (fs : List Frame) → (view h).attempt ≡ fs → s.read ≡ last_end s.balance fs
    by (inl p) [] e = unsent bound s h i p e
    by (inr p) [] e = absurd (let short = (drains bound s (view h) i p).short in let none = ap length e in omega arith)
    by p (f ∷ fs) e = sym (subst (λ (l : List Frame). EndsAt l s.read) e (w.ends u))
