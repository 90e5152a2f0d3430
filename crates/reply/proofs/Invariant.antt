-- A reply against its history, as an invariant that every call keeps: each RESPONSE since START failed, as many as resends were used, but for
-- the latest where its answer is due or was an ACK. Assumes nothing.
use Prim.Native.Nat.{ℕ, zero, suc, ◌+◌, ◌≤◌}
use mathlib.Core.Bool.{Bool, false, cond}
use mathlib.Core.List.{List, [], ◌∷◌, ◌++◌}
use mathlib.Core.Logic.{◌⊎◌, inl, inr, ⊎_elim}
use mathlib.Core.Path.{◌≡◌, refl, sym, ap, subst, subst⁻¹, ◌∙◌}
use native.Mathlib.Omega.{arith}
use lib.Dec.{ltb}
use lib.ListN.{length}
use borrow.Author.Tests.{ltb-true, lt-ltb, not-false}
use Rattle.laws.proofs.Bools.{by_test}
use Rattle.refusals.proofs.Causes.{NoneGiven, by_causes}
use Rattle.reply.specs.Rules.{unstarted}
use Rattle.reply.specs.Steps.{refused, unfinished, failed as failed_step, ended as ended_step}
use Rattle.reply.specs.Calls.{Call, start, respond, ack, nak, timeout, lost, nexus, cancel, causes_of, goes_on, step_of, run}
use Rattle.reply.specs.Grounds.{Unfinished}
use Rattle.reply.specs.History.{EntryOf, ended, entry_of, entries, Fate, due, good, failed, Went, settle, view, allowed}
use Rattle.reply.specs.History.{has_failed, last_failed, failures, Latest}
use Rattle.reply.specs.Words.{left, underway}
use Rattle.reply.specs.Log.{next_response, entries_of, history, Entry}
use Rattle.reply.specs.declared.Reply.{Reply}
use Rattle.reply.specs.declared.Stepped.{Stepped}
use Rattle.reply.specs.declared.Phase.{Phase}
use Rattle.reply.proofs.Facts.{in_ask, in_wait, unfinished_says}
use Rattle.reply.proofs.Refusals.{taken}

module _ {F : Type 0} where
  -- n RESPONSEs, which all failed
  abbrev pub Failed : ℕ → List (Went F) → Type 0
  Failed zero [] = Unit {0}
  Failed zero (w ∷ ws) = ⊥
  Failed (suc n) [] = ⊥
  Failed (suc n) (w ∷ ws) = (w.fate ≡ failed) × Failed n ws

  -- and one more, of which this became
  abbrev pub Then : Fate → ℕ → List (Went F) → Type 0
  Then k n [] = ⊥
  Then k n (w ∷ ws) = (w.fate ≡ k) × Failed n ws

  -- n RESPONSEs that failed are n, n failures, and the latest of them, if there is one, failed
  pub all_long : (n : ℕ) (v : List (Went F)) → Failed n v → length v ≡ n
  all_long zero [] a = refl
  all_long zero (w ∷ ws) a = absurd a
  all_long (suc n) [] a = absurd a
  all_long (suc n) (w ∷ ws) a = ap suc (all_long n ws a.1)

  pub all_count : (n : ℕ) (v : List (Went F)) → Failed n v → failures v ≡ n
  all_count zero [] a = refl
  all_count zero (w ∷ ws) a = absurd a
  all_count (suc n) [] a = absurd a
  all_count (suc n) (w ∷ ws) a = rw a.0 (ap suc (all_count n ws a.1))

  pub again : (n : ℕ) (v : List (Went F)) → Failed n v → ltb 0 n ≡ last_failed v
  again zero [] a = refl
  again zero (w ∷ ws) a = absurd a
  again (suc n) [] a = absurd a
  again (suc n) (w ∷ ws) a = rw a.0 (lt-ltb 0 (suc n) (omega arith))

  pub first_or_failed : (n : ℕ) (v : List (Went F)) → Failed n v → (v ≡ []) ⊎ Latest failed v
  first_or_failed zero [] a = inl refl
  first_or_failed zero (w ∷ ws) a = absurd a
  first_or_failed (suc n) [] a = absurd a
  first_or_failed (suc n) (w ∷ ws) a = inr a.0

  -- and with one more, of which this became
  pub then_long : (k : Fate) (n : ℕ) (v : List (Went F)) → Then k n v → length v ≡ suc n
  then_long k n [] t = absurd t
  then_long k n (w ∷ ws) t = ap suc (all_long n ws t.1)

  pub then_count : (k : Fate) → has_failed k ≡ false → (n : ℕ) (v : List (Went F)) → Then k n v → failures v ≡ n
  then_count k off n [] t = absurd t
  then_count k off n (w ∷ ws) t = rw (ap has_failed t.0 ∙ off) (all_count n ws t.1)

  pub then_latest : (k : Fate) (n : ℕ) (v : List (Went F)) → Then k n v → Latest k v
  then_latest k n [] t = absurd t
  then_latest k n (w ∷ ws) t = t.0

  abbrev pub Live : Phase → Reply → List (Went F) → Type 0
  Live Phase.New s v = Failed 0 v
  Live Phase.Ask s v = Failed s.used v
  Live Phase.Wait s v = Then due s.used v
  Live Phase.Done s v = Then good s.used v
  Live Phase.Fail s v = Failed (suc s.used) v
  Live Phase.End s v = Failed s.used v ⊎ Then due s.used v

  pub record Inv (s : Reply) (h : List (EntryOf F)) : Type 0 where
    pub asked : s.resends ≡ allowed h
    pub tried : s.used ≤ s.resends
    pub live : Live s.phase s (view h)
    pub lives : unfinished s.phase ≡ underway h

  -- the latest fails too
  pub fails_too : (n : ℕ) (v : List (Went F)) → Then due n v → Failed (suc n) (settle failed v)
  fails_too n [] t = absurd t
  fails_too n (w ∷ ws) t = (refl, t.1)

  pub arrives : (n : ℕ) (v : List (Went F)) → Then due n v → Then good n (settle good v)
  arrives n [] t = absurd t
  arrives n (w ∷ ws) t = (refl, t.1)

  module _ (s : Reply) (h : List (EntryOf F)) (i : Inv s h) where
    pub live_in : (p : Phase) → s.phase ≡ p → Live p s (view h)
    live_in p e = subst (λ (q : Phase). Live q s (view h)) e i.live

    -- a RESPONSE is out
    module _ (w : s.phase ≡ Phase.Wait) where
      pub out : Then due s.used (view h)
      out = live_in Phase.Wait w

      pub used_out : failures (view h) ≡ s.used
      used_out = then_count due refl s.used (view h) out

      pub left_is : ltb s.used s.resends ≡ left h
      left_is = λ j. ltb (sym used_out j) (i.asked j)

    -- the invariant after a call that adds the entry e
    abbrev After : EntryOf F → Stepped → Type 0
    After e st = Inv st.state (e ∷ h)

    -- NAK, TIMEOUT and LOST alike
    fails : (e : EntryOf F) → allowed (e ∷ h) ≡ allowed h → view (e ∷ h) ≡ settle failed (view h)
        → underway (e ∷ h) ≡ left h → s.phase ≡ Phase.Wait → After e (failed_step s)
    unfolding failed_step
    fails e same settles lives w =
        let gone = fails_too s.used (view h) (out w) in
        let asked = i.asked ∙ sym same in
        let more : suc s.used ≡ s.used + 1 = omega arith in
        by_test (After e) (ltb s.used s.resends)
        (λ t. let l = ltb-true s.used s.resends t in
        record { asked = asked; tried = omega arith; live = rw (settles, ← more) gone; lives = sym (lives ∙ sym (left_is w) ∙ t) })
        (λ t. record { asked = asked; tried = i.tried; live = rw settles gone; lives = sym (lives ∙ sym (left_is w) ∙ t) })

    -- NEXUS and CANCEL
    stops : Unfinished s.phase → After ended (ended_step s)
    stops u = record { asked = i.asked; tried = i.tried; live = ⊎_elim (λ e. inl (live_in Phase.Ask e)) (λ e. inr (live_in Phase.Wait e)) u; lives = refl }

    pub moves : (c : Call) (f : F) → NoneGiven (causes_of c s) → After (entry_of c f) (goes_on c s)
    moves (start r) f off = record { asked = refl; tried = omega arith; live = tt; lives = refl }
    moves respond f off =
        record { asked = i.asked; tried = i.tried; live = (refl, live_in Phase.Ask (in_ask s.phase (not-false _ off.1.0))); lives = refl }
    moves ack f off =
        record { asked = i.asked; tried = i.tried; live = arrives s.used (view h) (out (in_wait s.phase (not-false _ off.1.0))); lives = refl }
    moves nak f off = fails (entry_of nak f) refl refl refl (in_wait s.phase (not-false _ off.1.0))
    moves timeout f off = fails (entry_of timeout f) refl refl refl (in_wait s.phase (not-false _ off.1.0))
    moves lost f off = fails (entry_of lost f) refl refl refl (in_wait s.phase (not-false _ off.1.0))
    moves nexus f off = stops ((unfinished_says s.phase).0 (not-false _ off.1.0))
    moves cancel f off = stops ((unfinished_says s.phase).0 (not-false _ off.1.0))

    -- any call keeps it
    pub keeps : (c : Call) (f : F) → Inv (step_of c s).state (entries c f (step_of c s).answer ++ h)
    keeps c f =
        by_causes (λ (st : Stepped). Inv st.state (entries c f st.answer ++ h)) (refused s) (λ k. i) (causes_of c s) (goes_on c s)
        (λ off. subst⁻¹ (λ (t : Bool). Inv (goes_on c s).state (cond t [] (entry_of c f ∷ []) ++ h)) (taken c s) (moves c f off))

-- it holds before any call, so it holds after all
pub at_first : {F : Type 0} → Inv {F = F} unstarted []
at_first = record { asked = refl; tried = omega arith; live = tt; lives = refl }

pub all_keep : (cs : List Call) (s : Reply) (h : List Entry) → Inv s h → Inv (run cs s) (history cs s h)
all_keep [] s h i = i
all_keep (c ∷ cs) s h i = all_keep cs (step_of c s).state (entries_of c s ++ h) (keeps s h i c (next_response s))
