-- Over any calls from a setup on, every SSP request to a destination has the loss timer that the history says: the setup leaves no request, a new one gets
-- the timer of another to its destination, and is the only one where none runs; a confirmation moves the timer of each alike. So an Open Failed loses the
-- nexus exactly where that timer, behind the confirmation, is due. Assumes nothing.
use Prim.Native.Nat.{ℕ, ◌<◌}
use mathlib.Core.Path.{◌≡◌, refl, sym, ap, subst, ◌∙◌}
use mathlib.Core.Bool.{Bool, true, false, not, cond, ◌&&◌}
use mathlib.Core.List.{List, [], ◌∷◌, ◌++◌}
use mathlib.Core.Logic.{inl, inr}
use native.Mathlib.Omega.{arith}
use lib.Dec.{eqb}
use lib.ListN.{get_or}
use borrow.Author.Tests.{eqb-true, eqb-false, eq-eqb, lt-ltb}
use Rattle.laws.proofs.Bools.{never, and_true, and_false}
use Rattle.open_frame.specs.declared.Head.{Head}
use Rattle.port_parts.specs.Parts.{blank, no_stamp, is_ssp}
use Rattle.port_parts.specs.Reasons.{is_retried, is_starting, is_stopping}
use Rattle.port_parts.specs.declared.Request.{Request}
use Rattle.port_parts.specs.declared.Stamp.{Stamp}
use Rattle.port_rules.specs.Kept.{Free}
use Rattle.port_rows.specs.Calls.{is_cancelled}
use Rattle.port_rows.specs.Finds.{room_of}
use Rattle.port_rows.specs.declared.Answer.{Answer}
use Rattle.port_rows.specs.declared.Done.{Done}
use Rattle.port_rows.specs.declared.Key.{Key}
use Rattle.port.specs.Calls.{left_of}
use Rattle.port.specs.History.{State, Call, setup, submit, cancel, choose, opened, open_failed, frame_status, closed, enable, disable, done_of, stepped_by, is_refused, leave, run, Entry, entries_of, history}
use Rattle.port.specs.declared.Stepped.{Stepped}
use Rattle.port.proofs.Begins.{left_here, left_there}
use Rattle.port.proofs.Refusals.{taken_of}
use Rattle.port_invariant.proofs.Leaves.{taken_state, taken_entry, by_taken, when_refused, by_step}
use Rattle.port_invariant.proofs.Submits.{Timer, off, some, room_timer}
use Rattle.port_history.specs.Standing.{is_setup}
use Rattle.port_history.specs.Turns.{keyed, Stays, Turns, Ssp}
use Rattle.port_history.specs.Runs.{Run, now, past}
use Rattle.port_history.specs.Marks.{since, cancels}
use Rattle.port_history.specs.Times.{time_of, why_of, is_nexus_loss, concerns, tags_of, is_none, timer_of, loss_or, loss_time, last_time, is_due}
use Rattle.port_history.proofs.Cores.{turned}
use Rattle.port_history.proofs.Steps.{first, by_first, setup_zeros, setup_says, first_zeros}
use Rattle.port_history.proofs.Entries.{keyed_of}
use Rattle.port_history.proofs.Turns.{same_answer, goes_on}
use Rattle.port_history.proofs.Runs.{Tells, tells_after}
use Rattle.port_history.proofs.Leaving.{first_tells}
use Rattle.port_history.proofs.Since.{cancelled_since}
use Rattle.port_history.proofs.Tags.{some_there, none_there}
use Rattle.port_history.proofs.Timers.{after, Clean, clean_after}
use Rattle.port_history.proofs.Moves.{Moves, Loses, moves_so, loses_so, keeps_so}

-- ---- the timer that the history says

abbrev timer : ℕ → List Entry → Stamp
timer = timer_of is_stopping is_starting

clean_timer : (destination : ℕ) (h : List Entry) → Clean (timer destination h)
clean_timer destination [] = refl
clean_timer destination (e ∷ h) = by (is_setup e.call) (is_none (tags_of destination (e ∷ h))) (concerns destination e) (clean_timer destination h)
  where
    by : (s n c : Bool) → Clean (timer destination h) → Clean (cond s no_stamp (cond n no_stamp (cond c (after e.call (timer destination h)) (timer destination h))))
    by true n c clean = refl
    by false true c clean = refl
    by false false true clean = clean_after e.call (timer destination h) clean
    by false false false clean = clean

-- it doesn't run where no request is there
timer_off : (destination : ℕ) (h : List Entry) → is_none (tags_of destination h) ≡ true → timer destination h ≡ no_stamp
timer_off destination [] e = refl
timer_off destination (e ∷ h) out = by (is_setup e.call) (is_none (tags_of destination (e ∷ h))) out
  where
    by : (s n : Bool) → n ≡ true → cond s no_stamp (cond n no_stamp (cond (concerns destination e) (after e.call (timer destination h)) (timer destination h))) ≡ no_stamp
    by true n q = refl
    by false true q = refl
    by false false q = absurd (never q)

-- ---- the records have it

abbrev Timers : List Entry → List Request → Type 0
Timers h l = (destination i : ℕ) → i < 32 → Ssp destination (get_or l i blank) → (get_or l i blank).loss ≡ timer destination h

-- one that stays was one
was_ssp : (destination : ℕ) {a b : Request} → Stays a b → Ssp destination b → Ssp destination a
was_ssp destination {a} {b} s q = by (eqb a.stage 0) refl
  where
    by : (t : Bool) → eqb a.stage 0 ≡ t → Ssp destination a
    by true e = absurd (q.0 (subst (λ (r : Request). Free r) (sym (s.free (eqb-true a.stage 0 e))) (eqb-true a.stage 0 e)))
    by false e =
        let same = (s.present (eqb-false a.stage 0 e)).1 in
        (eqb-false a.stage 0 e, (ap (λ (h : Head). h.protocol) (sym same) ∙ q.1.0, ap (λ (h : Head). h.destination) (sym same) ∙ q.1.1))

-- one call that is taken and no setup, where the history h told the state s and tells what it leaves
module _ (s : State) (c : Call) (d : Done) (h : List Entry) (plain : is_setup c ≡ false) (moves : Moves s.list c d) (turns : Turns s.list (left_of s.list d) d.answer) (told : Tells h s) (tells : Tells (record { call = c; answer = d.answer } ∷ h) (taken_state c s d)) (before : Timers h s.list) where
  abbrev l : List Request
  l = s.list

  abbrev m : List Request
  m = left_of l d

  abbrev a : Answer
  a = d.answer

  abbrev e : Entry
  e = record { call = c; answer = a }

  module _ (destination : ℕ) where
    abbrev t : Stamp
    t = timer destination h

    -- the timer behind the call, where a request of the destination is there
    timer_on : (i : ℕ) → i < 32 → Ssp destination (get_or m i blank) → timer destination (e ∷ h) ≡ cond (concerns destination e) (after c t) t
    timer_on i below ssp = λ k. cond (plain k) no_stamp (cond (some_there (e ∷ h) (taken_state c s d) tells destination i below ssp k) no_stamp (cond (concerns destination e) (after c t) t))

    -- a new one gets the timer of another, or none runs
    new : (g : Head) → g.protocol ≡ 1 → g.destination ≡ destination → (u : Stamp) → Timer l g 32 u → u ≡ t
    new g p q u (off nil) = sym (timer_off destination h (none_there h s told destination (λ i below ssp. nil i below (ssp.0, (ssp.1.1 ∙ sym q, (ssp.1.0 ∙ sym p, p))))))
    new g p q u (some i below mate) = before destination i below (mate.0, (mate.1.1.0 ∙ p, mate.1.0 ∙ q))

    here : a.slot < 32 → Ssp destination (get_or m a.slot blank) → (get_or m a.slot blank).loss ≡ cond (concerns destination e) (after c t) t
    here below ssp = by turns
      where
        at : get_or m a.slot blank ≡ d.entry
        at = left_here l d told.ok.list moves.some below

        by : Turns l m a → (get_or m a.slot blank).loss ≡ cond (concerns destination e) (after c t) t
        by (inl come) =
            let gives = moves.new come.word in
            ap (λ (r : Request). r.loss) at ∙ gives.0 ∙ new a.frame.head (ap (λ (g : Head). g.protocol) (sym come.head) ∙ ssp.1.0) (ap (λ (g : Head). g.destination) (sym come.head) ∙ ssp.1.1) (room_of l a.frame.head).loss (room_timer l a.frame.head)
            ∙ same (gives.1 t) (concerns destination e)
          where
            same : after c t ≡ t → (u : Bool) → t ≡ cond u (after c t) t
            same q true = sym q
            same q false = refl
        by (inr (inl go)) = absurd (ssp.0 (ap (λ (r : Request). r.stage) go.zeros))
        by (inr (inr rest)) =
            let was = was_ssp destination (rest.all a.slot below) ssp in
            let head = (rest.named below).1 in
            let p : is_ssp (get_or l a.slot blank).head ≡ true = eq-eqb (get_or l a.slot blank).head.protocol 1 was.1.0 in
            let about : concerns destination e ≡ true = and_true (lt-ltb a.slot 32 below) (and_true (eq-eqb a.frame.head.destination destination (ap (λ (g : Head). g.destination) (sym head) ∙ was.1.1)) (ap is_ssp (sym head) ∙ p)) in
            ap (λ (r : Request). r.loss) at ∙ moves.own rest.submitted rest.last below p ∙ ap (after c) (before destination a.slot below was) ∙ sym (ap (λ (u : Bool). cond u (after c t) t) about)

    other : (i : ℕ) → i < 32 → (i ≡ a.slot → ⊥) → Ssp destination (get_or m i blank) → (get_or m i blank).loss ≡ cond (concerns destination e) (after c t) t
    other i below away ssp =
        let was = was_ssp destination (stays turns) ssp in
        let mine = before destination i below was in
        ap (λ (r : Request). r.loss) (left_there l d told.ok.list moves.some i below away)
        ∙ moves.others (get_or l i blank) destination was (subst Clean (sym mine) (clean_timer destination h)) (λ low q. before destination a.slot low q ∙ sym mine)
        ∙ ap (λ (u : Stamp). cond (concerns destination e) (after c u) u) mine
      where
        stays : Turns l m a → Stays (get_or l i blank) (get_or m i blank)
        stays (inl come) = come.others i below away
        stays (inr (inl go)) = go.others i below away
        stays (inr (inr rest)) = rest.all i below

  timers_on : Timers (e ∷ h) m
  timers_on destination i below ssp = by (eqb i a.slot) refl ∙ sym (timer_on destination i below ssp)
    where
      by : (u : Bool) → eqb i a.slot ≡ u → (get_or m i blank).loss ≡ cond (concerns destination e) (after c (timer destination h)) (timer destination h)
      by true is =
          let at : i ≡ a.slot = eqb-true i a.slot is in
          let low : a.slot < 32 = omega (arith, at, below) in
          ap (λ (n : ℕ). (get_or m n blank).loss) at ∙ here destination low (subst (λ (n : ℕ). Ssp destination (get_or m n blank)) at ssp)
      by false is = other destination i below (eqb-false i a.slot is) ssp

-- ---- the loss time and the last time

plain_loss : (c : Call) (n : ℕ) → is_setup c ≡ false → loss_or n c ≡ n
plain_loss (setup count loss) n e = absurd (never (sym e))
plain_loss (submit x) n e = refl
plain_loss (cancel x) n e = refl
plain_loss (choose x) n e = refl
plain_loss (opened x) n e = refl
plain_loss (open_failed x) n e = refl
plain_loss (frame_status x) n e = refl
plain_loss (closed x) n e = refl
plain_loss (enable x) n e = refl
plain_loss (disable x) n e = refl

setup_sets : (c : Call) (s : State) (n : ℕ) → is_setup c ≡ true → is_refused (done_of c s).answer.word ≡ false → ((done_of c s).port.loss ≡ loss_or n c) × ((done_of c s).port.last ≡ time_of c)
unfolding taken_of
setup_sets (setup count loss) s n e = by_taken (setup count loss) s (λ (d : Done). (d.port.loss ≡ loss) × (d.port.last ≡ 0)) (λ _. (refl, refl))
setup_sets (submit x) s n e = absurd (never e)
setup_sets (cancel x) s n e = absurd (never e)
setup_sets (choose x) s n e = absurd (never e)
setup_sets (opened x) s n e = absurd (never e)
setup_sets (open_failed x) s n e = absurd (never e)
setup_sets (frame_status x) s n e = absurd (never e)
setup_sets (closed x) s n e = absurd (never e)
setup_sets (enable x) s n e = absurd (never e)
setup_sets (disable x) s n e = absurd (never e)

-- a setup has no reason
setup_why : (c : Call) → is_setup c ≡ true → is_retried (why_of c) ≡ false
setup_why (setup count loss) e = refl
setup_why (submit x) e = absurd (never e)
setup_why (cancel x) e = absurd (never e)
setup_why (choose x) e = absurd (never e)
setup_why (opened x) e = absurd (never e)
setup_why (open_failed x) e = absurd (never e)
setup_why (frame_status x) e = absurd (never e)
setup_why (closed x) e = absurd (never e)
setup_why (enable x) e = absurd (never e)
setup_why (disable x) e = absurd (never e)

-- ---- any calls

-- the history tells the state, its timers, its loss time and its last time
record Knows (h : List Entry) (s : State) : Type 0 where
  tells : Tells h s
  timers : Timers h s.list
  loss : s.port.loss ≡ loss_time h
  last : s.port.last ≡ last_time h

no_timers : (h : List Entry) (l : List Request) → ((i : ℕ) → i < 32 → get_or l i blank ≡ blank) → Timers h l
no_timers h l zeros destination i below ssp = absurd (ssp.0 (ap (λ (r : Request). r.stage) (zeros i below)))

knows_after : (c : Call) (s : State) (h : List Entry) → Knows h s → Knows (entries_of c s ++ h) (leave c s)
knows_after c s h k = by_step c s (λ (u : State) (es : List Entry). Tells (es ++ h) u → Knows (es ++ h) u) (λ refused tells. k) (λ size on. kind on (is_setup c) refl) (tells_after c s h k.tells)
  where
    d : Done
    d = done_of c s

    kind : is_refused d.answer.word ≡ false → (b : Bool) → is_setup c ≡ b → Tells (taken_entry c s d ∷ h) (taken_state c s d) → Knows (taken_entry c s d ∷ h) (taken_state c s d)
    kind on true e tells = record { tells = tells; timers = no_timers (taken_entry c s d ∷ h) (left_of s.list d) (setup_zeros c s k.tells.ok.list e on); loss = (setup_sets c s (loss_time h) e on).0; last = (setup_sets c s (loss_time h) e on).1 }
    kind on false e tells =
        record { tells = tells; timers = timers_on s c d h e (moves_so s k.tells.ok c e on) (turned s k.tells.ok c e on) k.tells tells k.timers; loss = (keeps_so s k.tells.ok c e on).0 ∙ k.loss ∙ sym (plain_loss c (loss_time h) e); last = (keeps_so s k.tells.ok c e on).1 }

knows_run : (cs : List Call) (s : State) (h : List Entry) → Knows h s → Knows (history cs s h) (run cs s)
knows_run [] s h k = k
knows_run (c ∷ cs) s h k = knows_run cs (leave c s) (entries_of c s ++ h) (knows_after c s h k)

knows : (r : Run) → Knows (past r) (now r)
knows r = knows_run r.calls (leave (first r) r.lent) (entries_of (first r) r.lent ++ []) begins
  where
    begins : Knows (entries_of (first r) r.lent ++ []) (leave (first r) r.lent)
    begins =
        by_first r (λ (s : State) (es : List Entry). ((i : ℕ) → i < 32 → get_or s.list i blank ≡ blank) → Tells (es ++ []) s → Knows (es ++ []) s)
        (λ on zeros tells. record { tells = tells; timers = no_timers (taken_entry (first r) r.lent (done_of (first r) r.lent) ∷ []) (left_of r.lent.list (done_of (first r) r.lent)) zeros; loss = (setup_sets (first r) r.lent 0 refl on).0; last = (setup_sets (first r) r.lent 0 refl on).1 }) (first_zeros r) (first_tells r)

-- ---- the claims

-- 01 PORT.3
pub lasts : (r : Run) → (now r).port.last ≡ last_time (past r)
lasts r = (knows r).last

-- 01 PORT.24 01 PORT.26
pub timers : (r : Run) (destination i : ℕ) → i < 32 → Ssp destination (get_or (now r).list i blank) → (get_or (now r).list i blank).loss ≡ timer_of is_stopping is_starting destination (past r)
timers r = (knows r).timers

module _ (r : Run) (c : Call) where
  abbrev s : State
  s = now r

  abbrev said : Answer
  said = (stepped_by c s).answer

  abbrev known : Key
  known = keyed said.frame.head

  -- the nexus is lost, by an answer, whether its request is cancelled, a loss time and a timer
  abbrev loss_by : Answer → Bool → ℕ → Stamp → Bool
  loss_by a cancelled loss t = is_retried (why_of c) && (is_ssp a.frame.head && (not cancelled && is_due loss (time_of c) (after c t)))

  -- 01 PORT.25
  pub losses : is_nexus_loss said.word ≡ is_retried (why_of c) && (is_ssp said.frame.head && (not (since cancels known (past r)) && is_due (loss_time (past r)) (time_of c) (after c (timer_of is_stopping is_starting said.frame.head.destination (past r)))))
  losses = by (is_refused said.word) refl (is_setup c) refl
    where
      goal : Answer → Type 0
      goal a = is_nexus_loss a.word ≡ loss_by a (since cancels (keyed a.frame.head) (past r)) (loss_time (past r)) (timer a.frame.head.destination (past r))

      d : Done
      d = done_of c s

      -- the request that an Open Failed is about has that mark and that timer
      so : Loses s.list s.port.loss c d → goal d.answer
      so law = law.lost ∙ parts (is_retried (why_of c)) refl (is_ssp d.answer.frame.head) refl
        where
          at : Request
          at = get_or s.list d.answer.slot blank

          head : Head
          head = d.answer.frame.head

          parts : (u : Bool) → is_retried (why_of c) ≡ u → (q : Bool) → is_ssp head ≡ q
              → u && (q && (not (is_cancelled at) && is_due s.port.loss (time_of c) (after c at.loss))) ≡ u && (q && (not (since cancels (keyed head) (past r)) && is_due (loss_time (past r)) (time_of c) (after c (timer head.destination (past r)))))
          parts false e q f = refl
          parts true e false f = refl
          parts true e true f =
              let n = law.named e in
              let mark : is_cancelled at ≡ since cancels (keyed head) (past r) = cancelled_since r (keyed head) d.answer.slot n.0 (n.1.0, keyed_of n.1.1) in
              let runs : at.loss ≡ timer head.destination (past r) = timers r head.destination d.answer.slot n.0 (n.1.0, (ap (λ (g : Head). g.protocol) n.1.1 ∙ eqb-true head.protocol 1 f, ap (λ (g : Head). g.destination) n.1.1)) in
              λ i. not (mark i) && is_due ((knows r).loss i) (time_of c) (after c (runs i))

      by : (u : Bool) → is_refused said.word ≡ u → (b : Bool) → is_setup c ≡ b → goal said
      by true out b plain = when_refused c s (λ (q : Stepped) (m : List Request). goal q.answer) (λ k. sym (and_false (is_retried (why_of c)) refl)) out
      by false on true begins =
          subst goal (sym (same_answer c s (knows r).tells.ok.sound.eight on))
          (setup_says c s is_nexus_loss refl (λ k. refl) begins ∙ sym (ap (λ (t : Bool). t && (is_ssp d.answer.frame.head && (not (since cancels (keyed d.answer.frame.head) (past r)) && is_due (loss_time (past r)) (time_of c) (after c (timer d.answer.frame.head.destination (past r)))))) (setup_why c begins)))
      by false on false plain = subst goal (sym (same_answer c s (knows r).tells.ok.sound.eight on)) (so (loses_so s (knows r).tells.ok c plain (goes_on c s (knows r).tells.ok.sound.eight on)))
