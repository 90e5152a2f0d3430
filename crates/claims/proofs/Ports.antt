-- What is shown of the port: its choice is the right one, its test of a lent state says document 01's rules, a call is refused exactly by
-- the first ground that holds and then leaves every record, each call keeps the rules, so that no state that calls leave is refused, and a
-- running loss timer runs on. What each of the ten functions promises, by the source, is what these say of its call. Assumes nothing.
use Rattle.std.specs.Prelude.{Err, Ok}
use Prim.Native.Nat.{ℕ, ◌<◌}
use mathlib.Core.Bool.{Bool, true, false}
use mathlib.Core.List.{List, ◌∷◌}
use mathlib.Core.Logic.{◌↔◌}
use mathlib.Core.Path.{◌≡◌, refl}
use lib.ListN.{length, get_or}
use Rattle.laws.specs.Tests.{Says}
use Rattle.refusals.specs.Causes.{First}
use Rattle.refusals.specs.declared.Refusal.{Refusal}
use Rattle.port_parts.specs.Parts.{blank, is_set, is_ssp}
use Rattle.port_parts.specs.Choice.{chosen_of}
use Rattle.port_parts.specs.Qualifies.{Fits, Right}
use Rattle.port_parts.specs.Reasons.{reason_of, is_stopping}
use Rattle.port_parts.specs.Timer.{timer_by}
use Rattle.port_parts.specs.declared.Asked.{Asked}
use Rattle.port_parts.specs.declared.Pick.{Pick}
use Rattle.port_parts.specs.declared.Phy.{Phy}
use Rattle.port_parts.specs.declared.Port.{Port}
use Rattle.port_parts.specs.declared.Reason.{Reason}
use Rattle.port_parts.specs.declared.Request.{Request}
use Rattle.port_parts.specs.declared.Stamp.{Stamp}
use Rattle.port_parts.proofs.Choices.{choose_right, right_once, nothing_exactly}
use Rattle.port_parts.proofs.Timers as timer
use Rattle.port_rules.specs.Rules.{rules}
use Rattle.port_rules.specs.Kept.{Kept, InRange, Free}
use Rattle.port_rules.proofs.Facts.{rules_say}
use Rattle.port_rows.specs.Answers.{fresh, nameless, unnamed, refused_by}
use Rattle.port_rows.specs.declared.Failure.{Failure}
use Rattle.port_rows.specs.declared.Word.TheVariants.{Taken}
use Rattle.port.specs.Calls.{left_of, on_phy, pick_at}
use Rattle.port.specs.Chooses.{Tells}
use Rattle.port.specs.Grounds.{grounds_of}
use Rattle.port.specs.History.{State, Call, setup, submit, cancel, choose, opened, open_failed, frame_status, closed, enable, disable, done_of, short_of, Does, stepped_by, is_refused, leave, run}
use Rattle.port.specs.declared.Time.{Time}
use Rattle.port.specs.declared.Stepped.{Stepped}
use Rattle.port.specs.contracts.setup as call_setup
use Rattle.port.specs.contracts.submit as call_submit
use Rattle.port.specs.contracts.cancel as call_cancel
use Rattle.port.specs.contracts.choose as call_choose
use Rattle.port.specs.contracts.opened as call_opened
use Rattle.port.specs.contracts.open_failed as call_open_failed
use Rattle.port.specs.contracts.frame_status as call_frame_status
use Rattle.port.specs.contracts.closed as call_closed
use Rattle.port.specs.contracts.enable as call_enable
use Rattle.port.specs.contracts.disable as call_disable
use Rattle.port.proofs.Promised.{refused_leaves}
use Rattle.port.proofs.Refusals.{refused_exactly}
use Rattle.port.proofs.Begins.{setup_kept}
use Rattle.port.proofs.Chooses.{choose_tells}
use Rattle.port_invariant.specs.Ranged.{Ranged}
use Rattle.port_invariant.proofs.Leaves.{taken_so, refused_so}
use Rattle.port_invariant.proofs.Runs.{kept_sound, kept_since, run_length}
use Rattle.port_invariant.proofs.Three.{never_three_since}
use Rattle.port_invariant.proofs.Timers.{timers_run_on}
use Rattle.claims.proofs.Walked.{Means}

abbrev pub lent : Port → List Request → State
lent p l = record { port = p; list = l }

pub record Ports : Type 2 where
  -- what each of the ten functions promises, as the checker makes it of its source, is what its own call does; a holds the list, the port and
  -- what the call is given, e the list at the end, and a setup is lent no port
  pub call_setup : (p : Port) → Means call_setup.ended (λ M 𝓤. call_setup.spec) (λ κs a r e. Does (setup a.1.0 a.1.1.0) (lent p a.0.now) r e.0.now)
  pub call_submit : Means call_submit.ended (λ M 𝓤. call_submit.spec) (λ κs a r e. Does (submit a.1.1.0) (lent a.1.0 a.0.now) r e.0.now)
  pub call_cancel : Means call_cancel.ended (λ M 𝓤. call_cancel.spec) (λ κs a r e. Does (cancel a.1.1.0) (lent a.1.0 a.0.now) r e.0.now)
  pub call_choose : Means call_choose.ended (λ M 𝓤. call_choose.spec) (λ κs a r e. Does (choose a.1.1.0) (lent a.1.0 a.0.now) r e.0.now)
  pub call_opened : Means call_opened.ended (λ M 𝓤. call_opened.spec) (λ κs a r e. Does (opened a.1.1.0) (lent a.1.0 a.0.now) r e.0.now)
  pub call_open_failed : Means call_open_failed.ended (λ M 𝓤. call_open_failed.spec) (λ κs a r e. Does (open_failed a.1.1.0) (lent a.1.0 a.0.now) r e.0.now)
  pub call_frame_status : Means call_frame_status.ended (λ M 𝓤. call_frame_status.spec) (λ κs a r e. Does (frame_status a.1.1.0) (lent a.1.0 a.0.now) r e.0.now)
  pub call_closed : Means call_closed.ended (λ M 𝓤. call_closed.spec) (λ κs a r e. Does (closed a.1.1.0) (lent a.1.0 a.0.now) r e.0.now)
  pub call_enable : Means call_enable.ended (λ M 𝓤. call_enable.spec) (λ κs a r e. Does (enable a.1.1.0) (lent a.1.0 a.0.now) r e.0.now)
  pub call_disable : Means call_disable.ended (λ M 𝓤. call_disable.spec) (λ κs a r e. Does (disable a.1.1.0) (lent a.1.0 a.0.now) r e.0.now)
  -- 01 PORT.12 01 PORT.13 01 PORT.14
  pub chooses : (x : Asked) (l : List Request) → length x.phys ≡ 8 → Right x.phys x.now l (chosen_of x l 32)
  -- and there is one right choice only
  pub one_choice : (ps : List Phy) (now : ℕ) (l : List Request) (p q : Pick) → Right ps now l p → Right ps now l q → p ≡ q
  -- 01 PORT.15
  pub nothing : (ps : List Phy) (now : ℕ) (l : List Request) (p : Pick) → Right ps now l p → (p.step ≡ 0) ↔ ((i k step : ℕ) → i < 32 → k < 8 → Fits ps now l i k step → ⊥)
  -- and choose, where it is not refused, answers that pick
  pub answers : (s : State) (x : Time) → is_refused (stepped_by (choose x) s).answer.word ≡ false → Tells (pick_at s.list s.port x.now) (stepped_by (choose x) s).answer
  -- 01 TRAP.3
  -- Open Failed of an SSP request whose destination's timer runs, with a reason that doesn't stop it: each request that is present behind it has
  -- the timer that it had
  pub runs_on : (s : State) (x : Failure) → is_ssp (on_phy s.list s.port x.phy).head ≡ true → is_set (on_phy s.list s.port x.phy).loss ≡ true → is_stopping (reason_of x.why) ≡ false → (i : ℕ) → i < 32 → (Free (get_or (leave (open_failed x) s).list i blank) → ⊥) → (get_or (leave (open_failed x) s).list i blank).loss ≡ (get_or s.list i blank).loss
  -- whatever reasons stop one, and whatever start one
  pub timer : (stops starts : Reason → Bool) (why : Reason) (t : Stamp) (now : ℕ) → stops why ≡ false → is_set t ≡ true → timer_by (stops why) (starts why) t now ≡ t
  -- 01 PORT.4 01 PORT.5 01 PORT.6 01 PORT.7 01 PORT.8 01 PORT.9 01 PORT.10
  pub kept : (p : Port) (l : List Request) → Says (rules p l) (Kept p l)
  -- 01 PORT.2
  pub begins : (count loss : ℕ) (l : List Request) → length l ≡ 32 → InRange count loss → Kept (fresh count loss) (left_of l (unnamed (fresh count loss) (Ok Taken) true))
  -- 01 PORT.4 01 PORT.5 01 PORT.6 01 PORT.7 01 PORT.8 01 PORT.9 01 PORT.10
  -- each call leaves a state that keeps the rules; that a port has eight phys is its type's
  pub keeps : (c : Call) (s : State) → length s.port.phys ≡ 8 → Kept s.port s.list → (length (leave c s).port.phys ≡ 8) × Kept (leave c s).port (leave c s).list
  -- over any calls after an accepted setup, refused ones among them, whatever list was lent
  pub keeps_all : (count loss : ℕ) (s : State) → is_refused (stepped_by (setup count loss) s).answer.word ≡ false → (cs : List Call) → Kept (run (setup count loss ∷ cs) s).port (run (setup count loss ∷ cs) s).list
  pub as_long : (cs : List Call) (s : State) → length (run cs s).list ≡ length s.list
  -- 01 REFUSAL.3
  pub never_three : (count loss : ℕ) (s : State) → is_refused (stepped_by (setup count loss) s).answer.word ≡ false → (cs : List Call) (c : Call) → Ranged c → (stepped_by c (run (setup count loss ∷ cs) s)).answer.word ≡ Err Refusal.Rules → ⊥
  -- what a call that is taken promises of the port and of the list is what these say that it leaves
  pub promised : (c : Call) (s : State) (r : Stepped) (after : List Request) → Does c s r after → is_refused r.answer.word ≡ false → leave c s ≡ record { port = r.port; list = after }
  -- 01 REFUSAL.12
  -- a refused call gives its number, and names no request and no phy; it leaves the port that it was lent, and every record
  pub refused : (c : Call) (s : State) (k : Refusal) (r : Stepped) (after : List Request) → Does c s r after → r.answer.word ≡ Err k → (r.port ≡ (short_of c s).port) × ((after ≡ s.list) × (r.answer ≡ nameless (Err k)))
  -- 01 REFUSAL.1 01 REFUSAL.2 01 REFUSAL.3 01 REFUSAL.4 01 REFUSAL.5 01 REFUSAL.6 01 REFUSAL.9 01 REFUSAL.10 01 REFUSAL.14
  pub refuses : (c : Call) (s : State) (k : Refusal) → ((stepped_by c s).answer.word ≡ Err k) ↔ First (grounds_of c s) k
  pub leaves : (l : List Request) (p : Port) (k : Refusal) → left_of l (refused_by p k) ≡ l

pub ports : Ports
unfolding done_of
ports = record {
  call_setup = λ p. record { is = λ w κs a g r. refl };
  call_submit = record { is = λ w κs a g r. refl };
  call_cancel = record { is = λ w κs a g r. refl };
  call_choose = record { is = λ w κs a g r. refl };
  call_opened = record { is = λ w κs a g r. refl };
  call_open_failed = record { is = λ w κs a g r. refl };
  call_frame_status = record { is = λ w κs a g r. refl };
  call_closed = record { is = λ w κs a g r. refl };
  call_enable = record { is = λ w κs a g r. refl };
  call_disable = record { is = λ w κs a g r. refl };
  chooses = choose_right;
  one_choice = right_once;
  nothing = nothing_exactly;
  answers = choose_tells;
  runs_on = timers_run_on;
  timer = timer.runs_on;
  kept = rules_say;
  begins = setup_kept;
  keeps = kept_sound;
  keeps_all = kept_since;
  as_long = run_length;
  never_three = never_three_since;
  promised = taken_so;
  refused = refused_so;
  refuses = refused_exactly;
  leaves = refused_leaves;
}
