-- What is told of a call is what its definition says where the list is 32 records long, a lawful state stays one, and a setup that is
-- taken leaves all zeros. Assumes nothing.
use Rattle.std.specs.Prelude.{Err, Ok, Result}
use Prim.Native.Nat.{ℕ, ◌<◌}
use mathlib.Core.Path.{◌≡◌, refl, sym, ap, ◌∙◌}
use mathlib.Core.Bool.{Bool, true, false, not, cond}
use mathlib.Core.List.{List, [], ◌∷◌}
use lib.ListN.{length, get_or}
use borrow.Author.Tests.{eq-eqb}
use Rattle.laws.proofs.Bools.{never}
use Rattle.refusals.specs.Causes.{◌when◌}
use Rattle.refusals.specs.declared.Refusal.{Refusal}
use Rattle.refusals.proofs.Causes.{unrefused}
use Rattle.port_parts.specs.Parts.{blank, in_range}
use Rattle.port_parts.specs.declared.Request.{Request}
use Rattle.port_rules.proofs.Facts.{range_says}
use Rattle.port_rows.specs.Answers.{fresh, no_port, unnamed, refused_by}
use Rattle.port_rows.specs.Calls.{setup_core}
use Rattle.port_rows.specs.declared.Done.{Done}
use Rattle.port_rows.specs.declared.Word.{Word}
use Rattle.port_rows.specs.declared.Word.TheVariants.{Taken}
use Rattle.port.specs.Calls.{left_of, answered}
use Rattle.port.specs.History.{State, Call, setup, submit, cancel, choose, opened, open_failed, frame_status, closed, enable, disable, done_of, short_of, stepped_by, is_refused, leave, Entry, entries_of}
use Rattle.port.specs.declared.Stepped.{Stepped}
use Rattle.port.proofs.Begins.{left_zeros}
use Rattle.port.proofs.Refusals.{taken_of}
use Rattle.port_invariant.proofs.Keeps.{setup_sound, keeps}
use Rattle.port_invariant.proofs.Leaves.{taken_state, taken_entry, by_done, by_taken, when_taken, when_refused, by_step, leave_length}
use Rattle.port_history.specs.Standing.{is_setup}
use Rattle.port_history.specs.Turns.{Lawful}
use Rattle.port_history.specs.Runs.{Run}

pub answers : (c : Call) (s : State) → length s.list ≡ 32 → stepped_by c s ≡ answered (done_of c s)
answers c s len = ap (λ (t : Bool). cond t (answered (done_of c s)) (short_of c s)) (eq-eqb (length s.list) 32 len)

pub taken_long : (c : Call) (s : State) → is_refused (stepped_by c s).answer.word ≡ false → length s.list ≡ 32
taken_long c s = when_taken c s (λ (r : Stepped) (m : List Request). length s.list ≡ 32) (λ size on. size)

-- a refusal names no slot
pub refused_names_none : (c : Call) (s : State) → is_refused (stepped_by c s).answer.word ≡ true → (stepped_by c s).answer.slot ≡ 32
refused_names_none c s = when_refused c s (λ (r : Stepped) (m : List Request). r.answer.slot ≡ 32) (λ k. refl)

pub lawful_after : (c : Call) (s : State) → Lawful s → Lawful (leave c s)
lawful_after c s ok = record { list = leave_length c s ∙ ok.list; sound = keeps s ok.sound c }

-- ---- setup

-- what holds of every setup holds of a call that is one
by_setup : (P : Call → Type 0) → ((count loss : ℕ) → P (setup count loss)) → (c : Call) → is_setup c ≡ true → P c
by_setup P f (setup count loss) e = f count loss
by_setup P f (submit x) e = absurd (never e)
by_setup P f (cancel x) e = absurd (never e)
by_setup P f (choose x) e = absurd (never e)
by_setup P f (opened x) e = absurd (never e)
by_setup P f (open_failed x) e = absurd (never e)
by_setup P f (frame_status x) e = absurd (never e)
by_setup P f (closed x) e = absurd (never e)
by_setup P f (enable x) e = absurd (never e)
by_setup P f (disable x) e = absurd (never e)

setup_clears : (count loss : ℕ) (s : State) → is_refused (done_of (setup count loss) s).answer.word ≡ false → (done_of (setup count loss) s).cleared ≡ true
unfolding taken_of
setup_clears count loss s = by_taken (setup count loss) s (λ (d : Done). d.cleared ≡ true) (λ _. refl)

-- a setup that is taken leaves all zeros
pub setup_zeros : (c : Call) (s : State) → length s.list ≡ 32 → is_setup c ≡ true → is_refused (done_of c s).answer.word ≡ false → (i : ℕ) → i < 32 → get_or (left_of s.list (done_of c s)) i blank ≡ blank
setup_zeros c s len =
    by_setup (λ (c : Call). is_refused (done_of c s).answer.word ≡ false → (i : ℕ) → i < 32 → get_or (left_of s.list (done_of c s)) i blank ≡ blank)
    (λ count loss on. left_zeros s.list (done_of (setup count loss) s) len (setup_clears count loss s on)) c

-- a setup's word is Taken or a refusal
pub setup_says : (c : Call) (s : State) (f : Result Word Refusal → Bool) → f (Ok Taken) ≡ false → ((k : Refusal) → f (Err k) ≡ false) → is_setup c ≡ true → f (done_of c s).answer.word ≡ false
unfolding taken_of
setup_says c s f a b = by_setup (λ (c : Call). f (done_of c s).answer.word ≡ false) (λ count loss. by_done (setup count loss) s (λ (d : Done). f d.answer.word ≡ false) b (λ _. a)) c

-- the first setup of a run is taken, whatever the list held
module _ (r : Run) where
  abbrev pub first : Call
  first = setup r.count r.loss

  accepted : is_refused (stepped_by first r.lent).answer.word ≡ true → ⊥
  unfolding done_of setup_core
  accepted off =
      let passed = unrefused (refused_by no_port) (unnamed (fresh r.count r.loss) (Ok Taken) true) ((Refusal.Rules when not (in_range r.count r.loss)) ∷ []) (ap not ((range_says r.count r.loss).1 r.range), tt) in
      never (ap (λ (d : Done). is_refused d.answer.word) passed ∙ sym (ap (λ (q : Stepped). is_refused q.answer.word) (answers first r.lent r.sized)) ∙ off)

  pub by_first : (P : State → List Entry → Type 0) → (is_refused (done_of first r.lent).answer.word ≡ false → P (taken_state first r.lent (done_of first r.lent)) (taken_entry first r.lent (done_of first r.lent) ∷ []))
      → P (leave first r.lent) (entries_of first r.lent)
  by_first P goes = by_step first r.lent P (λ off. absurd (accepted off)) (λ size. goes)

  pub first_lawful : Lawful (leave first r.lent)
  first_lawful = record { list = leave_length first r.lent ∙ r.sized; sound = setup_sound r.count r.loss r.lent (λ off. absurd (accepted off)) }

  pub first_zeros : (i : ℕ) → i < 32 → get_or (leave first r.lent).list i blank ≡ blank
  first_zeros = by_first (λ (s : State) (es : List Entry). (i : ℕ) → i < 32 → get_or s.list i blank ≡ blank) (setup_zeros first r.lent r.sized refl)
