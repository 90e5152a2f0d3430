-- What one call does to the records, of any lent state: a list of another length and a state that breaks its rules are refused, and of the others the
-- word tells whether a request comes, one leaves, or none does. Assumes nothing.
use Rattle.std.specs.Prelude.{Err, Ok, Result}
use mathlib.Core.Path.{◌≡◌, refl, sym, ap, subst, ◌∙◌}
use mathlib.Core.Bool.{Bool, true, false, cond}
use mathlib.Core.List.{List, [], ◌∷◌}
use mathlib.Core.Logic.{inl, inr}
use native.Mathlib.Omega.{arith}
use lib.ListN.{length, get_or}
use borrow.Author.Tests.{not-false}
use Rattle.laws.proofs.Bools.{never}
use Rattle.refusals.specs.declared.Refusal.{Refusal}
use Rattle.refusals.proofs.Causes.{NoneGiven}
use Rattle.port_parts.specs.Parts.{blank}
use Rattle.port_parts.specs.declared.Request.{Request}
use Rattle.port_rules.specs.Rules.{rules}
use Rattle.port_rules.proofs.Facts.{rules_say}
use Rattle.port_rows.specs.declared.Answer.{Answer}
use Rattle.port_rows.specs.declared.Word.{Word}
use Rattle.port_rows.specs.declared.Word.TheVariants.{Taken}
use Rattle.port.specs.Calls.{left_of, on32}
use Rattle.port.specs.History.{State, Call, setup, submit, cancel, choose, opened, open_failed, frame_status, closed, enable, disable, done_of, stepped_by, is_refused, is_last, leave, entries_of}
use Rattle.port.specs.declared.Stepped.{Stepped}
use Rattle.port.proofs.Decides.{causes_of}
use Rattle.port.proofs.Refusals.{behind}
use Rattle.port_invariant.proofs.Leaves.{by_taken, when_taken, taken_so}
use Rattle.port_history.specs.Standing.{is_setup, is_submitted}
use Rattle.port_history.specs.Turns.{Comes, Leaves, Rests, Turns, Lawful}
use Rattle.port_history.proofs.Records.{stays_self}
use Rattle.port_history.proofs.Cores.{turned}
use Rattle.port_history.proofs.Steps.{answers, taken_long, refused_names_none, setup_says}
use Rattle.port_history.proofs.Entries.{words}

-- a call that is refused adds nothing and changes nothing
pub refused_nothing : (c : Call) (s : State) → is_refused (stepped_by c s).answer.word ≡ true → (leave c s ≡ s) × (entries_of c s ≡ [])
refused_nothing c s e = (
  ap (λ (t : Bool). cond t s (record { port = (stepped_by c s).port; list = on32 s.list (left_of s.list (done_of c s)) s.list })) e,
  ap (λ (t : Bool). cond t [] (record { call = c; answer = (stepped_by c s).answer } ∷ [])) e,
)

-- every call but setup checks the rules
rules_checked : (c : Call) (s : State) → is_setup c ≡ false → NoneGiven (behind (causes_of c s)) → rules s.port s.list ≡ true
unfolding causes_of
rules_checked (setup count loss) s e pass = absurd (never (sym e))
rules_checked (submit x) s e pass = not-false (rules s.port s.list) pass.1.0
rules_checked (cancel x) s e pass = not-false (rules s.port s.list) pass.1.0
rules_checked (choose x) s e pass = not-false (rules s.port s.list) pass.0
rules_checked (opened x) s e pass = not-false (rules s.port s.list) pass.0
rules_checked (open_failed x) s e pass = not-false (rules s.port s.list) pass.1.0
rules_checked (frame_status x) s e pass = not-false (rules s.port s.list) pass.0
rules_checked (closed x) s e pass = not-false (rules s.port s.list) pass.0
rules_checked (enable x) s e pass = not-false (rules s.port s.list) pass.0
rules_checked (disable x) s e pass = not-false (rules s.port s.list) pass.0

-- so such a call is taken only of a lawful state
lawful_of : (c : Call) (s : State) → length s.list ≡ 32 → length s.port.phys ≡ 8 → is_setup c ≡ false → is_refused (done_of c s).answer.word ≡ false → Lawful s
lawful_of c s long eight plain on =
    record { list = long; sound = record { eight = eight; kept = (rules_say s.port s.list).0 (by_taken c s (λ _. rules s.port s.list ≡ true) (rules_checked c s plain) on) } }

-- a port has eight phys
module _ (c : Call) (s : State) (eight : length s.port.phys ≡ 8) where
  abbrev said : Answer
  said = (stepped_by c s).answer

  abbrev l : List Request
  l = s.list

  abbrev m : List Request
  m = (leave c s).list

  -- what is said of a call that is taken is what its definition says
  pub same_answer : is_refused said.word ≡ false → said ≡ (done_of c s).answer
  same_answer on = ap (λ (r : Stepped). r.answer) (answers c s (taken_long c s on))

  pub goes_on : is_refused said.word ≡ false → is_refused (done_of c s).answer.word ≡ false
  goes_on on = ap (λ (a : Answer). is_refused a.word) (sym (same_answer on)) ∙ on

  pub taken_lawful : is_setup c ≡ false → is_refused said.word ≡ false → Lawful s
  taken_lawful plain on = lawful_of c s (taken_long c s on) eight plain (goes_on on)

  turns_of : is_setup c ≡ false → is_refused said.word ≡ false → Turns l m said
  turns_of plain on =
      subst (λ (t : State). Turns l t.list said) (sym (taken_so c s (stepped_by c s) (on32 l (left_of l (done_of c s)) l) (refl, refl) on))
      (when_taken c s (λ (r : Stepped) (n : List Request). Turns l n r.answer) (λ size yet. turned s (lawful_of c s size eight plain yet) c plain yet) on)

  -- a word on a request is no setup's
  pub plain_by : (f : Result Word Refusal → Bool) → f (Ok Taken) ≡ false → ((k : Refusal) → f (Err k) ≡ false) → is_refused said.word ≡ false → f said.word ≡ true → is_setup c ≡ false
  plain_by f begins refuses on e = by (is_setup c) refl
    where
      by : (t : Bool) → is_setup c ≡ t → t ≡ false
      by true is = absurd (never (sym (ap (λ (a : Answer). f a.word) (same_answer on) ∙ setup_says c s f begins refuses is) ∙ e))
      by false is = refl

  pub comes_when : is_submitted said.word ≡ true → Comes l m said
  comes_when e = by (turns_of (plain_by is_submitted refl (λ k. refl) ((words said.word).1 e) e) ((words said.word).1 e))
    where
      by : Turns l m said → Comes l m said
      by (inl come) = come
      by (inr (inl go)) = absurd (never (sym ((words said.word).0 go.word).0 ∙ e))
      by (inr (inr rest)) = absurd (never (sym rest.submitted ∙ e))

  pub leaves_when : is_last said.word ≡ true → Leaves l m said
  leaves_when e = by (turns_of (plain_by is_last refl (λ k. refl) ((words said.word).0 e).1 e) ((words said.word).0 e).1)
    where
      by : Turns l m said → Leaves l m said
      by (inl come) = absurd (never (sym ((words said.word).0 e).0 ∙ come.word))
      by (inr (inl go)) = go
      by (inr (inr rest)) = absurd (never (sym rest.last ∙ e))

  -- any other word, of a call that is no setup and perhaps refused
  pub rests_else : is_setup c ≡ false → is_submitted said.word ≡ false → is_last said.word ≡ false → Rests l m said
  rests_else plain first last = by (is_refused said.word) refl
    where
      of : Turns l m said → Rests l m said
      of (inl come) = absurd (never (sym first ∙ come.word))
      of (inr (inl go)) = absurd (never (sym last ∙ go.word))
      of (inr (inr rest)) = rest

      by : (t : Bool) → is_refused said.word ≡ t → Rests l m said
      by true e =
          subst (λ (t : State). Rests l t.list said) (sym (refused_nothing c s e).0)
          (record { submitted = first; last = last; named = λ h. absurd (let none = refused_names_none c s e in omega (arith, h, none)); all = λ i h. stays_self (get_or l i blank) })
      by false e = of (turns_of plain e)
