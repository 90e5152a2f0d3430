-- A call leaves the state where it is refused; else its causes were all passed, and it leaves what its core does. So what holds of the
-- state before, and of what the core leaves, holds of what the call leaves. Assumes nothing.
use Rattle.std.specs.Prelude.{Err, Result}
use mathlib.Core.Path.{◌≡◌, refl, sym, ap, subst, ◌∙◌}
use mathlib.Core.Bool.{Bool, true, false, cond}
use mathlib.Core.List.{List, [], ◌∷◌}
use lib.Dec.{eqb}
use lib.ListN.{length}
use borrow.Author.Tests.{eqb-true}
use Rattle.laws.proofs.Bools.{never}
use Rattle.refusals.specs.declared.Refusal.{Refusal}
use Rattle.refusals.proofs.Causes.{NoneGiven, by_causes}
use Rattle.port_parts.specs.declared.Port.{Port}
use Rattle.port_parts.specs.declared.Request.{Request}
use Rattle.port_rows.specs.Answers.{nameless, refused_by}
use Rattle.port_rows.specs.declared.Done.{Done}
use Rattle.port_rows.specs.declared.Word.{Word}
use Rattle.port.specs.Calls.{on32, left_of, answered, short}
use Rattle.port.specs.History.{State, Call, done_of, short_of, Does, stepped_by, is_refused, leave, Entry, entries_of}
use Rattle.port.specs.declared.Stepped.{Stepped}
use Rattle.port.proofs.Begins.{left_length}
use Rattle.port.proofs.Promised.{refused_leaves}
use Rattle.port.proofs.Decides.{causes_of}
use Rattle.port.proofs.Refusals.{taken_of, behind, done_is, short_is, taken_word}

module _ (c : Call) (s : State) where
  abbrev l : List Request
  l = s.list

  abbrev lent : Port
  lent = (short_of c s).port

  abbrev pub taken_state : Done → State
  taken_state d = record { port = d.port; list = left_of l d }

  abbrev pub taken_entry : Done → Entry
  taken_entry d = record { call = c; answer = d.answer }

  -- ---- what holds of what the core leaves

  module _ (P : Done → Type 0) where
    pub by_done : ((k : Refusal) → P (refused_by lent k)) → (NoneGiven (behind (causes_of c s)) → P (taken_of c s)) → P (done_of c s)
    by_done stays goes = subst P (sym (done_is c s)) (by_causes P (refused_by lent) stays (behind (causes_of c s)) (taken_of c s) goes)

  module _ (P : Done → Type 0) where
    pub by_taken : (NoneGiven (behind (causes_of c s)) → P (taken_of c s)) → is_refused (done_of c s).answer.word ≡ false → P (done_of c s)
    by_taken goes = by_done (λ (d : Done). is_refused d.answer.word ≡ false → P d) (λ k e. absurd (never (sym e))) (λ off e. goes off)

    by_refused : ((k : Refusal) → P (refused_by lent k)) → is_refused (done_of c s).answer.word ≡ true → P (done_of c s)
    by_refused stays = by_done (λ (d : Done). is_refused d.answer.word ≡ true → P d) (λ k e. stays k) (λ off e. absurd (never (sym (taken_word c s) ∙ e)))

  -- ---- what holds of what a call answers and leaves

  -- a list of another length is refused
  by_size : (P : Stepped → List Request → Type 0) → (length l ≡ 32 → P (answered (done_of c s)) (left_of l (done_of c s))) → P (short lent) l → P (stepped_by c s) (on32 l (left_of l (done_of c s)) l)
  by_size P goes stays = by (eqb (length l) 32) refl
    where
      by : (t : Bool) → eqb (length l) 32 ≡ t → P (cond t (answered (done_of c s)) (short_of c s)) (cond t (left_of l (done_of c s)) l)
      by true e = goes (eqb-true (length l) 32 e)
      by false e = subst (λ (r : Stepped). P r l) (sym (short_is c s)) stays

  abbrev said : Result Word Refusal
  said = (stepped_by c s).answer.word

  pub when_taken : (P : Stepped → List Request → Type 0) → (length l ≡ 32 → is_refused (done_of c s).answer.word ≡ false → P (answered (done_of c s)) (left_of l (done_of c s))) → is_refused said ≡ false
      → P (stepped_by c s) (on32 l (left_of l (done_of c s)) l)
  when_taken P goes = by_size (λ (r : Stepped) (m : List Request). is_refused r.answer.word ≡ false → P r m) goes (λ e. absurd (never (sym e)))

  pub when_refused : (P : Stepped → List Request → Type 0) → ((k : Refusal) → P (answered (refused_by lent k)) l) → is_refused said ≡ true → P (stepped_by c s) (on32 l (left_of l (done_of c s)) l)
  when_refused P stays =
      by_size (λ (r : Stepped) (m : List Request). is_refused r.answer.word ≡ true → P r m)
      (λ size. by_refused (λ (d : Done). P (answered d) (left_of l d)) (λ k. subst (P (answered (refused_by lent k))) (sym (refused_leaves l lent k)) (stays k))) (λ e. stays Refusal.Length)

  -- the state and the history
  pub by_step : (P : State → List Entry → Type 0) → (is_refused said ≡ true → P s []) → (length l ≡ 32 → is_refused (done_of c s).answer.word ≡ false → P (taken_state (done_of c s)) (taken_entry (done_of c s) ∷ [])) → P (leave c s) (entries_of c s)
  by_step P stays goes = by (is_refused said) refl
    where
      by : (t : Bool) → is_refused said ≡ t
          → P (cond t s (record { port = (stepped_by c s).port; list = on32 l (left_of l (done_of c s)) l })) (cond t [] (record { call = c; answer = (stepped_by c s).answer } ∷ []))
      by true e = stays e
      by false e = when_taken (λ (r : Stepped) (m : List Request). P (record { port = r.port; list = m }) (record { call = c; answer = r.answer } ∷ [])) goes e

  pub by_call : (P : State → Type 0) → (is_refused said ≡ true → P s) → (length l ≡ 32 → NoneGiven (behind (causes_of c s)) → P (taken_state (taken_of c s))) → P (leave c s)
  by_call P stays goes = by_step (λ (t : State) (es : List Entry). P t) stays (λ size. by_taken (λ (d : Done). P (taken_state d)) (goes size))

  -- a call leaves as many records as it was lent
  pub leave_length : length (leave c s).list ≡ length l
  leave_length = by_step (λ (t : State) (es : List Entry). length t.list ≡ length l) (λ e. refl) (λ size on. left_length l (done_of c s))

  -- ---- what a call promises is what it leaves

  pub taken_so : (r : Stepped) (after : List Request) → Does c s r after → is_refused r.answer.word ≡ false → leave c s ≡ record { port = r.port; list = after }
  taken_so r after p accepted =
      ap (λ (t : Bool). cond t s (record { port = (stepped_by c s).port; list = on32 l (left_of l (done_of c s)) l })) (ap (λ (q : Stepped). is_refused q.answer.word) (sym p.0) ∙ accepted)
      ∙ (λ i. record { port = (sym p.0 i).port; list = sym p.1 i })

  -- a refused call leaves the port that it was lent, and every record, and names nothing but its number
  pub refused_so : (k : Refusal) (r : Stepped) (after : List Request) → Does c s r after → r.answer.word ≡ Err k → (r.port ≡ lent) × ((after ≡ l) × (r.answer ≡ nameless (Err k)))
  refused_so k r after p e =
      let stays = when_refused (λ (q : Stepped) (m : List Request). (q.port ≡ lent) × ((m ≡ l) × (q.answer ≡ nameless q.answer.word))) (λ j. (refl, (refl, refl))) (ap (λ (q : Stepped). is_refused q.answer.word) (sym p.0) ∙ ap is_refused e) in (
        ap (λ (q : Stepped). q.port) p.0 ∙ stays.0,
        (p.1 ∙ stays.1.0, ap (λ (q : Stepped). q.answer) p.0 ∙ stays.1.1 ∙ ap (λ (q : Stepped). nameless q.answer.word) (sym p.0) ∙ ap nameless e),
      )
