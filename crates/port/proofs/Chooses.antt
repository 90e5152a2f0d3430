-- A choose that is not refused answers its pick: each of its steps has a word of its own, and names what was picked. Assumes nothing.
use Rattle.std.specs.Prelude.{Ok}
use Prim.Native.Nat.{ℕ}
use mathlib.Core.Path.{◌≡◌, refl, sym}
use mathlib.Core.Bool.{true, false, cond}
use lib.Dec.{eqb}
use lib.ListN.{length, get_or}
use Rattle.laws.proofs.Bools.{never, by_test}
use Rattle.refusals.proofs.Causes.{by_causes}
use Rattle.port_parts.specs.Parts.{blank}
use Rattle.port_parts.specs.declared.Pick.{Pick}
use Rattle.port_parts.specs.declared.Port.{Port}
use Rattle.port_parts.specs.declared.Request.{Request}
use Rattle.port_rules.specs.Rules.{rules}
use Rattle.port_rows.specs.Answers.{refused_by}
use Rattle.port_rows.specs.Calls.{sent, opening, closing, chosen, choose_causes, choose_core}
use Rattle.port_rows.specs.declared.Done.{Done}
use Rattle.port_rows.specs.declared.Word.TheVariants.{Nothing, Send, Open, Close}
use Rattle.port.specs.Calls.{pick_at, answered}
use Rattle.port.specs.Chooses.{word_for, Tells}
use Rattle.port.specs.History.{State, choose, done_of, stepped_by, is_refused}
use Rattle.port.specs.declared.Time.{Time}
use Rattle.port.specs.declared.Stepped.{Stepped}

module _ (p : Port) (r : Request) (b : Pick) (now : ℕ) where
  -- a step that is taken, told by its tests
  taken : (d : Done) → d.answer.slot ≡ b.slot → d.answer.phy ≡ b.phy → d.answer.word ≡ word_for b.step → Tells b d.answer
  taken d s k w = record { word = w; slot = λ _. s; phy = λ _. k }

  chosen_tells : Tells b (chosen p r b now).answer
  unfolding chosen
  chosen_tells =
      by_test (λ (d : Done). Tells b d.answer) (eqb b.step 1) (λ e. taken (sent p r b now) refl refl (sym (first e)))
      (λ e. by_test (λ (d : Done). Tells b d.answer) (eqb b.step 2) (λ f. taken (opening p r b now) refl refl (sym (second e f)))
      (λ f. by_test (λ (d : Done). Tells b d.answer) (eqb b.step 3) (λ g. taken (closing p r b now) refl refl (sym (third e f g)))
      (λ g. record { word = sym (none e f g); slot = λ n. absurd (n refl); phy = λ n. absurd (n refl) })))
    where
      first : eqb b.step 1 ≡ true → word_for b.step ≡ Ok Send
      first e = λ i. cond (e i) (Ok Send) (cond (eqb b.step 2) (Ok Open) (cond (eqb b.step 3) (Ok Close) (Ok Nothing)))

      second : eqb b.step 1 ≡ false → eqb b.step 2 ≡ true → word_for b.step ≡ Ok Open
      second e f = λ i. cond (e i) (Ok Send) (cond (f i) (Ok Open) (cond (eqb b.step 3) (Ok Close) (Ok Nothing)))

      third : eqb b.step 1 ≡ false → eqb b.step 2 ≡ false → eqb b.step 3 ≡ true → word_for b.step ≡ Ok Close
      third e f g = λ i. cond (e i) (Ok Send) (cond (f i) (Ok Open) (cond (g i) (Ok Close) (Ok Nothing)))

      none : eqb b.step 1 ≡ false → eqb b.step 2 ≡ false → eqb b.step 3 ≡ false → word_for b.step ≡ Ok Nothing
      none e f g = λ i. cond (e i) (Ok Send) (cond (f i) (Ok Open) (cond (g i) (Ok Close) (Ok Nothing)))

pub choose_tells : (s : State) (x : Time) → is_refused (stepped_by (choose x) s).answer.word ≡ false → Tells (pick_at s.list s.port x.now) (stepped_by (choose x) s).answer
unfolding done_of choose_core
choose_tells s x = by_test P (eqb (length s.list) 32) (λ _. done) (λ _ e. absurd (never (sym e)))
  where
    b : Pick
    b = pick_at s.list s.port x.now

    r : Request
    r = get_or s.list b.slot blank

    P : Stepped → Type 0
    P t = is_refused t.answer.word ≡ false → Tells b t.answer

    done : P (answered (done_of (choose x) s))
    done =
        by_causes (λ (d : Done). P (answered d)) (refused_by s.port) (λ k e. absurd (never (sym e))) (choose_causes s.port (rules s.port s.list) x.now)
        (chosen s.port r b x.now) (λ _ _. chosen_tells s.port r b x.now)
