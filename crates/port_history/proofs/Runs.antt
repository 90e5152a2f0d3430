-- Over any calls from a setup on, what the history says of a key is what the list holds of it: it is so behind the setup, which leaves
-- all zeros, and each call keeps it so. Assumes nothing.
use Prim.Native.Nat.{ℕ, ◌<◌}
use mathlib.Core.Path.{◌≡◌, refl, ap, subst, ◌∙◌}
use mathlib.Core.Bool.{Bool, true, false}
use mathlib.Core.List.{List, [], ◌∷◌, ◌++◌}
use mathlib.Core.Logic.{inl, inr}
use lib.Dec.{eqb}
use lib.ListN.{get_or}
use borrow.Author.Tests.{eqb-true, eqb-false}
use Rattle.port_parts.specs.Parts.{blank}
use Rattle.port_parts.specs.declared.Request.{Request}
use Rattle.port_rules.specs.Kept.{Free}
use Rattle.port_rows.specs.declared.Answer.{Answer}
use Rattle.port_rows.specs.declared.Done.{Done}
use Rattle.port_rows.specs.declared.Key.{Key}
use Rattle.port.specs.Calls.{left_of}
use Rattle.port.specs.History.{State, Call, done_of, is_refused, leave, run, Entry, entries_of, history}
use Rattle.port_invariant.proofs.Leaves.{taken_state, taken_entry, by_step}
use Rattle.port_history.specs.Standing.{is_setup, standing}
use Rattle.port_history.specs.Turns.{Stays, Turns, Holds, Lawful, Zeros}
use Rattle.port_history.proofs.Cores.{turned}
use Rattle.port_history.proofs.Steps.{lawful_after, setup_zeros}
use Rattle.port_history.proofs.Histories.{holds_on, holds_anew}

-- ---- free records

zeros_stay : {a b : Request} → Stays a b → (Free a → a ≡ blank) → Free b → b ≡ blank
zeros_stay {a} {b} s before free = by (eqb a.stage 0) refl
  where
    by : (t : Bool) → eqb a.stage 0 ≡ t → b ≡ blank
    by true e = let f = eqb-true a.stage 0 e in s.free f ∙ before f
    by false e = absurd ((s.present (eqb-false a.stage 0 e)).0 free)

zeros_turn : (l m : List Request) (a : Answer) → Turns l m a → Zeros l → Zeros m
zeros_turn l m a turns zeros i h free = by turns (eqb i a.slot) refl
  where
    by : Turns l m a → (t : Bool) → eqb i a.slot ≡ t → get_or m i blank ≡ blank
    by (inl come) true e = absurd (come.present (subst (λ (k : ℕ). Free (get_or m k blank)) (eqb-true i a.slot e) free))
    by (inl come) false e = zeros_stay (come.others i h (eqb-false i a.slot e)) (zeros i h) free
    by (inr (inl go)) true e = ap (λ (k : ℕ). get_or m k blank) (eqb-true i a.slot e) ∙ go.zeros
    by (inr (inl go)) false e = zeros_stay (go.others i h (eqb-false i a.slot e)) (zeros i h) free
    by (inr (inr rest)) t e = zeros_stay (rest.all i h) (zeros i h) free

-- ---- any calls

-- the history h tells the state s
pub record Tells (h : List Entry) (s : State) : Type 0 where
  pub ok : Lawful s
  pub holds : (x : Key) → Holds x (standing x h) s.list
  pub zeros : Zeros s.list

-- behind a setup, which leaves all zeros
pub tells_anew : (c : Call) (a : Answer) (h : List Entry) (s : State) → is_setup c ≡ true → ((i : ℕ) → i < 32 → get_or s.list i blank ≡ blank) → Lawful s → Tells (record { call = c; answer = a } ∷ h) s
tells_anew c a h s e zeros ok = record { ok = ok; holds = λ x. holds_anew x c a (standing x h) s.list e zeros; zeros = λ i below _. zeros i below }

pub tells_after : (c : Call) (s : State) (h : List Entry) → Tells h s → Tells (entries_of c s ++ h) (leave c s)
tells_after c s h t = by_step c s (λ (u : State) (es : List Entry). Lawful u → Tells (es ++ h) u) (λ off ok. t) (λ size on. kind on (is_setup c) refl) (lawful_after c s t.ok)
  where
    d : Done
    d = done_of c s

    kind : is_refused d.answer.word ≡ false → (b : Bool) → is_setup c ≡ b → Lawful (taken_state c s d) → Tells (taken_entry c s d ∷ h) (taken_state c s d)
    kind on true e ok = tells_anew c d.answer h (taken_state c s d) e (setup_zeros c s t.ok.list e on) ok
    kind on false e ok =
        let turns = turned s t.ok c e on in
        record {
          ok = ok;
          holds = λ x. holds_on s.port s.list (left_of s.list d) d.answer t.ok.sound.kept x c e turns (standing x h) (t.holds x);
          zeros = zeros_turn s.list (left_of s.list d) d.answer turns t.zeros;
        }

pub tells_run : (cs : List Call) (s : State) (h : List Entry) → Tells h s → Tells (history cs s h) (run cs s)
tells_run [] s h t = t
tells_run (c ∷ cs) s h t = tells_run cs (leave c s) (entries_of c s ++ h) (tells_after c s h t)
