-- What request c) asks of a write it asks of the numbers by which the write is shown. Assumes nothing.
use Rattle.std.specs.Prelude.{Ok}
use Prim.Native.Nat.{◌+◌, ◌≤◌}
use mathlib.Core.Bool.{true, false}
use mathlib.Core.List.{List, [], ◌++◌}
use mathlib.Core.Logic.{◌⊎◌, inl, inr, ◌↔◌}
use mathlib.Core.Path.{◌≡◌, refl, sym, ap, subst, transport⁻¹, ◌∙◌}
use native.Mathlib.Omega.{arith}
use lib.ListN.{length}
use Rattle.laws.proofs.Bools.{impossible}
use Rattle.write.specs.Rules.{unstarted}
use Rattle.write.specs.Steps.{limit, unfinished}
use Rattle.write.specs.declared.Answer.{Answer}
use Rattle.write.specs.declared.Phase.{Phase}
use Rattle.write.specs.declared.Write.{Write}
use Rattle.write.specs.declared.Stepped.{Stepped}
use Rattle.write_history.specs.History.{Request, Data, Entry, View, view}
use Rattle.write_history.specs.Demand.{last_end, end_of_request, EndToEnd, Covers, ranges, Late, WriteDemand}
use Rattle.take_history.specs.Calls as machine
use Rattle.take_history.specs.Calls.{Call, Typed, AllTyped}
use Rattle.take_history.specs.History as past
use Rattle.take_history.proofs.Demand.{demand_bytes}
use Rattle.write_lent.specs.Numbers.{phase_number, answer_number}
use Rattle.write_lent.specs.Lent.{shown, told}
use Rattle.write_lent.specs.Face.{face_of}
use Rattle.write_lent.specs.History.{zeros, run, entries_of, history}
use Rattle.write_lent.specs.Demand.{Unfinished, LateSeen, WriteSeen}
use Rattle.write_lent.specs.declared.State.{State}
use Rattle.write_lent.proofs.Trips.{one_phase, one_answer}
use Rattle.write_lent.proofs.Runs.{step_shown, run_shown, entries_shown, history_shown}

pub is_unfinished : (w : Write) → Unfinished (shown w) → unfinished w.phase ≡ true
is_unfinished w (inl e) = ap unfinished (one_phase w.phase Phase.Ask e)
is_unfinished w (inr (inl e)) = ap unfinished (one_phase w.phase Phase.Wait e)
is_unfinished w (inr (inr e)) = ap unfinished (one_phase w.phase Phase.Take e)

is_over : (p : Phase) → ((phase_number p ≡ 1) ⊎ ((phase_number p ≡ 2) ⊎ (phase_number p ≡ 3)) → ⊥) → unfinished p ≡ false
is_over Phase.New off = refl
is_over Phase.Ask off = absurd (off (inl refl))
is_over Phase.Wait off = absurd (off (inr (inl refl)))
is_over Phase.Take off = absurd (off (inr (inr refl)))
is_over Phase.Done off = refl
is_over Phase.Fail off = refl
is_over Phase.End off = refl

is_working : (p : Phase) → unfinished p ≡ true → (phase_number p ≡ 1) ⊎ ((phase_number p ≡ 2) ⊎ (phase_number p ≡ 3))
is_working Phase.New e = impossible e
is_working Phase.Ask e = inl refl
is_working Phase.Wait e = inr (inl refl)
is_working Phase.Take e = inr (inr refl)
is_working Phase.Done e = impossible e
is_working Phase.Fail e = impossible e
is_working Phase.End e = impossible e

late_shown : (w : Write) (v : View) (d : Data) (st : Stepped) → Late w v d st → LateSeen (shown w) v d (told st)
late_shown w v d st l =
    record { busy = l.busy; latest = l.latest; earlier = l.earlier; is = l.is; lies = l.lies; stays = ap told l.stays }

module _ (w : Write) (h es : List Entry) (st : Stepped) (d : WriteDemand limit w h es st) where
  -- what is said of the request by the history is said of it by the state
  by_state : (P : Request → Type 0) → P (view h).request → P (record { offset = w.offset; count = w.count; burst = w.burst; resends = w.resends })
  by_state P p = subst P d.request p

  pub demand_shown : WriteSeen (shown w) h es (told st)
  demand_shown =
      record {
        request = d.request;
        order = by_state (λ q. EndToEnd q.offset (view h).taken) d.order;
        next_is = by_state (λ q. w.next ≡ last_end q.offset (view h).taken) d.next_is;
        complete = λ e. by_state (λ q. Covers q.offset (end_of_request q) (view (es ++ h)).taken) (d.complete (one_answer st.answer (Ok Answer.Done) e));
        completes = λ x is takes e. ap answer_number (d.completes x is takes (e ∙ sym (ap end_of_request d.request)));
        asks = d.asks;
        answers = d.answers;
        received = d.received;
        late = λ x is takes. late_shown w (view h) x st (d.late x is takes);
        tags = λ u. d.tags (is_unfinished w u);
        freed = λ off. d.freed (is_over w.phase off);
        used = λ u. d.used (is_unfinished w u);
        bounded = d.bounded;
        fails =
            let said = by_state (λ q. (st.answer ≡ Ok Answer.Fail) ↔ (((view h).failures ≡ q.resends) × ((view (es ++ h)).failures ≡ q.resends + 1))) d.fails in
            (λ e. said.0 (one_answer st.answer (Ok Answer.Fail) e), λ p. ap answer_number (said.1 p));
        few = by_state (λ q. length (view h).asks ≤ ranges q.count q.burst + q.resends) d.few;
        lives = (λ u. sym d.lives ∙ is_unfinished w u, λ e. is_working w.phase (d.lives ∙ e));
        word = λ e is. ap answer_number (d.word e is);
      }

-- over any calls of C from all zeros
module _ (cs : List Call) where
  abbrev s : State
  s = run cs zeros

  abbrev before : Write
  before = machine.run limit cs unstarted

  pub state_is : s ≡ shown before
  state_is = run_shown cs unstarted

  pub past_is : history cs zeros [] ≡ past.history limit cs unstarted []
  past_is = history_shown cs unstarted []

  -- and one call more
  module _ (c : Call) where
    pub added_is : entries_of c s ≡ past.entries_of limit c before
    added_is = ap (entries_of c) state_is ∙ entries_shown c before

    pub answer_is : face_of c s ≡ told (machine.step_of limit c before)
    answer_is = ap (face_of c) state_is ∙ step_shown c before

    pub demand_seen : AllTyped limit cs → Typed limit c → WriteSeen s (history cs zeros []) (entries_of c s) (face_of c s)
    demand_seen typed one =
        transport⁻¹ (λ i. WriteSeen (state_is i) (past_is i) (added_is i) (answer_is i))
        (demand_shown before (past.history limit cs unstarted []) (past.entries_of limit c before) (machine.step_of limit c before)
        (demand_bytes limit (omega arith) cs c typed one))
