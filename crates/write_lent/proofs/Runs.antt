-- C's calls are the write's calls on what is shown: a state that was shown is read back as it was, and a refusal leaves it, so each call gives
-- back the next one shown, and its answer, its bytes and its entry say the same. Assumes nothing.
use Prim.Native.Nat.{ℕ}
use mathlib.Core.Bool.{Bool, true, false, cond}
use mathlib.Core.List.{List, [], ◌∷◌, ◌++◌}
use mathlib.Core.Path.{◌≡◌, refl, sym, ap, ◌∙◌}
use lib.Dec.{eqb}
use lib.ListN as list
use Rattle.laws.proofs.Bools.{never, impossible, by_test, on_false}
use Rattle.refusals.proofs.Causes.{by_causes}
use Rattle.ssp_frame.specs.Out.{out_of}
use Rattle.write.specs.Steps.{limit, refused, free, asked, got, asked_length, xfer_causes, xfer_step}
use Rattle.write.specs.Calls as plainly
use Rattle.write.specs.Calls.{is_refused, start, xfer, ack, nak, timeout, lost, nexus, cancel}
use Rattle.write.specs.declared.Write.{Write}
use Rattle.write.specs.declared.Stepped.{Stepped}
use Rattle.write.proofs.Refusals.{goes_on, taken, refused_kept}
use Rattle.write_history.specs.History as log
use Rattle.write_history.specs.Log as plainlog
use Rattle.take.specs.Ask.{ask_causes, ask_step, ask_bytes}
use Rattle.take.specs.Take.{take_causes, take_step}
use Rattle.take_history.specs.Calls as machine
use Rattle.take_history.specs.Calls.{Call, plain, ask, take}
use Rattle.take_history.specs.History as past
use Rattle.write_lent.specs.Numbers.{answer_number}
use Rattle.write_lent.specs.Lent.{shown, told, is_refusal, seen}
use Rattle.write_lent.specs.Face.{face_of}
use Rattle.write_lent.specs.History.{run, unwritten, entry_of, entries_of, history}
use Rattle.write_lent.specs.declared.State.{State}
use Rattle.write_lent.specs.declared.Step.{Step}
use Rattle.write_lent.proofs.Trips.{refusal_told}
use Rattle.write_lent.proofs.Members.{shown_back}

-- ---- the state

abbrev Kept : Write → Stepped → Type 0
Kept w st = is_refused st.answer ≡ true → st.state ≡ w

-- a refusal of the write's leaves it
kept : (c : Call) (w : Write) → Kept w (machine.step_of limit c w)
unfolding ask_step take_step goes_on
kept (plain c) w = refused_kept limit w c
kept (ask others destination source tag out) w =
    by_causes (Kept w) (refused w) (λ j e. refl) (ask_causes limit others w destination source out) (asked (free limit others w) w) (λ off e. impossible e)
kept (take destination source tag frame store) w =
    let f = out_of frame in
    let c = plainly.Call.got f.head.transfer f.head.offset f.length in
    by_causes (Kept w) (refused w) (λ j e. refl) (take_causes limit w destination source tag frame store) (got f.head.transfer f.head.offset f.length w)
    (λ off e. absurd (never (sym (taken limit c w) ∙ e)))

-- so what is seen of its step, lent what was shown, is what is told of it
seen_told : (w : Write) (r : Stepped) → Kept w r → seen (shown w) r ≡ told r
seen_told w r stays =
    λ i.
    record {
      state =
          by_test (λ (s : State). s ≡ shown r.state) (is_refusal (answer_number r.answer))
          (λ on. ap shown (sym (stays (sym (refusal_told r.answer) ∙ on)))) (λ off. refl) i;
      answer = answer_number r.answer;
    }

pub step_shown : (c : Call) (w : Write) → face_of c (shown w) ≡ told (machine.step_of limit c w)
step_shown c w = ap (λ (u : Write). seen (shown w) (machine.step_of limit c u)) (shown_back w) ∙ seen_told w (machine.step_of limit c w) (kept c w)

pub run_shown : (cs : List Call) (w : Write) → run cs (shown w) ≡ shown (machine.run limit cs w)
run_shown [] w = refl
run_shown (c ∷ cs) w = ap (λ (r : Step). run cs r.state) (step_shown c w) ∙ run_shown cs (machine.step_of limit c w).state

-- ---- the history

-- C sees a refusal exactly where the write answers one
pub refusal_seen : (c : Call) (w : Write) → is_refusal (face_of c (shown w)).answer ≡ is_refused (machine.step_of limit c w).answer
refusal_seen c w =
    let a = (machine.step_of limit c w).answer in
    ap (λ (r : Step). is_refusal r.answer) (step_shown c w) ∙ refusal_told a

abbrev Tagged : ℕ → Write → Stepped → Type 0
Tagged others w st = is_refused st.answer ≡ false → st.state.tag ≡ free limit others w

-- an XFER that is taken leaves the tag that it picked
tagged : (others : ℕ) (w : Write) → Tagged others w (xfer_step limit others w)
unfolding xfer_step
tagged others w =
    by_causes (Tagged others w) (refused w) (λ j e. impossible (sym e)) (xfer_causes limit others w) (asked (free limit others w) w) (λ off e. refl)

unwritten_shown : (others : ℕ) (w : Write) → is_refused (plainly.step_of limit (xfer others) w).answer ≡ false → unwritten others (shown w) ≡ plainlog.xfer_of limit others w
unfolding plainly.step_of
unwritten_shown others w off =
    λ i.
    record {
      retransmit = cond (eqb w.tags 0) 0 1;
      retry = 0;
      transfer = (ap (λ (r : Step). r.state.tag) (step_shown (plain (xfer others)) w) ∙ tagged others w off) i;
      offset = w.next;
      length = asked_length (shown_back w i);
      others = others;
      bytes = [];
    }

-- what a call adds to the history where it is not refused
entry_shown : (c : Call) (w : Write) → is_refused (machine.step_of limit c w).answer ≡ false → entry_of c (shown w) ≡ past.entry_of limit c w
entry_shown (plain (start b n x r)) w off = refl
entry_shown (plain (xfer others)) w off = ap log.asked (unwritten_shown others w off)
entry_shown (plain ack) w off = refl
entry_shown (plain nak) w off = refl
entry_shown (plain timeout) w off = refl
entry_shown (plain lost) w off = refl
entry_shown (plain (plainly.Call.got t o n)) w off = refl
entry_shown (plain nexus) w off = refl
entry_shown (plain cancel) w off = refl
entry_shown (ask others destination source tag out) w off =
    ap (λ (u : Write). log.asked (past.xfer_in others (list.take 36 (ask_bytes limit others u destination source tag out)))) (shown_back w)
entry_shown (take destination source tag frame store) w off = refl

pub entries_shown : (c : Call) (w : Write) → entries_of c (shown w) ≡ past.entries_of limit c w
entries_shown c w =
    let a = (machine.step_of limit c w).answer in
    let mine = entry_of c (shown w) ∷ [] in
    let its = past.entry_of limit c w ∷ [] in
    ap (λ (t : Bool). cond t [] mine) (ap (λ (r : Step). is_refusal r.answer) (step_shown c w) ∙ refusal_told a)
    ∙ on_false (is_refused a) [] mine its (λ off. ap (λ (e : log.Entry). e ∷ []) (entry_shown c w off))

pub history_shown : (cs : List Call) (w : Write) (h : List log.Entry) → history cs (shown w) h ≡ past.history limit cs w h
history_shown [] w h = refl
history_shown (c ∷ cs) w h =
    (λ i. history cs (step_shown c w i).state (entries_shown c w i ++ h))
    ∙ history_shown cs (machine.step_of limit c w).state (past.entries_of limit c w ++ h)
