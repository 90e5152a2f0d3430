-- A ledger of the lines has what the transfer did: each line leaves the transfer and the ledger in agreement, so that demand 3 of the one is
-- demand 3 of the other. Assumes nothing.
use Rattle.std.specs.Prelude.{Ok, None, Option, Some}
use Prim.Native.Nat.{ℕ, ◌+◌, ◌-◌}
use mathlib.Core.Bool.{true}
use mathlib.Core.List.{List, [], ◌∷◌, ◌++◌, map}
use mathlib.Core.Path.{◌≡◌, refl, sym, ap, ◌∙◌, subst}
use native.Mathlib.Omega.{arith}
use borrow.Author.Tests.{not-false}
use lib.Dec.{eqb, leb}
use Rattle.laws.proofs.Bools.{impossible, by_test}
use Rattle.refusals.proofs.Causes.{by_causes}
use Rattle.refusals.specs.Causes.{refuse}
use Rattle.refusals.specs.declared.Refusal.{Refusal}
use Rattle.transfer.specs.Rules.{unstarted}
use Rattle.transfer.specs.Steps.{limit, unfinished, draining, say, refused, started, framed, frame_length, answered, all_sent, settled, drained, acked, nacked, dropped, ended}
use Rattle.transfer.specs.Steps.{start_causes, frame_causes, answer_causes, end_causes, start_step, frame_step, ack_step, nak_step, drop_step, end_step}
use Rattle.transfer.specs.Calls.{Call, start, frame, ack, nak, timeout, lost, nexus, cancel, step_of}
use Rattle.transfer.specs.History.{Entry, sent, is_refused, entries, view, Covered}
use Rattle.transfer.specs.Log.{next_frame, entries_of}
use Rattle.transfer.specs.declared.Transfer.{Transfer}
use Rattle.transfer.specs.declared.Stepped.{Stepped}
use Rattle.transfer.specs.declared.Answer.{Answer}
use Rattle.transfer.proofs.Calls.{some_left}
use Rattle.transfer.proofs.Invariant.{Inv}
use Rattle.transfer.proofs.Balance.{keeps, at_first}
use Rattle.transfer.proofs.Demand.{demand, apart}
use Rattle.lines.specs.Parts.{lines_of}
use Rattle.runs.specs.Commands.{read_line, obeyed}
use Rattle.runs.specs.Feed.{next_line}
use Rattle.runs.specs.Rows.{row}
use Rattle.runs.specs.Output.{rows, output_of}
use Rattle.runs.specs.Turns.{Turn, turn_of, turns, turns_of, shown_bytes, Read}
use Rattle.runs.specs.Ledger.{Ledger, blank_ledger, by_start, adds, asked, goes_on, enter, entered, words_for, Holds, Leads}
use Rattle.runs.proofs.Shown.{one_reading}
use Rattle.runs.proofs.Words.{Has, said_word, nak_drains}
use Rattle.runs.specs.declared.Command.{Command}
use Rattle.runs.specs.declared.Command.TheVariants.{Start, Frame, Ack, Nak, Timeout, Lost, Nexus, Cancel}

-- ---- the turns are the input's commands, and their bytes are the output

saying : (k : ℕ) (s : Transfer) (ls : List (List ℕ)) → map (λ (t : Turn). t.said) (turns k s ls) ≡ map read_line ls
saying k s [] = refl
saying k s (l ∷ ls) = ap (λ (cs : List (Option Command)). read_line l ∷ cs) (saying (next_line k) (obeyed (read_line l) s).state ls)

shown : (k : ℕ) (s : Transfer) (ls : List (List ℕ)) → shown_bytes (turns k s ls) ≡ rows k s ls
shown k s [] = refl
shown k s (l ∷ ls) = ap (λ (b : List ℕ). row (next_line k) (obeyed (read_line l) s) ++ b) (shown (next_line k) (obeyed (read_line l) s).state ls)

-- a run is read
pub read_out : (input : List ℕ) → Read input (turns_of input)
unfolding output_of
read_out input = record { said = saying 0 unstarted (lines_of input); printed = shown 0 unstarted (lines_of input) }

-- ---- the request and the words

-- only START asks, and the words say whether the transfer goes on
pub record Follows (s : Transfer) (b n : ℕ) (st : Stepped) : Type 0 where
  pub offset : b ≡ st.state.offset
  pub count : n ≡ st.state.count
  pub going : goes_on st.answer (unfinished s.phase) ≡ unfinished st.state.phase

module _ (bound : ℕ) (s : Transfer) where
  abbrev Stays : Stepped → Type 0
  Stays = Follows s s.offset s.count

  same : (k : Refusal) → Stays (refused s k)
  same k = record { offset = refl; count = refl; going = refl }

  on_drain : Stays (drained (answered s))
  unfolding drained
  on_drain = by_test Stays (eqb (s.unanswered - 1) 0) (λ t. record { offset = refl; count = refl; going = refl }) (λ t. record { offset = refl; count = refl; going = refl })

  on_ack : unfinished s.phase ≡ true → Stays (acked (answered s))
  unfolding acked settled
  on_ack u =
      by_test Stays (draining s.phase) (λ d. on_drain)
      (λ d. by_test Stays (eqb (s.unanswered - 1) 0)
      (λ t. by_test Stays (all_sent s) (λ q. record { offset = refl; count = refl; going = refl }) (λ q. record { offset = refl; count = refl; going = sym u }))
      (λ t. record { offset = refl; count = refl; going = sym u }))

  on_nak : Stays (nacked (answered s))
  unfolding nacked
  on_nak = by_test Stays (leb s.resends s.used) (λ t. record { offset = refl; count = refl; going = refl }) (λ t. on_drain)

  on_drop : Stays (dropped s)
  unfolding dropped
  on_drop = by_test Stays (leb s.resends s.used) (λ t. record { offset = refl; count = refl; going = refl }) (λ t. record { offset = refl; count = refl; going = refl })

  on_answer : (st : Stepped) → (unfinished s.phase ≡ true → Stays st) → Stays (refuse (refused s) (answer_causes bound s) st)
  on_answer st h = by_causes Stays (refused s) same (answer_causes bound s) st (λ off. h (some_left s off.1.0).0)

  stays_frame : Stays (frame_step bound s)
  unfolding frame_step
  stays_frame = by_causes Stays (refused s) same (frame_causes bound s) (framed (frame_length s) s) (λ off. record { offset = refl; count = refl; going = sym (not-false _ off.1.0) })

  stays_ack : Stays (ack_step bound s)
  unfolding ack_step
  stays_ack = on_answer (acked (answered s)) on_ack

  stays_nak : Stays (nak_step bound s)
  unfolding nak_step
  stays_nak = on_answer (nacked (answered s)) (λ u. on_nak)

  stays_drop : Stays (drop_step bound s)
  unfolding drop_step
  stays_drop = on_answer (dropped s) (λ u. on_drop)

  stays_end : Stays (end_step bound s)
  unfolding end_step
  stays_end = by_causes Stays (refused s) same (end_causes bound s) (ended s) (λ off. record { offset = refl; count = refl; going = refl })

-- ---- a line keeps the ledger in agreement with the transfer

pub record Agree (s : Transfer) (w : Ledger) : Type 0 where
  pub offset : w.offset ≡ s.offset
  pub count : w.count ≡ s.count
  pub going : w.going ≡ unfinished s.phase
  pub read : w.read ≡ s.read
  pub balance : w.balance ≡ s.balance
  pub unanswered : w.unanswered ≡ s.unanswered
  pub sound : Inv limit s (view w.history)

pub holds : {s : Transfer} {w : Ledger} → Agree s w → Holds w
holds {s} {w} a =
    let d = demand limit s w.history a.sound frame in
    record {
      within = omega (arith, d.within, a.offset, a.count, a.balance);
      sure = λ x l u. d.sure x (omega (arith, a.offset)) (omega (arith, a.balance));
      settled = λ f fs p q. a.balance ∙ d.settled f fs p q;
      few = d.few;
      counted = λ g. a.unanswered ∙ d.counted (sym a.going ∙ g);
      over = λ g. a.unanswered ∙ d.over (sym a.going ∙ g);
    }

-- a line answered by st, and what it leaves
pub record Step (k : ℕ) (c : Option Command) (st : Stepped) (w : Ledger) : Type 0 where
  pub agree : Agree st.state (enter w (turn_of k c st))
  pub leads : Leads w (turn_of k c st)

module _ (k : ℕ) (s : Transfer) (w : Ledger) (a : Agree s w) where
  -- of a command that is a call, where the line tells what the history has, and asks for what the transfer has
  calls_agree : (c : Option Command) (call : Call) →
      let st = step_of limit call s in
      let t = turn_of k c st in
      Has (words_for c) st → entries_of limit call s ≡ adds w t → Follows s (asked (λ b n. b) w.offset t) (asked (λ b n. n) w.count t) st → Step k c st w
  calls_agree c call word tells asks =
      let h = w.history in
      let st = step_of limit call s in
      let es = adds w (turn_of k c st) in
      let d = demand limit s h a.sound call in
      let going : goes_on st.answer w.going ≡ unfinished st.state.phase = ap (goes_on st.answer) a.going ∙ asks.going in
      let sound : Inv limit st.state (view (es ++ h)) = subst (λ (fs : List Entry). Inv limit st.state (view (fs ++ h))) tells (keeps limit s h a.sound call) in
      record {
        agree = record { offset = asks.offset; count = asks.count; going = going; read = refl; balance = refl; unanswered = refl; sound = sound };
        leads =
            record {
              resend = λ f e none. d.resend f (tells ∙ e) none ∙ sym a.balance;
              delivers = λ e x l u. subst (λ (fs : List Entry). Covered x (view (fs ++ h)).acked) tells (d.delivered e x (omega (arith, a.offset)) (omega (arith, a.offset, a.count)));
              says = λ q. (word q).0;
              drains = λ q on. (word q).1 ∙ nak_drains st.state (view (es ++ h)) st.state.phase (sym going ∙ on) sound.live;
            };
      }

  -- a line that asks for nothing, whatever its word
  stays_agree : (c : Option Command) (call : Call) → ((which : ℕ → ℕ → ℕ) (x : ℕ) → by_start which x c ≡ x) → let st = step_of limit call s in Has (words_for c) st → entries_of limit call s ≡ adds w (turn_of k c st) → Stays limit s st → Step k c st w
  stays_agree c call quiet word tells stays = calls_agree c call word tells (record { offset = none (λ b n. b) w.offset ∙ a.offset ∙ stays.offset; count = none (λ b n. n) w.count ∙ a.count ∙ stays.count; going = stays.going })
    where
      none : (which : ℕ → ℕ → ℕ) (x : ℕ) → asked which x (turn_of k c (step_of limit call s)) ≡ x
      none which x = by_test (λ (y : ℕ). y ≡ x) (is_refused (step_of limit call s).answer) (λ t. refl) (λ t. quiet which x)

  -- a frame lies between the read offsets
  frame_told : entries_of limit frame s ≡ adds w (turn_of k (Some Frame) (step_of limit frame s))
  unfolding step_of frame_step
  frame_told =
      by_causes (λ (st : Stepped). entries frame (next_frame s) st.answer ≡ adds w (turn_of k (Some Frame) st)) (refused s) (λ r. refl) (frame_causes limit s) (framed (frame_length s) s)
      (λ off.
      let len : frame_length s ≡ s.read + frame_length s - w.read = omega (arith, a.read) in
      λ i. sent (record { at = sym a.read i; len = len i }) ∷ [])

  start_asks : (b n m r : ℕ) → let st = step_of limit (start b n m r) s in let t = turn_of k (Some (Start b n m r)) st in Follows s (asked (λ b n. b) w.offset t) (asked (λ b n. n) w.count t) st
  unfolding step_of start_step
  start_asks b n m r =
      by_causes (λ (st : Stepped). let t = turn_of k (Some (Start b n m r)) st in Follows s (asked (λ b n. b) w.offset t) (asked (λ b n. n) w.count t) st) (refused s)
      (λ j. record { offset = a.offset; count = a.count; going = refl }) (start_causes limit b n m r s) (say (Ok Answer.Ok) (started b n m r))
      (λ off. record { offset = refl; count = refl; going = refl })

  bad_step : Step k None (refused s Refusal.Unlisted) w
  bad_step =
      record {
        agree = record { offset = a.offset; count = a.count; going = a.going; read = refl; balance = refl; unanswered = refl; sound = a.sound };
        leads = record { resend = λ f e none. absurd (apart (cc)); delivers = λ e. absurd (apart (cc)); says = λ e. impossible (sym e); drains = λ e. impossible (sym e) };
      }

  pub step : (c : Option Command) → Step k c (obeyed c s) w
  unfolding obeyed step_of
  step (Some (Start b n m r)) = calls_agree (Some (Start b n m r)) (start b n m r) (said_word s (Some (Start b n m r))) refl (start_asks b n m r)
  step (Some Frame) = stays_agree (Some Frame) frame (λ which x. refl) (said_word s (Some Frame)) frame_told (stays_frame limit s)
  step (Some Ack) = stays_agree (Some Ack) ack (λ which x. refl) (said_word s (Some Ack)) refl (stays_ack limit s)
  step (Some Nak) = stays_agree (Some Nak) nak (λ which x. refl) (said_word s (Some Nak)) refl (stays_nak limit s)
  step (Some Timeout) = stays_agree (Some Timeout) timeout (λ which x. refl) (said_word s (Some Timeout)) refl (stays_drop limit s)
  step (Some Lost) = stays_agree (Some Lost) lost (λ which x. refl) (said_word s (Some Lost)) refl (stays_drop limit s)
  step (Some Nexus) = stays_agree (Some Nexus) nexus (λ which x. refl) (said_word s (Some Nexus)) refl (stays_end limit s)
  step (Some Cancel) = stays_agree (Some Cancel) cancel (λ which x. refl) (said_word s (Some Cancel)) refl (stays_end limit s)
  step None = bad_step

-- ---- any place in a run

-- where the turns `past` have gone, and `rest` are to come, from the ledger w on
pub record Stands (w : Ledger) (past rest : List Turn) : Type 0 where
  pub number : ℕ
  pub state : Transfer
  pub lines : List (List ℕ)
  pub are : rest ≡ turns number state lines
  pub agree : Agree state (entered w past)

stand : (k : ℕ) (s : Transfer) (ls : List (List ℕ)) (w : Ledger) → Agree s w → (past rest : List Turn) → turns k s ls ≡ past ++ rest → Stands w past rest
stand k s ls w a [] rest e = record { number = k; state = s; lines = ls; are = sym e; agree = a }
stand k s [] w a (t ∷ past) rest e = absurd (apart (cc))
stand k s (l ∷ ls) w a (t ∷ past) rest e =
    let st = obeyed (read_line l) s in
    let this : turn_of k (read_line l) st ≡ t = cc in
    let more : turns (next_line k) st.state ls ≡ past ++ rest = cc in
    let after = subst (λ (u : Turn). Agree st.state (enter w u)) this (step k s w a (read_line l)).agree in
    let x = stand (next_line k) st.state ls (enter w t) after past rest more in
    record { number = x.number; state = x.state; lines = x.lines; are = x.are; agree = x.agree }

first_agree : Agree unstarted blank_ledger
first_agree = record { offset = refl; count = refl; going = refl; read = refl; balance = refl; unanswered = refl; sound = at_first limit }

-- of any lines that are those of an input and of its output
module _ (input : List ℕ) (past rest : List Turn) (r : Read input (past ++ rest)) where
  stood : Stands blank_ledger past rest
  stood = stand 0 unstarted (lines_of input) blank_ledger first_agree past rest (one_reading (turns_of input) (past ++ rest) ((read_out input).said ∙ sym r.said) ((read_out input).printed ∙ sym r.printed))

  -- DEMAND 3, of the ledger at any place
  pub ledger_holds : Holds (entered blank_ledger past)
  ledger_holds = holds stood.agree

  -- and of the line that comes there
  pub ledger_leads : (t : Turn) (more : List Turn) → rest ≡ t ∷ more → Leads (entered blank_ledger past) t
  ledger_leads t more e = by stood.number stood.state stood.lines (sym e ∙ stood.are) stood.agree
    where
      by : (k : ℕ) (s : Transfer) (ls : List (List ℕ)) → t ∷ more ≡ turns k s ls → Agree s (entered blank_ledger past) → Leads (entered blank_ledger past) t
      by k s [] q a = absurd (apart (cc))
      by k s (l ∷ ls) q a =
          let this : turn_of k (read_line l) (obeyed (read_line l) s) ≡ t = cc in
          subst (Leads (entered blank_ledger past)) this (step k s (entered blank_ledger past) a (read_line l)).leads
