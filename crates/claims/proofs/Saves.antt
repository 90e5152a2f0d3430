-- Request a), sentence by sentence: a line has each number and the phase in a field of its own, so what is saved is read back as it was, and the test of a
-- lent state takes exactly the numbers that some history leaves; so calls with swaps between them are the calls alone. Assumes nothing.
use Rattle.std.specs.Prelude.{Err, Ok, Result}
use Prim.Native.Nat.{ℕ, ◌≤◌}
use mathlib.Core.Bool.{Bool, true, false}
use mathlib.Core.List.{List, [], ◌∷◌, ◌++◌, map}
use mathlib.Core.Logic.{◌↔◌}
use mathlib.Core.Path.{◌≡◌, refl, sym, ap, subst, ◌∙◌}
use native.Mathlib.Omega.{arith}
use lib.ListN.{length, take, drop, replicate}
use Rattle.laws.proofs.Bools.{and_left}
use Rattle.refusals.specs.Causes.{First, end, past}
use Rattle.refusals.specs.declared.Refusal.{Refusal}
use Rattle.transfer.specs.Rules.{unstarted}
use Rattle.transfer.specs.Steps.{limit}
use Rattle.transfer.specs.Calls as plainly
use Rattle.transfer.specs.Demand.{Demand3}
use Rattle.transfer.specs.Examples.{listed}
use Rattle.transfer.specs.History.{EntryOf}
use Rattle.transfer.specs.declared.Stepped.{Stepped}
use Rattle.transfer.specs.declared.Transfer.{Transfer}
use Rattle.send.specs.Calls.{Call, step_of, run, Typed, AllTyped}
use Rattle.send.specs.History.{Sent, output_of, entries_of, history, frames}
use Rattle.transfer.proofs.Exact as transfer
use Rattle.send.proofs.Demand.{demand_3}
use Rattle.saved.specs.Saved.{line_of, shaped, state_of, taken, restored, restore_of}
use Rattle.saved.specs.declared.Restored.{Restored}
use Rattle.saved.specs.Grounds.{LeftLine, restore_grounds, save_grounds}
use Rattle.saved.specs.Typed.{leaves, typed_new, typed_listing, lossy_calls, typed_lossy, other_lines}
use Rattle.saved.proofs.Lines.{line_short}
use Rattle.saved.proofs.Trips as trips
use Rattle.saved.proofs.Exact as tests
use Rattle.saved.proofs.Whole as fronts
use Rattle.saved.proofs.Laid.{exactly, if_good, kept, written}
use Rattle.saved.proofs.Calls as calls
use Rattle.saved.proofs.Examples as typed
use Rattle.claims.specs.Swaps.{Swap, Turn, calls_in, Machine, Leads}
use Rattle.claims.proofs.SaveCalls.{Save, Restore, given, lent, left, line, savers}
use Rattle.claims.proofs.Swapped.{alone}

-- what some calls of s answer, the states that they leave, and the bytes that they write
abbrev pub seen : List Call → Transfer → List (Stepped × List ℕ)
seen [] s = []
seen (c ∷ cs) s = (step_of limit c s, output_of limit c s) ∷ seen cs (step_of limit c s).state

abbrev pub swapping : Machine Transfer Call (EntryOf Sent)
swapping = record { after = λ c s. (step_of limit c s).state; adds = λ c s. entries_of limit c s; Swaps = Swap savers }

-- demand 3 of a transfer s with the history h, and of one call more
abbrev pub Demanded : Call → Transfer → List (EntryOf Sent) → Type 0
Demanded c s h = Demand3 limit s (frames h) (frames (entries_of limit c s)) (step_of limit c s)

pub record Saves : Type 1 where
  -- 02 a.2
  -- the lines of the state before START, of document 01's listing and of three other histories, as they are typed
  pub examples :
      (line_of 1 unstarted ≡ typed_new)
      × (map (line_of 1) (leaves limit listed unstarted) ≡ typed_listing)
      × (map (λ cs. line_of 1 (plainly.run limit cs unstarted)) lossy_calls ≡ typed_lossy)
  -- with room for 69 bytes every transfer that some history leaves, or the state before START, is saved: no line is longer
  pub saved : (c : Save) → plainly.Reachable limit (given c) → 69 ≤ length (lent c) → c.answer.answer ≡ Ok tt
  pub room : (s : Transfer) → plainly.Reachable limit s → length (line_of 1 s) ≤ 69
  -- and then its line stands at the front of the output, its length is answered, and the bytes behind it stay
  pub written : (c : Save) → c.answer.answer ≡ Ok tt → let l = line_of 1 (given c) in (left c ≡ l ++ drop (length l) (lent c)) × (c.answer.length ≡ length l)
  -- what was written is read back
  pub swap : (c : Save) (r : Restore) → c.answer.answer ≡ Ok tt → line r ≡ take c.answer.length (left c) → r.answer ≡ restored (given c)
  -- the line of every such transfer says that transfer
  pub back : (r : Restore) (s : Transfer) → plainly.Reachable limit s → line r ≡ line_of 1 s → r.answer ≡ restored s
  -- the line of what was taken is the line, byte for byte
  pub again : (r : Restore) → r.answer.answer ≡ Ok tt → line_of 1 r.answer.state ≡ line r
  -- two records with one line are one record
  pub unlike : (s t : Transfer) → line_of 1 s ≡ line_of 1 t → s ≡ t
  -- no front of a line that is taken is taken, so that a line which was cut is never another transfer
  pub whole : (r cut : Restore) (x : ℕ) (rest : List ℕ) → line r ≡ line cut ++ (x ∷ rest) → r.answer.answer ≡ Ok tt → cut.answer.answer ≡ Ok tt → ⊥
  -- 02 a.3
  -- a line is taken exactly if it is the line of such a transfer, of at most 64 frames unanswered
  pub exact : (r : Restore) → (r.answer.answer ≡ Ok tt) ↔ LeftLine 64 1 (line r)
  -- behind a swap any calls leave the states and give the answers and the bytes that they do without it
  pub goes_on : (s t : Transfer) → Swap savers s t → (cs : List Call) → seen cs t ≡ seen cs s
  -- 02 a.1
  -- calls from the state before START with swaps anywhere between them lead to the state of the calls alone, by the history of the calls alone, of which every
  -- field of Balance speaks
  pub swaps : (ts : List (Turn Call)) (s : Transfer) (h : List (EntryOf Sent)) → Leads swapping ts unstarted [] s h →
      (s ≡ run limit (calls_in ts) unstarted) × (h ≡ history limit (calls_in ts) unstarted [])
  -- 02 a.4
  -- and each sentence of demand 3 holds of that history
  pub demand : (ts : List (Turn Call)) (s : Transfer) (h : List (EntryOf Sent)) → Leads swapping ts unstarted [] s h →
      AllTyped (calls_in ts) → (c : Call) → Typed c → Demanded c s h
  -- and of a line from nowhere: whatever calls leave a transfer with this line, of their history followed by that of any calls behind the restore
  pub nowhere : (r : Restore) → r.answer.answer ≡ Ok tt → (cs : List Call) → AllTyped cs → line r ≡ line_of 1 (run limit cs unstarted) →
      (ds : List Call) → AllTyped ds → (c : Call) → Typed c →
      Demanded c (run limit ds r.answer.state) (history limit ds r.answer.state (history limit cs unstarted []))
  -- 02 a.5
  -- restore is refused with 2 exactly if no history leaves a transfer with this line, and then gives the state before START
  pub restore_refused : (r : Restore) (k : Refusal) → (r.answer.answer ≡ Err k) ↔ First (restore_grounds (line r)) k
  pub restore_none : (r : Restore) (k : Refusal) → r.answer.answer ≡ Err k → r.answer.state ≡ unstarted
  -- so are these lines, as they are typed; of them the last four have the form, and no history leaves their numbers
  pub others : map (taken 1) other_lines ≡ replicate 21 false
  pub shapes : map (shaped 1) other_lines ≡ replicate 17 false ++ replicate 4 true
  -- save is refused with 1 exactly if the output is shorter than 69 bytes, else with 3 exactly if no history leaves the transfer, and then leaves every byte
  pub save_refused : (c : Save) (k : Refusal) → (c.answer.answer ≡ Err k) ↔ First (save_grounds (given c) (lent c)) k
  pub save_kept : (c : Save) (k : Refusal) → c.answer.answer ≡ Err k → (left c ≡ lent c) × (c.answer.length ≡ 0)

-- ---- a line that is taken

module _ (c : Restore) where
  -- a check's answer is one of the two
  passed : c.answer.answer ≡ Ok tt → taken 1 (line c) ≡ true
  passed e = by (taken 1 (line c)) refl
    where
      by : (t : Bool) → taken 1 (line c) ≡ t → t ≡ true
      by true on = refl
      by false off = absurd (calls.passed_apart Refusal.Unlisted (sym e ∙ ap (λ (r : Restored). r.answer) (c.met ∙ calls.restore_other (line c) off)))

  unless_passed : (k : Refusal) → c.answer.answer ≡ Err k → c.answer.state ≡ unstarted
  unless_passed k e = by (taken 1 (line c)) refl
    where
      by : (t : Bool) → taken 1 (line c) ≡ t → c.answer.state ≡ unstarted
      by true on = absurd (calls.passed_apart k (sym (ap (λ (r : Restored). r.answer) (c.met ∙ calls.restore_taken (line c) on)) ∙ e))
      by false off = ap (λ (r : Restored). r.state) (c.met ∙ calls.restore_other (line c) off)

  says : taken 1 (line c) ≡ true → c.answer ≡ restored (state_of (line c))
  says on = c.met ∙ calls.restore_taken (line c) on

  line_kept : c.answer.answer ≡ Ok tt → line_of 1 c.answer.state ≡ line c
  line_kept e =
      let on = passed e in
      ap (λ (r : Restored). line_of 1 r.state) (says on) ∙ trips.line_again 1 (line c) (and_left (shaped 1 (line c)) _ on)

-- ---- a swap gives the transfer back

read_back : (c : Save) (r : Restore) → c.answer.answer ≡ Ok tt → line r ≡ take c.answer.length (left c) → r.answer ≡ restored (given c)
read_back c r took is = r.met ∙ ap restore_of is ∙ calls.swap_same c.met took

same : (s t : Transfer) → Swap savers s t → t ≡ s
same s t over = sym over.gives ∙ ap (λ (r : Restored). r.state) (read_back over.save over.restore over.passed over.reads) ∙ over.saves

swapped : {ts : List (Turn Call)} {s : Transfer} {h : List (EntryOf Sent)} → Leads swapping ts unstarted [] s h →
    (s ≡ run limit (calls_in ts) unstarted) × (h ≡ history limit (calls_in ts) unstarted [])
swapped = alone swapping (run limit) (history limit) (λ s. refl) (λ c cs s. refl) (λ s h. refl) (λ c cs s h. refl) same

-- ---- calls behind calls are calls of one list

run_on : (cs ds : List Call) (s : Transfer) → run limit ds (run limit cs s) ≡ run limit (cs ++ ds) s
run_on [] ds s = refl
run_on (c ∷ cs) ds s = run_on cs ds (step_of limit c s).state

history_on : (cs ds : List Call) (s : Transfer) (h : List (EntryOf Sent)) → history limit ds (run limit cs s) (history limit cs s h) ≡ history limit (cs ++ ds) s h
history_on [] ds s h = refl
history_on (c ∷ cs) ds s h = history_on cs ds (step_of limit c s).state (entries_of limit c s ++ h)

typed_on : (cs ds : List Call) → AllTyped cs → AllTyped ds → AllTyped (cs ++ ds)
typed_on [] ds a b = b
typed_on (c ∷ cs) ds a b = (a.0, typed_on cs ds a.1 b)

demanded : (cs : List Call) → AllTyped cs → (c : Call) → Typed c → {s : Transfer} {h : List (EntryOf Sent)} → s ≡ run limit cs unstarted → h ≡ history limit cs unstarted [] → Demanded c s h
demanded cs typed c one state old = subst (λ (p : Transfer × List (EntryOf Sent)). Demanded c p.0 p.1) (λ i. (sym state i, sym old i)) (demand_3 limit cs c typed one)

pub saves : Saves
saves = record {
  examples = (typed.new, typed.listing, typed.lossy);
  saved = λ c reached room. if_good Err (Ok tt) calls.one calls.passed_apart (calls.lays c.met) (calls.save_decides (given c) (lent c))
      (past (λ short. omega arith) (past (λ broken. broken reached) end));
  room = λ s reached. line_short 1 s (omega arith) ((transfer.exact limit (omega arith) s).1 reached);
  written = λ c. written Err (Ok tt) calls.one calls.passed_apart (calls.lays c.met);
  swap = read_back;
  back = λ r s reached is. r.met ∙ ap restore_of is ∙ calls.restore_back s ((transfer.exact limit (omega arith) s).1 reached);
  again = line_kept;
  unlike = trips.unlike 1;
  whole = λ r cut x rest is took cuts.
      fronts.whole 1 1 (line cut) x rest (and_left (shaped 1 (line cut)) _ (passed cut cuts)) (ap (shaped 1) (sym is) ∙ and_left (shaped 1 (line r)) _ (passed r took));
  exact = λ r. let e = tests.exact 1 (omega arith) (line r) in (λ p. e.0 (passed r p), λ l. ap (λ (a : Restored). a.answer) (says r (e.1 l)));
  goes_on = λ s t over cs. ap (seen cs) (same s t over);
  swaps = λ ts s h. swapped;
  demand = λ ts s h leads typed c one. let is = swapped leads in demanded (calls_in ts) typed c one is.0 is.1;
  nowhere = λ r took cs typed is ds more c one.
      let at : r.answer.state ≡ run limit cs unstarted = trips.unlike 1 r.answer.state (run limit cs unstarted) (line_kept r took ∙ is) in
      demanded (cs ++ ds) (typed_on cs ds typed more) c one
      (ap (run limit ds) at ∙ run_on cs ds unstarted)
      (ap (λ (s : Transfer). history limit ds s (history limit cs unstarted [])) at ∙ history_on cs ds unstarted []);
  restore_refused = λ r k.
      let is = ap (λ (a : Restored). a.answer) r.met in
      let e = calls.restore_exactly (line r) k in
      (λ p. e.0 (sym is ∙ p), λ f. is ∙ e.1 f);
  restore_none = unless_passed;
  others = typed.others;
  shapes = typed.shapes;
  save_refused = λ c. exactly Err (Ok tt) calls.one calls.passed_apart (calls.lays c.met) (calls.save_decides (given c) (lent c));
  save_kept = λ c. kept Err (Ok tt) calls.one calls.passed_apart (calls.lays c.met);
}
