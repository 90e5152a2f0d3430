-- What C sees of a transfer that is saved: its line is that of the transfer which the numbers say, and the numbers come back to the last member; so calls of C
-- with swaps between them are the calls alone. Assumes nothing.
use Prim.Native.Nat.{ℕ, ◌≤◌}
use mathlib.Core.Bool.{true}
use mathlib.Core.List.{List, [], ◌∷◌, ◌++◌}
use mathlib.Core.Logic.{◌↔◌}
use mathlib.Core.Path.{◌≡◌, refl, sym, ap, subst, ◌∙◌}
use native.Mathlib.Omega.{arith}
use lib.ListN.{length, drop}
use Rattle.refusals.specs.Causes.{First, end, past}
use Rattle.refusals.specs.Refusals.{number_of}
use Rattle.refusals.specs.declared.Refusal.{Refusal}
use Rattle.refusals.proofs.Numbers.{one_number, not_zero}
use Rattle.transfer.specs.History.{EntryOf}
use Rattle.send.specs.History.{Sent, frames}
use Rattle.saved.specs.Saved.{line_of, shaped}
use Rattle.saved.proofs.Whole as fronts
use Rattle.saved.proofs.Laid.{exactly, if_good, kept, written}
use Rattle.transfer_lent.specs.Lent.{state_of}
use Rattle.transfer_lent.specs.Face.{Call, face_of}
use Rattle.transfer_lent.specs.History.{zeros, run, entries_of, history, Typed, AllTyped, Reached}
use Rattle.transfer_lent.specs.Demand.{DemandSeen}
use Rattle.transfer_lent.specs.Saves as face
use Rattle.transfer_lent.specs.Saves.{save_grounds, restore_of, LeftLine}
use Rattle.transfer_lent.specs.declared.State.{State}
use Rattle.transfer_lent.specs.declared.Step.{Step}
use Rattle.transfer_lent.proofs.Demand.{demand_seen}
use Rattle.transfer_lent.proofs.Swaps.{save_decides, lays, swap_back, Gives, some, none, gives, restore_exactly, restore_back, taken_shaped}
use Rattle.claims.specs.Swaps.{Swap, Turn, calls_in, Machine, Leads}
use Rattle.claims.proofs.SaveCalls.{CSave, CRestore, c_given, c_form, c_lent, c_left, c_line, c_savers}
use Rattle.claims.proofs.Swapped.{alone}

abbrev pub swapping : Machine State Call (EntryOf Sent)
swapping = record { after = λ c s. (face_of c s).state; adds = λ c s. entries_of c s; Swaps = Swap c_savers }

-- demand 3 of a state s with the history h, and of one call more, in the numbers that C sees
abbrev pub Demanded : Call → State → List (EntryOf Sent) → Type 0
Demanded c s h = DemandSeen s (frames h) (frames (entries_of c s)) (face_of c s)

-- 02 a.2
pub record SaveFace : Type 1 where
  -- each function answers what C is said to see of its call
  pub saves : (c : CSave) → face.Save (c_given c) (c_form c) (c_lent c) c.answer (c_left c)
  pub restores : (c : CRestore) → c.answer ≡ restore_of (c_line c)
  -- save answers 2 exactly if the form isn't 1, 1 exactly if it is and there is no room for 69 bytes, else 3 exactly if no calls gave the state back, and leaves every
  -- byte
  pub save_refused : (c : CSave) (k : Refusal) → (c.answer.answer ≡ number_of k) ↔ First (save_grounds (c_given c) (c_form c) (c_lent c)) k
  pub save_kept : (c : CSave) (k : Refusal) → c.answer.answer ≡ number_of k → (c_left c ≡ c_lent c) × (c.answer.length ≡ 0)
  -- every state that calls gave back is saved: its line stands at the front, its length is answered, and the bytes behind it stay
  pub saved : (c : CSave) → c_form c ≡ 1 → 69 ≤ length (c_lent c) → Reached (c_given c) → c.answer.answer ≡ 0
  pub written : (c : CSave) → c.answer.answer ≡ 0 → let l = line_of (c_form c) (state_of (c_given c)) in
      (c_left c ≡ l ++ drop (length l) (c_lent c)) × (c.answer.length ≡ length l)
  -- 02 a.3
  -- restore answers 0 exactly if the line is that of a state which calls gave back, and gives that state
  pub exact : (c : CRestore) → (c.answer.answer ≡ 0) ↔ LeftLine 1 (c_line c)
  pub back : (c : CRestore) (s : State) → Reached s → c_line c ≡ line_of 1 (state_of s) → c.answer ≡ record { state = s; answer = 0 }
  pub again : (c : CRestore) → c.answer.answer ≡ 0 → Reached c.answer.state × (c_line c ≡ line_of 1 (state_of c.answer.state))
  -- no front of a line that is taken is taken
  pub whole : (c cut : CRestore) (x : ℕ) (rest : List ℕ) → c_line c ≡ c_line cut ++ (x ∷ rest) → c.answer.answer ≡ 0 → cut.answer.answer ≡ 0 → ⊥
  -- 02 a.5
  -- and for any other line 2 and all zeros
  pub other : (c : CRestore) → (LeftLine 1 (c_line c) → ⊥) → c.answer ≡ record { state = zeros; answer = 2 }
  -- a swap gives the state back to the last member
  pub same : (s t : State) → Swap c_savers s t → t ≡ s
  -- 02 a.1
  -- calls from all zeros with swaps anywhere between them lead to the state of the calls alone, by the history of the calls alone, of which every field of
  -- TransferRuns speaks
  pub swaps : (ts : List (Turn Call)) (s : State) (h : List (EntryOf Sent)) → Leads swapping ts zeros [] s h →
      (s ≡ run (calls_in ts) zeros) × (h ≡ history (calls_in ts) zeros [])
  -- 02 a.4
  -- demand 3 in the numbers that C sees
  pub demand : (ts : List (Turn Call)) (s : State) (h : List (EntryOf Sent)) → Leads swapping ts zeros [] s h →
      AllTyped (calls_in ts) → (c : Call) → Typed c → Demanded c s h

given_back : (s t : State) → Swap c_savers s t → t ≡ s
given_back s t over =
    sym over.gives
    ∙ ap (λ (r : Step). r.state) (over.restore.met ∙ ap restore_of over.reads ∙ swap_back over.save.met over.passed)
    ∙ over.saves

swapped : {ts : List (Turn Call)} {s : State} {h : List (EntryOf Sent)} → Leads swapping ts zeros [] s h →
    (s ≡ run (calls_in ts) zeros) × (h ≡ history (calls_in ts) zeros [])
swapped = alone swapping run history (λ s. refl) (λ c cs s. refl) (λ s h. refl) (λ c cs s h. refl) given_back

-- ---- a line that is taken

restored : (line : List ℕ) → (restore_of line).answer ≡ 0 → Reached (restore_of line).state × (line ≡ line_of 1 (state_of (restore_of line).state))
restored line zero = by (gives line)
  where
    by : Gives line → Reached (restore_of line).state × (line ≡ line_of 1 (state_of (restore_of line).state))
    by (some _ reached is) = (reached, is)
    by (none off two) = absurd (off ((restore_exactly line).0 zero))

refused : (line : List ℕ) → (LeftLine 1 line → ⊥) → restore_of line ≡ record { state = zeros; answer = 2 }
refused line off = by (gives line)
  where
    by : Gives line → restore_of line ≡ record { state = zeros; answer = 2 }
    by (some zero _ _) = absurd (off ((restore_exactly line).0 zero))
    by (none _ two) = two

module _ (c : CRestore) where
  answers : c.answer.answer ≡ (restore_of (c_line c)).answer
  answers = ap (λ (r : Step). r.answer) c.met

  -- what is taken has the form
  has_form : c.answer.answer ≡ 0 → shaped 1 (c_line c) ≡ true
  has_form zero = taken_shaped (c_line c) (sym answers ∙ zero)

pub save_face : SaveFace
save_face = record {
  saves = λ c. c.met;
  restores = λ c. c.met;
  save_refused = λ c. exactly number_of 0 one_number not_zero (lays c.met) (save_decides (c_given c) (c_form c) (c_lent c));
  save_kept = λ c. kept number_of 0 one_number not_zero (lays c.met);
  saved = λ c form room reached. if_good number_of 0 one_number not_zero (lays c.met) (save_decides (c_given c) (c_form c) (c_lent c))
      (past (λ short. let less = short.1 in omega arith) (past (λ off. off form) (past (λ off. off reached) end)));
  written = λ c. written number_of 0 one_number not_zero (lays c.met);
  exact = λ c. let e = restore_exactly (c_line c) in (λ zero. e.0 (sym (answers c) ∙ zero), λ l. answers c ∙ e.1 l);
  back = λ c s reached is. c.met ∙ ap restore_of is ∙ restore_back s reached;
  again = λ c zero. subst (λ (r : Step). Reached r.state × (c_line c ≡ line_of 1 (state_of r.state))) (sym c.met) (restored (c_line c) (sym (answers c) ∙ zero));
  whole = λ c cut x rest is took cuts. fronts.whole 1 1 (c_line cut) x rest (has_form cut cuts) (ap (shaped 1) (sym is) ∙ has_form c took);
  other = λ c off. c.met ∙ refused (c_line c) off;
  same = given_back;
  swaps = λ ts s h. swapped;
  demand = λ ts s h leads typed c one.
      let is = swapped leads in
      subst (λ (p : State × List (EntryOf Sent)). Demanded c p.0 p.1) (λ i. (sym is.0 i, sym is.1 i)) (demand_seen (calls_in ts) c typed one);
}
