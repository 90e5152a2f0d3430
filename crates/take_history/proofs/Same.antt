-- A retry's bytes are those of the XFER_RDY that failed, but for byte 10 and the transfer tag: both frames are their fields alone, and a retry asks
-- for the same range. Assumes nothing.
use Rattle.refusals.specs.declared.Refusal.{Refusal}
use Rattle.std.specs.Prelude.{Err as NotXferRdy, Ok as XferRdy, Result}
use Prim.Native.Nat.{ℕ, ◌≤◌}
use mathlib.Core.Bool.{Bool, true, false}
use mathlib.Core.List.{List, [], ◌∷◌, ◌++◌}
use mathlib.Core.Path.{◌≡◌, refl, sym, ap, subst, ◌∙◌}
use lib.Dec.{eqb}
use Rattle.laws.proofs.Bools.{never, by_test}
use Rattle.ssp_frame.specs.Xfer.{xfer_bytes, read_xfer_rdy}
use Rattle.ssp_frame.specs.declared.xfer_rdy.XferHead.{XferHead}
use Rattle.write.specs.Rules.{unstarted}
use Rattle.write.specs.Calls as plainly
use Rattle.write.specs.declared.Write.{Write}
use Rattle.write.specs.declared.Stepped.{Stepped}
use Rattle.write.specs.declared.Answer.{Answer}
use Rattle.write.specs.Calls.{is_refused}
use Rattle.write_history.specs.History.{Xfer, Data, Entry, started, asked, acked, nacked, timed_out, was_lost, came, ended, failed, entries, View, note, view, takes, take_into, end_of_data, end_of_xfer}
use Rattle.write_history.specs.Log.{xfer_of}
use Rattle.write_history.proofs.Invariant.{Inv}
use Rattle.take.specs.Ask.{head_of}
use Rattle.take_history.specs.Calls.{Call, plain, step_of, run, Typed, AllTyped}
use Rattle.take_history.specs.Calls as calls
use Rattle.take_history.specs.History.{found_xfer, xfer_in, entry_of, entries_of, history, blanked, SameBytes}
use Rattle.take_history.proofs.Asks as asking
use Rattle.take_history.proofs.Demand.{says_so, all_small, all_keep, demand_bytes}
use Rattle.write_history.proofs.Demand.{at_first}

-- an XFER_RDY of the history, where the reader takes its bytes, is what it read, and they are its fields alone
pub record Reads (x : Xfer) (h : XferHead) : Type 0 where
  pub bytes : x.bytes ≡ xfer_bytes h
  pub offset : x.offset ≡ h.offset
  pub length : x.length ≡ h.length

abbrev pub Read : Xfer → Type 0
Read x = (h : XferHead) → read_xfer_rdy x.bytes ≡ XferRdy h → Reads x h

abbrev pub AllRead : List Xfer → Type 0
AllRead [] = Unit {0}
AllRead (x ∷ xs) = Read x × AllRead xs

-- the head of a frame that was read
head_in : Result XferHead Refusal → XferHead → XferHead
head_in (XferRdy h) d = h
head_in (NotXferRdy k) d = d

is_read : Result XferHead Refusal → Bool
is_read (XferRdy h) = true
is_read (NotXferRdy k) = false

-- no frame has no bytes
pub unread : (x : Xfer) → x.bytes ≡ [] → Read x
unfolding read_xfer_rdy is_read
unread x none h e = absurd (never (ap (λ (b : List ℕ). is_read (read_xfer_rdy b)) (sym none) ∙ ap is_read e))

-- two frames whose fields but retransmit, retry and transfer tag agree
pub same_fields : (g h : XferHead) → g.destination ≡ h.destination → g.source ≡ h.source → g.tag ≡ h.tag → g.offset ≡ h.offset → g.length ≡ h.length
    → blanked (xfer_bytes g) ≡ blanked (xfer_bytes h)
same_fields g h d s t o n =
    λ i. blanked (xfer_bytes (record { destination = d i; source = s i; retransmit = g.retransmit; retry = g.retry; tag = t i; transfer = g.transfer; offset = o i; length = n i }))

pub same_bytes : (x y : Xfer) → Read x → Read y → x.offset ≡ y.offset → x.length ≡ y.length → SameBytes x.bytes y.bytes
same_bytes x y rx ry o n g h eg eh d s t =
    let a = rx g eg in
    let b = ry h eh in
    ap blanked a.bytes ∙ same_fields g h d s t (sym a.offset ∙ o ∙ b.offset) (sym a.length ∙ n ∙ b.length) ∙ ap blanked (sym b.bytes)

-- of an XFER_RDY that a call wrote
wrote_read : (k others : ℕ) (s : Write) (destination source tag : ℕ) (out : List ℕ) → asking.Passed k others s destination source tag out
    → Read (xfer_in others (asking.wrote k others s destination source tag out))
unfolding head_in
wrote_read k others s destination source tag out p =
    subst Read (sym (ap (λ (r : Result XferHead Refusal). found_xfer r others bytes) p.read))
    (λ h e. let is : head ≡ h = ap (λ (r : Result XferHead Refusal). head_in r head) (sym p.read ∙ e) in
    record { bytes = p.bytes ∙ ap xfer_bytes is; offset = ap (λ (g : XferHead). g.offset) is; length = ap (λ (g : XferHead). g.length) is })
  where
    bytes : List ℕ
    bytes = asking.wrote k others s destination source tag out

    head : XferHead
    head = head_of k others s destination source tag

-- what an entry adds to the XFER_RDYs
Adds : Entry → Type 0
Adds (started q) = Unit {0}
Adds (asked x) = Read x
Adds acked = Unit {0}
Adds nacked = Unit {0}
Adds timed_out = Unit {0}
Adds was_lost = Unit {0}
Adds (came d) = Unit {0}
Adds ended = Unit {0}

came_asks : (d : Data) (v : View) → (note (came d) v).asks ≡ v.asks
came_asks d v = by_test (λ (w : View). w.asks ≡ v.asks) (takes v d) (λ _. into v.asks) (λ _. refl)
  where
    into : (xs : List Xfer) → (take_into xs d v).asks ≡ v.asks
    into [] = refl
    into (x ∷ xs) = by_test (λ (w : View). w.asks ≡ v.asks) (eqb (end_of_data d) (end_of_xfer x)) (λ _. refl) (λ _. refl)

adds : (e : Entry) (v : View) → Adds e → AllRead v.asks → AllRead (note e v).asks
unfolding Adds
adds (started q) v a all = tt
adds (asked x) v a all = (a, all)
adds acked v a all = all
adds nacked v a all = all
adds timed_out v a all = all
adds was_lost v a all = all
adds (came d) v a all = subst AllRead (sym (came_asks d v)) all
adds ended v a all = all

module _ (k : ℕ) (few : k ≤ 65536) (s : Write) (h : List Entry) (i : Inv k s (view h)) where
  abbrev After : Entry → Result Answer Refusal → Type 0
  After e a = AllRead (view (entries e a ++ h)).asks

  -- an entry is added, or none
  by_entry : (e : Entry) (a : Result Answer Refusal) → AllRead (view h).asks → Adds e → After e a
  by_entry e a all new = by_test (λ (es : List Entry). AllRead (view (es ++ h)).asks) (is_refused a) (λ _. all) (λ _. adds e (view h) new all)

  asks_read : (others destination source tag : ℕ) (out : List ℕ) → Typed k (calls.Call.ask others destination source tag out) → AllRead (view h).asks
      → After (entry_of k (calls.Call.ask others destination source tag out) s) (step_of k (calls.Call.ask others destination source tag out) s).answer
  unfolding Adds
  asks_read others destination source tag out typed all = by (asking.outcome k others s destination source tag out few (all_small k s h i) typed.1)
    where
      e : Entry
      e = asked (xfer_in others (asking.wrote k others s destination source tag out))

      by : asking.Outcome k others s destination source tag out → After e (step_of k (calls.Call.ask others destination source tag out) s).answer
      by (asking.kept r) = subst (λ (st : Stepped). After e st.answer) (sym r.step) all
      by (asking.passed p) = by_entry e (step_of k (calls.Call.ask others destination source tag out) s).answer all (wrote_read k others s destination source tag out p)

  pub reads_on : (c : Call) → Typed k c → AllRead (view h).asks → After (entry_of k c s) (step_of k c s).answer
  unfolding Adds
  reads_on (plain (plainly.Call.start b n x r)) typed all = by_entry (entry_of k (plain (plainly.Call.start b n x r)) s) (step_of k (plain (plainly.Call.start b n x r)) s).answer all tt
  reads_on (plain (plainly.Call.xfer others)) typed all =
      by_entry (entry_of k (plain (plainly.Call.xfer others)) s) (step_of k (plain (plainly.Call.xfer others)) s).answer all (unread (xfer_of k others s) refl)
  reads_on (plain plainly.Call.ack) typed all = by_entry acked (step_of k (plain plainly.Call.ack) s).answer all tt
  reads_on (plain plainly.Call.nak) typed all = by_entry nacked (step_of k (plain plainly.Call.nak) s).answer all tt
  reads_on (plain plainly.Call.timeout) typed all = by_entry timed_out (step_of k (plain plainly.Call.timeout) s).answer all tt
  reads_on (plain plainly.Call.lost) typed all = by_entry was_lost (step_of k (plain plainly.Call.lost) s).answer all tt
  reads_on (plain (plainly.Call.got t o n)) typed all = by_entry (entry_of k (plain (plainly.Call.got t o n)) s) (step_of k (plain (plainly.Call.got t o n)) s).answer all tt
  reads_on (plain plainly.Call.nexus) typed all = by_entry ended (step_of k (plain plainly.Call.nexus) s).answer all tt
  reads_on (plain plainly.Call.cancel) typed all = by_entry ended (step_of k (plain plainly.Call.cancel) s).answer all tt
  reads_on (calls.Call.ask others destination source tag out) typed all = asks_read others destination source tag out typed all
  reads_on (calls.Call.take destination source tag frame store) typed all =
      by_entry (entry_of k (calls.Call.take destination source tag frame store) s) (step_of k (calls.Call.take destination source tag frame store) s).answer all tt

pub all_read : (k : ℕ) (few : k ≤ 65536) (cs : List Call) (s : Write) (h : List Entry) → AllTyped k cs → Inv k s (view h) → AllRead (view h).asks → AllRead (view (history k cs s h)).asks
all_read k few [] s h typed i all = all
all_read k few (c ∷ cs) s h typed i all =
    all_read k few cs (step_of k c s).state (entries_of k c s ++ h) typed.1 (says_so k s h i few c typed.0).keeps (reads_on k few s h i c typed.0 all)

-- over any calls from the state before START: a retry's bytes beside those of the one that failed
pub same : (k : ℕ) → k ≤ 65536 → (cs : List Call) (c : Call) → AllTyped k cs → Typed k c →
    let s = run k cs unstarted in
    let h = history k cs unstarted [] in
    (x y : Xfer) (ys : List Xfer) → entries_of k c s ≡ asked x ∷ [] → (view h).fate ≡ failed → (view h).asks ≡ y ∷ ys → SameBytes x.bytes y.bytes
same k few cs c typed one x y ys es fate asks =
    let s = run k cs unstarted in
    let h = history k cs unstarted [] in
    let i = all_keep k few cs unstarted [] typed (at_first k) in
    let before = all_read k few cs unstarted [] typed (at_first k) tt in
    let after = subst (λ (fs : List Entry). AllRead (view (fs ++ h)).asks) es (reads_on k few s h i c one before) in
    let range = ((demand_bytes k few cs c typed one).asks x es).same fate y ys asks in
    same_bytes x y after.0 (subst AllRead asks before).0 range.0 range.1
