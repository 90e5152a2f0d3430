-- C's calls leave the store that the write's own leave, so it holds what was taken, and at the end the image that the frames carried. Assumes
-- nothing.
use Rattle.std.specs.Prelude.{Ok}
use Prim.Native.Nat.{ℕ, ◌+◌}
use mathlib.Core.Bool.{Bool, false, cond}
use mathlib.Core.List.{List, [], ◌∷◌, ◌++◌}
use mathlib.Core.Path.{◌≡◌, refl, sym, ap, subst, transport, transport⁻¹, ◌∙◌}
use native.Mathlib.Omega.{arith}
use lib.ListN.{length, take, drop}
use Rattle.write.specs.Rules.{unstarted}
use Rattle.write.specs.Steps.{limit}
use Rattle.write.specs.Calls.{nexus}
use Rattle.write.specs.declared.Answer.{Answer}
use Rattle.write.specs.declared.Write.{Write}
use Rattle.write_history.specs.History.{Xfer, Entry, asked, failed, view, takes}
use Rattle.take.specs.Take.{take_store}
use Rattle.take_history.specs.Calls as machine
use Rattle.take_history.specs.Calls.{Call, plain, Typed, AllTyped}
use Rattle.take_history.specs.History.{data_in, SameBytes}
use Rattle.take_history.specs.Store as stores
use Rattle.take_history.specs.Store.{Lent, started_by, payloads, FromImage}
use Rattle.take_history.proofs.Store.{filled}
use Rattle.take_history.proofs.Stored as stored
use Rattle.take_history.proofs.Image as images
use Rattle.take_history.proofs.Same as sames
use Rattle.write_lent.specs.Lent.{shown}
use Rattle.write_lent.specs.Face.{face_of, store_of}
use Rattle.write_lent.specs.History.{zeros, run, entries_of, history}
use Rattle.write_lent.specs.Store.{store_after, store_run, AllLent, first_after, first_run}
use Rattle.write_lent.specs.declared.Step.{Step}
use Rattle.write_lent.proofs.Trips.{one_answer}
use Rattle.write_lent.proofs.Members.{shown_back}
use Rattle.write_lent.proofs.Runs.{refusal_seen, step_shown, run_shown, history_shown}
use Rattle.write_lent.proofs.Demand.{state_is, past_is, added_is, answer_is, demand_seen}

module _ (w : Write) (store : List ℕ) where
  after_shown : (c : Call) → store_after c (shown w) store ≡ stores.store_after limit c w store
  after_shown c = ap (λ (u : Write). stores.store_after limit c u store) (shown_back w)

  first_shown : (c : Call) (first : List ℕ) → first_after c (shown w) store first ≡ stores.first_after c (machine.step_of limit c w).answer store first
  first_shown c first = ap (λ (t : Bool). cond t first (started_by c store first)) (refusal_seen c w)

store_shown : (cs : List Call) (w : Write) (store : List ℕ) → store_run cs (shown w) store ≡ stores.store_of limit cs w store
store_shown [] w store = refl
store_shown (c ∷ cs) w store =
    (λ i. store_run cs (step_shown c w i).state (after_shown w store c i)) ∙ store_shown cs (machine.step_of limit c w).state (stores.store_after limit c w store)

lent_shown : (cs : List Call) (w : Write) (store : List ℕ) → AllLent cs (shown w) store → stores.AllLent limit cs w store
lent_shown [] w store p = p
lent_shown (c ∷ cs) w store p = (
  p.0,
  lent_shown cs (machine.step_of limit c w).state (stores.store_after limit c w store)
      (transport (λ i. AllLent cs (step_shown c w i).state (after_shown w store c i)) p.1),
)

firsts_shown : (cs : List Call) (w : Write) (store first : List ℕ) → first_run cs (shown w) store first ≡ stores.first_of limit cs w store first
firsts_shown [] w store first = refl
firsts_shown (c ∷ cs) w store first =
    (λ i. first_run cs (step_shown c w i).state (after_shown w store c i) (first_shown w store c first i))
    ∙ firsts_shown cs (machine.step_of limit c w).state (stores.store_after limit c w store) (stores.first_after c (machine.step_of limit c w).answer store first)

-- over any calls of C from all zeros
module _ (cs : List Call) (store : List ℕ) (typed : AllTyped limit cs) (lent : AllLent cs zeros store) where
  held : stored.Keeps (history cs zeros []) (store_run cs zeros store) (first_run cs zeros store store)
  held =
      transport⁻¹ (λ i. stored.Keeps (history_shown cs unstarted [] i) (store_shown cs unstarted store i) (firsts_shown cs unstarted store store i))
      (stored.stored limit (omega arith) cs store typed (lent_shown cs unstarted store lent))

  -- the store is the payloads of the taken frames, one behind the other, and behind them what was lent first
  pub stored_seen : let ds = (view (history cs zeros [])).taken in store_run cs zeros store ≡ payloads ds ++ drop (length (payloads ds)) (first_run cs zeros store store)
  stored_seen = held.holds

  -- they reach up to the next byte
  pub filled_seen : (run cs zeros).offset + length (payloads (view (history cs zeros [])).taken) ≡ (run cs zeros).next
  filled_seen =
      let d = demand_seen cs (plain nexus) typed tt in
      filled (run cs zeros).offset (view (history cs zeros [])).taken d.order held.sized ∙ sym d.next_is

  -- and at complete, 19, its first N bytes are the image's from B to B+N-1, if each taken frame carries that image's bytes at its offset
  pub image_seen : (c : Call) → Typed limit c → Lent c (store_run cs zeros store) → (image : List ℕ) →
      let s = run cs zeros in
      FromImage image (view (entries_of c s ++ history cs zeros [])).taken → (face_of c s).answer ≡ 19
      → take s.count (store_after c s (store_run cs zeros store)) ≡ take s.count (drop s.offset image)
  image_seen c one here image from done =
      let w = machine.run limit cs unstarted in
      let s = run cs zeros in
      let h = history cs zeros [] in
      let left = store_shown cs unstarted store in
      let laid : store_after c s (store_run cs zeros store) ≡ stores.store_after limit c w (stores.store_of limit cs unstarted store) =
      (λ i. store_after c (state_is cs i) (left i)) ∙ after_shown w (stores.store_of limit cs unstarted store) c in
      let q = sym (demand_seen cs c typed one).request ∙ ap (λ (g : List Entry). (view g).request) (past_is cs) in
      let its = images.image limit (omega arith) cs c store typed one (lent_shown cs unstarted store lent) (subst (Lent c) left here) image
      (transport (λ i. FromImage image (view (added_is cs c i ++ past_is cs i)).taken) from)
      (one_answer (machine.step_of limit c w).answer (Ok Answer.Done) (ap (λ (r : Step). r.answer) (sym (answer_is cs c)) ∙ done)) in
      transport⁻¹ (λ i. take (q i).count (laid i) ≡ take (q i).count (drop (q i).offset image)) its

-- data that the history doesn't take leaves the store
pub late_seen : (cs : List Call) → AllTyped limit cs → (destination source tag : ℕ) (frame store : List ℕ)
    → takes (view (history cs zeros [])) (data_in frame) ≡ false → store_of destination source tag frame store (run cs zeros) ≡ store
late_seen cs typed destination source tag frame store off =
    let w = machine.run limit cs unstarted in
    ap (store_of destination source tag frame store) (run_shown cs unstarted)
    ∙ ap (λ (u : Write). take_store limit u destination source tag frame store) (shown_back w)
    ∙ images.late limit (omega arith) cs destination source tag frame store typed
    (sym (ap (λ (h : List Entry). takes (view h) (data_in frame)) (history_shown cs unstarted [])) ∙ off)

-- a retry's bytes are those of the XFER_RDY that failed but for byte 10 and the transfer tag, given the same head
pub same_seen : (cs : List Call) (c : Call) → AllTyped limit cs → Typed limit c →
    let h = history cs zeros [] in
    (x y : Xfer) (ys : List Xfer) → entries_of c (run cs zeros) ≡ asked x ∷ [] → (view h).fate ≡ failed → (view h).asks ≡ y ∷ ys → SameBytes x.bytes y.bytes
same_seen cs c typed one x y ys es fate asks =
    let back = sym (past_is cs) in
    sames.same limit (omega arith) cs c typed one x y ys (sym (added_is cs c) ∙ es) (ap (λ (h : List Entry). (view h).fate) back ∙ fate)
    (ap (λ (h : List Entry). (view h).asks) back ∙ asks)
