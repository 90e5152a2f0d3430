-- The image theorem of a write: at complete the taken frames cover the request end to end, and the store holds them. Assumes nothing.
use Rattle.std.specs.Prelude.{Ok}
use Prim.Native.Nat.{ℕ, ◌-◌, ◌≤◌}
use mathlib.Core.Bool.{Bool, false, cond}
use mathlib.Core.List.{List, [], ◌++◌}
use mathlib.Core.Path.{◌≡◌, sym, ap, subst, ◌∙◌}
use native.Mathlib.Omega.{arith}
use lib.ListN.{length, take, drop}
use lib.Seq.{take_at}
use Rattle.ssp_frame.specs.Out.{out_of}
use Rattle.write.specs.Rules.{unstarted}
use Rattle.write.specs.Steps.{awaited}
use Rattle.write.specs.declared.Answer.{Answer}
use Rattle.write_history.specs.History.{Request, view, takes}
use Rattle.write_history.specs.Demand.{last_end, EndToEnd}
use Rattle.write_history.proofs.Came.{takes_awaited}
use Rattle.write_history.proofs.Demand.{at_first}
use Rattle.take.specs.Take.{laid, payload, take_store}
use Rattle.take_history.specs.Calls.{Call, step_of, run, Typed, AllTyped}
use Rattle.take_history.specs.History.{data_in, entries_of, history}
use Rattle.take_history.specs.Store.{store_after, store_of, Lent, AllLent, first_after, first_of, payloads, FromImage}
use Rattle.take_history.proofs.Takes as taking
use Rattle.take_history.proofs.Demand.{says_so, all_keep, alike_data}
use Rattle.take_history.proofs.Store.{filled, pictured}
use Rattle.take_history.proofs.Stored.{steps, stored}

module _ (k : ℕ) (few : k ≤ 65536) (cs : List Call) (c : Call) (store : List ℕ) (typed : AllTyped k cs) (one : Typed k c) (lent : AllLent k cs unstarted store) where
  -- at complete the store's first N bytes are the image's from B to B+N-1
  pub image : Lent c (store_of k cs unstarted store) → (picture : List ℕ) →
      let s = run k cs unstarted in
      let h = history k cs unstarted [] in
      let q = (view h).request in
      FromImage picture (view (entries_of k c s ++ h)).taken → (step_of k c s).answer ≡ Ok Answer.Done
      → take q.count (store_after k c s (store_of k cs unstarted store)) ≡ take q.count (drop q.offset picture)
  image here picture from done =
      let s = run k cs unstarted in
      let h = history k cs unstarted [] in
      let q = (view h).request in
      let i = all_keep k few cs unstarted [] typed (at_first k) in
      let call = says_so k s h i few c one in
      let held = stored k few cs store typed lent in
      let after = steps k few s h i (store_of k cs unstarted store) (first_of k cs unstarted store store) held c here in
      let ds = (view (entries_of k c s ++ h)).taken in
      let word = call.word.done done in
      let begin : (step_of k c s).state.offset ≡ q.offset = sym (ap (λ (r : Request). r.offset) call.keeps.request) ∙ ap (λ (r : Request). r.offset) word.0 in
      let order = subst (λ (b : ℕ). EndToEnd b ds) begin call.keeps.order in
      let all = filled q.offset ds order after.sized in
      let end = word.1 in
      let count : last_end q.offset ds - q.offset ≡ q.count = omega arith in
      let long : length (payloads ds) ≡ q.count = omega arith in
      ap (take q.count) after.holds
      ∙ take_at (payloads ds) (drop (length (payloads ds)) (first_after c (step_of k c s).answer (store_of k cs unstarted store) (first_of k cs unstarted store store))) q.count long
      ∙ pictured picture q.offset ds order from
      ∙ ap (λ (n : ℕ). take n (drop q.offset picture)) count

-- data that the history doesn't take leaves the store
pub late : (k : ℕ) → k ≤ 65536 → (cs : List Call) (destination source tag : ℕ) (frame lent : List ℕ) → AllTyped k cs →
    let s = run k cs unstarted in
    let h = history k cs unstarted [] in
    takes (view h) (data_in frame) ≡ false → take_store k s destination source tag frame lent ≡ lent
late k few cs destination source tag frame lent typed off = by (taking.outcome k (run k cs unstarted) destination source tag frame lent)
  where
    by : taking.Outcome k (run k cs unstarted) destination source tag frame lent → take_store k (run k cs unstarted) destination source tag frame lent ≡ lent
    by (taking.kept r) = r.stays
    by (taking.passed w) =
        let s = run k cs unstarted in
        let h = history k cs unstarted [] in
        let i = all_keep k few cs unstarted [] typed (at_first k) in
        let f = out_of frame in
        let waits : awaited f.head.transfer s ≡ false = sym (takes_awaited k s h i f.head.transfer f.head.offset f.length (data_in frame) (alike_data frame w.read) w.off) ∙ off in
        w.leaves ∙ ap (λ (b : Bool). cond b (laid (s.next - s.offset) (payload frame) lent) lent) waits
