-- What the DATA reader reads back out of the bytes of a next-frame call is the frame that a plain frame call sends: the call writes
-- that frame, and reading undoes writing. Assumes nothing.
use Rattle.ssp_frame.specs.declared.Frame.{Frame as FrameOf}
use Rattle.std.specs.Prelude.{Ok as Data, Result}
use Prim.Native.Nat.{ℕ, ◌<◌}
use mathlib.Core.Bool.{Bool, true, false, not, cond}
use mathlib.Core.List.{List, [], ◌∷◌, ◌++◌, map-append}
use mathlib.Core.Path.{◌≡◌, refl, sym, ap, ◌∙◌}
use native.Mathlib.Omega.{arith}
use lib.Dec.{eqb}
use lib.ListN.{length, take, drop}
use lib.Seq.{take_at}
use borrow.Author.Tests.{not-false, eqb-true}
use Rattle.laws.proofs.Bools.{and_left}
use Rattle.refusals.specs.Causes.{◌when◌}
use Rattle.refusals.specs.declared.Refusal.{Refusal}
use Rattle.refusals.proofs.Causes.{none_append, Verdict, stopped, passes, verdict, unrefused}
use Rattle.ssp_frame.specs.Data.{frame_end, data_bytes, data_left, data_listed, read_data}
use Rattle.ssp_frame.specs.declared.data.DataHead.{DataHead}
use Rattle.ssp_frame.proofs.Fields.{listed_is}
use Rattle.ssp_frame.proofs.Trip.{read_written, frame_long, body_held}
use Rattle.transfer.specs.Steps.{frame_length, framed, refused, frame_causes, frame_step}
use Rattle.transfer.specs.Calls as plainly
use Rattle.transfer.specs.Log.{next_frame}
use Rattle.transfer.specs.History.{Frame, Entry, EntryOf, sent, entry_of as entry_for, entries, is_refused}
use Rattle.transfer.specs.declared.Transfer.{Transfer}
use Rattle.transfer.specs.declared.Stepped.{Stepped}
use Rattle.transfer.specs.declared.Answer.{Answer}
use Rattle.transfer.proofs.Calls.{frame_fits}
use Rattle.transfer.proofs.Demand.{apart}
use Rattle.send.specs.Send.{head_of, fitting, next_causes, next_step, next_bytes, is_sent}
use Rattle.send.specs.Calls.{next}
use Rattle.send.specs.History.{Sent, found, written, entries_of, frame_of, entry_of, frames}
use Rattle.send.proofs.Laws.{Long, long}

-- the frames of what a call left, before those of the history
pub joined : (es : List (EntryOf Sent)) (fs : List Entry) (h : List (EntryOf Sent)) → frames es ≡ fs → fs ++ frames h ≡ frames (es ++ h)
joined es fs h e = sym (map-append entry_of es h ∙ ap (λ (l : List Entry). l ++ frames h) e)

-- an entry's frame goes through
pub entry_frames : (c : plainly.Call) (f : Sent) (a : Result Answer Refusal) → frames (entries c f a) ≡ entries c (frame_of f) a
entry_frames c f a = by (is_refused a) c
  where
    by : (t : Bool) (c : plainly.Call) → frames (cond t [] (entry_for c f ∷ [])) ≡ cond t [] (entry_for c (frame_of f) ∷ [])
    by true c = refl
    by false (plainly.Call.start b n m r) = refl
    by false plainly.Call.frame = refl
    by false plainly.Call.ack = refl
    by false plainly.Call.nak = refl
    by false plainly.Call.timeout = refl
    by false plainly.Call.lost = refl
    by false plainly.Call.nexus = refl
    by false plainly.Call.cancel = refl

-- the frame in what a call adds is the one that the call sent
pub the_sent : {F : Type 0} (c : plainly.Call) (g f : F) (a : Result Answer Refusal) → entries c g a ≡ sent f ∷ [] → f ≡ g
the_sent c g f a = by (is_refused a) c
  where
    by : (t : Bool) (c : plainly.Call) → cond t [] (entry_for c g ∷ []) ≡ sent f ∷ [] → f ≡ g
    by true c e = absurd (apart (cc))
    by false (plainly.Call.start b n m r) e = absurd (apart (cc))
    by false plainly.Call.frame e = (cc)
    by false plainly.Call.ack e = absurd (apart (cc))
    by false plainly.Call.nak e = absurd (apart (cc))
    by false plainly.Call.timeout e = absurd (apart (cc))
    by false plainly.Call.lost e = absurd (apart (cc))
    by false plainly.Call.nexus e = absurd (apart (cc))
    by false plainly.Call.cancel e = absurd (apart (cc))

module _ (bound : ℕ) (s : Transfer) (destination source tag : ℕ) (body out : List ℕ) (typed : tag < 65536) where
  abbrev head : DataHead
  head = head_of s destination source tag

  -- a next-frame call that is taken does what a plain frame call does, and its bytes are read back as its frame and its data
  pub record Taken : Type 0 where
    pub step : next_step bound s head body out ≡ frame_step bound s
    pub sends : frame_step bound s ≡ framed (frame_length s) s
    pub count : length body ≡ frame_length s
    pub read : read_data (take (frame_end (length body)) (next_bytes bound s head body out)) ≡ Data (record { head = head; length = length body })
    pub bytes : written (length body) (next_bytes bound s head body out) ≡ record { at = head.offset; len = length body; changing = head.changing; bytes = body }

  -- one that is not changes nothing and leaves no frame
  pub record Kept : Type 0 where
    pub why : Refusal
    pub step : next_step bound s head body out ≡ refused s why

  pub data Outcome : Type 0 where
    taken : Taken → Outcome
    kept : Kept → Outcome

  pub outcome : Outcome
  unfolding next_step next_bytes frame_step
  outcome = by (verdict (next_causes bound s head body out))
    where
      by : Verdict (next_causes bound s head body out) → Outcome
      by (stopped k v) = kept (record { why = k; step = v Stepped (refused s) (framed (frame_length s) s) })
      by (passes off v) =
          let split = none_append (frame_causes bound s) ((Refusal.Unlisted when not (data_listed head)) ∷ (Refusal.Length when not (fitting s body out)) ∷ []) off in
          let sends : frame_step bound s ≡ framed (frame_length s) s = sym (unrefused (refused s) (framed (frame_length s) s) (frame_causes bound s) split.0) in
          let listed = listed_is head (not-false (data_listed head) split.1.0) in
          let fits = not-false (fitting s body out) split.1.1.0 in
          let n : length body ≡ frame_length s = eqb-true _ _ (and_left (eqb (length body) (frame_length s)) _ fits) in
          let l : Long s = long bound s (ap (λ (st : Stepped). is_sent st.answer) sends) in
          let inside = frame_fits bound s (not-false _ split.0.0) (not-false _ split.0.1.0) in
          let frame = data_bytes head body in
          let whole = data_left head body out in
          let front : take (frame_end (length body)) whole ≡ frame = take_at frame (drop (frame_end (length body)) out) (frame_end (length body)) (frame_long head body) in
          let read = read_written head body listed (record { tag = typed; offset = omega arith }) (omega (arith, l.least)) (omega (arith, l.most)) in
          taken (record {
            step = v Stepped (refused s) (framed (frame_length s) s) ∙ sym sends;
            sends = sends;
            count = n;
            read = ap (λ (l : List ℕ). read_data (take (frame_end (length body)) l)) (v (List ℕ) (λ _. out) whole) ∙ ap read_data front ∙ read;
            bytes = ap (written (length body)) (v (List ℕ) (λ _. out) whole) ∙ (λ i. found (read_data (front i)) (front i)) ∙ ap (λ (r : Result (FrameOf DataHead) Refusal). found r frame) read ∙ (λ i. record { at = head.offset; len = length body; changing = head.changing; bytes = body_held head body i });
          })

  -- what the history holds of the call
  pub next_frames : frames (entries_of bound (next destination source tag body out) s) ≡ entries plainly.Call.frame (next_frame s) (next_step bound s head body out).answer
  next_frames = by outcome
    where
      by : Outcome → frames (entries_of bound (next destination source tag body out) s) ≡ entries plainly.Call.frame (next_frame s) (next_step bound s head body out).answer
      by (kept k) =
          let wrote = written (length body) (next_bytes bound s head body out) in
          entry_frames plainly.Call.frame wrote (next_step bound s head body out).answer
          ∙ ap (λ (st : Stepped). entries plainly.Call.frame (frame_of wrote) st.answer) k.step
          ∙ sym (ap (λ (st : Stepped). entries plainly.Call.frame (next_frame s) st.answer) k.step)
      by (taken t) =
          let wrote = written (length body) (next_bytes bound s head body out) in
          let same : frame_of wrote ≡ next_frame s = ap frame_of t.bytes ∙ (λ i. record { at = s.read; len = t.count i }) in
          entry_frames plainly.Call.frame wrote (next_step bound s head body out).answer
          ∙ ap (λ (f : Frame). entries plainly.Call.frame f (next_step bound s head body out).answer) same
