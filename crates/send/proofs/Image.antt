-- The image theorem: what the depth computation lost. Each frame that went holds bytes of the image at its offset, frames are ACKed
-- only if they went, and at "delivered" the ACKed frames cover the request. Assumes nothing.
use Rattle.refusals.specs.declared.Refusal.{Refusal}
use Rattle.std.specs.Prelude.{Ok, Result}
use Prim.Native.Nat.{ℕ, ◌+◌, ◌-◌, ◌≤◌, ◌<◌}
use mathlib.Core.Bool.{Bool, true, false, cond}
use mathlib.Core.List.{List, [], ◌∷◌, ◌++◌, map, map-append}
use mathlib.Core.Logic.{inl, inr}
use mathlib.Core.Path.{◌≡◌, refl, sym, ap, subst, ◌∙◌}
use native.Mathlib.Omega.{arith}
use lib.ListN.{length, get_or, take, drop}
use lib.Seq.{get_or-take, get_or-drop}
use Rattle.transfer.specs.Rules.{end_of, unstarted}
use Rattle.transfer.specs.Calls as plainly
use Rattle.transfer.specs.History.{Frame, EntryOf, started, sent, acked, nacked, timed_out, was_lost, ended, entry_of as entry_for, entries, is_refused, ViewOf, View, anew, close_by, pop_ack, pop_nak, note, view, Covered}
use Rattle.transfer.specs.declared.Transfer.{Transfer}
use Rattle.transfer.specs.declared.Stepped.{Stepped}
use Rattle.transfer.specs.declared.Answer.{Answer}
use Rattle.send.specs.Send.{head_of, next_step, next_bytes}
use Rattle.send.specs.Calls.{Call, plain, next, step_of, run, Typed, AllTyped}
use Rattle.send.specs.History.{Sent, written, unwritten, entries_of, history, frame_of, entry_of, frames, NoFrame, FromImage, AllFromImage, Shown}
use Rattle.send.proofs.Bytes.{Outcome, taken, kept, outcome}
use Rattle.send.proofs.Demand.{demand_3}

-- offset and length alone go through the view
framed : ViewOf Sent → View
framed v = record { acked = map frame_of v.acked; waiting = map frame_of v.waiting; attempt = map frame_of v.attempt; good = map frame_of v.good; nak = v.nak; resend = v.resend }

closed : (w : List Sent) (v : ViewOf Sent) → close_by (map frame_of w) (framed v) ≡ framed (close_by w v)
unfolding framed
closed [] v = by v.nak
  where
    by : (t : Bool) → cond t (anew (framed v)) (framed v) ≡ framed (cond t (anew v) v)
    by true = refl
    by false = refl
closed (f ∷ fs) v = refl

noted : (e : EntryOf Sent) (v : ViewOf Sent) → note (entry_of e) (framed v) ≡ framed (note e v)
unfolding framed
noted started v = refl
noted (sent f) v = λ i. record { acked = map frame_of v.acked; waiting = sym (map-append frame_of v.waiting (f ∷ [])) i; attempt = frame_of f ∷ map frame_of v.attempt; good = map frame_of v.good; nak = v.nak; resend = v.resend }
noted acked v = by v.waiting
  where
    by : (w : List Sent) → pop_ack (map frame_of w) (framed v) ≡ framed (pop_ack w v)
    by [] = refl
    by (f ∷ fs) = closed fs (record { acked = f ∷ v.acked; waiting = fs; attempt = v.attempt; good = f ∷ v.good; nak = v.nak; resend = v.resend })
noted nacked v = by v.waiting
  where
    by : (w : List Sent) → pop_nak (map frame_of w) (framed v) ≡ framed (pop_nak w v)
    by [] = refl
    by (f ∷ fs) = closed fs (record { acked = v.acked; waiting = fs; attempt = v.attempt; good = v.good; nak = true; resend = v.resend })
noted timed_out v = refl
noted was_lost v = refl
noted ended v = refl

viewed : (h : List (EntryOf Sent)) → view (frames h) ≡ framed (view h)
unfolding framed
viewed [] = refl
viewed (e ∷ h) = ap (note (entry_of e)) (viewed h) ∙ noted e (view h)

-- what holds of every frame that went holds of every frame that is waited for or was ACKed
module _ (P : Sent → Type 0) where
  abbrev All : List Sent → Type 0
  All [] = Unit {0}
  All (f ∷ fs) = P f × All fs

  abbrev Went : List (EntryOf Sent) → Type 0
  Went [] = Unit {0}
  Went (started ∷ h) = Went h
  Went (sent f ∷ h) = P f × Went h
  Went (acked ∷ h) = Went h
  Went (nacked ∷ h) = Went h
  Went (timed_out ∷ h) = Went h
  Went (was_lost ∷ h) = Went h
  Went (ended ∷ h) = Went h

  record Both (v : ViewOf Sent) : Type 0 where
    ours : All v.acked
    due : All v.waiting

  one_more : (fs : List Sent) (f : Sent) → All fs → P f → All (fs ++ (f ∷ []))
  one_more [] f a p = (p, tt)
  one_more (g ∷ gs) f a p = (a.0, one_more gs f a.1 p)

  after_close : (w : List Sent) (v : ViewOf Sent) → Both v → Both (close_by w v)
  after_close [] v b = by v.nak
    where
      by : (t : Bool) → Both (cond t (anew v) v)
      by true = record { ours = b.ours; due = tt }
      by false = b
  after_close (f ∷ fs) v b = b

  after_ack : (w : List Sent) (v : ViewOf Sent) → All w → Both v → Both (pop_ack w v)
  after_ack [] v a b = b
  after_ack (f ∷ fs) v a b = after_close fs (record { acked = f ∷ v.acked; waiting = fs; attempt = v.attempt; good = f ∷ v.good; nak = v.nak; resend = v.resend }) (record { ours = (a.0, b.ours); due = a.1 })

  after_nak : (w : List Sent) (v : ViewOf Sent) → All w → Both v → Both (pop_nak w v)
  after_nak [] v a b = b
  after_nak (f ∷ fs) v a b = after_close fs (record { acked = v.acked; waiting = fs; attempt = v.attempt; good = v.good; nak = true; resend = v.resend }) (record { ours = b.ours; due = a.1 })

  both : (h : List (EntryOf Sent)) → Went h → Both (view h)
  both [] w = record { ours = tt; due = tt }
  both (started ∷ h) w = record { ours = tt; due = tt }
  both (sent f ∷ h) w = let b = both h w.1 in record { ours = b.ours; due = one_more (view h).waiting f b.due w.0 }
  both (acked ∷ h) w = let b = both h w in after_ack (view h).waiting (view h) b.due b
  both (nacked ∷ h) w = let b = both h w in after_nak (view h).waiting (view h) b.due b
  both (timed_out ∷ h) w = record { ours = (both h w).ours; due = tt }
  both (was_lost ∷ h) w = record { ours = (both h w).ours; due = tt }
  both (ended ∷ h) w = both h w

  went_append : (es h : List (EntryOf Sent)) → Went es → Went h → Went (es ++ h)
  went_append [] h a b = b
  went_append (started ∷ es) h a b = went_append es h a b
  went_append (sent f ∷ es) h a b = (a.0, went_append es h a.1 b)
  went_append (acked ∷ es) h a b = went_append es h a b
  went_append (nacked ∷ es) h a b = went_append es h a b
  went_append (timed_out ∷ es) h a b = went_append es h a b
  went_append (was_lost ∷ es) h a b = went_append es h a b
  went_append (ended ∷ es) h a b = went_append es h a b

module _ (image : List ℕ) where
  -- a frame holds the image's bytes at its offset
  abbrev Holds : Sent → Type 0
  Holds f = f.bytes ≡ take f.len (drop f.at image)

  shown : (x : ℕ) (fs : List Sent) → All Holds fs → Covered x (map frame_of fs) → Shown image x fs
  shown x [] a c = c
  shown x (f ∷ fs) a (inl c) =
      let there : f.at + (x - f.at) ≡ x = omega (arith, c.0) in
      let here = ap (λ (l : List ℕ). get_or l (x - f.at) 0) a.0 ∙ get_or-take f.len (drop f.at image) (x - f.at) 0 (omega (arith, c.0, c.1)) ∙ get_or-drop f.at image (x - f.at) 0 ∙ ap (λ (k : ℕ). get_or image k 0) there in
      inl (c.0, (c.1, here))
  shown x (f ∷ fs) a (inr c) = inr (shown x fs a.1 c)

  -- an entry that is no frame, and one that may not be there
  no_frame : (c : plainly.Call) (f : Sent) → NoFrame c → Went Holds (entry_for c f ∷ [])
  no_frame (plainly.Call.start b n m r) f none = tt
  no_frame plainly.Call.frame f n = absurd n
  no_frame plainly.Call.ack f n = tt
  no_frame plainly.Call.nak f n = tt
  no_frame plainly.Call.timeout f n = tt
  no_frame plainly.Call.lost f n = tt
  no_frame plainly.Call.nexus f n = tt
  no_frame plainly.Call.cancel f n = tt

  perhaps : (c : plainly.Call) (f : Sent) (a : Result Answer Refusal) → Went Holds (entry_for c f ∷ []) → Went Holds (entries c f a)
  perhaps c f a w = by (is_refused a)
    where
      by : (t : Bool) → Went Holds (cond t [] (entry_for c f ∷ []))
      by true = tt
      by false = w

  goes : (bound : ℕ) (c : Call) (s : Transfer) → Typed c → FromImage image c s → Went Holds (entries_of bound c s)
  goes bound (plain c) s typed given = perhaps c (unwritten s) (plainly.step_of bound c s).answer (no_frame c (unwritten s) given)
  goes bound (next destination source tag body out) s typed given = by (outcome bound s destination source tag body out typed)
    where
      by : Outcome bound s destination source tag body out typed → Went Holds (entries_of bound (next destination source tag body out) s)
      by (kept k) = subst (λ (st : Stepped). Went Holds (entries plainly.Call.frame (written (length body) (next_bytes bound s (head_of s destination source tag) body out)) st.answer)) (sym k.step) tt
      by (taken t) = perhaps plainly.Call.frame (written (length body) (next_bytes bound s (head_of s destination source tag) body out)) (next_step bound s (head_of s destination source tag) body out).answer (subst Holds (sym t.bytes) given, tt)

  all_go : (bound : ℕ) (cs : List Call) (s : Transfer) (h : List (EntryOf Sent)) → AllTyped cs → AllFromImage image bound cs s → Went Holds h → Went Holds (history bound cs s h)
  all_go bound [] s h typed given w = w
  all_go bound (c ∷ cs) s h typed given w = all_go bound cs (step_of bound c s).state (entries_of bound c s ++ h) typed.1 given.1 (went_append Holds (entries_of bound c s) h (goes bound c s typed.0 given.0) w)

  -- THE IMAGE: when "delivered" is answered, every requested byte stands in an ACKed frame's bytes, as it stands in the image
  pub delivered : (bound : ℕ) (cs : List Call) (c : Call) → AllTyped cs → Typed c → AllFromImage image bound cs unstarted →
      let s = run bound cs unstarted in
      let h = history bound cs unstarted [] in
      FromImage image c s → (step_of bound c s).answer ≡ Ok Answer.Done → (x : ℕ) → s.offset ≤ x → x < end_of s → Shown image x (view (entries_of bound c s ++ h)).acked
  unfolding framed
  delivered bound cs c typed one given this done x low high =
      let s = run bound cs unstarted in
      let h = history bound cs unstarted [] in
      let es = entries_of bound c s in
      let covered = (demand_3 bound cs c typed one).delivered done x low high in
      let same : (view (frames es ++ frames h)).acked ≡ map frame_of (view (es ++ h)).acked = ap (λ (v : View). v.acked) (ap view (sym (map-append entry_of es h)) ∙ viewed (es ++ h)) in
      let all = (both Holds (es ++ h) (went_append Holds es h (goes bound c s one this) (all_go bound cs unstarted [] typed given tt))).ours in
      shown x (view (es ++ h)).acked all (subst (λ (fs : List Frame). Covered x fs) same covered)
