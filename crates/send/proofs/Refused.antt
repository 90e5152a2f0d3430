-- Refusals against the history, over plain calls and next-frame calls mixed: the next-frame call checks what a frame call checks, and then
-- its own two causes, by the place and the length that the history gives the next frame. Assumes nothing.
use Prim.Native.Nat.{ℕ, ◌+◌, ◌-◌, ◌^◌, min}
use mathlib.Core.Bool.{Bool, true, false, not, cond, ◌&&◌}
use mathlib.Core.List.{List, []}
use mathlib.Core.Path.{◌≡◌, refl, sym, ap, subst, ◌∙◌}
use lib.Dec.{eqb, ltb, leb}
use lib.ListN.{length}
use borrow.Author.Tests.{not-false}
use Rattle.laws.proofs.Bools.{and_alone, on_false}
use Rattle.refusals.specs.Refusals.{number_of}
use Rattle.refusals.proofs.Causes.{refuse_append, through}
use Rattle.ssp_frame.specs.Data.{frame_end, data_listed}
use Rattle.transfer.specs.Rules.{unstarted, keeps_rules}
use Rattle.transfer.specs.Steps.{unfinished, frame_length, framed, refused, frame_causes}
use Rattle.transfer.specs.Calls as plainly
use Rattle.transfer.specs.Log.{asked_of}
use Rattle.transfer.specs.History.{Entry, view}
use Rattle.transfer.specs.Words.{Asked, unasked, last_end, whole, underway, refusal_of}
use Rattle.transfer.specs.declared.Transfer.{Transfer}
use Rattle.transfer.specs.declared.Stepped.{Stepped}
use Rattle.transfer.proofs.Invariant.{Inv}
use Rattle.transfer.proofs.Words.{Tally, read_is}
use Rattle.transfer.proofs.Refused.{Lives, frame_refused, refuses, lived}
use Rattle.send.specs.Send.{head_of, fitting, next_causes, next_step}
use Rattle.send.specs.Calls.{Call, plain, next, step_of, run, AllTyped}
use Rattle.send.specs.History.{history, frames, asked}
use Rattle.send.specs.Words.{next_at, next_length, refusal_by}
use Rattle.send.proofs.Laws.{own}
use Rattle.send.proofs.Plain.{as_plain}
use Rattle.send.proofs.Words.{asked_is, holds, tally_is, keeps}

module _ (bound : ℕ) (s : Transfer) (h : List Entry) (i : Inv bound s (view h)) (w : Tally s h) (l : Lives s h) (kept : keeps_rules bound s ≡ true) where
  -- the place and the length of the next frame
  at_is : unfinished s.phase ≡ true → s.read ≡ next_at (asked_of s) h
  at_is u = read_is bound s h i w u ∙ ap (λ (b : ℕ). last_end b (view h).attempt) w.point

  length_is : unfinished s.phase ≡ true → frame_length s ≡ next_length (asked_of s) h
  length_is u = ap (λ (x : ℕ). min s.size (s.offset + s.count - x)) (at_is u)

  -- a changing data pointer is one of two
  pointed : (t : Bool) → ltb (cond t 1 0) 2 ≡ true
  pointed true = refl
  pointed false = refl

  module _ (destination source tag : ℕ) (body out : List ℕ) where
    listed_is : data_listed (head_of s destination source tag) ≡ ltb destination (256 ^ 3) && ltb source (256 ^ 3)
    listed_is = ap (λ (t : Bool). ltb destination (256 ^ 3) && t) (sym (and_alone (ltb source (256 ^ 3)) (pointed (ltb 0 s.used && not s.sent))))

    -- 2, then 1
    abbrev two_one : Bool → ℕ → ℕ
    two_one listed n = cond (not listed) 2 (cond (not (eqb (length body) n && leb (frame_end (length body)) (length out))) 1 0)

    own_is : unfinished s.phase ≡ true → two_one (data_listed (head_of s destination source tag)) (frame_length s) ≡ two_one (ltb destination (256 ^ 3) && ltb source (256 ^ 3)) (next_length (asked_of s) h)
    own_is u = λ j. two_one (listed_is j) (length_is u j)

    next_refuses : refusal_of (next_step bound s (head_of s destination source tag) body out).answer ≡ refusal_by bound (asked_of s) h (next destination source tag body out)
    unfolding next_step
    next_refuses =
        let head = head_of s destination source tag in
        let x = two_one (data_listed head) (frame_length s) in
        through (λ (st : Stepped). refusal_of st.answer) (refused s) (next_causes bound s head body out) (framed (frame_length s) s)
        ∙ refuse_append number_of (frame_causes bound s) (own (data_listed head) (fitting s body out)) 0
        ∙ frame_refused bound s h i w l kept x
        ∙ on_false (not (underway (asked_of s) h)) 6 _ _ (λ off. ap (λ (y : ℕ). cond (view h).nak 7 (cond (whole (asked_of s) h) 8 (cond (leb bound (length (view h).waiting)) 10 y))) (own_is (l ∙ not-false _ off)))

  refuses_either : (c : Call) → refusal_of (step_of bound c s).answer ≡ refusal_by bound (asked_of s) h c
  refuses_either (plain c) = refuses bound s h i w l kept c
  refuses_either (next destination source tag body out) = next_refuses destination source tag body out

-- over any calls of both kinds from the state before START
module _ (bound : ℕ) (cs : List Call) (typed : AllTyped cs) where
  pub lives : Lives (run bound cs unstarted) (frames (history bound cs unstarted []))
  lives =
      let p = as_plain bound cs unstarted [] typed in
      subst (λ (s : Transfer). Lives s (frames (history bound cs unstarted []))) p.state (subst (Lives (plainly.run bound p.calls unstarted)) p.same (lived bound p.calls))

  -- and one call more
  pub refusal_is : (c : Call) → refusal_of (step_of bound c (run bound cs unstarted)).answer ≡ refusal_by bound (asked bound cs unstarted unasked) (frames (history bound cs unstarted [])) c
  refusal_is c =
      refuses_either bound (run bound cs unstarted) (frames (history bound cs unstarted [])) (holds bound cs typed) (tally_is bound cs typed) lives (keeps bound cs typed) c
      ∙ ap (λ (a : Asked). refusal_by bound a (frames (history bound cs unstarted [])) c) (asked_is bound cs typed)
