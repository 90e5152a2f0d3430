-- The next-frame call checks what a frame call checks, and then its own two causes: so it goes on exactly where a frame call does
-- and they pass. Assumes nothing.
use Rattle.std.specs.Prelude.{Err, Ok, Result}
use Rattle.std.specs.Result.{is_err}
use Prim.Native.Nat.{ℕ, ◌≤◌, ◌<◌}
use mathlib.Core.Bool.{Bool, true, false, not, cond, ◌&&◌}
use mathlib.Core.List.{List, [], ◌∷◌}
use mathlib.Core.Path.{◌≡◌, refl, sym, ap, ◌∙◌}
use native.Mathlib.Omega.{arith}
use lib.Dec.{leb}
use lib.ListN.{length}
use borrow.Author.Tests.{eqb-false, eq-eqb, le-leb, lt-ltb, not-false}
use Rattle.laws.proofs.Bools.{never}
use Rattle.refusals.specs.Causes.{Cause, ◌when◌, refuse, Wrote}
use Rattle.refusals.specs.declared.Refusal.{Refusal}
use Rattle.refusals.proofs.Causes.{refuse_append, Verdict, stopped, passes, verdict}
use Rattle.refusals.proofs.Frames.{by_length, wrote_is}
use Rattle.ssp_frame.specs.Data.{frame_end, data_left, data_sized, data_listed, write_causes}
use Rattle.ssp_frame.specs.declared.data.DataHead.{DataHead}
use Rattle.transfer.specs.Rules.{end_of}
use Rattle.transfer.specs.Steps.{frame_length, framed, refused, frame_causes, frame_step}
use Rattle.transfer.specs.declared.Transfer.{Transfer}
use Rattle.transfer.specs.declared.Stepped.{Stepped}
use Rattle.refusals.proofs.Causes.{by_causes}
use Rattle.transfer.proofs.Calls.{underway}
use Rattle.send.specs.Send.{fitting, next_step, next_bytes, Went, is_sent, is_done}

-- the causes of its own, by their tests
abbrev pub own : Bool → Bool → List Cause
own listed fits = (Refusal.Unlisted when not listed) ∷ (Refusal.Length when not fits) ∷ []

-- what std's test says of the writer's answer
pub not_done : (w : Result (Unit {0}) Refusal) → is_err w ≡ true → is_done w ≡ false
not_done (Ok u) e = absurd (never e)
not_done (Err k) e = refl

pub done : (w : Result (Unit {0}) Refusal) → is_err w ≡ false → is_done w ≡ true
done (Ok u) e = refl
done (Err k) e = absurd (never (sym e))

-- a frame that is sent is 1 to 1,024 bytes long
pub record Long (s : Transfer) : Type 0 where
  pub least : 0 < frame_length s
  pub most : frame_length s ≤ 1024

pub long : (bound : ℕ) (s : Transfer) → is_sent (frame_step bound s).answer ≡ true → Long s
unfolding frame_step
long bound s =
    by_causes (λ (st : Stepped). is_sent st.answer ≡ true → Long s) (refused s) (λ k e. absurd (never e)) (frame_causes bound s) (framed (frame_length s) s)
    (λ off e.
    let begun = (underway bound s (not-false _ off.0) (not-false _ off.1.0)).0 in
    let range = begun.0.0 in
    let order = begun.0.1 in
    let more = eqb-false s.read (end_of s) off.1.1.1.0 in
    record { least = omega arith; most = omega arith })

module _ (bound : ℕ) (s : Transfer) (h : DataHead) (body out : List ℕ) where
  -- refused as a frame call is
  pub not_sent : is_sent (frame_step bound s).answer ≡ false → Went bound s h body out (frame_step bound s) out
  unfolding frame_step next_step next_bytes
  not_sent = by (verdict (frame_causes bound s))
    where
      by : Verdict (frame_causes bound s) → is_sent (frame_step bound s).answer ≡ false → Went bound s h body out (frame_step bound s) out
      by (stopped k v) e = record {
        step = v Stepped (refused s) (framed (frame_length s) s) ∙ sym (refuse_append (refused s) (frame_causes bound s) (own (data_listed h) (fitting s body out)) (framed (frame_length s) s) ∙ v Stepped (refused s) _);
        bytes = sym (refuse_append (λ _. out) (frame_causes bound s) (own (data_listed h) (fitting s body out)) (data_left h body out) ∙ v (List ℕ) (λ _. out) _);
      }
      by (passes off v) e = absurd (never (sym e ∙ ap (λ (st : Stepped). is_sent st.answer) (v Stepped (refused s) (framed (frame_length s) s))))

  -- behind the checks of a frame call only the causes of its own are left
  module _ (is : is_sent (frame_step bound s).answer ≡ true) where
    record Left : Type 0 where
      frame : frame_step bound s ≡ framed (frame_length s) s
      step : next_step bound s h body out ≡ refuse (refused s) (own (data_listed h) (fitting s body out)) (framed (frame_length s) s)
      bytes : next_bytes bound s h body out ≡ refuse (λ _. out) (own (data_listed h) (fitting s body out)) (data_left h body out)

    left : Left
    unfolding frame_step next_step next_bytes
    left = by (verdict (frame_causes bound s)) is
      where
        by : Verdict (frame_causes bound s) → is_sent (frame_step bound s).answer ≡ true → Left
        by (stopped k v) e = absurd (never (sym (ap (λ (st : Stepped). is_sent st.answer) (v Stepped (refused s) (framed (frame_length s) s))) ∙ e))
        by (passes off v) e = record {
          frame = v Stepped (refused s) (framed (frame_length s) s);
          step = refuse_append (refused s) (frame_causes bound s) (own (data_listed h) (fitting s body out)) (framed (frame_length s) s) ∙ v Stepped (refused s) _;
          bytes = refuse_append (λ _. out) (frame_causes bound s) (own (data_listed h) (fitting s body out)) (data_left h body out) ∙ v (List ℕ) (λ _. out) _;
        }

    pub unlisted : data_listed h ≡ false → Went bound s h body out (refused s Refusal.Unlisted) out
    unlisted l = record {
      step = sym (left.step ∙ (λ i. refuse (refused s) (own (l i) (fitting s body out)) (framed (frame_length s) s)));
      bytes = sym (left.bytes ∙ (λ i. refuse (λ _. out) (own (l i) (fitting s body out)) (data_left h body out)));
    }

    pub unfit : data_listed h ≡ true → fitting s body out ≡ false → Went bound s h body out (refused s Refusal.Length) out
    unfit l f = record {
      step = sym (left.step ∙ (λ i. refuse (refused s) (own (l i) (f i)) (framed (frame_length s) s)));
      bytes = sym (left.bytes ∙ (λ i. refuse (λ _. out) (own (l i) (f i)) (data_left h body out)));
    }

    went : data_listed h ≡ true → fitting s body out ≡ true → Went bound s h body out (frame_step bound s) (data_left h body out)
    went l f = record {
      step = left.frame ∙ sym (left.step ∙ (λ i. refuse (refused s) (own (l i) (f i)) (framed (frame_length s) s)));
      bytes = sym (left.bytes ∙ (λ i. refuse (λ _. out) (own (l i) (f i)) (data_left h body out)));
    }

    -- data of the frame's length fits where the writer has room for it
    module _ (listed : data_listed h ≡ true) (n : length body ≡ frame_length s) {w : Result (Unit {0}) Refusal} {after : List ℕ} (p : Wrote (write_causes h body out) (data_left h body out) out w after) where
      same : data_sized (length body) (length out) ≡ fitting s body out
      same =
          let l = long bound s is in
          λ i. (le-leb (length body) 1024 (omega (arith, l)) ∙ sym (eq-eqb (length body) (frame_length s) n)) i && (ap (λ (t : Bool). t && leb (frame_end (length body)) (length out)) (lt-ltb 0 (length body) (omega (arith, l)))) i

      by_room : (t : Bool) → data_sized (length body) (length out) ≡ t → (is_done w ≡ t) × (after ≡ cond t (data_left h body out) out)
      by_room true e =
          let d = wrote_is (data_left h body out) out p e listed in
          (ap is_done d.0, d.1)
      by_room false e = (ap is_done (p.answer ∙ sym (by_length Err (Ok tt) (data_listed h) e)), p.bytes ∙ sym (by_length (λ _. out) (data_left h body out) (data_listed h) e))

      pub no_room : is_done w ≡ false → Went bound s h body out (refused s Refusal.Length) after
      no_room e = at (data_sized (length body) (length out)) refl
        where
          at : (t : Bool) → data_sized (length body) (length out) ≡ t → Went bound s h body out (refused s Refusal.Length) after
          at true q = absurd (never (sym e ∙ (by_room true q).0))
          at false q = let u = unfit listed (sym same ∙ q) in record { step = u.step; bytes = (by_room false q).1 ∙ u.bytes }

      pub sent : is_done w ≡ true → Went bound s h body out (frame_step bound s) after
      sent e = at (data_sized (length body) (length out)) refl
        where
          at : (t : Bool) → data_sized (length body) (length out) ≡ t → Went bound s h body out (frame_step bound s) after
          at true q = let u = went listed (sym same ∙ q) in record { step = u.step; bytes = (by_room true q).1 ∙ u.bytes }
          at false q = absurd (never (sym (by_room false q).0 ∙ e))
