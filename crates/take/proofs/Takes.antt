-- `take` reads the frame, checks what DATA checks and its own causes, and then stores exactly what is answered Ok, More or Done. That DATA fits the range
-- keeps its bytes within the store. Assumes nothing.
use Rattle.ssp_frame.specs.declared.data_out.OutHead.{OutHead}
use Rattle.ssp_frame.specs.declared.Frame.{Frame}
use Rattle.std.specs.Prelude.{Err, Ok, Result}
use Prim.Native.Nat.{ℕ, ◌+◌, ◌-◌, ◌^◌, ◌≤◌, ◌<◌}
use mathlib.Core.Bool.{Bool, true, false, not, cond}
use mathlib.Core.List.{List, [], ◌∷◌, ◌++◌}
use mathlib.Core.Path.{◌≡◌, refl, sym, ap, subst, ◌∙◌}
use native.Mathlib.Omega.{arith}
use lib.Dec.{ltb, leb}
use lib.ListN.{length, take, drop, length-drop}
use lib.Seq.{length-take-le, drop-drop}
use borrow.Rule.Slice.PartMut.{put_mid}
use borrow.Author.Tests.{leb-true, not-false}
use Rattle.laws.proofs.Bools.{never, nor, and_left, by_test}
use Rattle.laws.proofs.Lists.{lent_tail, back_tail}
use Rattle.refusals.specs.Causes.{Cause, ◌when◌, refuse}
use Rattle.refusals.specs.declared.Refusal.{Refusal}
use Rattle.refusals.proofs.Causes.{Verdict, stopped, passes, verdict, refuse_append, through, by_causes}
use Rattle.ssp_frame.specs.Out.{read_causes, out_of, read_data_out}
use Rattle.ssp_frame.proofs.Fields as fields
use Rattle.write.specs.Rules.{until, end_of}
use Rattle.write.specs.Steps.{refused, awaited, fits, taken, got, state_causes, got_causes, got_step}
use Rattle.write.specs.Calls as calls
use Rattle.write.specs.Calls.{is_refused}
use Rattle.write.specs.declared.Write.{Write}
use Rattle.write.specs.declared.Stepped.{Stepped}
use Rattle.write.proofs.Fits.{sized_says, awaited_says, fits_says}
use Rattle.write.proofs.Kept.{first}
use Rattle.write.proofs.Ranges.{until_most}
use Rattle.write.proofs.Sound.{good, underway}
use Rattle.write.proofs.Refusals.{goes_on}
use Rattle.write.proofs.Refusals as refusals
use Rattle.take.specs.Ask.{addressed}
use Rattle.take.specs.Take.{ours, own_causes, laid, take_step, take_store, Takes, step_by, is_taken}

-- what a frame's reader found: data of 1 to 1,024 bytes, behind the header
abbrev pub Found : List ℕ → Result (Frame OutHead) Refusal → Type 0
Found frame (Ok f) = (1 ≤ f.length) × ((f.length ≤ 1024) × (24 + f.length ≤ length frame))
Found frame (Err k) = Unit {0}

pub found : (frame : List ℕ) → Found frame (read_data_out frame)
unfolding read_data_out
found frame =
    by_causes (Found frame) Err (λ k. tt) (read_causes frame) (Ok (out_of frame))
    (λ off. let long = fields.sized (length frame) (not-false _ off.0) in
    let few = ((fields.blank frame).0 (and_left _ _ (and_left _ _ (not-false _ off.1.0)))).fill in
    (omega (arith, long, few), (omega (arith, long, few), omega (arith, long, few))))

-- what is answered to what the reader found
abbrev pub by_read : {A : Type 0} → (Refusal → A) → ((Frame OutHead) → A) → Result (Frame OutHead) Refusal → A
by_read refused a (Ok f) = a f
by_read refused a (Err k) = refused k

taken_taken : (to : ℕ) (s : Write) → is_taken (taken to s).answer ≡ true
unfolding taken
taken_taken to s =
    by_test (λ (st : Stepped). is_taken st.answer ≡ true) (ltb to (until s)) (λ e. refl)
    (λ e. by_test (λ (st : Stepped). is_taken st.answer ≡ true) (ltb to (end_of s)) (λ d. refl) (λ d. refl))

-- DATA that is not refused is taken exactly if it is awaited
got_taken : (t o n : ℕ) (s : Write) → is_taken (got t o n s).answer ≡ awaited t s
unfolding got
got_taken t o n s = by_test (λ (st : Stepped). is_taken st.answer ≡ awaited t s) (awaited t s) (λ a. taken_taken (o + n) s ∙ sym a) (λ a. sym a)

pub got_refuses : (t o n : ℕ) (s : Write) → is_refused (got t o n s).answer ≡ false
unfolding goes_on
got_refuses t o n s = refusals.taken 0 (calls.got t o n) s

-- two causes of one refusal may be checked in either order
either_order : {A : Type 0} (p q : Bool) (x y : A) → cond p x (cond q x y) ≡ cond q x (cond p x y)
either_order true true x y = refl
either_order true false x y = refl
either_order false q x y = refl

module _ (k : ℕ) (s : Write) (f : Frame OutHead) (destination source tag m : ℕ) where
  abbrev own : List Cause
  own = own_causes k s f destination source tag m

  abbrev did : Stepped
  did = got f.head.transfer f.head.offset f.length s

  abbrev step : Stepped
  step = step_by k s f destination source tag m

  -- what is checked behind DATA's own causes
  abbrev last : List Cause
  last = (Refusal.Unlisted when not (ours f.head destination source tag)) ∷ (Refusal.Length when not (leb s.count m)) ∷ []

  -- a frame has data of a frame's length; so DATA's causes may come first, though another head is named before them
  module _ (some : (1 ≤ f.length) × (f.length ≤ 1024)) where
    abbrev data_causes : List Cause
    data_causes = got_causes k f.head.transfer f.head.offset f.length s

    reordered : {A : Type 0} (deny : Refusal → A) (a : A) → addressed destination source ≡ true
        → refuse deny own a ≡ refuse deny data_causes (refuse deny last a)
    reordered deny a fit =
        rw (fit, (sized_says f.length).1 some)
        (λ i. refuse deny (state_causes k f.head.transfer s)
        (either_order (not (ours f.head destination source tag)) (not (fits f.head.transfer f.head.offset f.length s)) (deny Refusal.Unlisted)
        (cond (not (leb s.count m)) (deny Refusal.Length) a)
        i))

    pub wide : addressed destination source ≡ false → refused s Refusal.Unlisted ≡ step
    wide off = rw off

    module _ (fit : addressed destination source ≡ true) {st : Stepped} (is : st ≡ got_step k f.head.transfer f.head.offset f.length s) where
      -- refused as DATA is
      pub halts : is_refused st.answer ≡ true → st ≡ step
      unfolding got_step
      halts = by (verdict data_causes)
        where
          by : Verdict data_causes → is_refused st.answer ≡ true → st ≡ step
          by (stopped j v) e = is ∙ v Stepped (refused s) _ ∙ sym (reordered (refused s) _ fit ∙ v Stepped (refused s) _)
          by (passes off v) e =
              let on = got_refuses f.head.transfer f.head.offset f.length s in
              absurd (never (sym (ap (λ (r : Stepped). is_refused r.answer) (is ∙ v Stepped (refused s) _) ∙ on) ∙ e))

      -- behind DATA's causes the others are left
      module _ (on : is_refused st.answer ≡ false) where
        record Left : Type 0 where
          given : st ≡ did
          rest : step ≡ refuse (refused s) last did

        left : Left
        unfolding got_step
        left = by (verdict data_causes)
          where
            by : Verdict data_causes → Left
            by (stopped j v) = absurd (never (sym on ∙ ap (λ (r : Stepped). is_refused r.answer) (is ∙ v Stepped (refused s) _)))
            by (passes off v) = record { given = is ∙ v Stepped (refused s) _; rest = reordered (refused s) _ fit ∙ v Stepped (refused s) _ }

        pub another : ours f.head destination source tag ≡ false → refused s Refusal.Unlisted ≡ step
        another e = sym (left.rest ∙ rw e)

        module _ (mine : ours f.head destination source tag ≡ true) where
          pub short : leb s.count m ≡ false → refused s Refusal.Length ≡ step
          short e = sym (left.rest ∙ rw (mine, e))

          pub goes : leb s.count m ≡ true → st ≡ step
          goes e = left.given ∙ sym (left.rest ∙ rw (mine, e))

  -- DATA that is taken lies within the store, from next - B on
  pub record Lies : Type 0 where
    pub first : s.offset ≤ s.next
    pub within : s.next - s.offset + f.length ≤ m

  lies_in : s.tags < 2 ^ k → is_taken step.answer ≡ true → Lies
  lies_in small =
      by_causes (λ (st : Stepped). is_taken st.answer ≡ true → Lies) (refused s) (λ j e. absurd (never e)) own did
      (λ off e. let way = (awaited_says f.head.transfer s).0 (sym (got_taken f.head.transfer f.head.offset f.length s) ∙ e) in
      let work = not-false _ (nor _ _ off.1.1.0).0 in
      let placed = (underway k s (good k s (not-false _ off.1.0) small) work).0 in
      let fit = (fits_says f.head.transfer f.head.offset f.length s).0 (not-false _ off.1.1.1.1.0) in
      let at = fit.order way.0 way.1 in
      let to = fit.lies.to in
      let most = until_most s in
      let room = leb-true s.count m (not-false _ off.1.1.1.1.1.0) in
      let first = first k s placed in
      record { first = first; within = omega (arith, at, to, most, room, first) })

  pub lies : s.tags < 2 ^ k → {st : Stepped} → st ≡ step → is_taken st.answer ≡ true → Lies
  lies small is e = lies_in small (sym (ap (λ (r : Stepped). is_taken r.answer) is) ∙ e)

  -- the store: what is taken goes into it
  pub stored : (new store : List ℕ)
      → refuse (λ _. store) own (cond (awaited f.head.transfer s) new store) ≡ cond (is_taken step.answer) new store
  stored new store = by (verdict own)
    where
      by : Verdict own → refuse (λ _. store) own (cond (awaited f.head.transfer s) new store) ≡ cond (is_taken step.answer) new store
      by (stopped j v) = v (List ℕ) (λ _. store) _ ∙ sym (λ i. cond (is_taken (v Stepped (refused s) did i).answer) new store)
      by (passes off v) =
          v (List ℕ) (λ _. store) _
          ∙ sym ((λ i. cond (is_taken (v Stepped (refused s) did i).answer) new store)
          ∙ (λ i. cond (got_taken f.head.transfer f.head.offset f.length s i) new store))

-- the data behind the header, as a part that is lent
pub part : (n : ℕ) (frame : List ℕ) → take (24 + n - 24) (drop 24 frame) ≡ take n (drop 24 frame)
part n frame = let same : 24 + n - 24 ≡ n = omega arith in ap (λ (m : ℕ). take m (drop 24 frame)) same

pub part_long : (n : ℕ) (frame : List ℕ) → 24 + n ≤ length frame → length (take (24 + n - 24) (drop 24 frame)) ≡ n
part_long n frame l = ap length (part n frame) ∙ length-take-le n (drop 24 frame) (omega (arith, length-drop 24 frame, l))

-- bytes at the front of the part that starts at `at`
pub lent_laid : (at : ℕ) (bytes store ys : List ℕ) → ys ≡ bytes ++ drop (length bytes) (take (length store - at) (drop at store))
    → put_mid at (length store - at) store ys ≡ laid at bytes store
lent_laid at bytes store ys e =
    let rest : drop (length bytes) (take (length store - at) (drop at store)) ≡ drop (at + length bytes) store =
    ap (drop (length bytes)) (lent_tail at store) ∙ drop-drop (length bytes) at store in
    back_tail at store ys ∙ ap (λ (z : List ℕ). take at store ++ z) (e ∙ ap (λ (z : List ℕ). bytes ++ z) rest)

-- a call by what its reader found
module _ (k : ℕ) (s : Write) (destination source tag : ℕ) (frame store : List ℕ) where
  abbrev new : Frame OutHead → List ℕ
  new f = laid (s.next - s.offset) (take f.length (drop 24 frame)) store

  abbrev store_by : Frame OutHead → List ℕ
  store_by f = refuse (λ _. store) (own_causes k s f destination source tag (length store)) (cond (awaited f.head.transfer s) (new f) store)

  abbrev answer : Frame OutHead → Stepped
  answer f = step_by k s f destination source tag (length store)

  step_read : take_step k s destination source tag frame store ≡ by_read (refused s) answer (read_data_out frame)
  unfolding take_step read_data_out
  step_read =
      refuse_append (refused s) (read_causes frame) (own_causes k s (out_of frame) destination source tag (length store)) _
      ∙ sym (through (by_read (refused s) answer) Err (read_causes frame) (Ok (out_of frame)))

  store_read : take_store k s destination source tag frame store ≡ by_read (λ _. store) store_by (read_data_out frame)
  unfolding take_store read_data_out
  store_read =
      refuse_append (λ _. store) (read_causes frame) (own_causes k s (out_of frame) destination source tag (length store)) _
      ∙ sym (through (by_read (λ _. store) store_by) Err (read_causes frame) (Ok (out_of frame)))

  module _ {x : Result (Frame OutHead) Refusal} (is : x ≡ read_data_out frame) where
    pub unread : {j : Refusal} → x ≡ Err j → Takes k s destination source tag frame store (refused s j) store
    unread e = record {
      step = sym (step_read ∙ ap (by_read (refused s) answer) (sym is ∙ e));
      store = sym (store_read ∙ ap (by_read (λ _. store) store_by) (sym is ∙ e));
    }

    module _ {f : Frame OutHead} (e : x ≡ Ok f) where
      pub measured : Found frame (Ok f)
      measured = subst (Found frame) (sym is ∙ e) (found frame)

      read : {st : Stepped} {after : List ℕ} → st ≡ answer f → after ≡ cond (is_taken st.answer) (new f) store
          → Takes k s destination source tag frame store st after
      read {st} {after} steps leaves = record {
        step = steps ∙ sym (step_read ∙ ap (by_read (refused s) answer) (sym is ∙ e));
        store = leaves
            ∙ ap (λ (r : Stepped). cond (is_taken r.answer) (new f) store) steps
            ∙ sym (stored k s f destination source tag (length store) (new f) store)
            ∙ sym (store_read ∙ ap (by_read (λ _. store) store_by) (sym is ∙ e));
      }

      module _ {st : Stepped} (steps : st ≡ answer f) where
        pub untaken : is_taken st.answer ≡ false → Takes k s destination source tag frame store st store
        untaken off = read steps (sym (ap (λ (t : Bool). cond t (new f) store) off))

        pub takes_it : {after : List ℕ} → is_taken st.answer ≡ true → after ≡ new f → Takes k s destination source tag frame store st after
        takes_it on leaves = read steps (leaves ∙ sym (ap (λ (t : Bool). cond t (new f) store) on))
