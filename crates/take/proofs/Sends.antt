-- A call that checks a frame's lengths and its fields, and then goes on as a step does, writes the frame exactly where the step sends it.
-- Assumes nothing.
use Prim.Native.Nat.{ℕ}
use mathlib.Core.Bool.{Bool, true, false}
use mathlib.Core.List.{List, ◌++◌}
use mathlib.Core.Path.{◌≡◌, sym, ap, ◌∙◌}
use Rattle.laws.proofs.Bools.{never}
use Rattle.refusals.specs.Causes.{Cause, refuse, buffer_causes}
use Rattle.refusals.specs.declared.Refusal.{Refusal}
use Rattle.refusals.proofs.Causes.{NoneGiven, Verdict, stopped, passes, verdict}

-- with these causes a call answers and leaves `goes`, and `new` in place of the bytes `before`
pub record Sends {A : Type 0} (refused : Refusal → A) (cs : List Cause) (goes : A) (new before : List ℕ) (r : A) (after : List ℕ) : Type 0 where
  pub step : r ≡ refuse refused cs goes
  pub bytes : after ≡ refuse (λ _. before) cs new

-- what is sent shows in the answer
module _ {A : Type 0} (refused : Refusal → A) (goes : A) (sent : A → Bool) (no : (k : Refusal) → sent (refused k) ≡ false) (yes : sent goes ≡ true)
    (ds : List Cause) where
  module _ {st : A} (is : st ≡ refuse refused ds goes) where
    -- a step that sends was given no cause
    pub record Went : Type 1 where
      pub off : NoneGiven ds
      pub step : st ≡ goes
      pub any : (B : Type 0) (refused : Refusal → B) (b : B) → refuse refused ds b ≡ b

    pub went : sent st ≡ true → Went
    went = by (verdict ds)
      where
        by : Verdict ds → sent st ≡ true → Went
        by (stopped k v) e = absurd (never (sym (no k) ∙ ap sent (sym (is ∙ v A refused goes)) ∙ e))
        by (passes off v) e = record { off = off; step = is ∙ v A refused goes; any = v }

    -- and one that doesn't was refused
    pub halted : sent st ≡ false → (B : Type 0) (b c : B) → refuse (λ _. b) ds c ≡ b
    halted = by (verdict ds)
      where
        by : Verdict ds → sent st ≡ false → (B : Type 0) (b c : B) → refuse (λ _. b) ds c ≡ b
        by (stopped k v) e B b c = v B (λ _. b) c
        by (passes off v) e B b c = absurd (never (sym e ∙ ap sent (is ∙ v A refused goes) ∙ yes))

  module _ (sized listed : Bool) (new before : List ℕ) where
    abbrev all : List Cause
    all = buffer_causes sized listed ++ ds

    pub short : sized ≡ false → Sends refused all goes new before (refused Refusal.Length) before
    short l = record { step = rw l; bytes = rw l }

    module _ (room : sized ≡ true) where
      pub unlisted : listed ≡ false → Sends refused all goes new before (refused Refusal.Unlisted) before
      unlisted f = record { step = rw (room, f); bytes = rw (room, f) }

      module _ (fields : listed ≡ true) {st : A} (is : st ≡ refuse refused ds goes) where
        pub not_sent : sent st ≡ false → Sends refused all goes new before st before
        not_sent e = record { step = rw (room, fields) is; bytes = rw (room, fields) (sym (halted is e (List ℕ) before new)) }

        pub sends : sent st ≡ true → {after : List ℕ} → after ≡ new → Sends refused all goes new before st after
        sends e wrote = record { step = rw (room, fields) is; bytes = rw (room, fields) (wrote ∙ sym ((went is e).any (List ℕ) (λ _. before) new)) }
