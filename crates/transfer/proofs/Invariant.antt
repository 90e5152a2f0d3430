-- The balance point against the history, as an invariant: in run the frames of the attempt are those ACKed and those that wait, and every
-- byte up to the read offset is in one of them or was ACKed before; in drain a frame of the attempt is missing. Assumes nothing.
use Prim.Native.Nat.{ℕ, suc, ◌+◌, ◌≤◌, ◌<◌}
use mathlib.Core.Bool.{true, false, not}
use mathlib.Core.List.{List, [], ◌∷◌}
use mathlib.Core.Logic.{◌⊎◌, inl, inr}
use mathlib.Core.Path.{◌≡◌, ap, subst}
use native.Mathlib.Omega.{arith}
use lib.Dec.{ltb}
use lib.ListN.{length}
use Rattle.transfer.specs.Rules.{end_of}
use Rattle.transfer.specs.History.{Frame, Entry, View, none, view, Covered}
use Rattle.transfer.specs.declared.Transfer.{Transfer}
use Rattle.transfer.specs.declared.Phase.{Phase}

-- the latest frame, if there is one, ends at e
abbrev pub EndsAt : List Frame → ℕ → Type 0
EndsAt [] e = Unit {0}
EndsAt (f ∷ fs) e = f.at + f.len ≡ e

-- the frames that wait, the oldest first, put on those that were ACKed, the latest first
abbrev pub onto : List Frame → List Frame → List Frame
onto [] good = good
onto (f ∷ fs) good = onto fs (f ∷ good)

pub onto_length : (w good : List Frame) → length (onto w good) ≡ length w + length good
onto_length [] good = omega arith
onto_length (f ∷ w) good = let l = onto_length w (f ∷ good) in omega arith

pub record Running (s : Transfer) (v : View) : Type 0 where
  pub order : s.balance ≤ s.read
  pub inside : s.read ≤ end_of s
  pub count : length v.waiting ≡ s.unanswered
  pub joined : v.attempt ≡ onto v.waiting v.good
  pub idle : s.unanswered ≡ 0 → s.read ≡ s.balance
  pub out : (x : ℕ) → s.balance ≤ x → x < s.read → Covered x v.acked ⊎ Covered x v.waiting
  pub ends : EndsAt v.attempt s.read
  pub calm : v.nak ≡ false
  pub begun : not s.sent ≡ none v.attempt
  pub again : ltb 0 s.used ≡ v.resend

pub record Drains (s : Transfer) (v : View) : Type 0 where
  pub count : length v.waiting ≡ s.unanswered
  pub short : length v.good + s.unanswered < length v.attempt
  pub seen : v.nak ≡ true

-- where all frames of the attempt are ACKed, the balance point is the end of the last
abbrev pub Settled : Transfer → View → Type 0
Settled s v = (f : Frame) (fs : List Frame) → v.attempt ≡ f ∷ fs → v.good ≡ v.attempt → s.balance ≡ f.at + f.len

pub record Over (s : Transfer) (v : View) : Type 0 where
  pub none : s.unanswered ≡ 0
  pub last : Settled s v

pub record Delivered (s : Transfer) (v : View) : Type 0 where
  pub over : Over s v
  pub all : s.balance ≡ end_of s
  pub same : v.good ≡ v.attempt

abbrev pub Live : Phase → Transfer → View → Type 0
Live Phase.New s v = Over s v
Live Phase.Run s v = Running s v
Live Phase.Drain s v = Drains s v
Live Phase.Done s v = Delivered s v
Live Phase.Fail s v = Over s v
Live Phase.End s v = Over s v

pub record Inv (bound : ℕ) (s : Transfer) (v : View) : Type 0 where
  pub first : s.offset ≤ s.balance
  pub last : s.balance ≤ end_of s
  pub sure : (x : ℕ) → s.offset ≤ x → x < s.balance → Covered x v.acked
  pub few : length v.waiting ≤ bound
  pub live : Live s.phase s v

pub no_frame : {A : Type 0} (f : Frame) (fs : List Frame) → [] ≡ f ∷ fs → A
no_frame f fs e = let z : ◌≡◌ {A = ℕ} 0 (suc (length fs)) = ap length e in absurd (omega arith)

module _ (bound : ℕ) (s : Transfer) (v : View) (i : Inv bound s v) where
  pub running : s.phase ≡ Phase.Run → Running s v
  running e = subst (λ (p : Phase). Live p s v) e i.live

  pub drains : s.phase ≡ Phase.Drain → Drains s v
  drains e = subst (λ (p : Phase). Live p s v) e i.live

  pub settled_run : Running s v → Settled s v
  settled_run r f fs a same =
      let l = onto_length v.waiting v.good in
      let j : length v.attempt ≡ length (onto v.waiting v.good) = ap length r.joined in
      let g : length v.good ≡ length v.attempt = ap length same in
      let c = r.count in
      let e : f.at + f.len ≡ s.read = subst (λ (fs : List Frame). EndsAt fs s.read) a r.ends in
      let q : s.read ≡ s.balance = r.idle (omega arith) in
      omega arith

  pub settled_drain : Drains s v → Settled s v
  settled_drain r f fs a same =
      let g : length v.good ≡ length v.attempt = ap length same in
      let l = r.short in
      absurd (omega arith)

module _ (bound : ℕ) (s : Transfer) (h : List Entry) (i : Inv bound s (view h)) where
  pub count : (s.phase ≡ Phase.Run) ⊎ (s.phase ≡ Phase.Drain) → length (view h).waiting ≡ s.unanswered
  count (inl e) = (running bound s (view h) i e).count
  count (inr e) = (drains bound s (view h) i e).count

  -- no more were ACKed in the attempt than sent, those out not counted
  pub tally : (s.phase ≡ Phase.Run) ⊎ (s.phase ≡ Phase.Drain) → length (view h).good + s.unanswered ≤ length (view h).attempt
  tally (inl e) =
      let r = running bound s (view h) i e in
      let l = onto_length (view h).waiting (view h).good in
      let j : length (view h).attempt ≡ length (onto (view h).waiting (view h).good) = ap length r.joined in
      let c = r.count in
      omega arith
  tally (inr e) = let l = (drains bound s (view h) i e).short in omega arith

  pub settled_now : (s.phase ≡ Phase.Run) ⊎ (s.phase ≡ Phase.Drain) → Settled s (view h)
  settled_now (inl e) = settled_run bound s (view h) i (running bound s (view h) i e)
  settled_now (inr e) = settled_drain bound s (view h) i (drains bound s (view h) i e)
