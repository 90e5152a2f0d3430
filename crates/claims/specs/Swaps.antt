-- Calls with swaps of firmware anywhere between them: where they lead, and the history that they leave. A swap adds nothing to it. Assumes nothing.
use Rattle.std.specs.Prelude.{ℕ, List, [], ◌∷◌, ◌++◌, ◌≡◌}

-- of calls that save, W, and that restore, R: what one that saves was given, whether it passed and the line that it wrote; the line that one that restores was
-- lent, and what it gave
pub record Savers (S W R : Type 0) : Type 1 where
  pub given : W → S
  pub Passed : W → Type 0
  pub wrote : W → List ℕ
  pub line : R → List ℕ
  pub gave : R → S

-- 02 a.1
-- a swap from s to t: s was saved, the line that was written is all that was restored, and it goes on with t
pub record Swap {S W R : Type 0} (k : Savers S W R) (s t : S) : Type 0 where
  pub save : W
  pub saves : k.given save ≡ s
  pub passed : k.Passed save
  pub restore : R
  pub reads : k.line restore ≡ k.wrote save
  pub gives : k.gave restore ≡ t

-- a call of C, or a swap
pub data Turn (C : Type 0) : Type 0 where
  call : C → Turn C
  swap : Turn C

-- the calls alone
abbrev pub calls_in : {C : Type 0} → List (Turn C) → List C
calls_in [] = []
calls_in (call c ∷ ts) = c ∷ calls_in ts
calls_in (swap ∷ ts) = calls_in ts

-- states S, calls C and the entries E of a history: what a call leaves, what it adds, and from which state to which a swap leads
pub record Machine (S C E : Type 0) : Type 1 where
  pub after : C → S → S
  pub adds : C → S → List E
  pub Swaps : S → S → Type 0

-- 02 a.4: Demand 3 reads the history of the saved transfer, followed by the calls after it.
-- from s with the history h, its latest entry first, some turns lead to s' with the history h'
pub data Leads {S C E : Type 0} (m : Machine S C E) : List (Turn C) → S → List E → S → List E → Type 0 where
  stands : {s : S} {h : List E} → Leads m [] s h s h
  called : {c : C} {ts : List (Turn C)} {s s' : S} {h h' : List E} → Leads m ts (m.after c s) (m.adds c s ++ h) s' h' → Leads m (call c ∷ ts) s h s' h'
  swapped : {ts : List (Turn C)} {s t s' : S} {h h' : List E} → m.Swaps s t → Leads m ts t h s' h' → Leads m (swap ∷ ts) s h s' h'
