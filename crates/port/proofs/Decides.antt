-- Each test of a call decides one of its grounds: that of the lent state its rules, that of the list what is there. Assumes nothing.
use Prim.Native.Nat.{ℕ}
use mathlib.Core.Path.{◌≡◌, refl, sym, ◌∙◌}
use mathlib.Core.Bool.{Bool, true, false, not}
use mathlib.Core.List.{List, [], ◌∷◌}
use mathlib.Core.Logic.{◌↔◌, ◌⊎◌}
use lib.Dec.{eqb}
use lib.ListN.{length, get_or}
use Rattle.laws.proofs.Bools.{never}
use Rattle.laws.specs.Tests.{Says}
use Rattle.laws.proofs.Tests.{less, equal, itself, either, unless}
use Rattle.refusals.specs.Causes.{Cause, ◌when◌, Ground, First, here, later, Decides, nil, cons}
use Rattle.refusals.specs.declared.Refusal.{Refusal}
use Rattle.open_frame.specs.Open.{head_listed}
use Rattle.port_parts.specs.Parts.{blank, is_opening, is_disabled, in_range, has_frame_out}
use Rattle.port_parts.specs.declared.Phy.{Phy}
use Rattle.port_rules.specs.Rules.{rules}
use Rattle.port_rules.specs.Kept.{FrameOut, Kept}
use Rattle.port_rules.proofs.Facts.{range_says, rules_say}
use Rattle.port_rows.specs.Finds.{room_of, slot_of}
use Rattle.port_rows.specs.Calls.{phy_at, is_joined, submit_causes, cancel_causes, choose_causes, phy_causes, failed_causes}
use Rattle.port_rows.specs.declared.Withdrawn.{Withdrawn}
use Rattle.port.specs.History.{State, Call, setup, submit, cancel, choose, opened, open_failed, frame_status, closed, enable, disable}
use Rattle.port.specs.Grounds.{Broken, Absent, Joined, phy_grounds, cancel_grounds, grounds_of}
use Rattle.port.proofs.Found.{full_says, present_says, absent_says, reason_says, FirstCancelled, cancelled_one, cancelled_first}

-- ---- the tests decide the grounds

sized : (s : State) → Says (not (eqb (length s.list) 32)) (length s.list ≡ 32 → ⊥)
sized s = unless (equal (length s.list) 32)

broken : (s : State) → Says (not (rules s.port s.list)) (Kept s.port s.list → ⊥)
broken s = unless (rules_say s.port s.list)

phy_decides : (s : State) (k now : ℕ) {t : Bool} {P : Type 0} → Says t P → Decides (phy_causes s.port (rules s.port s.list) k now t) (phy_grounds s k now P)
phy_decides s k now p = cons (broken s) (cons (unless (less k s.port.count)) (cons (less now s.port.last) (cons p nil)))

joined_says : (f : Phy) → Says (is_joined f) (Joined f)
joined_says f = either (either (equal f.stage 3) (equal f.stage 4)) (either (equal f.stage 5) (equal f.stage 6))

out_says : (f : Phy) → Says (has_frame_out f) (FrameOut f)
out_says f = either (equal f.stage 4) (equal f.stage 6)

-- what a call checks, the length of the list first
unfoldable pub causes_of : Call → State → List Cause
causes_of (setup count loss) s = (Refusal.Length when not (eqb (length s.list) 32)) ∷ (Refusal.Rules when not (in_range count loss)) ∷ []
causes_of (submit x) s = (Refusal.Length when not (eqb (length s.list) 32)) ∷ submit_causes s.port (rules s.port s.list) (room_of s.list x.head) x
causes_of (cancel x) s =
    (Refusal.Length when not (eqb (length s.list) 32))
    ∷ cancel_causes s.port (get_or s.list (slot_of s.list x.key) blank) (rules s.port s.list) (slot_of s.list x.key) x
causes_of (choose x) s = (Refusal.Length when not (eqb (length s.list) 32)) ∷ choose_causes s.port (rules s.port s.list) x.now
causes_of (opened x) s =
    (Refusal.Length when not (eqb (length s.list) 32)) ∷ phy_causes s.port (rules s.port s.list) x.phy x.now (not (is_opening (phy_at s.port x.phy)))
causes_of (open_failed x) s = (Refusal.Length when not (eqb (length s.list) 32)) ∷ failed_causes s.port (rules s.port s.list) x (not (is_opening (phy_at s.port x.phy)))
causes_of (frame_status x) s =
    (Refusal.Length when not (eqb (length s.list) 32)) ∷ phy_causes s.port (rules s.port s.list) x.phy x.now (not (has_frame_out (phy_at s.port x.phy)))
causes_of (closed x) s =
    (Refusal.Length when not (eqb (length s.list) 32)) ∷ phy_causes s.port (rules s.port s.list) x.phy x.now (not (is_joined (phy_at s.port x.phy)))
causes_of (enable x) s =
    (Refusal.Length when not (eqb (length s.list) 32)) ∷ phy_causes s.port (rules s.port s.list) x.phy x.now (not (is_disabled (phy_at s.port x.phy)))
causes_of (disable x) s =
    (Refusal.Length when not (eqb (length s.list) 32)) ∷ phy_causes s.port (rules s.port s.list) x.phy x.now (is_disabled (phy_at s.port x.phy))

-- grounds that the tests decide, one by one, and of which the same comes first as of the call's own
pub record Tested (c : Call) (s : State) : Type 1 where
  pub grounds : List Ground
  pub decided : Decides (causes_of c s) grounds
  pub same : (k : Refusal) → First grounds k ↔ First (grounds_of c s) k

-- mostly they are the call's own
own : {c : Call} {s : State} → Decides (causes_of c s) (grounds_of c s) → Tested c s
own {c} {s} d = record { grounds = grounds_of c s; decided = d; same = λ k. (λ f. f, λ f. f) }

-- a lent state keeps its rules or breaks them
kept_unless : (s : State) → (Broken s → ⊥) → Kept s.port s.list
kept_unless s off = by (rules s.port s.list) refl
  where
    by : (t : Bool) → rules s.port s.list ≡ t → Kept s.port s.list
    by true e = (rules_say s.port s.list).0 e
    by false e = absurd (off (λ kept. never (sym e ∙ (rules_say s.port s.list).1 kept)))

-- of cancel the last ground is reached only where the rules are kept
recast : (s : State) (x : Withdrawn) {P Q : Type 0} → (Kept s.port s.list → P → Q) → {k : Refusal} → First (cancel_grounds s x P) k → First (cancel_grounds s x Q) k
recast s x so (here h) = here h
recast s x so (later a (here h)) = later a (here h)
recast s x so (later a (later b (here h))) = later a (later b (here h))
recast s x so (later a (later b (later c (here h)))) = later a (later b (later c (here h)))
recast s x so (later a (later b (later c (later d (here h))))) = later a (later b (later c (later d (here (so (kept_unless s c) h)))))
recast s x {P} {Q} so {k} (later a (later b (later c (later d (later _ none))))) = elim none [ ]

pub tested : (c : Call) (s : State) → Tested c s
unfolding causes_of
tested (setup count loss) s = own (cons (sized s) (cons (unless (range_says count loss)) nil))
tested (submit x) s =
    own
    (cons (sized s)
    (cons (unless (itself (head_listed x.head)))
    (cons (broken s) (cons (less x.now s.port.last) (cons (present_says s.list x.head) (cons (full_says s.list x.head) nil))))))
tested (cancel x) s =
    record {
      grounds = cancel_grounds s x (Absent s.list x.key ⊎ FirstCancelled s.list x.key);
      decided =
          cons (sized s)
          (cons (unless (less x.key.protocol 3))
          (cons (broken s)
          (cons (less x.now s.port.last)
          (cons (either (absent_says s.list x.key) (equal (get_or s.list (slot_of s.list x.key) blank).cancelled 1)) nil))));
      same = λ k. (recast s x (λ kept. cancelled_one s.list x.key), recast s x (cancelled_first s.list x.key s.port));
    }
tested (choose x) s = own (cons (sized s) (cons (broken s) (cons (less x.now s.port.last) nil)))
tested (opened x) s = own (cons (sized s) (phy_decides s x.phy x.now (unless (equal (phy_at s.port x.phy).stage 2))))
tested (open_failed x) s = own (cons (sized s) (cons (unless (reason_says x.why)) (phy_decides s x.phy x.now (unless (equal (phy_at s.port x.phy).stage 2)))))
tested (frame_status x) s = own (cons (sized s) (phy_decides s x.phy x.now (unless (out_says (phy_at s.port x.phy)))))
tested (closed x) s = own (cons (sized s) (phy_decides s x.phy x.now (unless (joined_says (phy_at s.port x.phy)))))
tested (enable x) s = own (cons (sized s) (phy_decides s x.phy x.now (unless (equal (phy_at s.port x.phy).stage 0))))
tested (disable x) s = own (cons (sized s) (phy_decides s x.phy x.now (equal (phy_at s.port x.phy).stage 0)))
