-- A way for a request is the first rule that has a phy, on that rule's lowest phy: a rule has a phy exactly if its count is not
-- none, and the first phy of a rule is the lowest. Assumes nothing.
use Prim.Native.Nat.{ℕ, ◌+◌, ◌≤◌, ◌<◌}
use mathlib.Core.Path.{◌≡◌, refl}
use mathlib.Core.Bool.{Bool, true, false, not, cond, ◌&&◌}
use mathlib.Core.List.{List}
use native.Mathlib.Omega.{arith}
use lib.Dec.{eqb}
use lib.ListN.{length, get_or}
use borrow.Author.Tests.{ltb-true, ltb-false, eqb-true, eq-eqb, not-true}
use Rattle.laws.proofs.Bools.{and_left, and_right, and_true, clash}
use Rattle.laws.proofs.Sets.{first_in, first_low, count_none}
use Rattle.laws.specs.Sets.{first_of, count_of}
use Rattle.laws.specs.Tests.{Says}
use Rattle.laws.proofs.Tests.{most, equal, both, implies}
use Rattle.port_parts.specs.Parts.{absent_phy}
use Rattle.port_parts.specs.Choice.{reaches, for_send, for_open, for_close, some, by, no_way, way_for, is_ready}
use Rattle.port_parts.specs.Qualifies.{Ready, Reaches, Qualifies, sends, opens, closes}
use Rattle.port_parts.specs.declared.Phy.{Phy}
use Rattle.port_parts.specs.declared.Request.{Request}
use Rattle.port_parts.specs.declared.Way.{Way}

reaches_says : (p : Phy) (r : Request) → Says (reaches p r.head) (Reaches p r)
reaches_says p r = both (equal p.destination r.head.destination) (equal p.protocol r.head.protocol)

-- what each test says of a phy
send_says : (p : Phy) (r : Request) → for_send r.head p ≡ true → (p.stage ≡ 3) × Reaches p r
send_says p r e = (eqb-true p.stage 3 (and_left (eqb p.stage 3) _ e), (reaches_says p r).0 (and_right (eqb p.stage 3) _ e))

close_says : (p : Phy) (r : Request) → for_close r.head p ≡ true → (p.stage ≡ 3) × (Reaches p r → ⊥)
close_says p r e = (eqb-true p.stage 3 (and_left (eqb p.stage 3) _ e), λ t. clash (reaches p r.head) ((reaches_says p r).1 t) (not-true (reaches p r.head) (and_right (eqb p.stage 3) _ e)))

pub ready_says : (r : Request) (now : ℕ) → Says (is_ready r now) (Ready now r)
ready_says r now = both (equal r.stage 1) (implies (equal r.retry.set 1) (most (r.retry.at + 15) now))

-- what a request and a phy that qualify say of the tests
module _ (now : ℕ) (r : Request) (p : Phy) (step : ℕ) where
  pub ready_first : Qualifies now r p step → Ready now r
  ready_first (sends e y i t) = y
  ready_first (opens e y u) = y
  ready_first (closes e y i f n) = y

  pub step_least : Qualifies now r p step → 1 ≤ step
  step_least (sends e y i t) = omega arith
  step_least (opens e y u) = omega arith
  step_least (closes e y i f n) = omega arith

  send_is : Qualifies now r p step → step ≡ 1 → for_send r.head p ≡ true
  send_is (sends e y i t) d = and_true (eq-eqb p.stage 3 i) ((reaches_says p r).1 t)
  send_is (opens e y u) d = absurd (omega arith)
  send_is (closes e y i f n) d = absurd (omega arith)

  open_is : Qualifies now r p step → step ≡ 2 → for_open p ≡ true
  open_is (sends e y i t) d = absurd (omega arith)
  open_is (opens e y u) d = eq-eqb p.stage 1 u
  open_is (closes e y i f n) d = absurd (omega arith)

  close_is : Qualifies now r p step → step ≡ 3 → (eqb r.closed 0 ≡ true) × (for_close r.head p ≡ true)
  close_is (sends e y i t) d = absurd (omega arith)
  close_is (opens e y u) d = absurd (omega arith)
  close_is (closes e y i f n) d = (eq-eqb r.closed 0 n, and_true (eq-eqb p.stage 3 i) (elsewhere (reaches p r.head) refl))
    where
      elsewhere : (t : Bool) → reaches p r.head ≡ t → not t ≡ true
      elsewhere true h = absurd (f ((reaches_says p r).0 h))
      elsewhere false h = refl

  step_most : Qualifies now r p step → step ≤ 3
  step_most (sends e y i t) = omega arith
  step_most (opens e y u) = omega arith
  step_most (closes e y i f n) = omega arith

  -- a pair that none of the three tests takes doesn't qualify
  pub taken_by : Qualifies now r p step → ((step ≡ 1 → ⊥) × ((step ≡ 2 → ⊥) × (step ≡ 3 → ⊥))) → ⊥
  taken_by q (one, (two, three)) = elim_step (step_least q) (step_most q)
    where
      elim_step : 1 ≤ step → step ≤ 3 → ⊥
      elim_step l m = let a = one in let b = two in let c = three in omega arith

-- what w says of request r: where it is no way, nothing qualifies; else it is the first rule's lowest phy
module _ (ps : List Phy) (now : ℕ) (r : Request) where
  abbrev pub Fit : ℕ → ℕ → Type 0
  Fit k step = Qualifies now r (get_or ps k absent_phy) step

  pub record Goes (w : Way) : Type 0 where
    pub phy : w.phy < 8
    pub fits : Fit w.phy w.step
    pub rule : (k step : ℕ) → k < 8 → step < w.step → Fit k step → ⊥
    pub lowest : (k : ℕ) → k < w.phy → Fit k w.step → ⊥

  pub data Way_says : Way → Type 0 where
    stuck : ((k step : ℕ) → k < 8 → Fit k step → ⊥) → Way_says no_way
    goes : {w : Way} → Goes w → Way_says w

  module _ (eight : length ps ≡ 8) (ready : Ready now r) where
    none_of : (f : Phy → Bool) → some f ps ≡ false → (k : ℕ) → k < 8 → f (get_or ps k absent_phy) ≡ false
    none_of f e k h = count_none f absent_phy ps (omega (arith, ltb-false 0 (count_of f ps) e)) k (omega arith)

    one_of : (f : Phy → Bool) → some f ps ≡ true → (first_of f ps < 8) × (f (get_or ps (first_of f ps) absent_phy) ≡ true)
    one_of f e = let h = first_in f absent_phy ps (ltb-true 0 (count_of f ps) e) in (omega (arith, h.0), h.1)

    no_send : some (for_send r.head) ps ≡ false → (k step : ℕ) → k < 8 → Fit k step → step ≡ 1 → ⊥
    no_send e k step h q d = clash (for_send r.head (get_or ps k absent_phy)) (send_is now r (get_or ps k absent_phy) step q d) (none_of (for_send r.head) e k h)

    no_open : some for_open ps ≡ false → (k step : ℕ) → k < 8 → Fit k step → step ≡ 2 → ⊥
    no_open e k step h q d = clash (for_open (get_or ps k absent_phy)) (open_is now r (get_or ps k absent_phy) step q d) (none_of for_open e k h)

    no_close : eqb r.closed 0 && some (for_close r.head) ps ≡ false → (k step : ℕ) → k < 8 → Fit k step → step ≡ 3 → ⊥
    no_close e k step h q d = by_some (some (for_close r.head) ps) refl
      where
        at_k : (eqb r.closed 0 ≡ true) × (for_close r.head (get_or ps k absent_phy) ≡ true)
        at_k = close_is now r (get_or ps k absent_phy) step q d

        by_some : (t : Bool) → some (for_close r.head) ps ≡ t → ⊥
        by_some true s = clash (eqb r.closed 0 && some (for_close r.head) ps) (and_true at_k.0 s) e
        by_some false s = clash (for_close r.head (get_or ps k absent_phy)) at_k.1 (none_of (for_close r.head) s k h)

    pub way_says : Way_says (way_for ps r)
    unfolding way_for
    way_says = by_tests (some (for_send r.head) ps) (some for_open ps) (eqb r.closed 0 && some (for_close r.head) ps) refl refl refl
      where
        by_tests : (a b c : Bool) → some (for_send r.head) ps ≡ a → some for_open ps ≡ b → eqb r.closed 0 && some (for_close r.head) ps ≡ c
            → Way_says (cond a (by 1 (for_send r.head) ps) (cond b (by 2 for_open ps) (cond c (by 3 (for_close r.head) ps) no_way)))
        by_tests true b c e f g =
            let h = one_of (for_send r.head) e in
            goes (record {
              phy = h.0;
              fits = let says = send_says (get_or ps (first_of (for_send r.head) ps) absent_phy) r h.1 in sends refl ready says.0 says.1;
              rule = λ k step l m q. let z = step_least now r (get_or ps k absent_phy) step q in omega arith;
              lowest = λ k l q. clash (for_send r.head (get_or ps k absent_phy)) (send_is now r (get_or ps k absent_phy) 1 q refl) (first_low (for_send r.head) absent_phy ps k l);
            })
        by_tests false true c e f g =
            let h = one_of for_open f in
            goes (record {
              phy = h.0;
              fits = opens refl ready (eqb-true (get_or ps (first_of for_open ps) absent_phy).stage 1 h.1);
              rule = λ k step l m q. let z = step_least now r (get_or ps k absent_phy) step q in no_send e k step l q (omega arith);
              lowest = λ k l q. clash (for_open (get_or ps k absent_phy)) (open_is now r (get_or ps k absent_phy) 2 q refl) (first_low for_open absent_phy ps k l);
            })
        by_tests false false true e f g =
            let h = one_of (for_close r.head) (and_right (eqb r.closed 0) _ g) in
            goes (record {
              phy = h.0;
              fits = let says = close_says (get_or ps (first_of (for_close r.head) ps) absent_phy) r h.1 in closes refl ready says.0 says.1 (eqb-true r.closed 0 (and_left (eqb r.closed 0) _ g));
              rule = λ k step l m q. taken_by now r (get_or ps k absent_phy) step q (no_send e k step l q, (no_open f k step l q, λ d. omega arith));
              lowest = λ k l q. clash (for_close r.head (get_or ps k absent_phy)) (close_is now r (get_or ps k absent_phy) 3 q refl).1 (first_low (for_close r.head) absent_phy ps k l);
            })
        by_tests false false false e f g =
            stuck (λ k step l q. taken_by now r (get_or ps k absent_phy) step q (no_send e k step l q, (no_open f k step l q, no_close g k step l q)))
