-- The test of a lent state is passed exactly if it keeps the rules: it is joined from tests of numbers, of each phy, of each record
-- and of each pair of records, and each says its rule. Assumes nothing.
use Prim.Native.Nat.{ℕ, ◌+◌, ◌-◌, ◌≤◌, ◌<◌}
use mathlib.Core.Path.{◌≡◌, refl, sym, subst}
use mathlib.Core.Bool.{Bool, true, false, cond, ◌||◌}
use mathlib.Core.Logic.{◌↔◌}
use mathlib.Core.List.{List}
use native.Mathlib.Omega.{arith}
use lib.Dec.{leb}
use lib.ListN.{get_or}
use borrow.Author.Tests.{eqb-true, eqb-false, lt-leb}
use Rattle.laws.specs.Folds.{all_below}
use Rattle.laws.specs.Tests.{Says}
use Rattle.laws.proofs.Tests.{less, most, equal, itself, both, either, implies, failing, unless, means}
use Rattle.laws.proofs.Folds.{all_of, fold_all, fold_from_all}
use Rattle.open_frame.specs.Open.{head_listed}
use Rattle.open_frame.specs.declared.Head.{Head}
use Rattle.port_parts.specs.Parts.{absent_phy, blank, is_free, in_range, same_key, same_nexus}
use Rattle.port_parts.specs.declared.Phy.{Phy}
use Rattle.port_parts.specs.declared.Port.{Port}
use Rattle.port_parts.specs.declared.Request.{Request}
use Rattle.port_parts.specs.declared.Stamp.{Stamp}
use Rattle.port_rules.specs.Rules.{must_name, phy_rule, port_rule, paired_at, paired, stamps_rule, flags_rule, present_rule, request_rule, each_of, same_timer, apart_rule, compared_of, apart_from, apart_of, rules}
use Rattle.port_rules.specs.Kept.{InRange, MustName, PhyKept, Paired, Stamped, Flags, Present, Free, RequestKept, SameKey, SameNexus, SameTimer, Apart, Kept}

pub range_says : (count loss : ℕ) → Says (in_range count loss) (InRange count loss)
range_says count loss =
    means (both (most 1 count) (both (most count 8) (both (most 1 loss) (most loss 65535))))
    (λ h. record { least = h.0; most = h.1.0; loss_least = h.1.1.0; loss_most = h.1.1.1 }, λ h. (h.least, (h.most, (h.loss_least, h.loss_most))))

must_says : (p : Phy) → Says (must_name p) (MustName p)
must_says p = either (equal p.stage 2) (either (equal p.stage 4) (equal p.stage 6))

phy_says : (count : ℕ) (p : Phy) (k : ℕ) → Says (phy_rule count p k) (PhyKept count p k)
phy_says count p k =
    means
    (both (most p.stage 6)
    (both (less p.protocol 3)
    (both (both (most p.slot 32) (both (implies (must_says p) (less p.slot 32)) (implies (less p.slot 32) (either (must_says p) (equal p.stage 5)))))
    (either (less k count) (equal p.stage 0))))) (
      λ h. record { stage = h.0; protocol = h.1.0; slot = h.1.1.0.0; must = h.1.1.0.1.0; may = h.1.1.0.1.1; past = h.1.1.1 },
      λ h. (h.stage, (h.protocol, ((h.slot, (h.must, h.may)), h.past))),
    )

paired_at_says : (p : Phy) (k : ℕ) (r : Request) (i : ℕ) → Says (paired_at p k r i) ((p.slot ≡ i) ↔ ((r.stage ≡ 2) × (r.phy ≡ k)))
paired_at_says p k r i =
    let names = equal p.slot i in
    let at_k = both (equal r.stage 2) (equal r.phy k) in
    means (both (implies names at_k) (implies at_k names)) (λ h. (h.0, h.1), λ h. (h.0, h.1))

pub paired_says : (ps : List Phy) (r : Request) (i : ℕ) → Says (paired ps r i) (Paired ps r i)
unfolding paired
paired_says ps r i =
    means (both (implies (equal r.stage 2) (less r.phy 8)) (all_of 8 (λ k h. paired_at_says (get_or ps k absent_phy) k r i)))
    (λ h. record { phy = h.0; each = h.1 }, λ h. (h.phy, h.each))

stamps_says : (r : Request) (last : ℕ) → Says (stamps_rule r last) (Stamped r last)
stamps_says r last =
    means (both (most r.submitted last) (both (most r.retry.at last) (both (most r.first.at last) (most r.loss.at last))))
    (λ h. record { submitted = h.0; retry = h.1.0; first = h.1.1.0; loss = h.1.1.1 }, λ h. (h.submitted, (h.retry, (h.first, h.loss))))

flags_says : (r : Request) → Says (flags_rule r) (Flags r)
flags_says r =
    means
    (both (most r.stage 2)
    (both (most r.cancelled 1) (both (most r.closed 1) (both (most r.retry.set 1) (both (most r.first.set 1) (most r.loss.set 1)))))) (
      λ h. record { stage = h.0; cancelled = h.1.0; closed = h.1.1.0; retry = h.1.1.1.0; first = h.1.1.1.1.0; loss = h.1.1.1.1.1 },
      λ h. (h.stage, (h.cancelled, (h.closed, (h.retry, (h.first, h.loss))))),
    )

pub present_says : (r : Request) (last : ℕ) → Says (present_rule r last) (Present r last)
unfolding present_rule
present_says r last =
    means
    (both (flags_says r)
    (both (itself (head_listed r.head))
    (both (implies (equal r.cancelled 1) (equal r.stage 2))
    (both (stamps_says r last) (either (equal r.head.protocol 1) (unless (equal r.loss.set 1))))))) (
      λ h. record { flags = h.0; fields = h.1.0; cancelled = h.1.1.0; stamps = h.1.1.1.0; loss = h.1.1.1.1 },
      λ h. (h.flags, (h.fields, (h.cancelled, (h.stamps, h.loss)))),
    )

pub request_says : (p : Port) (r : Request) (i : ℕ) → Says (request_rule p r i) (RequestKept p r i)
unfolding request_rule
request_says p r i =
    means (both (paired_says p.phys r i) (either (equal r.stage 0) (present_says r p.last)))
    (λ h. record { paired = h.0; present = h.1 }, λ h. (h.paired, h.present))

key_says : (g h : Head) → Says (same_key g h) (SameKey g h)
key_says g h = both (equal g.destination h.destination) (both (equal g.protocol h.protocol) (equal g.tag h.tag))

nexus_says : (g h : Head) → Says (same_nexus g h) (SameNexus g h)
nexus_says g h = both (equal g.destination h.destination) (both (equal g.protocol h.protocol) (equal h.protocol 1))

timer_says : (s t : Stamp) → Says (same_timer s t) (SameTimer s t)
timer_says s t =
    let runs = equal s.set 1 in
    let other = equal t.set 1 in
    means (both (both (implies runs other) (implies other runs)) (implies runs (equal s.at t.at)))
    (λ h. ((h.0.0, h.0.1), h.1), λ h. ((h.0.0, h.0.1), h.1))

-- two records, the second perhaps free
abbrev Beside : Request → Request → Type 0
Beside a b = (Free b → ⊥) → Apart a b

apart_says : (a b : Request) (i : ℕ) → Says (apart_rule (compared_of a i) b) (Beside a b)
apart_says a b i =
    means
    (failing (equal b.stage 0) (both (unless (key_says a.head b.head)) (implies (nexus_says a.head b.head) (timer_says a.loss b.loss))))
    (λ h off. let both_hold = h off in record { keys = both_hold.0; timers = both_hold.1 }, λ h off. let apart = h off in (apart.keys, apart.timers))

module _ (l : List Request) where
  abbrev at : ℕ → Request
  at i = get_or l i blank

  -- the records from number k on, beside the one at i
  behind : (i k : ℕ) → Says (all_below (λ j. apart_rule (compared_of (at i) i) (at (k + j))) (32 - k)) ((j : ℕ) → k ≤ j → j < 32 → Beside (at i) (at j))
  behind i k =
      means (all_of (32 - k) (λ j h. apart_says (at i) (at (k + j)) i))
      (λ hold j from to. subst (λ (n : ℕ). Beside (at i) (at n)) (back j from) (hold (j - k) (omega arith)), λ hold j h. hold (k + j) (omega arith) (omega arith))
    where
      back : (j : ℕ) → k ≤ j → k + (j - k) ≡ j
      back j h = omega arith

  from_says : (i : ℕ) → i < 32 → Says (apart_from l (compared_of (at i) i)) ((Free (at i) → ⊥) → (j : ℕ) → i < j → j < 32 → Beside (at i) (at j))
  from_says i h = subst (λ (t : Bool). Says t Held) (sym (fold_from_all blank true (λ r j. apart_rule (compared_of (at i) i) r) l from (32 - from))) (by (is_free (at i)) refl)
    where
      Held : Type 0
      Held = (Free (at i) → ⊥) → (j : ℕ) → i < j → j < 32 → Beside (at i) (at j)

      from : ℕ
      from = (compared_of (at i) i).from

      by : (t : Bool) → is_free (at i) ≡ t → Says (all_below (λ j. apart_rule (compared_of (at i) i) (at (from + j))) (32 - from)) Held
      by true e =
          let all : from ≡ 32 = λ k. cond (e k || leb 32 i) 32 (i + 1) in
          means (behind i from) (λ hold there. absurd (there (eqb-true (at i).stage 0 e)), λ hold j m n. absurd (omega arith))
      by false e =
          let next : from ≡ i + 1 = λ k. cond (e k || lt-leb 32 i h k) 32 (i + 1) in
          means (behind i from) (λ hold there j m n. hold j (omega arith) n, λ hold j m n. hold (eqb-false (at i).stage 0 e) j (omega arith) n)

  pub apart_all : Says (apart_of l) ((i j : ℕ) → i < j → j < 32 → (Free (at i) → ⊥) → Beside (at i) (at j))
  apart_all =
      subst (λ (t : Bool). Says t ((i j : ℕ) → i < j → j < 32 → (Free (at i) → ⊥) → Beside (at i) (at j))) (sym (fold_all blank true (λ r i. apart_from l (compared_of r i)) l 32))
      (means (all_of 32 from_says) (λ hold i j m n there. hold i (omega arith) there j m n, λ hold i h there j m n. hold i j m n there))

port_says : (p : Port) → Says (port_rule p) (InRange p.count p.loss × ((k : ℕ) → k < 8 → PhyKept p.count (get_or p.phys k absent_phy) k))
unfolding port_rule
port_says p = both (range_says p.count p.loss) (all_of 8 (λ k h. phy_says p.count (get_or p.phys k absent_phy) k))

each_says : (p : Port) (l : List Request) → Says (each_of p l) ((InRange p.count p.loss × ((k : ℕ) → k < 8 → PhyKept p.count (get_or p.phys k absent_phy) k)) × ((i : ℕ) → i < 32 → RequestKept p (get_or l i blank) i))
each_says p l =
    subst
    (λ (t : Bool). Says t ((InRange p.count p.loss × ((k : ℕ) → k < 8 → PhyKept p.count (get_or p.phys k absent_phy) k)) × ((i : ℕ) → i < 32 → RequestKept p (get_or l i blank) i)))
    (sym (fold_all blank (port_rule p) (request_rule p) l 32))
    (both (port_says p) (all_of 32 (λ i h. request_says p (get_or l i blank) i)))

pub rules_say : (p : Port) (l : List Request) → Says (rules p l) (Kept p l)
unfolding rules
rules_say p l =
    means (both (each_says p l) (apart_all l))
    (λ h. record { setup = h.0.0.0; phys = h.0.0.1; requests = h.0.1; apart = h.1 }, λ h. (((h.setup, h.phys), h.requests), h.apart))
