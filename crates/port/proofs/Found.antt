-- What a scan of the list finds is the first record that a test takes, so it finds a request exactly if there is one; and where the
-- rules are kept no two requests share a key. Assumes nothing.
use Prim.Native.Nat.{ℕ, zero, suc, min, ◌<◌, ◌≤◌}
use native.Mathlib.Nat.{not-suc-le-zero}
use mathlib.Core.Path.{◌≡◌, refl, sym, ap, subst, ◌∙◌}
use mathlib.Core.Bool.{Bool, true, false, not, cond, ◌&&◌, ◌||◌}
use mathlib.Core.List.{List, [], ◌∷◌}
use mathlib.Core.Logic.{◌⊎◌, inl, inr}
use native.Mathlib.Omega.{arith}
use lib.Dec.{eqb, leb, ltb}
use lib.ListN.{length, get_or, get_or-eq_default}
use borrow.Author.Tests.{leb-true, le-leb, eqb-true, eq-eqb, ltb-true, ltb-false}
use Rattle.laws.specs.Folds.{fold_to}
use Rattle.laws.proofs.Bools.{never}
use Rattle.laws.specs.Tests.{Says}
use Rattle.laws.proofs.Tests.{equal, both, unless, means, below_or_not}
use Rattle.laws.proofs.Folds.{fold_part}
use Rattle.laws.proofs.Finds.{Found, none, at, found, Some, some}
use Rattle.open_frame.specs.declared.Head.{Head}
use Rattle.port_parts.specs.Parts.{blank, is_free, same_key}
use Rattle.port_parts.specs.Reasons.{reasons, reason_of, is_listed}
use Rattle.port_parts.specs.declared.Reason.{Reason}
use Rattle.port_parts.specs.declared.Reason.TheVariants.{Other}
use Rattle.port_parts.specs.declared.Port.{Port}
use Rattle.port_parts.specs.declared.Request.{Request}
use Rattle.port_rules.specs.Kept.{Kept, Free, SameKey}
use Rattle.port_rows.specs.Finds.{no_room, room_step, room_of, is_of, has_key, slot_of}
use Rattle.port_rows.specs.declared.Key.{Key}
use Rattle.port_rows.specs.declared.Room.{Room}
use Rattle.port.specs.Grounds.{Shares, Full, OfKey, HasKey, Absent, Cancelled}

-- ---- what the scans find

-- submit takes the lowest free slot
pub lowest_free : (l : List Request) (h : Head) → Found blank is_free l 32 32 (room_of l h).free
lowest_free l h =
    subst (Found blank is_free l 32 32) (sym (fold_part blank (λ a r i. room_step a r i h) (λ (a : ℕ) r i. cond (eqb a 32 && is_free r) (min i 32) a) (λ (a : Room). a.free) (λ a r i. refl) no_room l 32))
    (found blank is_free l 32 32 (omega arith))

pub full_says : (l : List Request) (h : Head) → Says (leb 32 (room_of l h).free) (Full l)
full_says l h = by (lowest_free l h)
  where
    by : Found blank is_free l 32 32 (room_of l h).free → Says (leb 32 (room_of l h).free) (Full l)
    by (none e off) = (λ t i k free. never (sym (off i k) ∙ eq-eqb (get_or l i blank).stage 0 free), λ all. le-leb 32 (room_of l h).free (omega arith))
    by (at m p off) = (
      λ t. absurd (let over = leb-true 32 (room_of l h).free t in omega arith),
      λ all. absurd (all (room_of l h).free (omega arith) (eqb-true (get_or l (room_of l h).free blank).stage 0 p)),
    )

taken_says : (h : Head) (r : Request) → Says (not (is_free r) && same_key r.head h) ((Free r → ⊥) × SameKey r.head h)
taken_says h r =
    both (unless (equal r.stage 0))
    (both (equal r.head.destination h.destination) (both (equal r.head.protocol h.protocol) (equal r.head.tag h.tag)))

pub present_says : (l : List Request) (h : Head) → Says (room_of l h).same (Shares l h)
present_says l h =
    means (subst (λ (t : Bool). Says t (Some blank taken l 32)) (sym part) (some blank taken l 32)) (
      λ s. let says = (taken_says h (get_or l s.i blank)).0 s.passes in record { slot = s.i; below = s.below; there = says.0; same = says.1 },
      λ p. record { i = p.slot; below = p.below; passes = (taken_says h (get_or l p.slot blank)).1 (p.there, p.same) },
    )
  where
    taken : Request → Bool
    taken r = not (is_free r) && same_key r.head h

    part : (room_of l h).same ≡ fold_to blank (λ (a : Bool) r i. a || taken r) false l 32
    part = fold_part blank (λ a r i. room_step a r i h) (λ (a : Bool) r i. a || taken r) (λ (a : Room). a.same) (λ a r i. refl) no_room l 32

pub of_says : (h : Head) (x : Key) → Says (is_of h x) (OfKey h x)
of_says h x = both (equal h.destination x.destination) (both (equal h.protocol x.protocol) (equal h.tag x.tag))

pub key_says : (r : Request) (x : Key) → Says (has_key r x) (HasKey r x)
key_says r x = both (unless (equal r.stage 0)) (of_says r.head x)

-- cancel finds the first request with the key
pub key_found : (l : List Request) (x : Key) → Found blank (λ r. has_key r x) l 32 32 (slot_of l x)
key_found l x = found blank (λ r. has_key r x) l 32 32 (omega arith)

pub absent_says : (l : List Request) (x : Key) → Says (leb 32 (slot_of l x)) (Absent l x)
absent_says l x = by (key_found l x)
  where
    by : Found blank (λ r. has_key r x) l 32 32 (slot_of l x) → Says (leb 32 (slot_of l x)) (Absent l x)
    by (none e off) = (λ t i k has. never (sym (off i k) ∙ (key_says (get_or l i blank) x).1 has), λ gone. le-leb 32 (slot_of l x) (omega arith))
    by (at m p off) = (
      λ t. absurd (let over = leb-true 32 (slot_of l x) t in omega arith),
      λ gone. absurd (gone (slot_of l x) (omega arith) ((key_says (get_or l (slot_of l x) blank) x).0 p)),
    )

-- two heads with one key
pub same_key_lem : (g h : Head) (x : Key) → OfKey g x → OfKey h x → SameKey g h
same_key_lem g h x a b = (a.0 ∙ sym b.0, (a.1.0 ∙ sym b.1.0, a.1.1 ∙ sym b.1.1))

-- no two requests share a key
pub one_of_key : (p : Port) (l : List Request) (x : Key) → Kept p l → (i j : ℕ) → i < 32 → j < 32 → HasKey (get_or l i blank) x → HasKey (get_or l j blank) x → i ≡ j
one_of_key p l x kept i j m n a b = by (below_or_not i j) (below_or_not j i)
  where
    by : (i < j) ⊎ (j ≤ i) → (j < i) ⊎ (i ≤ j) → i ≡ j
    by (inl h) u = absurd ((kept.apart i j h n a.0 b.0).keys (same_key_lem (get_or l i blank).head (get_or l j blank).head x a.1 b.1))
    by (inr h) (inl k) = absurd ((kept.apart j i k m b.0 a.0).keys (same_key_lem (get_or l j blank).head (get_or l i blank).head x b.1 a.1))
    by (inr h) (inr k) = omega (arith, h, k)

-- so the first request with a key is cancelled exactly if one that has it is
module _ (l : List Request) (x : Key) where
  abbrev pub FirstCancelled : Type 0
  FirstCancelled = (get_or l (slot_of l x) blank).cancelled ≡ 1

  pub cancelled_one : Absent l x ⊎ FirstCancelled → Absent l x ⊎ Cancelled l x
  cancelled_one (inl gone) = inl gone
  cancelled_one (inr already) = by (key_found l x)
    where
      by : Found blank (λ r. has_key r x) l 32 32 (slot_of l x) → Absent l x ⊎ Cancelled l x
      by (none e off) = inl (λ i k has. never (sym (off i k) ∙ (key_says (get_or l i blank) x).1 has))
      by (at m t off) = inr (record { slot = slot_of l x; below = m; has = (key_says (get_or l (slot_of l x) blank) x).0 t; already = already })

  pub cancelled_first : (p : Port) → Kept p l → Absent l x ⊎ Cancelled l x → Absent l x ⊎ FirstCancelled
  cancelled_first p kept (inl gone) = inl gone
  cancelled_first p kept (inr c) = by (key_found l x)
    where
      by : Found blank (λ r. has_key r x) l 32 32 (slot_of l x) → Absent l x ⊎ FirstCancelled
      by (none e off) = absurd (never (sym (off c.slot c.below) ∙ (key_says (get_or l c.slot blank) x).1 c.has))
      by (at m t off) =
          let same : slot_of l x ≡ c.slot = one_of_key p l x kept (slot_of l x) c.slot m c.below ((key_says (get_or l (slot_of l x) blank) x).0 t) c.has in
          inr (ap (λ (n : ℕ). (get_or l n blank).cancelled) same ∙ c.already)

-- a number is that of a reason exactly if it is below their count
abbrev AllListed : List Reason → Type 0
AllListed [] = Unit {0}
AllListed (why ∷ rs) = (is_listed why ≡ true) × AllListed rs

listed_at : (rs : List Reason) → AllListed rs → (n : ℕ) → n < length rs → is_listed (get_or rs n Other) ≡ true
listed_at [] all n h = absurd (not-suc-le-zero h)
listed_at (why ∷ rs) all zero h = all.0
listed_at (why ∷ rs) all (suc n) h = listed_at rs all.1 n (omega arith)

pub reason_says : (n : ℕ) → Says (is_listed (reason_of n)) (n < length reasons)
reason_says n = (there, listed_at reasons (refl, (refl, (refl, (refl, (refl, (refl, (refl, (refl, (refl, (refl, tt)))))))))) n)
  where
    there : is_listed (reason_of n) ≡ true → n < length reasons
    there e = by (ltb n 10) refl
      where
        by : (t : Bool) → ltb n 10 ≡ t → n < length reasons
        by true h = ltb-true n 10 h
        by false h = absurd (never (ap is_listed (sym (get_or-eq_default reasons Other {n = n} (ltb-false n 10 h))) ∙ e))
