-- What a kept state says of one phy and of one record, and how little has to be shown of new ones: the rules of a phy and of a request
-- are joined from facts about numbers, most of which a call leaves. Assumes nothing.
use Prim.Native.Nat.{ℕ, ◌≤◌, ◌<◌}
use mathlib.Core.Path.{◌≡◌, refl, sym, subst, ◌∙◌}
use mathlib.Core.Bool.{true}
use mathlib.Core.Logic.{◌⊎◌, inl, inr}
use mathlib.Core.List.{List}
use native.Mathlib.Omega.{arith}
use lib.ListN.{get_or}
use Rattle.open_frame.specs.Open.{head_listed}
use Rattle.open_frame.specs.declared.Head.{Head}
use Rattle.port_parts.specs.Parts.{no_stamp, stamped, blank}
use Rattle.port_parts.specs.declared.Phy.{Phy}
use Rattle.port_parts.specs.declared.Port.{Port}
use Rattle.port_parts.specs.declared.Request.{Request}
use Rattle.port_parts.specs.declared.Stamp.{Stamp}
use Rattle.port_rules.specs.Kept.{Free, MustName, PhyKept, Present, Kept}
use Rattle.port_rows.specs.Calls.{phy_at}
use Rattle.port_rows.specs.Changed.{timed}
use Rattle.port_invariant.proofs.Links.{On}

-- ---- records

-- a stamp that may stand in a record at the time `now`
abbrev pub Dated : ℕ → Stamp → Type 0
Dated now t = (t.set ≤ 1) × (t.at ≤ now)

pub dated_none : (now : ℕ) → Dated now no_stamp
dated_none now = (omega arith, omega arith)

pub dated_now : (now : ℕ) → Dated now (stamped now)
dated_now now = (omega arith, omega arith)

module _ (r : Request) (last now : ℕ) (on : last ≤ now) (was : Present r last) where
  -- the stamps that are there, at a later time
  pub old_retry : Dated now r.retry
  old_retry = (was.flags.retry, omega (arith, was.stamps.retry))

  pub old_first : Dated now r.first
  old_first = (was.flags.first, omega (arith, was.stamps.first))

  pub old_loss : Dated now r.loss
  old_loss = (was.flags.loss, omega (arith, was.stamps.loss))

  -- a record with the head and the submission time of r
  pub present_as : (e : Request) → e.head ≡ r.head → e.submitted ≡ r.submitted → e.stage ≤ 2 → e.cancelled ≤ 1 → (e.cancelled ≡ 1 → e.stage ≡ 2) → e.closed ≤ 1 → Dated now e.retry → Dated now e.first → Dated now e.loss
      → (e.head.protocol ≡ 1) ⊎ (e.loss.set ≡ 1 → ⊥) → Present e now
  present_as e head submitted stage cancelled only closed retry first loss ssp =
      record {
        flags = record { stage = stage; cancelled = cancelled; closed = closed; retry = retry.0; first = first.0; loss = loss.0 };
        fields = subst (λ (h : Head). head_listed h ≡ true) (sym head) was.fields;
        cancelled = only;
        stamps = record { submitted = omega (arith, was.stamps.submitted); retry = retry.1; first = first.1; loss = loss.1 };
        loss = ssp;
      }

  pub present_later : Present r now
  present_later = present_as r refl refl was.flags.stage was.flags.cancelled was.cancelled was.flags.closed old_retry old_first old_loss was.loss

  -- with another loss timer
  pub present_timed : (t : Stamp) → Dated now t → (r.head.protocol ≡ 1) ⊎ (t.set ≡ 1 → ⊥) → Present (timed r t) now
  present_timed t dated loss = present_as (timed r t) refl refl was.flags.stage was.flags.cancelled was.cancelled was.flags.closed old_retry old_first dated loss

-- ---- phys

module _ (count : ℕ) (g : Phy) (k : ℕ) (low : k < count) (stage : g.stage ≤ 6) (protocol : g.protocol < 3) where
  -- one that names a request
  pub busy_kept : g.slot < 32 → MustName g ⊎ (g.stage ≡ 5) → PhyKept count g k
  busy_kept slot may = record { stage = stage; protocol = protocol; slot = omega arith; must = λ m. slot; may = λ h. may; past = inl low }

  -- one that names none
  pub rests_kept : g.slot ≡ 32 → (MustName g → ⊥) → PhyKept count g k
  rests_kept slot rests = record { stage = stage; protocol = protocol; slot = omega arith; must = λ m. absurd (rests m); may = λ h. absurd (omega arith); past = inl low }

-- in these stages a phy has no need to name a request
pub no_need : (g : Phy) (n : ℕ) → g.stage ≡ n → (n ≡ 2 → ⊥) → (n ≡ 4 → ⊥) → (n ≡ 6 → ⊥) → MustName g → ⊥
no_need g n e a b c (inl d) = a (sym e ∙ d)
no_need g n e a b c (inr (inl d)) = b (sym e ∙ d)
no_need g n e a b c (inr (inr d)) = c (sym e ∙ d)

module _ (p : Port) (l : List Request) (was : Kept p l) where
  pub present_at : (i : ℕ) → i < 32 → (Free (get_or l i blank) → ⊥) → Present (get_or l i blank) p.last
  present_at i h there = by (was.requests i h).present
    where
      by : Free (get_or l i blank) ⊎ Present (get_or l i blank) p.last → Present (get_or l i blank) p.last
      by (inl free) = absurd (there free)
      by (inr held) = held

  -- a request that doesn't wait is in progress on one of the phys, which names it
  pub in_progress : (i : ℕ) → i < 32 → (Free (get_or l i blank) → ⊥) → ((get_or l i blank).stage ≡ 1 → ⊥) → (get_or l i blank).stage ≡ 2
  in_progress i h there moves = by there moves (present_at i h there).flags.stage
    where
      by : {n : ℕ} → (n ≡ 0 → ⊥) → (n ≡ 1 → ⊥) → n ≤ 2 → n ≡ 2
      by a b c = omega arith

  pub its_phy : (i : ℕ) → i < 32 → (get_or l i blank).stage ≡ 2 → (get_or l i blank).phy < 8
  its_phy i h = (was.requests i h).paired.phy

  pub its_name : (i : ℕ) → i < 32 → (get_or l i blank).stage ≡ 2 → (phy_at p (get_or l i blank).phy).slot ≡ i
  its_name i h busy = ((was.requests i h).paired.each (get_or l i blank).phy (its_phy i h busy)).1 (busy, refl)

  module _ (k : ℕ) (low : k < p.count) where
    pub in_port : k < 8
    in_port = let most = was.setup.most in omega arith

    abbrev f : Phy
    f = phy_at p k

    pub phy_kept : PhyKept p.count f k
    phy_kept = was.phys k in_port

    -- a phy's request is in progress on it
    pub on_it : f.slot < 32 → On (get_or l f.slot blank) k
    on_it h = ((was.requests f.slot h).paired.each k in_port).0 refl

    pub its_present : f.slot < 32 → Present (get_or l f.slot blank) p.last
    its_present h = present_at f.slot h (λ free. let busy = (on_it h).0 in omega arith)

  -- a phy in one of these stages names none
  pub names_none : (k : ℕ) → k < 8 → (n : ℕ) → (phy_at p k).stage ≡ n → n < 2 ⊎ (n ≡ 3) → (phy_at p k).slot < 32 → ⊥
  names_none k low n e small named = by small ((was.phys k low).may named)
    where
      by : n < 2 ⊎ (n ≡ 3) → MustName (phy_at p k) ⊎ ((phy_at p k).stage ≡ 5) → ⊥
      by (inl a) (inl (inl d)) = omega arith
      by (inl a) (inl (inr (inl d))) = omega arith
      by (inl a) (inl (inr (inr d))) = omega arith
      by (inl a) (inr d) = omega arith
      by (inr a) (inl (inl d)) = omega arith
      by (inr a) (inl (inr (inl d))) = omega arith
      by (inr a) (inl (inr (inr d))) = omega arith
      by (inr a) (inr d) = omega arith

  -- past the phys that the port has all are disabled
  pub number_low : (k : ℕ) → k < 8 → ((phy_at p k).stage ≡ 0 → ⊥) → k < p.count
  number_low k low enabled = by (was.phys k low).past
    where
      by : (k < p.count) ⊎ ((phy_at p k).stage ≡ 0) → k < p.count
      by (inl h) = h
      by (inr off) = absurd (enabled off)
