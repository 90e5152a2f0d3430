-- Choose joins a waiting request and a phy that names none, or closes such a phy for it; what it picks qualifies, since the pick is the
-- right one. Assumes nothing.
use Rattle.port_invariant.proofs.Spreads.{none_changes}
use Prim.Native.Nat.{ℕ, ◌≤◌, ◌<◌}
use mathlib.Core.Path.{◌≡◌, refl, sym, subst}
use mathlib.Core.Logic.{inl, inr}
use mathlib.Core.List.{List}
use native.Mathlib.Omega.{arith}
use lib.ListN.{length, get_or}
use Rattle.laws.proofs.Bools.{never, by_test}
use Rattle.open_frame.specs.declared.Awt.{Awt}
use Rattle.open_frame.specs.declared.Pbc.{Pbc}
use Rattle.port_parts.specs.Parts.{is_set, blank}
use Rattle.port_parts.specs.Qualifies.{Qualifies, sends, opens, closes, Right, none, one}
use Rattle.port_parts.specs.declared.Phy.{Phy}
use Rattle.port_parts.specs.declared.Pick.{Pick}
use Rattle.port_parts.specs.declared.Port.{Port}
use Rattle.port_parts.specs.declared.Request.{Request}
use Rattle.port_parts.specs.declared.Stamp.{Stamp}
use Rattle.port_rules.specs.Kept.{PhyKept, Free, Present, Kept}
use Rattle.port_rows.specs.Answers.{with_phy, opening_phy, staged_phy, no_loss}
use Rattle.port_rows.specs.Changed.{placed, marked, waited}
use Rattle.port_rows.specs.Calls.{phy_at, first_open, sent, opening, closing, idle, chosen}
use Rattle.port_rows.specs.declared.Answer.{Answer}
use Rattle.port_rows.specs.declared.Done.{Done}
use Rattle.port.specs.Calls.{left_of}
use Rattle.port_invariant.proofs.Changes.{stored, Entered, changed}
use Rattle.port_invariant.proofs.Enters.{same_enters}
use Rattle.port_invariant.proofs.Holds.{Dated, dated_now, old_retry, old_first, old_loss, present_as, busy_kept, rests_kept, no_need, present_at, number_low, names_none}
use Rattle.port_invariant.proofs.Lates.{waits_on}
use Rattle.port_invariant.proofs.Links.{Linked, join, alone}
use Rattle.port_invariant.proofs.Ways.{by_chosen, waits}

-- the new records
module _ (r : Request) (last now : ℕ) (on : last ≤ now) (was : Present r last) where
  -- in progress on phy k
  busy_present : (k : ℕ) (pbc : Pbc) (awt : Awt) (first : Stamp) → Dated now first → Present (waited (placed r 2 k) pbc awt r.retry first) now
  busy_present k pbc awt first dated =
      present_as r last now on was (waited (placed r 2 k) pbc awt r.retry first) refl refl (omega arith) was.flags.cancelled (λ e. refl) was.flags.closed (old_retry r last now on was) dated (old_loss r last now on was) was.loss

  opening_present : (k : ℕ) (awt : Awt) → Present (waited (placed r 2 k) r.pbc awt r.retry (first_open r now)) now
  opening_present k awt = busy_present k r.pbc awt (first_open r now) (by_test (Dated now) (is_set r.first) (λ e. old_first r last now on was) (λ e. dated_now now))

  closing_present : Present (marked r r.cancelled 1) now
  closing_present =
      present_as r last now on was (marked r r.cancelled 1) refl refl was.flags.stage was.flags.cancelled was.cancelled (omega arith) (old_retry r last now on was) (old_first r last now on was) (old_loss r last now on was) was.loss

-- what a step asks of the phy
send_asks : {now : ℕ} {r : Request} {f : Phy} {step : ℕ} → Qualifies now r f step → step ≡ 1 → f.stage ≡ 3
send_asks (sends e ready stage reach) d = stage
send_asks (opens e ready stage) d = absurd (omega arith)
send_asks (closes e ready stage reach closed) d = absurd (omega arith)

open_asks : {now : ℕ} {r : Request} {f : Phy} {step : ℕ} → Qualifies now r f step → step ≡ 2 → f.stage ≡ 1
open_asks (sends e ready stage reach) d = absurd (omega arith)
open_asks (opens e ready stage) d = stage
open_asks (closes e ready stage reach closed) d = absurd (omega arith)

close_asks : {now : ℕ} {r : Request} {f : Phy} {step : ℕ} → Qualifies now r f step → step ≡ 3 → f.stage ≡ 3
close_asks (sends e ready stage reach) d = absurd (omega arith)
close_asks (opens e ready stage) d = absurd (omega arith)
close_asks (closes e ready stage reach closed) d = stage

module _ (p : Port) (l : List Request) (size : length l ≡ 32) (eight : length p.phys ≡ 8) (was : Kept p l) (now : ℕ) (on : p.last ≤ now) where
  abbrev Keeps : Done → Type 0
  Keeps d = Kept d.port (left_of l d)

  idle_keeps : Keeps (idle p now)
  idle_keeps = waits_on p l size eight was (idle p now).answer blank now on (λ h. absurd (omega arith)) (λ e. omega arith) (λ h. absurd (omega arith)) (idle p now).port

  module _ (b : Pick) (in_list : b.slot < 32) (in_port : b.phy < 8) (waits : (get_or l b.slot blank).stage ≡ 1) where
    abbrev r : Request
    r = get_or l b.slot blank

    abbrev f : Phy
    f = phy_at p b.phy

    there : Free r → ⊥
    there e = omega arith

    held : Present r p.last
    held = present_at p l was b.slot in_list there

    -- the phy becomes g and the request e
    takes : (g : Phy) → PhyKept p.count g b.phy → (e : Request) → Linked f g b.phy r e b.slot → e.head ≡ r.head → e.loss ≡ r.loss → Present e now → (a : Answer) → a.slot ≡ b.slot → (q : Port)
        → Kept (with_phy p b.phy g now) (left_of l (stored q a e no_loss))
    takes g kept e linked head loss full a same q =
        changed p l size eight was b.phy g a e no_loss now (record {
          number = in_port;
          time = on;
          timer = λ y c. none_changes c;
          phy = kept;
          linked = subst (λ (i : ℕ). Linked f g b.phy (get_or l i blank) e i) (sym same) linked;
          entered = λ h. subst (λ (i : ℕ). Entered p l i e no_loss now) (sym same) (same_enters p l was b.slot in_list there e now head loss full);
        }) q

    module _ (idle-phy : f.stage ≡ 3) where
      low : b.phy < p.count
      low = number_low p l was b.phy in_port (λ e. omega arith)

      free : f.slot < 32 → ⊥
      free = names_none p l was b.phy in_port 3 idle-phy (inr refl)

      protocol : f.protocol < 3
      protocol = (was.phys b.phy in_port).protocol

      sent_keeps : Keeps (sent p r b now)
      sent_keeps =
          takes g (busy_kept p.count g b.phy low (omega arith) protocol in_list (inl (inr (inl refl)))) e (join f g b.phy r e b.slot free refl (λ d. omega arith) refl refl in_port) refl refl
          (busy_present r p.last now on held b.phy r.pbc r.awt r.first (old_first r p.last now on held)) (sent p r b now).answer refl (sent p r b now).port
        where
          g : Phy
          g = staged_phy 4 b.slot f

          e : Request
          e = placed r 2 b.phy

      close_keeps : Keeps (closing p r b now)
      close_keeps =
          takes g (rests_kept p.count g b.phy low (omega arith) protocol refl (no_need g 5 refl (λ d. omega arith) (λ d. omega arith) (λ d. omega arith))) e
          (alone f g b.phy r e b.slot free (λ h. omega arith) (λ d. omega arith) (λ d. omega arith)) refl refl (closing_present r p.last now on held) (closing p r b now).answer refl (closing p r b now).port
        where
          g : Phy
          g = staged_phy 5 32 f

          e : Request
          e = marked r r.cancelled 1

    open_keeps : f.stage ≡ 1 → Keeps (opening p r b now)
    open_keeps unconnected =
        takes g (busy_kept p.count g b.phy (number_low p l was b.phy in_port (λ d. omega arith)) (omega arith) (omega arith) in_list (inl (inl refl))) e
        (join f g b.phy r e b.slot (names_none p l was b.phy in_port 1 unconnected (inl (omega arith))) refl (λ d. omega arith) refl refl in_port) refl refl
        (opening_present r p.last now on held b.phy e.awt) (opening p r b now).answer refl (opening p r b now).port
      where
        g : Phy
        g = opening_phy b.slot

        e : Request
        e = (opening p r b now).entry

  pub choose_keeps : (b : Pick) → Right p.phys now l b → Keeps (chosen p (get_or l b.slot blank) b now)
  unfolding chosen
  choose_keeps b (none nil) = idle_keeps
  choose_keeps b (one w) =
      let ready = waits w.fits in
      by_chosen Keeps p (get_or l b.slot blank) b now (λ e. sent_keeps b w.slot w.phy ready (send_asks w.fits e)) (λ e. open_keeps b w.slot w.phy ready (open_asks w.fits e))
      (λ e. close_keeps b w.slot w.phy ready (close_asks w.fits e)) idle_keeps
