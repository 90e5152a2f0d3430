-- Whom an XFER_RDY names and whom data comes from: the one is written as it was given, and the other is refused where it is another's. Assumes nothing.
use Prim.Native.Nat.{ℕ, ◌^◌, ◌≤◌, ◌<◌}
use mathlib.Core.Bool.{false, ◌&&◌}
use mathlib.Core.List.{List}
use mathlib.Core.Path.{◌≡◌, refl, sym, ap, ◌∙◌}
use lib.Dec.{eqb}
use lib.ListN.{take}
use borrow.Author.Tests.{eqb-true}
use Rattle.laws.proofs.Bools.{impossible, and_left, and_right}
use Rattle.ssp_frame.specs.Out.{out_of}
use Rattle.write.specs.Calls.{is_refused}
use Rattle.write.specs.declared.Write.{Write}
use Rattle.write.specs.declared.Stepped.{Stepped}
use Rattle.take.specs.Ask.{head_of, ask_step, ask_bytes}
use Rattle.take.specs.Take.{take_step}
use Rattle.take_history.specs.History.{Names, Comes}
use Rattle.take_history.proofs.Asks as asking
use Rattle.take_history.proofs.Takes as taking

module _ (k : ℕ) (s : Write) (destination source tag : ℕ) where
  pub names : k ≤ 65536 → s.tags < 2 ^ k → tag < 65536 → (others : ℕ) (out : List ℕ) → is_refused (ask_step k others s destination source out).answer ≡ false
      → Names (take 36 (ask_bytes k others s destination source tag out)) destination source tag
  names few small typed others out on = by (asking.outcome k others s destination source tag out few small typed)
    where
      by : asking.Outcome k others s destination source tag out → Names (take 36 (ask_bytes k others s destination source tag out)) destination source tag
      by (asking.kept r) = impossible (sym on ∙ ap (λ (st : Stepped). is_refused st.answer) r.step)
      by (asking.passed p) = record { head = head_of k others s destination source tag; read = p.read; destined = refl; sourced = refl; tagged = refl }

  pub comes : (frame store : List ℕ) → is_refused (take_step k s destination source tag frame store).answer ≡ false → Comes frame destination source tag
  comes frame store on = by (taking.outcome k s destination source tag frame store)
    where
      by : taking.Outcome k s destination source tag frame store → Comes frame destination source tag
      by (taking.kept r) = impossible (sym on ∙ ap (λ (st : Stepped). is_refused st.answer) r.step)
      by (taking.passed p) =
          let h = (out_of frame).head in
          let rest = and_right (eqb h.destination source) (eqb h.source destination && eqb h.tag tag) p.ours in
          record {
            frame = out_of frame;
            read = p.read;
            to = eqb-true h.destination source (and_left (eqb h.destination source) (eqb h.source destination && eqb h.tag tag) p.ours);
            from = eqb-true h.source destination (and_left (eqb h.source destination) (eqb h.tag tag) rest);
            tagged = eqb-true h.tag tag (and_right (eqb h.source destination) (eqb h.tag tag) rest);
          }
