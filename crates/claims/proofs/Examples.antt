-- Document 01's P lines, one table under one claim: each is computed from the definitions, or is a case of their laws. Assumes nothing.
use mathlib.Core.Bool.{true, false}
use mathlib.Core.List.{◌∷◌}
use mathlib.Core.Path.{◌≡◌, refl}
use Prim.Native.Nat.{ℕ, ◌<◌}
use lib.ListN.{get_or, replicate}
use Rattle.open_frame.specs.Priority.{higher_than}
use Rattle.open_frame.specs.Wait.{wait_of}
use Rattle.open_frame.specs.declared.Head.{Head}
use Rattle.open_frame.specs.declared.OpenFrame.{OpenFrame}
use Rattle.transfer.specs.Rules.{unstarted}
use Rattle.transfer.specs.Steps.{limit}
use Rattle.transfer.specs.Calls.{start, frame as framed, run}
use Rattle.transfer.specs.Examples.{listing, listed, output}
use Rattle.transfer.proofs.Examples.{p10 as listing-is, p11 as sixteen}
use Rattle.port_parts.specs.Parts.{blank}
use Rattle.port_parts.specs.Reasons.{reason_of}
use Rattle.port_parts.specs.declared.Reason.{Reason}
use Rattle.port_rules.specs.Kept.{Free}
use Rattle.port_rows.specs.Calls.{phy_at}
use Rattle.port_rows.specs.declared.Failure.{Failure}
use Rattle.port.specs.Calls.{on_phy}
use Rattle.port.specs.History.{State, open_failed, leave}
use Rattle.port_invariant.proofs.Blocked.{blocked_again}
use Rattle.runs.specs.Output.{output_of}
use Rattle.runs.specs.Listing.{listed as listed-bytes, printed}
use Rattle.runs.specs.Typed.{typed_input, typed_output}
use Rattle.runs.proofs.Listing.{listing as text-is}
use Rattle.runs.proofs.Facts.{listed as listed-typed}
use Rattle.open_frame.proofs.Priority.{neither}

-- an OPEN frame with this AWT and source, whatever its other fields
abbrev frame : Head → ℕ → ℕ → ℕ → OpenFrame
frame h pbc awt source = record {
  head = record { initiator = h.initiator; protocol = h.protocol; features = h.features; rate = h.rate; tag = h.tag; destination = h.destination; source = source };
  pbc = record { 0 = pbc };
  awt = record { 0 = awt };
}

-- 01 PROMISE.5: The P lines are one proved table under a single claim; the rest, and published vectors, are run.
pub record Examples : Type 0 where
  -- 01 OPEN.7
  -- 01 EXAMPLE.1: P1-P6, waits: 32,767: itself; 32,768 and 33,767: 32,768; 33,768: 32,769; 32,799,767: 65,534; 32,799,768: 65,535.
  pub p1 : wait_of 32767 ≡ 32767
  pub p2 : wait_of 32768 ≡ 32768
  pub p3 : wait_of 33767 ≡ 32768
  pub p4 : wait_of 33768 ≡ 32769
  pub p5 : wait_of 32799767 ≡ 65534
  pub p6 : wait_of 32799768 ≡ 65535
  -- 01 EXAMPLE.2: P7 AWT 2 beats AWT 1 with a larger source.
  pub p7 : (h k : Head) (p q source larger : ℕ) → source < larger → higher_than (frame h p 2 source) (frame k q 1 larger) ≡ true
  -- 01 EXAMPLE.3: P8 equal both: not higher.
  pub p8 : (h k : Head) (p q awt source : ℕ) → higher_than (frame h p awt source) (frame k q awt source) ≡ false
  -- 01 PORT.19
  -- 01 EXAMPLE.4: P9 PBC 255 blocked again: 255.
  -- by the call of Open Failed, of the phy that names the request, which is there behind it
  pub p9 : (s : State) (x : Failure) → reason_of x.why ≡ Reason.PathwayBlocked → (on_phy s.list s.port x.phy).pbc.0 ≡ 255 → let slot = (phy_at s.port x.phy).slot in slot < 32 → (Free (get_or (leave (open_failed x) s).list slot blank) → ⊥) → (get_or (leave (open_failed x) s).list slot blank).pbc.0 ≡ 255
  -- 01 READ.5 01 READ.8
  -- 01 EXAMPLE.5: P10 the listing.
  pub p10 : listing limit 1 listed unstarted ≡ output
  -- 01 TEXT.6
  -- and of the text: the listing's bytes in give the listing's bytes out
  pub p10_text : output_of listed-bytes ≡ printed
  -- the same, typed
  pub p10_bytes : output_of typed_input ≡ typed_output
  -- 01 EXAMPLE.6: P11 B 0, M 4, N 100, sixteen frames, no answer: balance 0, unanswered 16.
  pub p11 : let s = run limit (start 0 100 4 0 ∷ replicate 16 framed) unstarted in (s.balance ≡ 0) × (s.unanswered ≡ 16)

pub examples : Examples
examples = record {
  p1 = refl;
  p2 = refl;
  p3 = refl;
  p4 = refl;
  p5 = refl;
  p6 = refl;
  p7 = λ h k p q source larger l. refl;
  p8 = λ h k p q awt source. neither (frame h p awt source) (frame k q awt source) refl refl;
  p9 = blocked_again;
  p10 = listing-is;
  p10_text = text-is;
  p10_bytes = listed-typed;
  p11 = sixteen;
}
