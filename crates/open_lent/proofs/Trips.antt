-- Numbers and frame say the same: member by member, where the two that C sees as a byte are one. Assumes nothing.
use Prim.Native.Nat.{ℕ, ◌%◌}
use mathlib.Core.Bool.{true}
use mathlib.Core.Path.{◌≡◌, refl, sym}
use native.Mathlib.Omega.{arith}
use lib.Dec.{eqb}
use Rattle.laws.specs.Tests.{Says}
use Rattle.laws.proofs.Tests.{equal, both}
use Rattle.open_frame.specs.Open.{head_listed}
use Rattle.open_frame.specs.declared.OpenFrame.{OpenFrame}
use Rattle.open_frame.proofs.Fields.{Listed, listed_is}
use Rattle.open_lent.specs.declared.Open.{Open}
use Rattle.open_lent.specs.Lent.{frame_of, shown, clear, formed, is_clear, Narrow}
use Rattle.open_lent.specs.Typed.{typed_open, typed_frame}

-- a listed frame's features and rate are bytes
pub narrow : (f : OpenFrame) → head_listed f.head ≡ true → Narrow f
narrow f ok = let l : Listed f.head = listed_is f.head ok in record { features = omega (arith, l.features); rate = omega (arith, l.most) }

-- what is shown says the frame
pub frame_back : (f : OpenFrame) → Narrow f → frame_of (shown f) ≡ f
frame_back f n =
    let features : f.head.features % 256 ≡ f.head.features = omega (arith, n.features) in
    let rate : f.head.rate % 256 ≡ f.head.rate = omega (arith, n.rate) in
    λ i. record {
      head = record {
        initiator = f.head.initiator;
        protocol = f.head.protocol;
        features = features i;
        rate = rate i;
        tag = f.head.tag;
        destination = f.head.destination;
        source = f.head.source;
      };
      pbc = f.pbc;
      awt = f.awt;
    }

pub shown_formed : (f : OpenFrame) → formed (shown f) ≡ true
shown_formed f = refl

-- the zero members are 0
pub formed_says : (o : Open) → Says (formed o) ((o.zero4 ≡ 0) × ((o.zero2 ≡ 0) × (o.zero1 ≡ 0)))
formed_says o = both (equal o.zero4 0) (both (equal o.zero2 0) (equal o.zero1 0))

-- what a lent frame says is shown as it was lent
pub lent_back : (o : Open) → formed o ≡ true → Narrow (frame_of o) → shown (frame_of o) ≡ o
lent_back o ok n =
    let z = (formed_says o).0 ok in
    let features : o.features % 256 ≡ o.features = omega (arith, n.features) in
    let rate : o.rate % 256 ≡ o.rate = omega (arith, n.rate) in
    λ i. record {
      destination = o.destination;
      source = o.source;
      zero4 = (sym z.0) i;
      tag = o.tag;
      awt = o.awt;
      zero2 = (sym z.1.0) i;
      initiator = o.initiator;
      protocol = o.protocol;
      features = features i;
      rate = rate i;
      pbc = o.pbc;
      zero1 = (sym z.1.1) i;
    }

-- no frame is all zeros
pub clear_is : (o : Open) → is_clear o ≡ true → o ≡ clear
clear_is o e =
    let h = says.0 e in
    λ i. record {
      destination = h.0 i;
      source = h.1.0 i;
      zero4 = h.1.1.1.1.1.1.1.1.1.0 i;
      tag = h.1.1.0 i;
      awt = h.1.1.1.0 i;
      zero2 = h.1.1.1.1.1.1.1.1.1.1.0 i;
      initiator = h.1.1.1.1.0 i;
      protocol = h.1.1.1.1.1.0 i;
      features = h.1.1.1.1.1.1.0 i;
      rate = h.1.1.1.1.1.1.1.0 i;
      pbc = h.1.1.1.1.1.1.1.1.0 i;
      zero1 = h.1.1.1.1.1.1.1.1.1.1.1 i;
    }
  where
    zero : (n : ℕ) → Says (eqb n 0) (n ≡ 0)
    zero n = equal n 0

    says : Says (is_clear o) ((o.destination ≡ 0) × ((o.source ≡ 0) × ((o.tag ≡ 0) × ((o.awt ≡ 0) × ((o.initiator ≡ 0) × ((o.protocol ≡ 0) × ((o.features ≡ 0) × ((o.rate ≡ 0) × ((o.pbc ≡ 0) × ((o.zero4 ≡ 0) × ((o.zero2 ≡ 0) × (o.zero1 ≡ 0))))))))))))
    says =
        both (zero o.destination)
        (both (zero o.source)
        (both (zero o.tag)
        (both (zero o.awt)
        (both (zero o.initiator)
        (both (zero o.protocol)
        (both (zero o.features) (both (zero o.rate) (both (zero o.pbc) (formed_says o)))))))))

-- each number stands in its own place
pub typed_says : frame_of typed_open ≡ typed_frame
typed_says = refl

pub typed_shown : shown typed_frame ≡ typed_open
typed_shown = refl
