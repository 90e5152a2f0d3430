-- A test of fields is true exactly if each field is in its range. Assumes nothing.
use mathlib.Core.Path.{◌≡◌}
use mathlib.Core.Bool.{true}
use Prim.Native.Nat.{◌≤◌, ◌<◌}
use lib.Dec.{ltb, leb}
use borrow.Author.Tests.{ltb-true, leb-true, lt-ltb, le-leb}
use Rattle.laws.proofs.Bools.{and_left, and_right, and_true}
use Rattle.open_frame.specs.Open.{head_listed}
use Rattle.open_frame.specs.declared.Head.{Head}

pub record Listed (h : Head) : Type 0 where
  pub initiator : h.initiator < 2
  pub protocol : h.protocol < 3
  pub features : h.features < 16
  pub least : 8 ≤ h.rate
  pub most : h.rate < 11

pub listed_is : (h : Head) → head_listed h ≡ true → Listed h
listed_is h e1 =
    let e2 = and_right (ltb h.initiator 2) _ e1 in
    let e3 = and_right (ltb h.protocol 3) _ e2 in
    let e4 = and_right (ltb h.features 16) _ e3 in
    record {
      initiator = ltb-true h.initiator 2 (and_left (ltb h.initiator 2) _ e1);
      protocol = ltb-true h.protocol 3 (and_left (ltb h.protocol 3) _ e2);
      features = ltb-true h.features 16 (and_left (ltb h.features 16) _ e3);
      least = leb-true 8 h.rate (and_left (leb 8 h.rate) _ e4);
      most = ltb-true h.rate 11 (and_right (leb 8 h.rate) _ e4);
    }

pub is_listed : (h : Head) → Listed h → head_listed h ≡ true
is_listed h l =
    and_true (lt-ltb h.initiator 2 l.initiator)
    (and_true (lt-ltb h.protocol 3 l.protocol)
    (and_true (lt-ltb h.features 16 l.features) (and_true (le-leb 8 h.rate l.least) (lt-ltb h.rate 11 l.most))))
