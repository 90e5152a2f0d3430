-- The ways out of `get_be` are the cases of its definition: a field that is too wide or doesn't lie within s, and one that fits.
-- Assumes nothing.
use Rattle.std.proofs.Common.{ap, ◌∙◌, arith, ◌+◌, ◌-◌, ◌≤◌, ◌<◌, ◌≡◌, length, take, drop, List, ℕ}
use native.Mathlib.Nat.{one-le-pow}
use borrow.Author.Tests.{lt-leb}
use Rattle.laws.proofs.Lists.{lent_tail}
use Rattle.wire.specs.Be.{be_at}
use Rattle.wire.proofs.Laws.{fit, too_wide, outside, get_in, get_out, be_at_lt, be_at_part, read_at_end}
use Rattle.wire.proofs.get_be.Goals as goal

pub returns-then-n-gt8 : goal.returns-then-n-gt8
returns-then-n-gt8 c = let a = c.args in
    record { number = get_out a.s.now a.at a.n (too_wide a.s.now a.at a.n c.if-n-gt8.true); small = one-le-pow a.n 256 (omega arith) }

pub returns-in_default : goal.returns-in_default
returns-in_default c = let a = c.args in
    let far : length a.s.now < a.at + a.n = omega (arith, c.in_default.ensures.lookup) in
    record { number = get_out a.s.now a.at a.n (outside a.s.now a.at a.n (lt-leb (a.at + a.n) (length a.s.now) far)); small = one-le-pow a.n 256 (omega arith) }

pub returns-in_default-get : goal.returns-in_default-get
returns-in_default-get c = let a = c.args in
    let far : length a.s.now < a.at + a.n = omega (arith, c.in-Some.ensures.lookup, c.in_default-get.ensures.lookup) in
    record { number = get_out a.s.now a.at a.n (outside a.s.now a.at a.n (lt-leb (a.at + a.n) (length a.s.now) far)); small = one-le-pow a.n 256 (omega arith) }

-- the field stands behind zeros in a block of eight bytes
pub returns : goal.returns
returns c =
    let a = c.args in
    let s = a.s.now in
    let room : a.at + a.n ≤ length s = omega (arith, c.in-Some.ensures.lookup, c.in-Some-get.ensures.lookup) in
    let width : a.n - 0 ≡ a.n = omega arith in
    let rest : c.in-Some.rest.now ≡ drop a.at s = c.in-Some.ensures.lookup.0.2 ∙ lent_tail a.at s in
    let field : c.copy_from_slice.new.self ≡ take a.n (drop a.at s) = c.copy_from_slice.ensures.after ∙ c.in-Some-get.ensures.lookup.0.2 ∙ (λ i. take (width i) (rest i)) in
    let is : c.from_be_bytes-value.result ≡ be_at s a.at a.n =
    read_at_end c.copy_from_slice.new.self a.n c.from_be_bytes-value.result c.if-n-gt8.false c.from_be_bytes-value.ensures
    ∙ ap (λ (l : List ℕ). be_at l 0 a.n) field
    ∙ be_at_part s a.at a.n a.n (omega arith) in
    let field = get_in s a.at a.n (fit s a.at a.n c.if-n-gt8.false room) in
    record { number = omega (arith, is, field); small = omega (arith, is, be_at_lt s a.at a.n (λ i. (c.type_inv.s i).fits)) }
