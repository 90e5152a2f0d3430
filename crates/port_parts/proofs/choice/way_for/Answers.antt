-- Each way out of `way_for` is a case of `way_of`: the sets are those of the three rules. Assumes nothing.
use mathlib.Core.Path.{◌≡◌}
use lib.ListN.{length}
use Rattle.port_parts.proofs.Passes.{by_send, by_open, by_close, by_none}
use borrow.Author.Rules.{rules}
use Rattle.port_parts.proofs.choice.way_for.Goals as goal

pub returns-then-free-gt0 : goal.returns-then-free-gt0
returns-then-free-gt0 c = let a = c.args in
    let eight : length a.phys ≡ 8 = search rules in
    let is = c.free_sets-free in
    by_send a.phys a.r eight is.result is.ensures c.if-free-gt0.true

pub returns-then-free-gt0-2 : goal.returns-then-free-gt0-2
returns-then-free-gt0-2 c =
    let a = c.args in
    let eight : length a.phys ≡ 8 = search rules in
    let is = c.free_sets-free in
    by_open a.phys a.r eight is.result is.ensures c.if-free-gt0.false c.if-free-gt0-2.true

pub returns-then-r-free : goal.returns-then-r-free
returns-then-r-free c =
    let a = c.args in
    let eight : length a.phys ≡ 8 = search rules in
    let is = c.free_sets-free in
    by_close a.phys a.r eight is.result is.ensures c.if-free-gt0.false c.if-free-gt0-2.false c.if-r-free.true

pub returns : goal.returns
returns c =
    let a = c.args in
    let eight : length a.phys ≡ 8 = search rules in
    let is = c.free_sets-free in
    by_none a.phys a.r eight is.result is.ensures c.if-free-gt0.false c.if-free-gt0-2.false c.if-r-free.false
