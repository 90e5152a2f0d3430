-- Past the end nothing stands, so that b's place from there on is the place itself. Assumes nothing.
use Rattle.std.proofs.Common.{◌≡◌, Option, sym, ap, ◌∙◌, ◌+◌, arith, ℕ, length, drop}
use Rattle.std.specs.Option.{unwrap_or}
use Rattle.laws.proofs.Lists.{lent_tail}
use Rattle.lines.specs.Parts.{place_of}
use Rattle.lines.proofs.Parts.{place_is, place_le, past}
use Rattle.lines.proofs.place_from.Goals as goal

pub overflow_add-result : goal.overflow_add-result
overflow_add-result c =
    let rest = c.in-Some.rest.now in
    let is : c.unwrap_or.result ≡ place_of c.args.b rest = c.unwrap_or.ensures ∙ ap (λ (k : Option ℕ). unwrap_or k (length rest)) c.place_of.ensures ∙ place_is c.args.b rest in
    omega (arith, is, place_le c.args.b rest, c.in-Some.ensures.lookup)

pub returns-in-Some : goal.returns-in-Some
returns-in-Some c =
    let s = c.args.s.now in
    let rest : c.in-Some.rest.now ≡ drop c.args.from s = c.in-Some.ensures.lookup.0.2 ∙ lent_tail c.args.from s in
    let is : c.unwrap_or.result ≡ place_of c.args.b c.in-Some.rest.now = c.unwrap_or.ensures ∙ ap (λ (k : Option ℕ). unwrap_or k (length c.in-Some.rest.now)) c.place_of.ensures ∙ place_is c.args.b c.in-Some.rest.now in
    ap (λ (k : ℕ). c.args.from + k) (is ∙ ap (place_of c.args.b) rest)

pub returns-in-None : goal.returns-in-None
returns-in-None c = sym (past c.args.b c.args.s.now c.args.from (omega (arith, c.in-None.ensures.lookup)))
