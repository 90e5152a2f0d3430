-- The ways out of `xfer` are its causes of refusal, one by one, and then `asked` with the tag that was found. Assumes nothing.
use Rattle.std.proofs.Common.{sym, ◌∙◌, rules}
use Rattle.write.specs.Steps.{limit, free}
use Rattle.write.proofs.Calls.{ask_placed, askable, found}
use Rattle.write.proofs.Write.xfer.Goals as goal

pub invariant_of-free : goal.invariant_of-free
invariant_of-free c =
    let a = c.args in
    record { holds = ask_placed limit a.self (search rules) (sym c.keeps_rules.ensures ∙ c.if-not-keeps_rules.false) (sym c.asking.ensures ∙ c.if-not-asking.false) }

pub asked-requires : goal.asked-requires
asked-requires c =
    let a = c.args in
    let is = found (free limit a.others a.self) limit c.free.ensures c.in-Some.is in
    askable limit a.self (search rules) (sym c.keeps_rules.ensures ∙ c.if-not-keeps_rules.false) a.others (search rules) (sym c.asking.ensures ∙ c.if-not-asking.false) is.0 is.1
