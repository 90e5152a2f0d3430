-- FRAME's own answer says whether it is refused. Assumes nothing.
use Rattle.std.proofs.Common.{sym, ap, ◌∙◌}
use Rattle.std.specs.Result.{is_ok}
use Rattle.transfer.specs.declared.Stepped.{Stepped}
use Rattle.transfer_lent.proofs.Length.{sends, stays}
use Rattle.transfer_lent.proofs.lent.next_length.Goals as goal

pub returns-then-is_ok : goal.returns-then-is_ok
returns-then-is_ok c = c.frame_length.ensures ∙ sends c.args.t (ap (λ (r : Stepped). is_ok r.answer) (sym c.frame.ensures) ∙ sym c.is_ok.ensures.value ∙ c.if-is_ok.true)

pub returns : goal.returns
returns c = stays c.args.t (ap (λ (r : Stepped). is_ok r.answer) (sym c.frame.ensures) ∙ sym c.is_ok.ensures.value ∙ c.if-is_ok.false)
