-- Document 01, 'Port': what choose answers of its pick. Assumes nothing.
use Rattle.refusals.specs.declared.Refusal.{Refusal}
use Rattle.std.specs.Prelude.{ℕ, ◌≡◌, cond, eqb, Ok, Result}
use Rattle.port_parts.specs.Step as steps
use Rattle.port_parts.specs.declared.Pick.{Pick}
use Rattle.port_rows.specs.declared.Answer.{Answer}
use Rattle.port_rows.specs.declared.Word.{Word}
use Rattle.port_rows.specs.declared.Word.TheVariants.{Nothing, Send, Open, Close}

-- 01 PORT.13
abbrev pub word_for : ℕ → Result Word Refusal
word_for step = cond (eqb step steps.sends) (Ok Send) (cond (eqb step steps.opens) (Ok Open) (cond (eqb step steps.closes) (Ok Close) (Ok Nothing)))

-- the answer names the step, the slot and the phy of the pick
pub record Tells (b : Pick) (a : Answer) : Type 0 where
  pub word : a.word ≡ word_for b.step
  pub slot : (a.word ≡ Ok Nothing → ⊥) → a.slot ≡ b.slot
  pub phy : (a.word ≡ Ok Nothing → ⊥) → a.phy ≡ b.phy
