-- How a call's code goes by its checks: each function that it calls answers a test or a row of the definitions. Assumes nothing.
use mathlib.Core.Path.{◌≡◌, sym, ◌∙◌}
use mathlib.Core.Bool.{Bool, true, false, not}
use borrow.Author.Tests.{not-true, not-false}
use Rattle.refusals.specs.Causes.{refuse}
use Rattle.reply.specs.Steps.{refused, causes}
use Rattle.reply.specs.declared.Reply.{Reply}
use Rattle.reply.specs.declared.Stepped.{Stepped}

-- a function's answer x is a test t of the definitions, and the code went on by it
module _ {x t : Bool} (is : x ≡ t) where
  pub off : not x ≡ true → t ≡ false
  off e = sym is ∙ not-true x e

  pub on : not x ≡ false → t ≡ true
  on e = sym is ∙ not-false x e

-- what `checked` gives, where what it was given is what the definitions say
pub checks : (s : Reply) (row : Stepped) {x t : Bool} {next a : Stepped}
    → a ≡ refuse (refused s) (causes x s) next → x ≡ t → next ≡ row → a ≡ refuse (refused s) (causes t s) row
checks s row by unfit is = by ∙ (λ i. refuse (refused s) (causes (unfit i) s) (is i))
