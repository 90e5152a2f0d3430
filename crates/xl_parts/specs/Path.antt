-- Which states hold or use a path, and the steps that release it. Source document 001 has its states of BREAK release any path. Assumes
-- nothing.
use Rattle.std.specs.Prelude.{Bool, true, false, not, ◌&&◌}
use Rattle.xl_parts.specs.declared.Phase.{Phase}
use Rattle.xl_parts.specs.declared.Phase.TheVariants.{Xl0, Xl1, Xl2, Xl3, Xl4, Xl5, Xl6, Xl7, Xl8, Xl9, Xl10}
use Rattle.xl_parts.specs.declared.State.{State}

abbrev pub on_path : Phase → Bool
on_path Xl0 = false
on_path Xl1 = false
on_path Xl2 = true
on_path Xl3 = true
on_path Xl4 = false
on_path Xl5 = true
on_path Xl6 = true
on_path Xl7 = true
on_path Xl8 = true
on_path Xl9 = false
on_path Xl10 = false

abbrev pub releases : State → State → Bool
releases old new = on_path old.phase && not (on_path new.phase)
