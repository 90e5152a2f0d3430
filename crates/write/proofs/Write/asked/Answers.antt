-- A tag that is out of the set is added by its bit. Assumes nothing.
use Rattle.std.specs.Prelude.{Ok}
use Prim.Native.Nat.{◌+◌, ◌^◌}
use mathlib.Core.Path.{◌≡◌, ap, ◌∙◌}
use lib.Bits.{bit_or}
use Rattle.laws.proofs.Tags.{or_adds}
use Rattle.write.specs.Steps.{say, with}
use Rattle.write.specs.declared.Answer.{Answer}
use Rattle.write.specs.declared.Phase.{Phase}
use Rattle.write.proofs.Write.asked.Goals as goal

pub returns : goal.returns
returns c =
    let s = c.args.self in
    let t = c.args.tag in
    let adds : bit_or s.tags c.alone.result ≡ s.tags + 2 ^ t = ap (bit_or s.tags) c.alone.ensures ∙ or_adds s.tags t c.requires.1 in
    c.in_phase.ensures ∙ (λ i. say (Ok Answer.Sent) (with s s.next t (adds i) s.used Phase.Wait))
