-- `put_iu` stores the words of the row one behind the other, and leaves what stands before and behind them. Assumes nothing.
use mathlib.Core.Path.{◌≡◌, refl, ap, ◌∙◌}
use mathlib.Core.List.{List, ◌++◌}
use Prim.Native.Nat.{ℕ, ◌+◌, ◌*◌}
use native.Mathlib.Omega.{arith}
use lib.ListN.{take, drop}
use Rattle.wire.proofs.Fields.{after, puts_are}
use Rattle.ssp_frame.proofs.Words.{iu_words, iu_words_are}
use Rattle.ssp_frame.proofs.response.put_iu.Goals as goal

pub returns : goal.returns
returns c =
    let u = c.args.u in
    let out = c.args.out.now in
    let none : out ≡ out = refl in
    let e24 = after 24 8 0 none c.put_be.ensures in
    let e32 = after 32 4 (u.present * 256 + u.status) e24 c.put_be-2.ensures in
    let e36 = after 36 4 0 e32 c.put_be-3.ensures in
    let e40 = after 40 4 u.sense e36 c.put_be-4.ensures in
    let e44 = after 44 4 u.response e40 c.put_be-5.ensures in
    let present = c.struct_known-1.given in
    let status = c.struct_known-2-1.given in
    e44
    ∙ puts_are (iu_words u) refl 24 out c.requires
    ∙ ap (λ (l : List ℕ). take 24 out ++ (l ++ drop 48 out)) (iu_words_are u (omega (arith, present)) (omega (arith, status)))
