-- Each of the eight is as `phy_of` promises. Assumes nothing.
use Rattle.std.proofs.Common.{◌≡◌, length, get_or, arith, sym, ◌∙◌}
use borrow.Author.Rules.{rules}
use Rattle.std.specs.Prelude.{map}
use Rattle.std.proofs.lemmas.List.{same_lists, length-map, get_or-map}
use Rattle.port_lent.specs.Lent.{no_phy, phy_of}
use Rattle.port_lent.proofs.phys_of.Goals as goal

pub returns : goal.returns
returns c =
    let xs = c.args.phys in
    let ys = c.map.result in
    let long : length xs ≡ 8 = search rules in
    let kept : length ys ≡ 8 = search rules in
    let items = c.map.ensures.items in
    let eight = items.long in
    same_lists ys (map phy_of xs) (kept ∙ sym long ∙ sym (length-map xs phy_of)) (λ k d h.
    let call = items.at k no_phy d (omega (arith, eight, h)) in
    let is : get_or ys k d ≡ phy_of (get_or xs k no_phy) = search rules in
    is ∙ sym (get_or-map phy_of xs k no_phy d (omega (arith, h, long, kept))))
