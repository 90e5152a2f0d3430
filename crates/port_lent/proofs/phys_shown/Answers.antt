-- Each of the eight is as `phy_shown` promises. Assumes nothing.
use Rattle.std.proofs.Common.{◌≡◌, length, get_or, arith, sym, ◌∙◌}
use borrow.Author.Rules.{rules}
use Rattle.std.specs.Prelude.{map}
use Rattle.std.proofs.lemmas.List.{same_lists, length-map, get_or-map}
use Rattle.port_parts.specs.Parts.{absent_phy}
use Rattle.port_lent.specs.Lent.{phy_shown}
use Rattle.port_lent.proofs.phys_shown.Goals as goal

pub returns : goal.returns
returns c =
    let xs = c.args.phys in
    let ys = c.map.result in
    let long : length xs ≡ 8 = search rules in
    let kept : length ys ≡ 8 = search rules in
    let items = c.map.ensures.items in
    let eight = items.long in
    same_lists ys (map phy_shown xs) (kept ∙ sym long ∙ sym (length-map xs phy_shown)) (λ k d h.
    let call = items.at k absent_phy d (omega (arith, eight, h)) in
    let is : get_or ys k d ≡ phy_shown (get_or xs k absent_phy) = search rules in
    is ∙ sym (get_or-map phy_shown xs k absent_phy d (omega (arith, h, long, kept))))
