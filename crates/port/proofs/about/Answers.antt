-- The record of the slot that the phy names, and what the core leaves of it, is what a call about a phy speaks of. Assumes nothing.
use Rattle.std.proofs.Common.{◌≡◌, refl, ap, ◌∙◌, subst, get_or, Bool}
use Rattle.port_parts.specs.Parts.{blank}
use Rattle.port_parts.specs.declared.Phy.{Phy}
use Rattle.port_parts.specs.declared.Request.{Request}
use Rattle.port_rules.specs.Rules.{rules}
use Rattle.port_rows.specs.Calls.{phy_at}
use Rattle.port.specs.Calls.{short, on_phy}
use Rattle.port.proofs.Steps.{looked}
use Rattle.port.proofs.about.Goals as goal

pub returns : goal.returns
returns c c' d decides =
    let a = c'.args in
    let l = a.list.now in
    let same = c'.in-Ok.ensures.1.same in
    let named = ap (λ (f : Phy). f.slot) c'.phy_at.ensures in
    let kept : c'.survey-kept.result.0 ≡ rules a.p l = c'.survey-kept.ensures.kept ∙ ap (rules a.p) same in
    let entry : c'.load-r.result ≡ on_phy l a.p a.phy = c'.load-r.ensures ∙ (λ i. get_or (same i) (named i) blank) in
    -- the core is any function of the record and of whether the rules are kept: whatever it may leave of these two is d
    let left : c'.core.result ≡ d = decides c'.core.result (subst (λ (f : Request × Bool). c.F.FnOnce.post a.core (f.0, (f.1, tt)) c'.core.result) (λ i. (entry i, kept i)) c'.core.ensures) in
    looked (λ l p k. (phy_at p k).slot) (λ f k. f.1) (λ p r f k. d) (λ l p k. d) (λ l p k. refl) l a.p a.phy (short a.p)
    c'.in-Ok.ensures.1 c'.survey-kept.ensures.kept named c'.load-r.ensures left c'.left.ensures
