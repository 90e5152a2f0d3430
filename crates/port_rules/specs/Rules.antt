-- Document 01, 'Port': the rules of a lent state, as tests. Assumes nothing.
use Rattle.std.specs.Prelude.{ℕ, ◌+◌, ◌-◌, Bool, true, not, cond, ◌&&◌, ◌||◌, List, eqb, leb, ltb, get_or}
use Rattle.laws.specs.Folds.{fold_to, fold_from, all_below}
use Rattle.open_frame.specs.Open.{head_listed}
use Rattle.port_parts.specs.Parts.{yes, protocols, no_slot, absent_phy, blank, in_range, is_set, is_disabled, is_opening, is_closing_idle, has_frame_out, names, is_free, is_in_progress, is_ssp, same_key, same_nexus}
use Rattle.port_parts.specs.PhyStage as phy-stage
use Rattle.port_parts.specs.RequestStage as request-stage
use Rattle.port_parts.specs.declared.Phy.{Phy}
use Rattle.port_parts.specs.declared.Port.{Port}
use Rattle.port_parts.specs.declared.Request.{Request}
use Rattle.port_parts.specs.declared.Stamp.{Stamp}
use Rattle.port_rules.specs.declared.Compared.{Compared}

-- 01 PORT.7: an opening phy or one with a frame out names one, a closing one may, no other does
abbrev pub must_name : Phy → Bool
must_name p = is_opening p || has_frame_out p

abbrev pub names_right : Phy → Bool
names_right p = leb p.slot no_slot && ((not (must_name p) || names p) && (not (names p) || (must_name p || is_closing_idle p)))

-- phy k of a port that has `count` of them
abbrev pub phy_rule : ℕ → Phy → ℕ → Bool
phy_rule count p k = leb p.stage phy-stage.closing_sending && (ltb p.protocol protocols && (names_right p && (ltb k count || is_disabled p)))

unfoldable pub port_rule : Port → Bool
port_rule p = in_range p.count p.loss && all_below (λ k. phy_rule p.count (get_or p.phys k absent_phy) k) 8

-- request r is in progress on phy k
abbrev pub on : Request → ℕ → Bool
on r k = is_in_progress r && eqb r.phy k

-- 01 PORT.6: a request in progress and its phy name each other
abbrev pub paired_at : Phy → ℕ → Request → ℕ → Bool
paired_at p k r i = (not (eqb p.slot i) || on r k) && (not (on r k) || eqb p.slot i)

unfoldable pub paired : List Phy → Request → ℕ → Bool
paired ps r i = (not (is_in_progress r) || ltb r.phy 8) && all_below (λ k. paired_at (get_or ps k absent_phy) k r i) 8

-- 01 PORT.9: no time stamp is past the last time
abbrev pub stamps_rule : Request → ℕ → Bool
stamps_rule r last = leb r.submitted last && (leb r.retry.at last && (leb r.first.at last && leb r.loss.at last))

-- numbers that stand for a stage or for yes and no
abbrev pub flags_rule : Request → Bool
flags_rule r =
    leb r.stage request-stage.in_progress
    && (leb r.cancelled yes && (leb r.closed yes && (leb r.retry.set yes && (leb r.first.set yes && leb r.loss.set yes))))

-- 01 PORT.4: Rules of a state: fields as in OPEN
-- 01 PORT.8: only such requests are cancelled
unfoldable pub present_rule : Request → ℕ → Bool
present_rule r last =
    flags_rule r
    && (head_listed r.head && ((not (eqb r.cancelled yes) || is_in_progress r) && (stamps_rule r last && (is_ssp r.head || not (is_set r.loss)))))

unfoldable pub request_rule : Port → Request → ℕ → Bool
request_rule p r i = paired p.phys r i && (is_free r || present_rule r p.last)

abbrev pub each_of : Port → List Request → Bool
each_of p l = fold_to blank (λ kept r i. kept && request_rule p r i) (port_rule p) l 32

-- both are off, or both run from one time
abbrev pub same_timer : Stamp → Stamp → Bool
same_timer s t = ((not (is_set s) || is_set t) && (not (is_set t) || is_set s)) && (not (is_set s) || eqb s.at t.at)

-- 01 PORT.5: no two requests share destination, protocol and tag
-- 01 PORT.10: one loss timer at most per destination, only with an SSP request present.
abbrev pub apart_rule : Compared → Request → Bool
apart_rule x r = is_free r || (not (same_key x.head r.head) && (not (same_nexus x.head r.head) || same_timer x.loss r.loss))

abbrev pub apart_step : Bool → Request → ℕ → Compared → Bool
apart_step kept r i x = kept && apart_rule x r

-- the request at place i is held against those behind it, a free record against none
abbrev pub compared_of : Request → ℕ → Compared
compared_of r i = record { head = r.head; loss = r.loss; from = cond (is_free r || leb 32 i) 32 (i + 1) }

abbrev pub apart_from : List Request → Compared → Bool
apart_from l x = fold_from blank (λ kept r i. apart_step kept r i x) true l x.from (32 - x.from)

abbrev pub apart_of : List Request → Bool
apart_of l = fold_to blank (λ kept r i. kept && apart_from l (compared_of r i)) true l 32

unfoldable pub rules : Port → List Request → Bool
rules p l = each_of p l && apart_of l
