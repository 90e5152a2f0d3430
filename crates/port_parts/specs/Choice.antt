-- Document 01, 'Port': which request goes next, and on which phy. Assumes nothing.
use Rattle.std.specs.Prelude.{ℕ, ◌+◌, ◌*◌, Bool, not, cond, ◌&&◌, ◌||◌, List, eqb, leb, ltb}
use Rattle.laws.specs.Sets.{bit, bits_of, first_of, count_of}
use Rattle.laws.specs.Folds.{fold_to}
use Rattle.open_frame.specs.declared.Head.{Head}
use Rattle.port_parts.specs.Parts.{is_idle, is_unconnected, blank, is_waiting, is_set, no, slot_at}
use Rattle.port_parts.specs.Step as step
use Rattle.port_parts.specs.declared.Phy.{Phy}
use Rattle.port_parts.specs.declared.Request.{Request}
use Rattle.port_parts.specs.declared.Sets.{Sets}
use Rattle.port_parts.specs.declared.Way.{Way}
use Rattle.port_parts.specs.declared.Pick.{Pick}
use Rattle.port_parts.specs.declared.Asked.{Asked}

abbrev pub reaches : Phy → Head → Bool
reaches p h = eqb p.destination h.destination && eqb p.protocol h.protocol

-- 01 PORT.13: The first with a phy wins: (1) connected to its destination and protocol and idle: send; (2) unconnected: open; (3) connected elsewhere and idle: close that phy, once per request.
-- (1)
abbrev pub for_send : Head → Phy → Bool
for_send h p = is_idle p && reaches p h

-- (2)
abbrev pub for_open : Phy → Bool
for_open p = is_unconnected p

-- (3)
abbrev pub for_close : Head → Phy → Bool
for_close h p = is_idle p && not (reaches p h)

abbrev pub free_sets : List Phy → Head → Sets
free_sets ps h = record { sends = bits_of (for_send h) ps; opens = bits_of for_open ps; closes = bits_of (for_close h) ps }

-- with one phy more before those of s
abbrev pub joined_of : Sets → Phy → Head → Sets
joined_of s p h = record { sends = s.sends * 2 + bit (for_send h p); opens = s.opens * 2 + bit (for_open p); closes = s.closes * 2 + bit (for_close h p) }

-- 01 PORT.14: It takes the phy of the lowest number among those free for that step.
abbrev pub by : ℕ → (Phy → Bool) → List Phy → Way
by s f ps = record { step = s; phy = first_of f ps }

abbrev pub some : (Phy → Bool) → List Phy → Bool
some f ps = ltb 0 (count_of f ps)

abbrev pub no_way : Way
no_way = record { step = step.nothing; phy = 0 }

-- 01 PORT.13
unfoldable pub way_for : List Phy → Request → Way
way_for ps r =
    cond (some (for_send r.head) ps) (by step.sends (for_send r.head) ps)
    (cond (some for_open ps) (by step.opens for_open ps)
    (cond (eqb r.closed no && some (for_close r.head) ps) (by step.closes (for_close r.head) ps) no_way))

-- 01 PORT.12: Choose considers waiting requests by submission time, then slot; a retried one only 15 or more microseconds after its retry.
abbrev pub is_ready : Request → ℕ → Bool
is_ready r now = is_waiting r && (not (is_set r.retry) || leb (r.retry.at + 15) now)

abbrev pub no_pick : Pick
no_pick = record { step = step.nothing; phy = 0; slot = 0; at = 0 }

-- what can be done for the request at slot i
unfoldable pub picked : Asked → Request → ℕ → Pick
picked x r i =
    cond (is_ready r x.now) (record { step = (way_for x.phys r).step; phy = (way_for x.phys r).phy; slot = slot_at i; at = r.submitted }) no_pick

-- 01 PORT.12
-- the earlier of two, a where they are even
abbrev pub earlier_of : Pick → Pick → Pick
earlier_of a b = cond (not (eqb b.step step.nothing) && (eqb a.step step.nothing || ltb b.at a.at)) b a

abbrev pub chosen_step : Pick → Request → ℕ → Asked → Pick
chosen_step a r i x = earlier_of a (picked x r i)

abbrev pub chosen_of : Asked → List Request → ℕ → Pick
chosen_of x l n = fold_to blank (λ a r i. chosen_step a r i x) no_pick l n
