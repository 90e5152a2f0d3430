-- How the calls look at the list: in one pass each record is tested, held against those behind it, and asked what the call looks
-- for. Assumes nothing.
use Rattle.std.specs.Prelude.{ℕ, Bool, ◌&&◌, List, get_or}
use Rattle.laws.specs.Folds.{fold_to}
use Rattle.port_parts.specs.Parts.{blank}
use Rattle.port_parts.specs.declared.Port.{Port}
use Rattle.port_parts.specs.declared.Request.{Request}
use Rattle.port_rules.specs.Rules.{port_rule, request_rule, apart_from, compared_of}
use Rattle.port_rows.specs.declared.Done.{Done}

-- the record that a scan found, and the core on it
abbrev pub scanned : {P X Q F : Type 0} → (P → X → Q) → (List Request → Q → F) → (F → X → ℕ) → (P → Request → F → X → Done) → List Request → P → X → Done
scanned ask scan slot core l p x = core p (get_or l (slot (scan l (ask p x)) x) blank) (scan l (ask p x)) x

-- one record more that keeps the rules, and is apart from those behind it if f
abbrev pub keeps : Bool → Bool → Port → Request → ℕ → Bool
keeps kept f p r i = (kept && request_rule p r i) && f

-- what a pass tests of one record more
abbrev pub kept_step : Port → List Request → Bool → Request → ℕ → Bool
kept_step p l kept r i = keeps kept (apart_from l (compared_of r i)) p r i

-- the rules after the first n records
abbrev pub kept_to : Port → List Request → ℕ → Bool
kept_to p l n = fold_to blank (kept_step p l) (port_rule p) l n

-- what a call asks of the list, and what its pass finds of that: the rules after all 32 records, and what the call looks for
abbrev pub asking : {X : Type 0} → Port → X → Port × X
asking p x = (p, x)

abbrev pub finds : {X A : Type 0} → (List Request → Port → X → A) → List Request → Port × X → Bool × A
finds look l q = (kept_to q.0 l 32, look l q.0 q.1)
