-- Document 01, 'Port': each call over the list of 32 records that the caller lends, and what it promises. Assumes nothing.
use Rattle.std.specs.Prelude.{ℕ, ◌≡◌, cond, List, eqb, length, get_or}
use Rattle.laws.specs.Folds.{map_to}
use Rattle.refusals.specs.declared.Refusal.{Refusal}
use Rattle.port_parts.specs.Parts.{blank}
use Rattle.port_parts.specs.Choice.{chosen_of}
use Rattle.port_parts.specs.declared.Pick.{Pick}
use Rattle.port_parts.specs.declared.Port.{Port}
use Rattle.port_parts.specs.declared.Request.{Request}
use Rattle.port_rules.specs.Rules.{rules}
use Rattle.port_rows.specs.Answers.{no_port, refused_by}
use Rattle.port_rows.specs.Finds.{room_of, slot_of}
use Rattle.port_rows.specs.Calls.{phy_at, setup_core, submit_core, cancel_core, choose_core, opened_core, open_failed_core, frame_status_core, closed_core, enable_core, disable_core}
use Rattle.port_rows.specs.Records.{left_step}
use Rattle.port_rows.specs.declared.Done.{Done}
use Rattle.port_rows.specs.declared.Submission.{Submission}
use Rattle.port_rows.specs.declared.Withdrawn.{Withdrawn}
use Rattle.port_rows.specs.declared.Confirmed.{Confirmed}
use Rattle.port_rows.specs.declared.Failure.{Failure}
use Rattle.port_rows.specs.declared.Report.{Report}
use Rattle.port.specs.declared.Stepped.{Stepped}
use Rattle.port.specs.declared.Time.{Time}

-- the list after a call
abbrev pub left_of : List Request → Done → List Request
left_of l d = map_to blank (λ r i. left_step r i d) l 32

abbrev pub answered : Done → Stepped
answered d = record { answer = d.answer; port = d.port }

-- what a call answers of a list of 32 records, and what of a list of another length
abbrev pub on32 : {A : Type 0} → List Request → A → A → A
on32 l a b = cond (eqb (length l) 32) a b

-- 01 REFUSAL.1
abbrev pub short : Port → Stepped
short p = answered (refused_by p Refusal.Length)

-- a setup has no port yet
abbrev pub short_setup : ℕ → Stepped
short_setup count = short no_port

-- what a call that leaves d promises of its answer r and of the list
abbrev pub Called : List Request → Done → Stepped → Stepped → List Request → Type 0
Called l d none r after = (r ≡ on32 l (answered d) none) × (after ≡ on32 l (left_of l d) l)

-- the request that phy k names
abbrev pub on_phy : List Request → Port → ℕ → Request
on_phy l p k = get_or l (phy_at p k).slot blank

-- 01 PORT.2
abbrev pub setup_call : List Request → ℕ → ℕ → Done
setup_call l count loss = setup_core count loss

abbrev pub submit_call : List Request → Port → Submission → Done
submit_call l p x = submit_core p (rules p l) (room_of l x.head) x

abbrev pub cancel_call : List Request → Port → Withdrawn → Done
cancel_call l p x = cancel_core p (get_or l (slot_of l x.key) blank) (rules p l) (slot_of l x.key) x

-- the pick of choose at a time
abbrev pub pick_at : List Request → Port → ℕ → Pick
pick_at l p now = chosen_of (record { phys = p.phys; now = now }) l 32

abbrev pub choose_call : List Request → Port → Time → Done
choose_call l p x = choose_core p (get_or l (pick_at l p x.now).slot blank) (rules p l) (pick_at l p x.now) x.now

abbrev pub opened_call : List Request → Port → Confirmed → Done
opened_call l p x = opened_core p (on_phy l p x.phy) (rules p l) x

abbrev pub open_failed_call : List Request → Port → Failure → Done
open_failed_call l p x = open_failed_core p (on_phy l p x.phy) (rules p l) x

abbrev pub frame_status_call : List Request → Port → Report → Done
frame_status_call l p x = frame_status_core p (on_phy l p x.phy) (rules p l) x

abbrev pub closed_call : List Request → Port → Confirmed → Done
closed_call l p x = closed_core p (on_phy l p x.phy) (rules p l) x

abbrev pub enable_call : List Request → Port → Confirmed → Done
enable_call l p x = enable_core p (on_phy l p x.phy) (rules p l) x

abbrev pub disable_call : List Request → Port → Confirmed → Done
disable_call l p x = disable_core p (on_phy l p x.phy) (rules p l) x
