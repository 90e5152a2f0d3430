-- What a scan finds is what the call's definition speaks of: one pass tests all that the rules test, and what the call looks for is what
-- its core is given. Assumes nothing.
use mathlib.Core.Path.{◌≡◌}
use mathlib.Core.List.{List}
use lib.ListN.{get_or}
use Rattle.laws.proofs.Folds.{fold_both}
use Rattle.port_parts.specs.Parts.{blank}
use Rattle.port_parts.specs.declared.Port.{Port}
use Rattle.port_parts.specs.declared.Request.{Request}
use Rattle.port_rules.specs.Rules.{port_rule, request_rule, apart_from, compared_of, rules}
use Rattle.port_rows.specs.Finds.{room_of, slot_of}
use Rattle.port_rows.specs.Calls.{submit_core, cancel_core, choose_core}
use Rattle.port_rows.specs.declared.Submission.{Submission}
use Rattle.port_rows.specs.declared.Withdrawn.{Withdrawn}
use Rattle.port.specs.Calls.{submit_call, cancel_call, pick_at, choose_call}
use Rattle.port.specs.Scans.{scanned, asking, finds, kept_to}
use Rattle.port.specs.declared.Time.{Time}

pub one_pass : (p : Port) (l : List Request) → kept_to p l 32 ≡ rules p l
unfolding rules
one_pass p l = fold_both blank (request_rule p) (λ r i. apart_from l (compared_of r i)) (port_rule p) l 32

pub submit_is : (l : List Request) (p : Port) (x : Submission) → scanned asking (finds (λ l p x. room_of l x.head)) (λ f x. f.1.free) (λ p r f x. submit_core p f.0 f.1 x) l p x ≡ submit_call l p x
submit_is l p x = λ i. submit_core p (one_pass p l i) (room_of l x.head) x

pub cancel_is : (l : List Request) (p : Port) (x : Withdrawn) → scanned asking (finds (λ l p x. slot_of l x.key)) (λ f x. f.1) (λ p r f x. cancel_core p r f.0 f.1 x) l p x ≡ cancel_call l p x
cancel_is l p x = λ i. cancel_core p (get_or l (slot_of l x.key) blank) (one_pass p l i) (slot_of l x.key) x

pub choose_is : (l : List Request) (p : Port) (x : Time) → scanned asking (finds (λ l p x. pick_at l p x.now)) (λ f x. f.1.slot) (λ p r f x. choose_core p r f.0 f.1 x.now) l p x ≡ choose_call l p x
choose_is l p x = λ i. choose_core p (get_or l (pick_at l p x.now).slot blank) (one_pass p l i) (pick_at l p x.now) x.now
