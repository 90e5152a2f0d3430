-- The calls that save and restore a transfer, as the claims see them, and what they were given, lent and left; C's stand in a part of their own. Assumes nothing.
use Rattle.std.specs.Prelude.{Ok, Result}
use Prim.Native.Nat.{ℕ}
use mathlib.Core.List.{List}
use mathlib.Core.Path.{◌≡◌}
use lib.ListN.{take}
use Rattle.transfer.specs.declared.Transfer.{Transfer}
use Rattle.transfer_lent.specs.declared.State.{State}
use Rattle.saved.proofs.save.Kinds as save-of
use Rattle.saved.proofs.save.Reads as save
use Rattle.saved.proofs.restore.Kinds as restore-of
use Rattle.saved.proofs.restore.Reads as restore
use Rattle.sonerwal.proofs.transfers.sonerwal_transfer_save.Kinds as c-save-of
use Rattle.sonerwal.proofs.transfers.sonerwal_transfer_save.Reads as c_save
use Rattle.sonerwal.proofs.transfers.sonerwal_transfer_restore.Kinds as c-restore-of
use Rattle.sonerwal.proofs.transfers.sonerwal_transfer_restore.Reads as c_restore
use Rattle.claims.specs.Swaps.{Savers}
use Rattle.claims.proofs.Calls.{Outcome}

abbrev pub Save : Type 0
Save = Outcome 1 save-of.ps save-of.r save.Post

abbrev pub Restore : Type 0
Restore = Outcome 1 restore-of.ps restore-of.r restore.Post

-- the transfer that is saved, and the output as it was lent and as it is left
abbrev pub given : Save → Transfer
given c = c.args.0

abbrev pub lent : Save → List ℕ
lent c = c.args.1.0.now

abbrev pub left : Save → List ℕ
left c = c.exit.1.0.now

-- the line that is read
abbrev pub line : Restore → List ℕ
line c = c.args.0.now

abbrev pub savers : Savers Transfer Save Restore
savers = record { given = given; Passed = λ c. c.answer.answer ≡ Ok tt; wrote = λ c. take c.answer.length (left c); line = line; gave = λ c. c.answer.state }

-- ---- from C

abbrev pub CSave : Type 0
CSave = Outcome 1 c-save-of.ps c-save-of.r c_save.Post

abbrev pub CRestore : Type 0
CRestore = Outcome 1 c-restore-of.ps c-restore-of.r c_restore.Post

-- the state and the form, and the output as it was lent and as it is left
abbrev pub c_given : CSave → State
c_given c = c.args.0

abbrev pub c_form : CSave → ℕ
c_form c = c.args.1.0

abbrev pub c_lent : CSave → List ℕ
c_lent c = c.args.1.1.0.now

abbrev pub c_left : CSave → List ℕ
c_left c = c.exit.1.1.0.now

abbrev pub c_line : CRestore → List ℕ
c_line c = c.args.0.now

abbrev pub c_savers : Savers State CSave CRestore
c_savers = record { given = c_given; Passed = λ c. c.answer.answer ≡ 0; wrote = λ c. take c.answer.length (c_left c); line = c_line; gave = λ c. c.answer.state }
