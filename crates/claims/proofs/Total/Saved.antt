-- What the functions ask of their arguments holds of all of them: a transfer saved and restored, and what C sees of it. Assumes nothing.
use Rattle.saved.proofs.save.Kinds as save-of
use Rattle.saved.proofs.save.Reads as save
use Rattle.saved.proofs.restore.Kinds as restore-of
use Rattle.saved.proofs.restore.Reads as restore
use Rattle.transfer_lent.proofs.State.save.Kinds as lent-save-of
use Rattle.transfer_lent.proofs.State.save.Reads as lent_save
use Rattle.transfer_lent.proofs.State.restore.Kinds as lent-restore-of
use Rattle.transfer_lent.proofs.State.restore.Reads as lent_restore
use Rattle.sonerwal.proofs.transfers.sonerwal_transfer_save.Kinds as c-save-of
use Rattle.sonerwal.proofs.transfers.sonerwal_transfer_save.Reads as c_save
use Rattle.sonerwal.proofs.transfers.sonerwal_transfer_restore.Kinds as c-restore-of
use Rattle.sonerwal.proofs.transfers.sonerwal_transfer_restore.Reads as c_restore
use Rattle.claims.proofs.Calls.{Anything}

pub record Saved : Type 2 where
  pub save : Anything 1 save-of.ps save.Pre
  pub restore : Anything 1 restore-of.ps restore.Pre
  pub lent_save : Anything 1 lent-save-of.ps lent_save.Pre
  pub lent_restore : Anything 1 lent-restore-of.ps lent_restore.Pre
  pub c_save : Anything 1 c-save-of.ps c_save.Pre
  pub c_restore : Anything 1 c-restore-of.ps c_restore.Pre

pub saved : Saved
saved = record {
  save = λ κs a. tt;
  restore = λ κs a. tt;
  lent_save = λ κs a. tt;
  lent_restore = λ κs a. tt;
  c_save = λ κs a. tt;
  c_restore = λ κs a. tt;
}
