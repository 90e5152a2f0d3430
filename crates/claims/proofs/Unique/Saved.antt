-- Two outcomes that meet a promise are equal: a transfer saved and restored, and what C sees of it. Assumes nothing.
use Prim.Native.Nat.{ℕ}
use mathlib.Core.List.{List}
use mathlib.Core.Path.{refl, sym, ◌∙◌}
use borrow.Fn.Kinds as kinds
use contract.Lifetimes
use denote.Triple.Clauses
use Rattle.saved.proofs.save.Kinds as save-of
use Rattle.saved.proofs.save.Reads as save
use Rattle.saved.proofs.restore.Kinds as restore-of
use Rattle.saved.proofs.restore.Reads as restore
use Rattle.transfer_lent.proofs.State.save.Kinds as lent-save-of
use Rattle.transfer_lent.proofs.State.save.Reads as lent_save
use Rattle.transfer_lent.proofs.State.restore.Kinds as lent-restore-of
use Rattle.transfer_lent.proofs.State.restore.Reads as lent_restore
use Rattle.sonerwal.proofs.transfers.sonerwal_transfer_save.Kinds as c-save-of
use Rattle.sonerwal.proofs.transfers.sonerwal_transfer_save.Reads as c_save
use Rattle.sonerwal.proofs.transfers.sonerwal_transfer_restore.Kinds as c-restore-of
use Rattle.sonerwal.proofs.transfers.sonerwal_transfer_restore.Reads as c_restore
use Rattle.claims.proofs.Calls.{One, none}

abbrev save_left : (κs : Lifetimes.Lfts 1) → Clauses.AtExit (kinds.ended_of 1 save-of.ps save-of.r) κs → List ℕ
save_left κs s = s.1.0.now

abbrev lent_save_left : (κs : Lifetimes.Lfts 1) → Clauses.AtExit (kinds.ended_of 1 lent-save-of.ps lent-save-of.r) κs → List ℕ
lent_save_left κs s = s.1.1.0.now

abbrev c_save_left : (κs : Lifetimes.Lfts 1) → Clauses.AtExit (kinds.ended_of 1 c-save-of.ps c-save-of.r) κs → List ℕ
c_save_left κs s = s.1.1.0.now

pub record Saved : Type 2 where
  pub save : One 1 save-of.ps save-of.r save_left save.Post
  pub restore : One 1 restore-of.ps restore-of.r (none 1 restore-of.ps restore-of.r) restore.Post
  pub lent_save : One 1 lent-save-of.ps lent-save-of.r lent_save_left lent_save.Post
  pub lent_restore : One 1 lent-restore-of.ps lent-restore-of.r (none 1 lent-restore-of.ps lent-restore-of.r) lent_restore.Post
  pub c_save : One 1 c-save-of.ps c-save-of.r c_save_left c_save.Post
  pub c_restore : One 1 c-restore-of.ps c-restore-of.r (none 1 c-restore-of.ps c-restore-of.r) c_restore.Post

pub saved : Saved
saved = record {
  save = λ κs a x y s t p q. (p.answer ∙ sym q.answer, p.bytes ∙ sym q.bytes);
  restore = λ κs a x y s t p q. (p ∙ sym q, refl);
  lent_save = λ κs a x y s t p q. (p.answer ∙ sym q.answer, p.bytes ∙ sym q.bytes);
  lent_restore = λ κs a x y s t p q. (p ∙ sym q, refl);
  c_save = λ κs a x y s t p q. (p.answer ∙ sym q.answer, p.bytes ∙ sym q.bytes);
  c_restore = λ κs a x y s t p q. (p ∙ sym q, refl);
}
