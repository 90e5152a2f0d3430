-- A call on a write answers refusal k exactly if k is the first of its causes that holds, and then leaves the state and every lent byte: each of its
-- tests decides one cause. Assumes nothing.
use Rattle.std.specs.Prelude.{Err}
use Prim.Native.Nat.{ℕ, ◌^◌, ◌<◌}
use mathlib.Core.Bool.{true}
use mathlib.Core.List.{List}
use mathlib.Core.Logic.{◌↔◌}
use mathlib.Core.Path.{◌≡◌, sym, subst}
use native.Mathlib.Omega.{arith}
use lib.ListN.{length}
use Rattle.refusals.specs.Causes.{Ground, First}
use Rattle.refusals.specs.declared.Refusal.{Refusal}
use Rattle.ssp_frame.specs.Out.{out_of}
use Rattle.write.specs.Steps.{limit}
use Rattle.write.specs.Calls.{Call, step_of, is_refused, Typed}
use Rattle.write.specs.Grounds.{grounds_of}
use Rattle.write.specs.declared.Write.{Write}
use Rattle.write.specs.declared.Stepped.{Stepped}
use Rattle.write.specs.declared.Answer.{Answer}
use Rattle.write.proofs.Refusals.{refused_exactly, refused_kept}
use Rattle.take.specs.Grounds.{ask_grounds, take_grounds, Refuses}
use Rattle.take.proofs.Refusals.{ask_refuses, take_refuses}
use Rattle.claims.specs.Causes.{DataLength, OutBytes}
use Rattle.claims.proofs.Grounds.{data_length, out_bytes}
use Rattle.claims.proofs.WriteCalls.{Ask, Take, ask_others, ask_number, ask_out, ask_left, take_number, take_frame, take_store_lem, take_left}

-- what is claimed of a call on s that answered r, with these bytes before and behind it
abbrev pub Says : List Ground → Write → Stepped → List ℕ → List ℕ → Type 1
Says gs s r before after = Refuses Err gs r.answer s r.state before after

pub record WriteRefusals : Type 1 where
  -- 02 c.6
  -- START to CANCEL: WriteSteps shows that these are the methods' answers
  pub exactly : (s : Write) (c : Call) → s.tags < 2 ^ 64 → Typed limit c → (k : Refusal) → ((step_of limit c s).answer ≡ Err k) ↔ First (grounds_of limit c s) k
  pub keeps : (s : Write) (c : Call) → is_refused (step_of limit c s).answer ≡ true → (step_of limit c s).state ≡ s
  -- an XFER_RDY with its frame, and data with its frame and the store
  pub asks : (c : Ask) → c.args.0.tags < 2 ^ 64 → ask_others c < 2 ^ 64
      → Says (ask_grounds limit (ask_others c) c.args.0 (ask_number c 0) (ask_number c 1) (ask_out c)) c.args.0 c.answer (ask_out c) (ask_left c)
  pub takes : (c : Take) → c.args.0.tags < 2 ^ 64
      → Says (take_grounds (DataLength (length (take_frame c))) (OutBytes (take_frame c)) limit c.args.0 (out_of (take_frame c)) (take_number c 0) (take_number c 1) (take_number c 2) (length (take_store_lem c)))
      c.args.0 c.answer (take_store_lem c) (take_left c)

-- what holds of the step that a call is, and of the bytes that it leaves, holds of what it answered and left
by_step : {gs : List Ground} {s : Write} {before : List ℕ} {r t : Stepped} {left after : List ℕ} → r ≡ t → left ≡ after → Says gs s t before after → Says gs s r before left
by_step {gs} {s} {before} {r} {t} {left} {after} step bytes p =
    subst (λ (x : Stepped). Says gs s x before left) (sym step) (subst (Says gs s t before) (sym bytes) p)

pub write_refusals : WriteRefusals
write_refusals = record {
  exactly = λ s c small typed k. refused_exactly limit s c (omega arith) small typed k;
  keeps = λ s c. refused_kept limit s c;
  asks = λ c small typed. by_step c.met.step c.met.bytes (ask_refuses limit (omega arith) c.args.0 small (ask_number c 0) (ask_number c 1) (ask_number c 2) (ask_others c) typed (ask_out c));
  takes = λ c small. by_step c.met.step c.met.store
      (take_refuses limit (omega arith) c.args.0 small (take_number c 0) (take_number c 1) (take_number c 2) (take_frame c) (take_store_lem c) (data_length (length (take_frame c))) (out_bytes (take_frame c)));
}
