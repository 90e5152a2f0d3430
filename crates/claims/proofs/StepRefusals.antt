-- A call on a transfer answers refusal k exactly if k is the first of document 01's causes that holds, and then leaves the state and
-- every lent byte: each of its tests decides one cause. Assumes nothing.
use Rattle.std.specs.Prelude.{Err, Ok}
use Prim.Native.Nat.{ℕ}
use mathlib.Core.Bool.{true}
use mathlib.Core.List.{List, [], ◌∷◌, ◌++◌}
use mathlib.Core.Logic.{◌↔◌}
use mathlib.Core.Path.{◌≡◌, sym, ap, ◌∙◌}
use native.Mathlib.Omega.{arith}
use lib.ListN.{length}
use Rattle.laws.proofs.Tests.{unless}
use Rattle.refusals.specs.Causes.{Ground, ◌if◌, refuse, First, Decides, nil, cons}
use Rattle.refusals.specs.declared.Refusal.{Refusal}
use Rattle.refusals.proofs.Causes.{only, if_first, stays, through, decides_append}
use Rattle.ssp_frame.specs.Data.{data_left}
use Rattle.ssp_frame.specs.declared.data.DataHead.{DataHead}
use Rattle.transfer.specs.Steps.{limit, frame_length, framed, refused}
use Rattle.transfer.specs.Calls.{Call, step_of}
use Rattle.transfer.specs.Grounds.{grounds_of}
use Rattle.transfer.specs.History.{is_refused}
use Rattle.transfer.specs.declared.Transfer.{Transfer}
use Rattle.transfer.specs.declared.Stepped.{Stepped}
use Rattle.transfer.specs.declared.Answer.{Answer}
use Rattle.transfer.proofs.Refusals.{causes_of, decides, one, refused_exactly, refused_kept}
use Rattle.send.specs.Send.{next_causes, next_step, next_bytes, Went}
use Rattle.sonerwal.specs.Face.{Write, DataGiven}
use Rattle.claims.specs.Causes.{DataFields, NextLengths}
use Rattle.claims.proofs.Calls.{NextFrame}
use Rattle.claims.proofs.Named.{next_write}
use Rattle.claims.proofs.Grounds.{data_fields, next_lengths}

-- 01 REFUSAL.11
-- the next-frame call's, in its own order: those of FRAME, then 2, then 1
abbrev pub next_grounds : ℕ → Transfer → DataHead → List ℕ → List ℕ → List Ground
next_grounds bound s h body out =
    grounds_of bound Call.frame s
    ++ ((Refusal.Unlisted if (DataFields h → ⊥)) ∷ (Refusal.Length if (NextLengths (frame_length s) (length body) (length out) → ⊥)) ∷ [])

sent_apart : (k : Refusal) → (Ok Answer.Sent) ≡ Err k → ⊥
sent_apart k e = let z : ◌≡◌ {A = ℕ} 0 1 = cc in omega arith

-- what a next-frame call on s answers, the state in its answer, and the output after it
pub record Next (s : Transfer) (c : Write Stepped DataGiven) : Type 1 where
  pub exactly : (k : Refusal) → (c.answer.answer ≡ Err k) ↔ First (next_grounds limit s c.given.head c.given.body c.lent) k
  pub keeps : (k : Refusal) → c.answer.answer ≡ Err k → (c.answer.state ≡ s) × (c.left ≡ c.lent)

module _ (s : Transfer) (h : DataHead) (body out : List ℕ) where
  next_decides : Decides (next_causes limit s h body out) (next_grounds limit s h body out)
  unfolding causes_of
  next_decides =
      decides_append (decides limit (omega arith) s Call.frame)
      (cons (unless (data_fields h)) (cons (unless (next_lengths (frame_length s) (length body) (length out))) nil))

  answer_is : (next_step limit s h body out).answer ≡ refuse Err (next_causes limit s h body out) (Ok Answer.Sent)
  unfolding next_step
  answer_is = through (λ (st : Stepped). st.answer) (refused s) (next_causes limit s h body out) (framed (frame_length s) s)

  state_is : (next_step limit s h body out).state ≡ refuse (λ _. s) (next_causes limit s h body out) (framed (frame_length s) s).state
  unfolding next_step
  state_is = through (λ (st : Stepped). st.state) (refused s) (next_causes limit s h body out) (framed (frame_length s) s)

  bytes_are : next_bytes limit s h body out ≡ refuse (λ _. out) (next_causes limit s h body out) (data_left h body out)
  unfolding next_bytes
  bytes_are = λ i. refuse (λ _. out) (next_causes limit s h body out) (data_left h body out)

  pub next_refused : {r : Stepped} {after : List ℕ} → Went limit s h body out r after → Next s (record { given = record { head = h; body = body }; lent = out; answer = r; left = after })
  next_refused {r} {after} p =
      let answer : r.answer ≡ refuse Err (next_causes limit s h body out) (Ok Answer.Sent) = ap (λ (st : Stepped). st.answer) p.step ∙ answer_is in
      record {
        exactly = λ k. (λ e. only Err (Ok Answer.Sent) one sent_apart next_decides k (sym answer ∙ e), λ f. answer ∙ if_first Err (Ok Answer.Sent) one sent_apart next_decides k f);
        keeps = λ k e. (
          ap (λ (st : Stepped). st.state) p.step ∙ (state_is ∙ stays Err (Ok Answer.Sent) one sent_apart (next_causes limit s h body out) (framed (frame_length s) s).state s k (sym answer ∙ e)),
          p.bytes ∙ (bytes_are ∙ stays Err (Ok Answer.Sent) one sent_apart (next_causes limit s h body out) (data_left h body out) out k (sym answer ∙ e)),
        );
      }

-- 01 READ.1 01 READ.2 01 REFUSAL.3 01 REFUSAL.6 01 REFUSAL.7 01 REFUSAL.8 01 REFUSAL.10 01 REFUSAL.12 01 REFUSAL.13
pub record StepRefusals : Type 1 where
  -- START to CANCEL: Steps shows that these are the methods' answers
  pub exactly : (s : Transfer) (c : Call) (k : Refusal) → ((step_of limit c s).answer ≡ Err k) ↔ First (grounds_of limit c s) k
  pub keeps : (s : Transfer) (c : Call) → is_refused (step_of limit c s).answer ≡ true → (step_of limit c s).state ≡ s
  pub next : (c : NextFrame) → Next c.args.0 (next_write c)

pub step_refusals : StepRefusals
step_refusals = record {
  exactly = λ s c k. refused_exactly limit (omega arith) s c k;
  keeps = λ s c. refused_kept limit s c;
  next = λ c. let w = next_write c in next_refused c.args.0 w.given.head w.given.body w.lent c.met;
}
