-- A call on a reply answers refusal k exactly if k is the first of its grounds that holds, and then leaves the state and every lent byte: each of its tests
-- decides one ground. Assumes nothing.
use Rattle.std.specs.Prelude.{Err, Ok}
use Prim.Native.Nat.{ℕ}
use mathlib.Core.Bool.{true}
use mathlib.Core.List.{List}
use mathlib.Core.Logic.{◌↔◌}
use mathlib.Core.Path.{◌≡◌, sym, ap, ◌∙◌}
use native.Mathlib.Omega.{arith}
use lib.ListN.{length}
use Rattle.laws.proofs.Tests.{unless}
use Rattle.refusals.specs.Causes.{Ground, refuse, First, Decides, nil, cons}
use Rattle.refusals.specs.declared.Refusal.{Refusal}
use Rattle.refusals.proofs.Causes.{only, if_first, stays, through, decides_append}
use Rattle.ssp_frame.specs.Response.{response_left}
use Rattle.ssp_frame.specs.declared.response.ResponseHead.{ResponseHead}
use Rattle.reply.specs.Steps.{refused, responded}
use Rattle.reply.specs.Calls.{Call, respond, step_of}
use Rattle.reply.specs.Grounds.{grounds_of}
use Rattle.reply.specs.History.{is_refused}
use Rattle.reply.specs.declared.Reply.{Reply}
use Rattle.reply.specs.declared.Stepped.{Stepped}
use Rattle.reply.specs.declared.Answer.{Answer}
use Rattle.reply.proofs.Refusals.{decides, one, refused_exactly, refused_kept}
use Rattle.take.specs.Grounds as grounds
use Rattle.take.specs.Respond.{respond_causes, respond_step, respond_bytes, Responds}
use Rattle.claims.specs.Causes.{ResponseLengths, ResponseFields}
use Rattle.claims.proofs.Grounds.{response_lengths, response_fields}
use Rattle.claims.proofs.ReplyCalls.{Write, head, body, lent, left}

-- its grounds, with what a RESPONSE's lengths and fields have to be
abbrev pub respond_grounds : Reply → ResponseHead → List ℕ → List ℕ → List Ground
respond_grounds s h body out = grounds.respond_grounds (ResponseLengths h.present (length body) (length out)) (ResponseFields h) s

-- what a call that writes a RESPONSE answers, the state in its answer, and the output after it
pub record Refuses (s : Reply) (h : ResponseHead) (body before : List ℕ) (r : Stepped) (after : List ℕ) : Type 1 where
  pub exactly : (k : Refusal) → (r.answer ≡ Err k) ↔ First (respond_grounds s h body before) k
  pub keeps : (k : Refusal) → r.answer ≡ Err k → (r.state ≡ s) × (after ≡ before)

sent_apart : (k : Refusal) → (Ok Answer.Sent) ≡ Err k → ⊥
sent_apart k e = let z : ◌≡◌ {A = ℕ} 0 1 = cc in omega arith

module _ (s : Reply) (h : ResponseHead) (body out : List ℕ) where
  respond_decides : Decides (respond_causes s h body out) (respond_grounds s h body out)
  respond_decides =
      decides_append (cons (unless (response_lengths h.present (length body) (length out))) (cons (unless (response_fields h)) nil)) (decides s respond)

  pub respond_refused : {r : Stepped} {after : List ℕ} → Responds s h body out r after → Refuses s h body out r after
  unfolding respond_step respond_bytes
  respond_refused {r} {after} p =
      let all = respond_causes s h body out in
      let answer : r.answer ≡ refuse Err all (Ok Answer.Sent) =
      ap (λ (st : Stepped). st.answer) p.step ∙ through (λ (st : Stepped). st.answer) (refused s) all (responded s) in
      let state : r.state ≡ refuse (λ _. s) all (responded s).state =
      ap (λ (st : Stepped). st.state) p.step ∙ through (λ (st : Stepped). st.state) (refused s) all (responded s) in
      record {
        exactly = λ k. (λ e. only Err (Ok Answer.Sent) one sent_apart respond_decides k (sym answer ∙ e), λ f. answer ∙ if_first Err (Ok Answer.Sent) one sent_apart respond_decides k f);
        keeps = λ k e. (
          state ∙ stays Err (Ok Answer.Sent) one sent_apart all (responded s).state s k (sym answer ∙ e),
          p.bytes ∙ stays Err (Ok Answer.Sent) one sent_apart all (response_left h body out) out k (sym answer ∙ e),
        );
      }

-- 02 c.3
pub record ReplyRefusals : Type 1 where
  -- START to CANCEL: ReplySteps shows that these are the methods' answers
  pub exactly : (s : Reply) (c : Call) (k : Refusal) → ((step_of c s).answer ≡ Err k) ↔ First (grounds_of c s) k
  pub keeps : (s : Reply) (c : Call) → is_refused (step_of c s).answer ≡ true → (step_of c s).state ≡ s
  -- and the call that writes its RESPONSE
  pub writes : (c : Write) → Refuses c.args.0 (head c) (body c) (lent c) c.answer (left c)

pub reply_refusals : ReplyRefusals
reply_refusals = record {
  exactly = refused_exactly;
  keeps = refused_kept;
  writes = λ c. respond_refused c.args.0 (head c) (body c) (lent c) c.met;
}
