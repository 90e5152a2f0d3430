-- XFER with its frame: the call that writes an XFER_RDY. Assumes nothing.
use Rattle.std.specs.Prelude.{ℕ, ◌^◌, Bool, true, false, not, ◌&&◌, List, ◌∷◌, ◌≡◌, ltb, leb, length, Err, Ok, Result}
use Rattle.refusals.specs.Causes.{Cause, ◌when◌, refuse}
use Rattle.refusals.specs.declared.Refusal.{Refusal}
use Rattle.ssp_frame.specs.Xfer.{xfer_left}
use Rattle.ssp_frame.specs.declared.xfer_rdy.XferHead.{XferHead}
use Rattle.write.specs.Steps.{refused, free, asked, asked_length, retransmit_of, xfer_causes}
use Rattle.write.specs.declared.Write.{Write}
use Rattle.write.specs.declared.Stepped.{Stepped}
use Rattle.write.specs.declared.Answer.{Answer}

-- hashed addresses of 24 bits
abbrev pub addressed : ℕ → ℕ → Bool
addressed destination source = ltb destination (256 ^ 3) && ltb source (256 ^ 3)

-- 02 c.2: a request for bytes
-- offset next, length until - next, the transfer tag, retransmit 1 exactly for a retry, retry data frames 0
abbrev pub head : ℕ → Write → ℕ → ℕ → ℕ → XferHead
head transfer s destination source tag =
    record {
      destination = destination;
      source = source;
      retransmit = retransmit_of s;
      retry = 0;
      tag = tag;
      transfer = transfer;
      offset = s.next;
      length = asked_length s;
    }

abbrev pub head_of : ℕ → ℕ → Write → ℕ → ℕ → ℕ → XferHead
head_of k others s = head (free k others s) s

-- 1 an output below 36 bytes, 2 a hashed address above 24 bits, then as XFER
abbrev pub ask_causes : ℕ → ℕ → Write → ℕ → ℕ → List ℕ → List Cause
ask_causes k others s destination source out =
    (Refusal.Length when not (leb 36 (length out))) ∷ (Refusal.Unlisted when not (addressed destination source)) ∷ xfer_causes k others s

unfoldable pub ask_step : ℕ → ℕ → Write → ℕ → ℕ → List ℕ → Stepped
ask_step k others s destination source out = refuse (refused s) (ask_causes k others s destination source out) (asked (free k others s) s)

-- the output with the frame at its front, or as it was
unfoldable pub ask_bytes : ℕ → ℕ → Write → ℕ → ℕ → ℕ → List ℕ → List ℕ
ask_bytes k others s destination source tag out =
    refuse (λ _. out) (ask_causes k others s destination source out) (xfer_left (head_of k others s destination source tag) out)

-- what the call promises of its answer and state r, and of the output as it leaves it
pub record Asks (k others : ℕ) (s : Write) (destination source tag : ℕ) (before : List ℕ) (r : Stepped) (after : List ℕ) : Type 0 where
  pub step : r ≡ ask_step k others s destination source before
  pub bytes : after ≡ ask_bytes k others s destination source tag before

abbrev pub is_sent : Result Answer Refusal → Bool
is_sent (Ok Answer.Ok) = false
is_sent (Ok Answer.Sent) = true
is_sent (Ok Answer.Retry) = false
is_sent (Ok Answer.Late) = false
is_sent (Ok Answer.More) = false
is_sent (Ok Answer.Done) = false
is_sent (Ok Answer.Fail) = false
is_sent (Ok Answer.End) = false
is_sent (Err k) = false
