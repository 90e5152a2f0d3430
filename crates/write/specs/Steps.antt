-- The write: what each call answers and leaves, row by row, and when it is refused. Assumes nothing.
use Rattle.std.specs.Prelude.{ℕ, ◌+◌, ◌-◌, ◌%◌, ◌^◌, Bool, true, false, not, cond, ◌&&◌, ◌||◌, List, [], ◌∷◌, ◌++◌, ltb, leb, eqb, Some, None, Option, Err, Ok, Result}
use Rattle.std.specs.Int.Bits.{bit_or}
use Rattle.laws.specs.Tags.{has, lowest}
use Rattle.refusals.specs.Causes.{Cause, ◌when◌, refuse}
use Rattle.refusals.specs.declared.Refusal.{Refusal}
use Rattle.write.specs.Rules.{end_of, in_range, until, keeps_rules}
use Rattle.write.specs.declared.Write.{Write}
use Rattle.write.specs.declared.Stepped.{Stepped}
use Rattle.write.specs.declared.Answer.{Answer}
use Rattle.write.specs.declared.Phase.{Phase}

-- the number of tags that the code keeps to; every definition takes it as an argument
abbrev pub limit : ℕ
limit = 64

abbrev pub say : Result Answer Refusal → Write → Stepped
say a s = record { answer = a; state = s }

-- a refusal leaves the state as it was
abbrev pub refused : Write → Refusal → Stepped
refused s k = say (Err k) s

-- s with these in place of its own
abbrev pub with : Write → ℕ → ℕ → ℕ → ℕ → Phase → Write
with s next tag tags used phase =
    record {
      offset = s.offset;
      count = s.count;
      burst = s.burst;
      resends = s.resends;
      next = next;
      tag = tag;
      tags = tags;
      used = used;
      phase = phase;
    }

abbrev pub unfinished : Phase → Bool
unfinished Phase.New = false
unfinished Phase.Ask = true
unfinished Phase.Wait = true
unfinished Phase.Take = true
unfinished Phase.Done = false
unfinished Phase.Fail = false
unfinished Phase.End = false

-- an XFER_RDY is due
abbrev pub asking : Phase → Bool
asking Phase.New = false
asking Phase.Ask = true
asking Phase.Wait = false
asking Phase.Take = false
asking Phase.Done = false
asking Phase.Fail = false
asking Phase.End = false

-- the ACK, NAK or loss of one is due
abbrev pub waiting : Phase → Bool
waiting Phase.New = false
waiting Phase.Ask = false
waiting Phase.Wait = true
waiting Phase.Take = false
waiting Phase.Done = false
waiting Phase.Fail = false
waiting Phase.End = false

-- one was ACKed, and data is due
abbrev pub taking : Phase → Bool
taking Phase.New = false
taking Phase.Ask = false
taking Phase.Wait = false
taking Phase.Take = true
taking Phase.Done = false
taking Phase.Fail = false
taking Phase.End = false

-- START: next is B, the rest 0
abbrev pub started : ℕ → ℕ → ℕ → ℕ → Write
started b n x r = record { offset = b; count = n; burst = x; resends = r; next = b; tag = 0; tags = 0; used = 0; phase = Phase.Ask }

-- the tag of the XFER_RDY before, whether in use or not; none went before the first byte with no tag in use
abbrev pub previous : Write → ℕ
previous s = cond (eqb s.next s.offset && eqb s.tags 0) 0 (2 ^ s.tag)

-- 02 c.2: a transfer tag that differs from the previous and from every tag in use
-- the tags that an XFER_RDY avoids: others', the write's own, and the previous
abbrev pub avoided : ℕ → Write → ℕ
avoided others s = bit_or (bit_or others s.tags) (previous s)

-- the lowest free tag of k, k where none is
abbrev pub free : ℕ → ℕ → Write → ℕ
free k others s = lowest k (avoided others s)

abbrev pub free_tag : ℕ → ℕ → Write → Option ℕ
free_tag k others s = cond (ltb (free k others s) k) (Some (free k others s)) None

-- 02 c.2: Add XFER_RDY and write data from 002 and SAS-1.1: a request for bytes, DATA frames received in order of offset, retry of XFER_RDY under a transfer tag that differs from the previous and from every tag in use, retransmit bit one.
-- XFER: the lowest free tag, which is in use from now on
abbrev pub asked : ℕ → Write → Stepped
asked tag s = say (Ok Answer.Sent) (with s s.next tag (s.tags + 2 ^ tag) s.used Phase.Wait)

-- what its frame says: the bytes of the range from the next on
abbrev pub asked_length : Write → ℕ
asked_length s = until s - s.next

-- 02 c.2: retransmit bit one
-- and retransmit, 1 exactly for a retry
abbrev pub retransmit_of : Write → ℕ
retransmit_of s = cond (eqb s.tags 0) 0 1

-- ACK: data is due
abbrev pub acked : Write → Stepped
acked s = say (Ok Answer.Ok) (with s s.next s.tag s.tags s.used Phase.Take)

-- finishing sets tags to 0 and the phase, and nothing else
abbrev pub finished : Result Answer Refusal → Phase → Write → Stepped
finished a p s = say a (with s s.next s.tag 0 s.used p)

-- NAK, TIMEOUT, LOST: a retry, or failed with R used
unfoldable pub missed : Write → Stepped
missed s = cond (leb s.resends s.used) (finished (Ok Answer.Fail) Phase.Fail s) (say (Ok Answer.Retry) (with s s.next s.tag s.tags (s.used + 1) Phase.Ask))

-- DATA under tag t: that of the XFER_RDY which was ACKed
abbrev pub awaited : ℕ → Write → Bool
awaited t s = taking s.phase && eqb t s.tag

-- 02 c.4: A write answered complete has covered its requested range, each byte taken once in offset order.
-- DATA up to `to`: before the range's end that tag alone is in use; at it none is, and the next range is due, or at B+N nothing
unfoldable pub taken : ℕ → Write → Stepped
taken to s =
    cond (ltb to (until s)) (say (Ok Answer.Ok) (with s to s.tag (2 ^ s.tag) s.used Phase.Take))
    (cond (ltb to (end_of s)) (say (Ok Answer.More) (with s to s.tag 0 s.used Phase.Ask)) (say (Ok Answer.Done) (with s to s.tag 0 s.used Phase.Done)))

-- DATA under another tag in use is late, and does nothing
unfoldable pub got : ℕ → ℕ → ℕ → Write → Stepped
got t o n s = cond (awaited t s) (taken (o + n) s) (say (Ok Answer.Late) s)

-- NEXUS, CANCEL: ended at once
abbrev pub ended : Write → Stepped
ended s = finished (Ok Answer.End) Phase.End s

abbrev pub start_causes : ℕ → ℕ → ℕ → ℕ → ℕ → Write → List Cause
start_causes k b n x r s = (Refusal.Rules when (not (in_range k b n x r) || not (keeps_rules k s))) ∷ (Refusal.Unfit when unfinished s.phase) ∷ []

-- 02 c.6: no free transfer tag is 10
abbrev pub xfer_causes : ℕ → ℕ → Write → List Cause
xfer_causes k others s =
    (Refusal.Rules when not (keeps_rules k s)) ∷ (Refusal.Unfit when not (asking s.phase)) ∷ (Refusal.Full when leb k (free k others s)) ∷ []

abbrev pub answer_causes : ℕ → Write → List Cause
answer_causes k s = (Refusal.Rules when not (keeps_rules k s)) ∷ (Refusal.Unfit when not (waiting s.phase)) ∷ []

-- a frame of n bytes of data
abbrev pub sized : ℕ → Bool
sized n = leb 1 n && leb n 1024

-- data that came before its XFER_RDY's ACK was reported
abbrev pub early : ℕ → Write → Bool
early t s = waiting s.phase && eqb t s.tag

-- from the next byte on, within the range, and a multiple of four bytes unless it ends there
abbrev pub within : ℕ → ℕ → Write → Bool
within o n s = leb s.next o && (leb (o + n) (until s) && (eqb (n % 4) 0 || eqb (o + n) (until s)))

-- 02 c.2: DATA frames received in order of offset
-- under the awaited tag, from just the next byte on
abbrev pub in_order : ℕ → ℕ → Write → Bool
in_order t o s = not (awaited t s) || eqb o s.next

-- 02 c.6: an offset out of order or past the range is 2
abbrev pub fits : ℕ → ℕ → ℕ → Write → Bool
fits t o n s = has s.tags t && (within o n s && in_order t o s)

-- DATA under tag t doesn't fit the state, wherever it lies
abbrev pub state_causes : ℕ → ℕ → Write → List Cause
state_causes k t s = (Refusal.Rules when not (keeps_rules k s)) ∷ (Refusal.Unfit when (not (unfinished s.phase) || early t s)) ∷ []

-- 02 c.6: Refusals: an offset out of order or past the range is 2; no free transfer tag is 10.
abbrev pub got_causes : ℕ → ℕ → ℕ → ℕ → Write → List Cause
got_causes k t o n s = (Refusal.Unlisted when not (sized n)) ∷ (state_causes k t s ++ (Refusal.Unlisted when not (fits t o n s)) ∷ [])

abbrev pub end_causes : ℕ → Write → List Cause
end_causes k s = (Refusal.Rules when not (keeps_rules k s)) ∷ (Refusal.Unfit when not (unfinished s.phase)) ∷ []

unfoldable pub start_step : ℕ → ℕ → ℕ → ℕ → ℕ → Write → Stepped
start_step k b n x r s = refuse (refused s) (start_causes k b n x r s) (say (Ok Answer.Ok) (started b n x r))

unfoldable pub xfer_step : ℕ → ℕ → Write → Stepped
xfer_step k others s = refuse (refused s) (xfer_causes k others s) (asked (free k others s) s)

unfoldable pub ack_step : ℕ → Write → Stepped
ack_step k s = refuse (refused s) (answer_causes k s) (acked s)

unfoldable pub miss_step : ℕ → Write → Stepped
miss_step k s = refuse (refused s) (answer_causes k s) (missed s)

unfoldable pub got_step : ℕ → ℕ → ℕ → ℕ → Write → Stepped
got_step k t o n s = refuse (refused s) (got_causes k t o n s) (got t o n s)

unfoldable pub end_step : ℕ → Write → Stepped
end_step k s = refuse (refused s) (end_causes k s) (ended s)
