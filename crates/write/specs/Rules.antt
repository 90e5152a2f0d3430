-- The write: its setup and its ranges, and which states some START and the calls after it leave, in closed form, which is exact for
-- 2 tags or more. The number of transfer tags, k, is an argument everywhere. Assumes nothing.
use Rattle.std.specs.Prelude.{ℕ, ◌+◌, ◌-◌, ◌*◌, ◌/◌, ◌%◌, ◌^◌, min, Bool, true, false, not, ◌&&◌, ◌||◌, ltb, leb, eqb}
use Rattle.std.specs.Int.Count.{ones}
use Rattle.laws.specs.Tags.{has}
use Rattle.write.specs.declared.Write.{Write}
use Rattle.write.specs.declared.Phase.{Phase}

-- B+N
abbrev pub end_of : Write → ℕ
end_of s = s.offset + s.count

-- offset B, count N of 1 or more, B+N at most 4,294,967,295, X a multiple of 4 from 4 on, R below the number of tags
abbrev pub in_range : ℕ → ℕ → ℕ → ℕ → ℕ → Bool
in_range k b n x r = leb 1 n && (leb (b + n) 4294967295 && (eqb (x % 4) 0 && (leb 4 x && ltb r k)))

-- where the present range begins: whole ranges of X bytes behind B
abbrev pub range_of : Write → ℕ
range_of s = s.offset + (s.next - s.offset) / s.burst * s.burst

-- and where it ends
abbrev pub until : Write → ℕ
until s = min (range_of s + s.burst) (end_of s)

-- the state before START
abbrev pub unstarted : Write
unstarted = record { offset = 0; count = 0; burst = 0; resends = 0; next = 0; tag = 0; tags = 0; used = 0; phase = Phase.New }

abbrev pub is_new : Phase → Bool
is_new Phase.New = true
is_new Phase.Ask = false
is_new Phase.Wait = false
is_new Phase.Take = false
is_new Phase.Done = false
is_new Phase.Fail = false
is_new Phase.End = false

abbrev pub zeros : Write → Bool
zeros s =
    eqb s.offset 0
    && (eqb s.count 0
    && (eqb s.burst 0 && (eqb s.resends 0 && (eqb s.next 0 && (eqb s.tag 0 && (eqb s.tags 0 && (eqb s.used 0 && is_new s.phase)))))))

-- what holds of every state from START on
unfoldable pub placed : ℕ → Write → Bool
placed k s =
    in_range k s.offset s.count s.burst s.resends
    && (leb s.offset s.next && (leb s.next (end_of s) && (leb s.used s.resends && ltb s.tag k)))

-- bytes are still due, and a whole number of words was taken
abbrev pub partway : Write → Bool
partway s = ltb s.next (end_of s) && eqb ((s.next - s.offset) % 4) 0

-- the next byte is a range's first
abbrev pub at_range : Write → Bool
at_range s = eqb ((s.next - s.offset) % s.burst) 0

-- Below, j is the number of the write's own tags in use, and u that of its XFER_RDYs which failed for the present range where all of
-- those failed in it: each took a tag and a retry, and before the first byte no other range has taken any.
abbrev pub counted : ℕ → ℕ → Write → Bool
counted j u s = leb j u && (not (eqb s.next s.offset) || eqb j u)

-- an XFER_RDY is due: a range's first, or a retry
abbrev pub ask_rule : ℕ → Write → Bool
ask_rule j s =
    at_range s
    && ((eqb s.tags 0 && (not (eqb s.next s.offset) || (eqb s.tag 0 && eqb s.used 0)))
    || (has s.tags s.tag && counted j s.used s))

-- one is out that has not failed
abbrev pub out_rule : ℕ → Write → Bool
out_rule j s = at_range s && (has s.tags s.tag && counted j (s.used + 1) s)

-- inside a range the awaited tag alone is in use
abbrev pub take_rule : ℕ → Write → Bool
take_rule j s = out_rule j s || (not (at_range s) && eqb s.tags (2 ^ s.tag))

abbrev pub done_rule : Write → Bool
done_rule s = eqb s.next (end_of s) && eqb s.tags 0

abbrev pub fail_rule : Write → Bool
fail_rule s = at_range s && (eqb s.used s.resends && eqb s.tags 0)

unfoldable pub phase_rule : ℕ → Phase → Write → Bool
phase_rule j Phase.New s = false
phase_rule j Phase.Ask s = partway s && ask_rule j s
phase_rule j Phase.Wait s = partway s && out_rule j s
phase_rule j Phase.Take s = partway s && take_rule j s
phase_rule j Phase.Done s = done_rule s
phase_rule j Phase.Fail s = partway s && fail_rule s
phase_rule j Phase.End s = partway s && eqb s.tags 0

-- a write's rules: it is that before START, all zeros, or what some START and calls after it leave
unfoldable pub keeps_rules : ℕ → Write → Bool
keeps_rules k s = zeros s || (placed k s && phase_rule (ones s.tags) s.phase s)
