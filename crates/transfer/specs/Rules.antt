-- Document 01, 'Read transfer': the setup, and which states some START and the calls after it leave, in closed form, which is
-- exact for a bound of 2 or more. The bound on unanswered frames is an argument everywhere. Assumes nothing.
use Rattle.std.specs.Prelude.{ℕ, ◌+◌, ◌-◌, ◌/◌, ◌%◌, Bool, true, false, not, ◌&&◌, ◌||◌, ltb, leb, eqb}
use Rattle.transfer.specs.declared.Transfer.{Transfer}
use Rattle.transfer.specs.declared.Phase.{Phase}

-- B+N
abbrev pub end_of : Transfer → ℕ
end_of s = s.offset + s.count

-- 01 READ.1: Offset B, count N of 1 or more, B+N at most 4,294,967,295; frame size M a multiple of 4 from 4 to 1,024; R of 0 to 255 resends.
abbrev pub in_range : ℕ → ℕ → ℕ → ℕ → Bool
in_range b n m r = leb 1 n && (leb (b + n) 4294967295 && (eqb (m % 4) 0 && (leb 4 m && (leb m 1024 && leb r 255))))

-- the state before START
abbrev pub unstarted : Transfer
unstarted = record { offset = 0; count = 0; size = 0; resends = 0; read = 0; balance = 0; unanswered = 0; sent = false; used = 0; phase = Phase.New }

abbrev pub is_new : Phase → Bool
is_new Phase.New = true
is_new Phase.Run = false
is_new Phase.Drain = false
is_new Phase.Done = false
is_new Phase.Fail = false
is_new Phase.End = false

abbrev pub zeros : Transfer → Bool
zeros s =
    eqb s.offset 0
    && (eqb s.count 0
    && (eqb s.size 0
    && (eqb s.resends 0
    && (eqb s.read 0 && (eqb s.balance 0 && (eqb s.unanswered 0 && (not s.sent && (eqb s.used 0 && is_new s.phase))))))))

-- Below, e is B+N, and d is the number of frames from the balance point to the read offset.
abbrev pub ordered : ℕ → Transfer → Bool
ordered e s = leb s.offset s.balance && (leb s.balance s.read && (leb s.read e && leb s.used s.resends))

-- x is where a frame begins, whole frames behind B, or the end
abbrev pub on_grid : ℕ → Transfer → ℕ → Bool
on_grid e s x = eqb x e || eqb ((x - s.offset) % s.size) 0

-- what holds of every state from START on
unfoldable pub placed : ℕ → Transfer → Bool
placed e s =
    (in_range s.offset s.count s.size s.resends && ordered e s) && (on_grid e s s.balance && on_grid e s s.read)

-- how many frames of m bytes hold x bytes, the last possibly shorter
abbrev pub frames : ℕ → ℕ → ℕ
frames x m = (x + (m - 1)) / m

abbrev pub frames_out : Transfer → ℕ
frames_out s = frames (s.read - s.balance) s.size

-- frames are out only if one was sent; with none out, one was sent only if the balance point moved, and none was sent only at B or
-- in a resend
abbrev pub attempted : ℕ → Transfer → Bool
attempted d s =
    (ltb 0 d && s.sent)
    || (eqb d 0 && ((s.sent && ltb s.offset s.balance) || (not s.sent && (eqb s.balance s.offset || ltb 0 s.used))))

abbrev pub run_rule : ℕ → ℕ → ℕ → Transfer → Bool
run_rule bound e d s =
    ltb s.balance e
    && (attempted d s && ((eqb d 0 && eqb s.unanswered 0) || (ltb 0 s.unanswered && (leb s.unanswered bound && leb s.unanswered d))))

abbrev pub drain_rule : ℕ → ℕ → ℕ → Transfer → Bool
drain_rule bound e d s =
    ltb s.balance e
    && (s.sent && (ltb s.used s.resends && (ltb 0 s.unanswered && (ltb s.unanswered bound && ltb s.unanswered d))))

abbrev pub done_rule : ℕ → Transfer → Bool
done_rule e s = eqb s.balance e && (eqb s.read e && (eqb s.unanswered 0 && s.sent))

abbrev pub fail_rule : ℕ → ℕ → Transfer → Bool
fail_rule e d s = ltb s.balance e && (s.sent && (eqb s.used s.resends && (eqb s.unanswered 0 && ltb 0 d)))

abbrev pub end_rule : ℕ → ℕ → Transfer → Bool
end_rule e d s = ltb s.balance e && (attempted d s && eqb s.unanswered 0)

unfoldable pub phase_rule : ℕ → ℕ → ℕ → Phase → Transfer → Bool
phase_rule bound e d Phase.New s = false
phase_rule bound e d Phase.Run s = run_rule bound e d s
phase_rule bound e d Phase.Drain s = drain_rule bound e d s
phase_rule bound e d Phase.Done s = done_rule e s
phase_rule bound e d Phase.Fail s = fail_rule e d s
phase_rule bound e d Phase.End s = end_rule e d s

-- 01 READ.16: A transfer state's rules: it is that before START, all zeros, or what some START and calls after it leave; the test is proved exact.
unfoldable pub keeps_rules : ℕ → Transfer → Bool
keeps_rules bound s = zeros s || (placed (end_of s) s && phase_rule bound (end_of s) (frames_out s) s.phase s)
