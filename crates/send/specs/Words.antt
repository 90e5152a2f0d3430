-- What a call of either kind is refused for, a second time, by the history. Assumes nothing.
use Rattle.std.specs.Prelude.{ℕ, ◌+◌, ◌-◌, ◌^◌, min, not, cond, ◌&&◌, List, eqb, ltb, leb, length}
use Rattle.ssp_frame.specs.Data.{frame_end}
use Rattle.transfer.specs.History.{Entry, view}
use Rattle.transfer.specs.Words.{Asked, last_end, balance_by, frame_refusal}
use Rattle.transfer.specs.Words as plainly
use Rattle.send.specs.Calls.{Call, plain, next}

-- where the next frame begins: behind the attempt's last, or at the balance point
abbrev pub next_at : Asked → List Entry → ℕ
next_at a h = last_end (balance_by a.offset h) (view h).attempt

-- 01 READ.2: and how long it is
abbrev pub next_length : Asked → List Entry → ℕ
next_length a h = min a.size (a.offset + a.count - next_at a h)

-- 01 REFUSAL.11: the next-frame call checks 3, 6, 7, 8, 10, 2, then 1
-- 2: a hashed address of more than three bytes; 1: data of another length, or an output shorter than the frame
abbrev pub refusal_by : ℕ → Asked → List Entry → Call → ℕ
refusal_by bound a h (plain c) = plainly.refusal_by bound a h c
refusal_by bound a h (next destination source tag body out) =
    frame_refusal bound a h
    (cond (not (ltb destination (256 ^ 3) && ltb source (256 ^ 3))) 2
    (cond (not (eqb (length body) (next_length a h) && leb (frame_end (length body)) (length out))) 1 0))
