-- Document 01, 'Port': what the history of calls and answers says of a key. It is read from the calls that were taken and from their
-- answers alone: no state is read here. A setup that was taken begins anew. Assumes nothing.
use Rattle.refusals.specs.declared.Refusal.{Refusal}
use Rattle.std.specs.Prelude.{ℕ, ◌+◌, Bool, true, false, cond, ◌&&◌, List, [], ◌∷◌, eqb, ltb, Err, Ok, Result}
use Rattle.laws.specs.Sets.{bit}
use Rattle.open_frame.specs.declared.Head.{Head}
use Rattle.port_parts.specs.Parts.{no_slot}
use Rattle.port_rows.specs.Finds.{is_of}
use Rattle.port_rows.specs.declared.Answer.{Answer}
use Rattle.port_rows.specs.declared.Key.{Key}
use Rattle.port_rows.specs.declared.Word.{Word}
use Rattle.port_rows.specs.declared.Word.TheVariants.{Taken, Submitted, Nothing, Send, Open, Close, StopArb, Retried, Waiting, CancelAcknowledged, Ended, NexusLoss, ConnectionLost, Status}
use Rattle.port.specs.History.{Call, setup, submit, cancel, choose, opened, open_failed, frame_status, closed, enable, disable, Entry, is_last}

abbrev pub is_setup : Call → Bool
is_setup (setup count loss) = true
is_setup (submit x) = false
is_setup (cancel x) = false
is_setup (choose x) = false
is_setup (opened x) = false
is_setup (open_failed x) = false
is_setup (frame_status x) = false
is_setup (closed x) = false
is_setup (enable x) = false
is_setup (disable x) = false

abbrev pub is_submitted : Result Word Refusal → Bool
is_submitted (Ok Taken) = false
is_submitted (Ok Submitted) = true
is_submitted (Ok Nothing) = false
is_submitted (Ok Send) = false
is_submitted (Ok Open) = false
is_submitted (Ok Close) = false
is_submitted (Ok StopArb) = false
is_submitted (Ok Retried) = false
is_submitted (Ok Waiting) = false
is_submitted (Ok CancelAcknowledged) = false
is_submitted (Ok (Ended why)) = false
is_submitted (Ok NexusLoss) = false
is_submitted (Ok ConnectionLost) = false
is_submitted (Ok (Status byte)) = false
is_submitted (Err k) = false

-- the entry accepts a submit of x
abbrev pub accepts : Key → Entry → Bool
accepts x e = is_submitted e.answer.word && is_of e.answer.frame.head x

-- the entry says the last word on x
abbrev pub ends : Key → Entry → Bool
ends x e = is_last e.answer.word && is_of e.answer.frame.head x

-- the answer names a request with the key x
abbrev pub speaks : Key → Entry → Bool
speaks x e = ltb e.answer.slot no_slot && is_of e.answer.frame.head x

-- ---- how many, since the last setup

abbrev pub submits : Key → List Entry → ℕ
submits x [] = 0
submits x (e ∷ older) = cond (is_setup e.call) 0 (bit (accepts x e) + submits x older)

abbrev pub last_words : Key → List Entry → ℕ
last_words x [] = 0
last_words x (e ∷ older) = cond (is_setup e.call) 0 (bit (ends x e) + last_words x older)

-- ---- whether submits and last words alternate

-- a request with the key is gone, or there with the slot and head that its Submitted named; wrong is a second submit before a last word,
-- and any other answer that names it where it is not there, or by another slot or head
pub data Standing : Type 0 where
  gone : Standing
  there : ℕ → Head → Standing
  wrong : Standing

abbrev pub same_head : Head → Head → Bool
same_head g h =
    eqb g.initiator h.initiator
    && (eqb g.protocol h.protocol
    && (eqb g.features h.features
    && (eqb g.rate h.rate && (eqb g.tag h.tag && (eqb g.destination h.destination && eqb g.source h.source)))))

abbrev pub accepted : Answer → Standing → Standing
accepted a gone = there a.slot a.frame.head
accepted a (there slot head) = wrong
accepted a wrong = wrong

abbrev pub agrees : Answer → ℕ → Head → Bool
agrees a slot head = eqb slot a.slot && same_head head a.frame.head

abbrev pub ended : Answer → Standing → Standing
ended a gone = wrong
ended a (there slot head) = cond (agrees a slot head) gone wrong
ended a wrong = wrong

abbrev pub spoken : Answer → Standing → Standing
spoken a gone = wrong
spoken a (there slot head) = cond (agrees a slot head) (there slot head) wrong
spoken a wrong = wrong

abbrev pub after : Key → Entry → Standing → Standing
after x e v =
    cond (is_setup e.call) gone
    (cond (ends x e) (ended e.answer v) (cond (accepts x e) (accepted e.answer v) (cond (speaks x e) (spoken e.answer v) v)))

-- a history has its latest entry first
abbrev pub standing : Key → List Entry → Standing
standing x [] = gone
standing x (e ∷ older) = after x e (standing x older)

-- neither a setup nor a last word on x
abbrev pub silent : Key → List Entry → Bool
silent x [] = true
silent x (e ∷ older) = cond (is_setup e.call) false (cond (ends x e) false (silent x older))
