-- What a board can keep of its port's calls, from what C sees alone: of each that was not refused the call, the answer's number and the frame that
-- names its request. No record and no port is read here. Assumes nothing.
use Rattle.std.specs.Prelude.{ℕ, ◌+◌, Bool, cond, ◌&&◌, List, [], ◌∷◌, ◌++◌, eqb, leb}
use Rattle.laws.specs.Sets.{bit}
use Rattle.open_lent.specs.declared.Open.{Open}
use Rattle.port_rows.specs.declared.Key.{Key}
use Rattle.port.specs.History.{Call}
use Rattle.port_lent.specs.Runs.{Lent, face_of, is_refusal, leave}
use Rattle.port_history.specs.Standing.{is_setup}

pub record Noted : Type 0 where
  pub call : Call
  pub answer : ℕ
  pub frame : Open

abbrev pub noted_by : Call → Lent → List Noted
noted_by c s = cond (is_refusal (face_of c s).answer) [] (record { call = c; answer = (face_of c s).answer; frame = (face_of c s).frame } ∷ [])

-- what some calls of s add to h, the latest first
abbrev pub ledger : List Call → Lent → List Noted → List Noted
ledger [] s h = h
ledger (c ∷ cs) s h = ledger cs (leave c s) (noted_by c s ++ h)

-- the frame names a request with the key x
abbrev pub names : Open → Key → Bool
names f x = eqb f.destination x.destination && (eqb f.protocol x.protocol && eqb f.tag x.tag)

-- SUBMITTED
abbrev pub is_submission : ℕ → Bool
is_submission n = eqb n 32

-- from CANCEL_ACKNOWLEDGED to STATUS
abbrev pub is_end : ℕ → Bool
is_end n = leb 40 n && leb n 44

-- how many since the last setup
module _ (counts : ℕ → Bool) (x : Key) where
  abbrev pub noted : List Noted → ℕ
  noted [] = 0
  noted (e ∷ older) = cond (is_setup e.call) 0 (bit (counts e.answer && names e.frame x) + noted older)
