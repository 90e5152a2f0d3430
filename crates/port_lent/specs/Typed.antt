-- The port's numbers, a port and what its calls are given a second time, typed. Assumes nothing.
use Rattle.std.specs.Prelude.{ℕ, List, [], ◌∷◌, Err, Ok, Result}
use Rattle.refusals.specs.declared.Refusal.{Refusal}
use Rattle.port_parts.specs.declared.Phy.{Phy}
use Rattle.port_parts.specs.declared.Port.{Port}
use Rattle.port_parts.specs.declared.Reason.{Reason}
use Rattle.port_rows.specs.declared.Submission.{Submission}
use Rattle.port_rows.specs.declared.Withdrawn.{Withdrawn}
use Rattle.port_rows.specs.declared.Confirmed.{Confirmed}
use Rattle.port_rows.specs.declared.Failure.{Failure}
use Rattle.port_rows.specs.declared.Report.{Report}
use Rattle.port_rows.specs.declared.Word.{Word}
use Rattle.port.specs.declared.Time.{Time}
use Rattle.port_lent.specs.declared.Phy.{Phy as LentPhy}
use Rattle.port_lent.specs.declared.Port.{Port as LentPort}

-- 0, document 01's refusals, and from 32 on what happened
abbrev pub typed_words : List (Result Word Refusal)
typed_words =
    (Ok Word.Taken)
    ∷ Err Refusal.Length ∷ Err Refusal.Unlisted ∷ Err Refusal.Rules ∷ Err Refusal.Phy ∷ Err Refusal.Past
    ∷ Err Refusal.Unfit ∷ Err Refusal.Due ∷ Err Refusal.Sent ∷ Err Refusal.Present ∷ Err Refusal.Full
    ∷ (Ok Word.Submitted) ∷ (Ok Word.Nothing) ∷ (Ok Word.Send) ∷ (Ok Word.Open) ∷ (Ok Word.Close) ∷ (Ok Word.StopArb) ∷ (Ok Word.Retried) ∷ (Ok Word.Waiting)
    ∷ (Ok Word.CancelAcknowledged) ∷ Ok (Word.Ended Reason.StpResourcesBusy) ∷ (Ok Word.NexusLoss) ∷ (Ok Word.ConnectionLost) ∷ Ok (Word.Status 64) ∷ []

abbrev pub typed_answers : List ℕ
typed_answers = 0 ∷ 1 ∷ 2 ∷ 3 ∷ 4 ∷ 5 ∷ 6 ∷ 7 ∷ 8 ∷ 9 ∷ 10 ∷ 32 ∷ 33 ∷ 34 ∷ 35 ∷ 36 ∷ 37 ∷ 38 ∷ 39 ∷ 40 ∷ 41 ∷ 42 ∷ 43 ∷ 44 ∷ []

abbrev pub typed_details : List ℕ
typed_details = 0 ∷ 0 ∷ 0 ∷ 0 ∷ 0 ∷ 0 ∷ 0 ∷ 0 ∷ 0 ∷ 0 ∷ 0 ∷ 0 ∷ 0 ∷ 0 ∷ 0 ∷ 0 ∷ 0 ∷ 0 ∷ 0 ∷ 0 ∷ 6 ∷ 0 ∷ 0 ∷ 64 ∷ []

-- the OPEN_REJECT kinds in document 01's order, Open Time Out, Break Received
abbrev pub typed_reasons : List Reason
typed_reasons =
    Reason.NoDestination ∷ Reason.BadDestination ∷ Reason.WrongDestination ∷ Reason.LinkRateNotSupported ∷ Reason.ProtocolNotSupported
    ∷ Reason.PathwayBlocked ∷ Reason.StpResourcesBusy ∷ Reason.Retry ∷ Reason.OpenTimeOut ∷ Reason.BreakReceived ∷ []

-- a port whose numbers all differ
abbrev lent_phy : ℕ → ℕ → ℕ → ℕ → LentPhy
lent_phy destination stage slot protocol = record { destination = destination; zero4 = 0; stage = stage; slot = slot; protocol = protocol; zero1 = 0 }

abbrev phy : ℕ → ℕ → ℕ → ℕ → Phy
phy destination stage slot protocol = record { stage = stage; slot = slot; protocol = protocol; destination = destination }

abbrev pub typed_lent : LentPort
typed_lent = record {
  last = 40;
  phys = lent_phy 41 4 5 2 ∷ lent_phy 42 3 32 1 ∷ lent_phy 43 6 7 2 ∷ lent_phy 44 1 32 0 ∷ lent_phy 45 2 9 0 ∷ lent_phy 46 5 10 1 ∷ lent_phy 47 0 32 0 ∷ lent_phy 48 0 11 1 ∷ [];
  zero4 = 0;
  loss = 49;
  count = 7;
  zero1 = 0;
}

abbrev pub typed_port : Port
typed_port = record {
  count = 7;
  loss = 49;
  last = 40;
  phys = phy 41 4 5 2 ∷ phy 42 3 32 1 ∷ phy 43 6 7 2 ∷ phy 44 1 32 0 ∷ phy 45 2 9 0 ∷ phy 46 5 10 1 ∷ phy 47 0 32 0 ∷ phy 48 0 11 1 ∷ [];
}

-- what the calls are given, of numbers that all differ; a submit of OPEN's typed frame
abbrev pub typed_submission : Submission
typed_submission = record { head = record { initiator = 1; protocol = 2; features = 3; rate = 9; tag = 23; destination = 21; source = 22 }; now = 60 }

abbrev pub typed_withdrawn : Withdrawn
typed_withdrawn = record { key = record { destination = 61; protocol = 62; tag = 63 }; now = 64 }

abbrev pub typed_time : Time
typed_time = record { now = 65 }

abbrev pub typed_confirmed : Confirmed
typed_confirmed = record { phy = 66; now = 67 }

abbrev pub typed_failure : Failure
typed_failure = record { phy = 68; why = 69; now = 70 }

abbrev pub typed_report : Report
typed_report = record { phy = 71; status = 72; now = 73 }
