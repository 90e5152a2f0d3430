-- What the port's calls are given, of the numbers that C gives. Assumes nothing.
use Rattle.std.specs.Prelude.{ℕ}
use Rattle.open_lent.specs.Lent.{frame_of}
use Rattle.open_lent.specs.declared.Open.{Open}
use Rattle.port_rows.specs.declared.Submission.{Submission}
use Rattle.port_rows.specs.declared.Withdrawn.{Withdrawn}
use Rattle.port_rows.specs.declared.Confirmed.{Confirmed}
use Rattle.port_rows.specs.declared.Failure.{Failure}
use Rattle.port_rows.specs.declared.Report.{Report}
use Rattle.port.specs.declared.Time.{Time}

-- of the frame only its head is looked at
abbrev pub submission_of : Open → ℕ → Submission
submission_of head now = record { head = (frame_of head).head; now = now }

abbrev pub withdrawn_of : ℕ → ℕ → ℕ → ℕ → Withdrawn
withdrawn_of destination protocol tag now = record { key = record { destination = destination; protocol = protocol; tag = tag }; now = now }

abbrev pub time_of : ℕ → Time
time_of now = record { now = now }

abbrev pub confirmed_of : ℕ → ℕ → Confirmed
confirmed_of phy now = record { phy = phy; now = now }

abbrev pub failure_of : ℕ → ℕ → ℕ → Failure
failure_of phy why now = record { phy = phy; why = why; now = now }

abbrev pub report_of : ℕ → ℕ → ℕ → Report
report_of phy status now = record { phy = phy; status = status; now = now }
