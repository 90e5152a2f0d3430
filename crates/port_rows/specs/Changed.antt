-- Document 01, 'Port': a record with some of its fields changed: its stage and phy, its marks, its waits, its loss timer. Assumes
-- nothing.
use Rattle.std.specs.Prelude.{ℕ}
use Rattle.open_frame.specs.declared.Awt.{Awt}
use Rattle.open_frame.specs.declared.Pbc.{Pbc}
use Rattle.port_parts.specs.declared.Request.{Request}
use Rattle.port_parts.specs.declared.Stamp.{Stamp}

-- with this stage and phy
abbrev pub placed : Request → ℕ → ℕ → Request
placed r n phy =
    record {
      stage = n;
      phy = phy;
      cancelled = r.cancelled;
      closed = r.closed;
      pbc = r.pbc;
      awt = r.awt;
      head = r.head;
      submitted = r.submitted;
      retry = r.retry;
      first = r.first;
      loss = r.loss;
    }

-- with these marks
abbrev pub marked : Request → ℕ → ℕ → Request
marked r cancelled closed =
    record {
      stage = r.stage;
      phy = r.phy;
      cancelled = cancelled;
      closed = closed;
      pbc = r.pbc;
      awt = r.awt;
      head = r.head;
      submitted = r.submitted;
      retry = r.retry;
      first = r.first;
      loss = r.loss;
    }

-- with these waits: its blocked count, the wait that its last Open carried, its last retry and its first open
abbrev pub waited : Request → Pbc → Awt → Stamp → Stamp → Request
waited r pbc awt retry first =
    record {
      stage = r.stage;
      phy = r.phy;
      cancelled = r.cancelled;
      closed = r.closed;
      pbc = pbc;
      awt = awt;
      head = r.head;
      submitted = r.submitted;
      retry = retry;
      first = first;
      loss = r.loss;
    }

-- with this loss timer
abbrev pub timed : Request → Stamp → Request
timed r loss =
    record {
      stage = r.stage;
      phy = r.phy;
      cancelled = r.cancelled;
      closed = r.closed;
      pbc = r.pbc;
      awt = r.awt;
      head = r.head;
      submitted = r.submitted;
      retry = r.retry;
      first = r.first;
      loss = loss;
    }
