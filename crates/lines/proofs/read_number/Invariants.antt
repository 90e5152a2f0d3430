-- The loop's invariant: `value` is at most `most`, and what `read_number` says of s is what `read_from` says of the bytes left, with
-- `value` read already. Assumes nothing.
use Rattle.std.proofs.Common.{◌≡◌, ◌≤◌, drop}
use Rattle.lines.specs.Numbers.{read_number}
use Rattle.lines.proofs.Numbers.{read_from}
use Rattle.lines.proofs.read_number.Given as goal

abbrev pub invariant-loop-byte : goal.invariant-loop-byte
invariant-loop-byte l = (l.value ≤ l.most) × (read_number l.most l.s ≡ read_from l.most l.value (drop l.byte-index l.s))
