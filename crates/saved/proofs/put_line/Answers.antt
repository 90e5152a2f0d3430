-- The columns and the phase's word are put one behind the other, and that is the line. Assumes nothing.
use Rattle.std.proofs.Common.{◌≡◌, refl, ◌∙◌, Bool, true, false}
use Rattle.std.specs.Int.{from_bool}
use Rattle.laws.specs.Names.{flag}
use Rattle.lines.proofs.Puts.{then}
use Rattle.saved.specs.Saved.{newest}
use Rattle.saved.proofs.Lines.{line_tabbed}
use Rattle.saved.proofs.put_line.Goals as goal

-- std's number of a flag is its own
flag_is : (t : Bool) → from_bool t ≡ flag t
flag_is true = refl
flag_is false = refl

pub returns : goal.returns
returns c =
    let sent : c.from.result ≡ flag c.args.t.sent = c.from.ensures ∙ flag_is c.args.t.sent in
    rw (line_tabbed newest c.args.t, ← sent, ← c.phase_word.ensures) (then c.put_numbers-next.ensures c.put_bytes.ensures)
