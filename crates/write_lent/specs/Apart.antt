-- Two writes of one port side by side as C lends them, their calls in any order, each XFER_RDY given at least the other's tags. Assumes nothing.
use Rattle.std.specs.Prelude.{List, [], ◌∷◌}
use Rattle.write.specs.Steps.{limit}
use Rattle.write_history.specs.Apart.{Given}
use Rattle.take_history.specs.Calls.{Call, plain_of, Typed}
use Rattle.write_lent.specs.Face.{face_of}
use Rattle.write_lent.specs.History.{zeros}
use Rattle.write_lent.specs.declared.State.{State}

-- a call of the one or of the other
pub data Turn : Type 0 where
  one other : Call → Turn

pub record Two : Type 0 where
  pub one : State
  pub other : State

-- neither was started
abbrev pub idle : Two
idle = record { one = zeros; other = zeros }

abbrev pub turned : Turn → Two → Two
turned (one c) w = record { one = (face_of c w.one).state; other = w.other }
turned (other c) w = record { one = w.one; other = (face_of c w.other).state }

abbrev pub Fair : Turn → Two → Type 0
Fair (one c) w = Typed limit c × Given (plain_of c) w.other.tags
Fair (other c) w = Typed limit c × Given (plain_of c) w.one.tags

abbrev pub AllFair : List Turn → Two → Type 0
AllFair [] w = Unit {0}
AllFair (c ∷ cs) w = Fair c w × AllFair cs (turned c w)

abbrev pub turns : List Turn → Two → Two
turns [] w = w
turns (c ∷ cs) w = turns cs (turned c w)
