-- The reader found a frame, whose fields are left, features and rate within a byte since they are listed, or refused, and all stays. Assumes nothing.
use mathlib.Core.Path.{◌∙◌, sym}
use native.Mathlib.Omega.{arith}
use Rattle.sonerwal.specs.Face.{open9}
use Rattle.sonerwal.proofs.Laws.{open_read}
use Rattle.open_frame.proofs.Fields.{Listed}
use Rattle.open_frame.proofs.Trip.{read_listed}
use Rattle.open_frame.specs.declared.OpenFrame.{OpenFrame}
use Rattle.sonerwal.proofs.frames.sonerwal_open_read.Goals as goal

pub overflow_cast-features : goal.overflow_cast-features
overflow_cast-features c =
    let listed : Listed c.in-Ok.f.head = read_listed c.args.frame.now c.in-Ok.f (sym c.read_open.ensures ∙ c.in-Ok.is) in
    let l = listed in omega (arith, l.features, l.most)

pub overflow_cast-rate : goal.overflow_cast-rate
overflow_cast-rate c =
    let listed : Listed c.in-Ok.f.head = read_listed c.args.frame.now c.in-Ok.f (sym c.read_open.ensures ∙ c.in-Ok.is) in
    let l = listed in omega (arith, l.features, l.most)

pub returns-in-Ok : goal.returns-in-Ok
returns-in-Ok c =
    let lent : OpenFrame =
    let a = c.args in
    open9 a.initiator.now a.protocol.now a.features.now a.rate.now a.tag.now a.destination.now a.source.now a.pbc.now a.awt.now in
    open_read c.args.frame.now (lent) (sym c.in-Ok.is ∙ c.read_open.ensures)

pub returns-in-Err : goal.returns-in-Err
returns-in-Err c =
    let lent : OpenFrame =
    let a = c.args in
    open9 a.initiator.now a.protocol.now a.features.now a.rate.now a.tag.now a.destination.now a.source.now a.pbc.now a.awt.now in
    let w = open_read c.args.frame.now (lent) (sym c.in-Err.is ∙ c.read_open.ensures) in
    record { answer = c.from.ensures ∙ w.answer; leaves = w.leaves }
