-- The answer is the writer's as a number, and the bytes are the writer's. Assumes nothing.
use Rattle.sonerwal.proofs.Laws.{wrote}
use Rattle.sonerwal.proofs.frames.sonerwal_response_write.Goals as goal

pub returns : goal.returns
returns c = wrote c.write_response.ensures c.answer.ensures
