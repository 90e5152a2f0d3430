-- Each promise is an equation for the answer and for every lent number and byte, so two outcomes that both meet it are equal.
-- The promises are those generated from the sources. Assumes nothing.
pub mod Frames
pub mod Transfer
pub mod Saved
pub mod Write
pub mod Reply
pub mod Text
pub mod Links
pub mod Ports

-- 01 PROMISE.1: Each public function's promise determines its answer, new state and each lent byte, on refusals too.
-- 01 PROMISE.2: Prove that it admits no second answer; list exceptions in docs/ and why.
-- 01 READ.4
pub record Unique : Type 2 where
  pub frames : Frames.Frames
  pub transfer : Transfer.Transfer
  pub saved : Saved.Saved
  pub write : Write.Write
  pub reply : Reply.Reply
  pub text : Text.Text
  pub links : Links.Links
  pub ports : Ports.Ports

pub unique : Unique
unique = record { frames = Frames.frames; transfer = Transfer.transfer; saved = Saved.saved; write = Write.write; reply = Reply.reply; text = Text.text; links = Links.links; ports = Ports.ports }
