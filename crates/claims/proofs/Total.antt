-- Demand 1: every public call takes any numbers, bytes and states. What a function asks of its arguments is generated from its
-- source, and holds of all of them. Assumes nothing.
pub mod Frames
pub mod Transfer
pub mod Saved
pub mod Write
pub mod Reply
pub mod Text
pub mod Links
pub mod Ports

pub record Total : Type 2 where
  pub frames : Frames.Frames
  pub transfer : Transfer.Transfer
  pub saved : Saved.Saved
  pub write : Write.Write
  pub reply : Reply.Reply
  pub text : Text.Text
  pub links : Links.Links
  pub ports : Ports.Ports

pub total : Total
total = record { frames = Frames.frames; transfer = Transfer.transfer; saved = Saved.saved; write = Write.write; reply = Reply.reply; text = Text.text; links = Links.links; ports = Ports.ports }
