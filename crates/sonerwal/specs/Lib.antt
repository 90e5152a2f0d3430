-- What the C face promises, and a frame of each kind as C sees it.
pub mod Face
pub mod Typed
