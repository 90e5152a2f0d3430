-- What the walks of the lent list fold, each over any step.
pub mod FoldFrom
pub mod Survey
pub mod Leave
