-- What readrun's answers cite.
mod Program
