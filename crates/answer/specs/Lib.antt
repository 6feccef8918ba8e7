-- What the contracts of every crate cite: document 01's numbers, and the order in which they apply.
pub mod Answers
pub mod First
pub mod Reasons
