-- Feeding and joining, document 01: what a reader must believe.
pub mod Key
pub mod Formulas
pub mod Routes
pub mod Answers
pub mod Record
pub mod Told
pub mod Calls
pub mod Feeds
pub mod Cost
pub mod Times
pub mod Join
pub mod Parts
