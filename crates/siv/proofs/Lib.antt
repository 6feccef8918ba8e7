-- What the buffers hold, what each way out owes, and that no contract leaves a choice.
pub mod Writing
pub mod Returns
pub mod Unique
