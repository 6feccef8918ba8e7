-- Laws of tests, and what uniqueness comes to.
pub mod Tests
pub mod Choice
