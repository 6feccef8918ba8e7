-- What the contracts of the program framelog cite.
pub mod Place
