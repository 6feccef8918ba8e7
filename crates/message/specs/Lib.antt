-- What serves the private functions of the crate message; what its public calls promise is in the crate messaging.
pub mod SealFrame
