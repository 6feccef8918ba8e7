-- Laws of the definitions, and small cases of them computed.
pub mod Run
pub mod Cut
pub mod Parts
pub mod Reversed
pub mod Sealing
pub mod PolyvalCases
pub mod Cases
