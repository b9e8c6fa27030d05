-- Definitions that contracts of public items use, except `told` in Refused.
pub mod SizeSerializer
pub mod Refused
pub mod WholePosition
pub mod WholeContext
pub mod State
pub mod ScalarEncoding
pub mod Width
pub mod Position
pub mod AddPart
pub mod MarkedBytes
