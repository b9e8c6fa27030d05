-- Definitions used by the contracts of public items, except `Moves` in Taking, which is used only
-- by the contracts of private functions.
pub mod Code
pub mod EncodedValue
pub mod Whole
pub mod Cut
pub mod Reader
pub mod Taking
