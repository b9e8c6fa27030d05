-- Definitions used by the contracts of public items.
pub mod Years
pub mod Dates
pub mod DateOf
pub mod Moment
-- Definitions used only by the contracts of private functions.
pub mod Cycles
