-- Definitions that contracts of public items use, except `primitive_codes`, `code_among` and
-- `primitive_of` in Codes, `scalar_tree` in Scalars, and `Leaves`, `Spends`, `value_around` and
-- `content_around` in WithoutBytes.
pub mod Codes
pub mod Scalars
pub mod Encodes
pub mod Depth
pub mod WithoutBytes
pub mod Faults
pub mod Places
pub mod PlaceAt
pub mod Located
-- Definitions that contracts of reading without an untyped value use, and contracts of private
-- functions, with those eight, and that WithoutBytes rests on.
pub mod Parsed
pub mod Prefix
