-- Contracts of public items depend on all of these, except for `descriptors_of` and
-- `under_descriptors` in PendingDescriptors, and `add_tree`, `TakesPairs`, `RefusesOpened` and
-- `IsOpenedImage` in HeldImages, which only private clauses use. Laws use HasLazy.
pub mod PendingDescriptors
pub mod HasLazy
pub mod Opened
pub mod ImageOf
pub mod HeldImages
pub mod ValueSerializer
