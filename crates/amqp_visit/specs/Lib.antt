-- The contracts of public items use all of these modules.
pub mod Results
pub mod Trees
pub mod Accepted
pub mod Events
pub mod Access
