pub mod PlaceLemmas
pub mod DatedLemmas
pub mod InForceLemmas
pub mod StationLemmas
mod Examples
