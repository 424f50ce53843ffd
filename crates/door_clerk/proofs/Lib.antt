pub mod BucketLemmas
pub mod DoorLemmas
mod Examples
