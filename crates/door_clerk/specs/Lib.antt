pub mod Rule
pub mod Bucket
pub mod Allowed
pub mod Door
pub mod Sorted
pub mod Laws
