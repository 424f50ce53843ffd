pub mod Detail
pub mod Files
pub mod Refusal
pub mod Told
pub mod Trial
