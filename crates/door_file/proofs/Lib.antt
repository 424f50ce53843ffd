pub mod TreeLemmas
pub mod PlaceLemmas
pub mod RulesLemmas
pub mod UnknownLemmas
pub mod NumberLemmas
pub mod GatesLemmas
pub mod KindsLemmas
pub mod RuleLemmas
pub mod DoorLemmas
pub mod BytesLemmas
mod Examples
