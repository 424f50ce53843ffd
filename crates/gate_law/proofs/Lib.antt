pub mod ListLemmas
pub mod FilterLemmas
pub mod FileLemmas
pub mod HoldsLemmas
pub mod StepLemmas
pub mod GivenUpLemmas
pub mod AgreementLemmas
pub mod LineLemmas
mod RunExamples
mod GivingUpExamples
mod Examples
mod LineExamples
mod WeakerLemmas
mod GivingUpRuns
mod OtherLemmas
mod PremiseLemmas
mod TablesLemmas
pub mod ViewLemmas
pub mod OpeningLemmas
pub mod StandsLemmas
pub mod LeadsLemmas
pub mod WholeLemmas
pub mod WholeGivenUpLemmas
pub mod MachineLemmas
mod WholeExamples
mod WholeCrashExamples
mod WholeGivingUpExamples
mod WholeWeakerLemmas
mod WholeGivingUpRuns
mod WholeFaultLemmas
pub mod GateLemmas
pub mod StationLemmas
pub mod SessionLemmas
pub mod SettledLemmas
pub mod StartLemmas
pub mod ClientLemmas
pub mod ClientRunLemmas
pub mod AskingRunLemmas
pub mod BookClerkLemmas
pub mod AtOnceLemmas
pub mod TryAmongLemmas
pub mod AmongLemmas
mod AmongExamples
