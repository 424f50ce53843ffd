pub mod Days
pub mod Lines
pub mod Words
pub mod Csv
pub mod Card
pub mod Journal
pub mod Command
pub mod Laws
