mod Examples
mod MigrateExamples
