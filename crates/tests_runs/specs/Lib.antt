pub mod StagedLog
