pub mod Statuses
pub mod Reports
pub mod Reporting
pub mod Answering
