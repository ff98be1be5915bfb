pub mod PageActs
