pub mod Naming
pub mod Forms
pub mod Growing
pub mod ColumnLaws
pub mod DefLaws
