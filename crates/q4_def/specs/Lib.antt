pub mod Tables
pub mod Document
pub mod Faults
