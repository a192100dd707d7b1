pub mod CallLaws
pub mod Settling
