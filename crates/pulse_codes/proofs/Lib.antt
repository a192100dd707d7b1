pub mod CodeLaws
pub mod ArgumentLaws
