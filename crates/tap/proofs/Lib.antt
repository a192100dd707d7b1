pub mod FormatLaws
pub mod ItemLaws
pub mod JudgeLaws
pub mod ReadLaws
pub mod WriteLaws
