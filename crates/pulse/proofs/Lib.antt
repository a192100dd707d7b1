pub mod WaitLaws
pub mod TrainsLaws
