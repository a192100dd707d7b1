pub mod Items
pub mod Files
pub mod Judging
pub mod Taking
