pub mod ExportLaws
pub mod ImportLaws
pub mod LayLaws
