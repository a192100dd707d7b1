pub mod FullLaws
pub mod RuledLaws
pub mod SettingLaws
