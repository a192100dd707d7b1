pub mod FloppyRecord
