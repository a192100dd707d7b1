pub mod PulseRecord
