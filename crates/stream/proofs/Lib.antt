pub mod WorkLaws
