pub mod AnhdLaws
