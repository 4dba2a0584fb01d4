pub mod InTable
pub mod DeltaTable
pub mod Table
pub mod AnswerLaws
pub mod Answered
pub mod Never44
pub mod Never51
