pub mod PlaneLaws
pub mod ColumnLaws
pub mod LengthLaws
pub mod DeltaRoom
pub mod DeltaLaws
pub mod WriteLaws
