pub mod OpLaws
pub mod ColumnLaws
pub mod PlaneLaws
pub mod DeltaLaws
pub mod RoundTrip
pub mod NeverNone
pub mod CallLaws
pub mod Calls
