pub mod ResultLaws
pub mod LoopLaws
pub mod BytesLaws
pub mod StoreLaws
pub mod PutLaws
pub mod EveryLaws
