pub mod Result
pub mod Loop
pub mod Bytes
pub mod Store
pub mod Put
pub mod Every
