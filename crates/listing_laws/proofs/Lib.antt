pub mod RoomEnough
pub mod ShortLaws
pub mod TextRoom
pub mod ListingShort
