pub mod ColourLaws
