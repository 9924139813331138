pub mod LiveBounds
