mod Worked
pub mod SnapshotLaws
