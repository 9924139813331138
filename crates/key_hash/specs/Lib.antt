pub mod KeyHash
