pub mod Lists
pub mod OneFile
pub mod OneLine
pub mod KeyParts
