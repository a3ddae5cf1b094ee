pub mod Steps
pub mod Gathering
pub mod Looking
pub mod Dumps
pub mod Dumped
pub mod DumpLaws
pub mod Folders
