pub mod Page
pub mod Header
