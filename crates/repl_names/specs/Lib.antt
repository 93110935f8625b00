pub mod StandbyList
pub mod Token
pub mod Grammar
pub mod Walk
pub mod Quorum
pub mod Order
pub mod Setting
