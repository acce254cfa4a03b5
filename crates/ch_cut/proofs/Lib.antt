pub mod CutPlaces
pub mod UnitColumns
pub mod CutForms
pub mod Halved
pub mod PartLists
pub mod Leasts
pub mod Doubling
pub mod Spacing
