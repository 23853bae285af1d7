pub mod Sums
pub mod Rule
pub mod Parts
pub mod Bounds
pub mod GroupedLaws
pub mod CommanderLaws
pub mod TowerLaws
pub mod Put
