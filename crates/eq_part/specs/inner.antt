-- Cited by proofs alone; nothing here has to be believed.
pub mod Graph
pub mod Named
pub mod Renaming
pub mod Starting
pub mod States
pub mod TablesProp
pub mod Tabling
pub mod Visits
pub mod Walking
pub mod Wholes
pub mod Planning
