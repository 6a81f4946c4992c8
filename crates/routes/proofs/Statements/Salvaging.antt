-- What SalvageRule is proved by: the places that are kept, fates and the list, sound tables, refusals.
pub mod KeptPlaces
pub mod Fates
pub mod SoundTables
pub mod Refusals
