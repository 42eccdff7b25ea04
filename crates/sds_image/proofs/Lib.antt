-- Lemmas on the order of records, on the rows of each table, on parts that fit, and on reading.
pub mod Ordered
pub mod RowsByTable
pub mod Fitting
pub mod Gathering
pub mod Trees
mod TellingParts
mod EarlierParts
mod SeenParts
mod Disagreements
mod StatesRead
